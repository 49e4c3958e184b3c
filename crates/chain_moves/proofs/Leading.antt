-- The first moves of a run are a list of moves, each of which leads on from the state before it.
use Rattle.std.proofs.Common.{◌≡◌, ℕ, zero, suc, List, [], ◌∷◌, length, refl, ap, ◌∙◌, subst}
use Rattle.chain_moves.specs.Machine.{Moved, Makes, Breaks, Ends, Machine}
use Rattle.chain_moves.specs.Run.{Made, Run, On, Broke, Over, moved_on, gone_on, run_to, Leads, IsRun}

module _ {K S E : Type 0} (x : Machine K S E) (s : S) where
  next_leads : (made : List (Made K)) (u : S) (moved : Moved K S) → Leads x made s u → x.move u ≡ moved → IsRun x s (moved_on x made u moved)
  next_leads made u (Makes kind t) h e = (u, h, e, refl)
  next_leads made u (Breaks when kind bodies) h e = (u, h, e)
  next_leads made u Ends h e = (h, e)

  run_leads : (r : Run K S) → IsRun x s r → IsRun x s (gone_on x r)
  run_leads (On made u) h = next_leads made u (x.move u) h refl
  run_leads (Broke made when kind bodies) h = h
  run_leads (Over made u) h = h

  pub is_run : (n : ℕ) → IsRun x s (run_to x s n)
  unfolding run_to
  is_run zero = refl
  is_run (suc n) = run_leads (run_to x s n) (is_run n)

  pub run_is_list : (n : ℕ) (made : List (Made K)) (t : S) → run_to x s n ≡ On made t → Leads x made s t
  run_is_list n made t e = subst (IsRun x s) e (is_run n)

  pub list_is_run : (made : List (Made K)) (t : S) → Leads x made s t → run_to x s (length made) ≡ On made t
  unfolding run_to
  list_is_run [] t h = ap (On []) h
  list_is_run (m ∷ made) t (u, h, e, claims) =
      ap (gone_on x) (list_is_run made u h)
      ∙ (ap (moved_on x made u) e
      ∙ ap (λ c. On (record { kind = m.kind; claims = c } ∷ made) t) claims)

  -- what each move keeps holds along a run
  pub along : (P : S → Type 0) → ((u t : S) (kind : K) → x.move u ≡ Makes kind t → P u → P t) → (made : List (Made K)) (t : S) → Leads x made s t → P s → P t
  along P keeps [] t h p = subst P h p
  along P keeps (m ∷ made) t (u, h, e, claims) p = keeps u t m.kind e (along P keeps made u h p)
