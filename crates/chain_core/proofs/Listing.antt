-- The services within a bound are those after the last moves that the bound reaches to.
use Rattle.std.proofs.Common.{◌≡◌, ℕ, zero, suc, ◌<◌, ◌≤◌, ◌⊎◌, inl, inr, ⊎_elim, Bool, true, false, List, ◌∷◌, length, refl, sym, ap, ◌∙◌, subst, arith}
use Rattle.std.specs.Prelude.{nat_le}
use Rattle.std.proofs.lemmas.Bool.{le-leb, leb-true, true≢false, cases_lt}
use Rattle.chain_moves.specs.Machine.{Moved, Makes, Breaks, Ends, Machine}
use Rattle.chain_moves.specs.Run.{Made, Run, On, Broke, Over, moved_on, gone_on, run_to, Leads}
use Rattle.chain_moves.specs.Cost.{cost}
use Rattle.chain_core.specs.End.{services_by, services_of, services_to, services_within, IsListed}
use Rattle.chain_moves.specs.declared.dispatcher.Dispatcher.{Dispatcher}
use Rattle.chain_core.proofs.Ends.{moves_below}

module _ {K S E : Type 0} (x : Machine K S E) (d : Dispatcher) (bound : ℕ) (s : S) where
  abbrev Listed : List E → Type 0
  Listed listed = IsListed x d bound s listed

  -- after so many moves the services are those of the state, where the bound reaches so far, and else they are told
  abbrev Stands : ℕ → Run K S → List E → Type 0
  Stands n (On made t) listed = (Leads x made s t × (cost x d made ≤ bound) × (length made ≡ n) × (listed ≡ x.services t)) ⊎ ((bound < cost x d made) × Listed listed)
  Stands n (Broke made when kind k) listed = Listed listed
  Stands n (Over made t) listed = Listed listed

  abbrev as_made : K → S → Made K
  as_made kind t = record { kind = kind; claims = x.claims t }

  more_cost : (m : Made K) (made : List (Made K)) → cost x d made ≤ cost x d (m ∷ made)
  unfolding cost
  more_cost m made = omega arith

  not_within : (n : ℕ) → bound < n → nat_le n bound ≡ false
  not_within n l = by_test (nat_le n bound) refl
    where
      by_test : (b : Bool) → nat_le n bound ≡ b → nat_le n bound ≡ false
      by_test false q = q
      by_test true q = let g = leb-true n bound q in absurd (omega arith)

  -- a move that is made: within the bound, or not
  after_made : (n : ℕ) (made : List (Made K)) (t u : S) (kind : K) (listed : List E) → x.move t ≡ Makes kind u → Leads x made s t → cost x d made ≤ bound → length made ≡ n → listed ≡ x.services t
      → Stands (suc n) (On (record { kind = kind; claims = x.claims u } ∷ made) u) (services_of x d bound (On (record { kind = kind; claims = x.claims u } ∷ made) u) listed)
  after_made n made t u kind listed e h l k are =
      let m : Made K = record { kind = kind; claims = x.claims u } in
      ⊎_elim
      (λ (past : bound < cost x d (m ∷ made)).
      let old : services_by (nat_le (cost x d (m ∷ made)) bound) (x.services u) listed ≡ listed = ap (λ b. services_by b (x.services u) listed) (not_within (cost x d (m ∷ made)) past) in
      inr (past, record { made = made; state = t; leads = h; within = l; last = λ other v q. subst (λ w. bound < cost x d (w ∷ made)) (same_made kind other u v (sym e ∙ q)) past; listed_are = old ∙ are }))
      (λ (within : cost x d (m ∷ made) ≤ bound).
      inl ((t, h, e, refl), within, ap suc k, ap (λ b. services_by b (x.services u) listed) (le-leb (cost x d (m ∷ made)) bound within)))
      (cases_lt bound (cost x d (m ∷ made)))
    where
      made_of : Moved K S → Made K
      made_of (Makes kind t) = record { kind = kind; claims = x.claims t }
      made_of (Breaks when b n) = record { kind = kind; claims = x.claims u }
      made_of Ends = record { kind = kind; claims = x.claims u }

      same_made : (kind other : K) (u v : S) → Makes kind u ≡ Makes other v → as_made kind u ≡ as_made other v
      same_made kind other u v q = ap made_of q

  next_stands : (n : ℕ) (made : List (Made K)) (t : S) (moved : Moved K S) (listed : List E) → x.move t ≡ moved → Stands n (On made t) listed → Stands (suc n) (moved_on x made t moved) (services_of x d bound (moved_on x made t moved) listed)
  next_stands n made t (Makes kind u) listed e (inl (h, l, k, are)) = after_made n made t u kind listed e h l k are
  next_stands n made t (Makes kind u) listed e (inr (past, told)) =
      let m : Made K = record { kind = kind; claims = x.claims u } in
      let still : bound < cost x d (m ∷ made) = omega (arith, past, more_cost m made) in
      inr (still, subst Listed (sym (ap (λ b. services_by b (x.services u) listed) (not_within (cost x d (m ∷ made)) still))) told)
  next_stands n made t (Breaks when kind k) listed e (inl (h, l, m, are)) = record { made = made; state = t; leads = h; within = l; last = λ other v q. absurd (no_move (sym e ∙ q)); listed_are = are }
    where
      is_made : Moved K S → Bool
      is_made (Makes kind t) = true
      is_made (Breaks when kind n) = false
      is_made Ends = false

      no_move : {other : K} {v : S} → Breaks when kind k ≡ Makes other v → ⊥
      no_move q = true≢false (sym (ap is_made q))
  next_stands n made t (Breaks when kind k) listed e (inr (past, told)) = told
  next_stands n made t Ends listed e (inl (h, l, m, are)) = record { made = made; state = t; leads = h; within = l; last = λ other v q. absurd (no_move (sym e ∙ q)); listed_are = are }
    where
      is_made : Moved K S → Bool
      is_made (Makes kind t) = true
      is_made (Breaks when kind n) = false
      is_made Ends = false

      no_move : {other : K} {v : S} → Ends ≡ Makes other v → ⊥
      no_move q = true≢false (sym (ap is_made q))
  next_stands n made t Ends listed e (inr (past, told)) = told

  goes_stands : (n : ℕ) (r : Run K S) (listed : List E) → Stands n r listed → Stands (suc n) (gone_on x r) (services_of x d bound (gone_on x r) listed)
  goes_stands n (On made t) listed h = next_stands n made t (x.move t) listed refl h
  goes_stands n (Broke made when kind k) listed h = h
  goes_stands n (Over made t) listed h = h

  all_stand : (n : ℕ) → Stands n (run_to x s n) (services_to x d bound s n)
  unfolding run_to services_to cost
  all_stand zero = inl (refl, omega arith, refl, refl)
  all_stand (suc n) = goes_stands n (run_to x s n) (services_to x d bound s n) (all_stand n)

  at_last : (r : Run K S) (listed : List E) → Stands (suc bound) r listed → Listed listed
  at_last (On made t) listed (inl (h, l, k, are)) = absurd (omega (arith, l, k, moves_below x d made))
  at_last (On made t) listed (inr (past, told)) = told
  at_last (Broke made when kind k) listed h = h
  at_last (Over made t) listed h = h

  pub listed_so : Listed (services_within x d bound s)
  unfolding services_within
  listed_so = at_last (run_to x s (suc bound)) (services_to x d bound s (suc bound)) (all_stand (suc bound))
