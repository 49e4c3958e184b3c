-- Walks of dispatch code in the chain's run: no count rises, no event comes, and the run goes on.
use Rattle.std.proofs.Common.{◌≡◌, ℕ, zero, suc, ◌+◌, ◌≤◌, ⊎_elim, Bool, true, false, not, ◌&&◌, List, [], ◌∷◌, ◌++◌, length, Option, Some, None, refl, sym, ap, ◌∙◌, subst, arith, append_assoc}
use Rattle.std.proofs.lemmas.List.{append-nil}
use Rattle.std.proofs.lemmas.Bool.{and_parts, cases_eq}
use Rattle.device_model.specs.Meanings.{Meanings}
use Rattle.hart_board.specs.State.{State}
use Rattle.hart_board.specs.Step.{step, turn_or_halted}
use Rattle.hart_board.specs.Run.{Stand, standing, after_step}
use Rattle.hart_board.specs.Steps.{stands_at, board_at, told_at, told_to, goes_on, GoesOnBefore}
use Rattle.hart_board.specs.declared.event.Event.{Event}
use Rattle.hart_report.specs.declared.stepped.Stepped.{Stepped}
use Rattle.hart_report.specs.declared.stepped.Stepped.TheVariants.{Retired, Interrupted, Raised, Halted, VectorFault}
use Rattle.chain_moves.specs.Slot.{in_slot}
use Rattle.chain_core.specs.Walk.{Walk, walked}
use Rattle.chain_core.specs.ChainRun.{is_body, chained_at}

-- an interrupt, or an instruction of the slot
abbrev pub is_dispatch : Stepped → Bool
is_dispatch (Retired pc bits length) = in_slot pc
is_dispatch (Interrupted pc id) = true
is_dispatch told = false

abbrev pub are_dispatch : List Stepped → Bool
are_dispatch [] = true
are_dispatch (t ∷ ts) = is_dispatch t && are_dispatch ts

not_body : (t : Stepped) → is_dispatch t ≡ true → is_body t ≡ false
not_body (Retired pc bits length) h = ap not h
not_body (Interrupted pc id) h = refl
not_body (Raised pc code) h = absurd cc
not_body (Halted code) h = absurd cc
not_body (VectorFault id) h = absurd cc

goes : (t : Stepped) → is_dispatch t ≡ true → goes_on t ≡ true
goes (Retired pc bits length) h = refl
goes (Interrupted pc id) h = refl
goes (Raised pc code) h = absurd cc
goes (Halted code) h = absurd cc
goes (VectorFault id) h = absurd cc

-- after such a step the board had not halted
runs_by : (m : Meanings) (a : State) (o : Option ℕ) → is_dispatch (turn_or_halted m a o).told ≡ true → o ≡ None
runs_by m a None h = refl
runs_by m a (Some code) h = absurd cc

pub has_not_halted : (m : Meanings) (a : State) → is_dispatch (step m a).told ≡ true → m.halted a.outside.device ≡ None
unfolding step
has_not_halted m a h = runs_by m a (m.halted a.outside.device) h

module _ (m : Meanings) (es : List Event) (b : State) where
  pub stands_next : (k c : ℕ) (a : State) → chained_at m es b k ≡ record { count = c; board = a } → is_dispatch (step m a).told ≡ true → chained_at m es b (suc k) ≡ record { count = c; board = (step m a).state }
  unfolding stands_at
  stands_next k c a e h =
      ap (λ (q : Stand). after_step m is_body es q.count (step m q.board)) e
      ∙ ap (standing m es c (step m a).state) (not_body (step m a).told h)

  -- the board goes through the walk's states
  pub stands_inside : (n j k c : ℕ) (a : State) → chained_at m es b k ≡ record { count = c; board = a } → are_dispatch (walked m n a).told ≡ true → j ≤ n → chained_at m es b (k + j) ≡ record { count = c; board = (walked m j a).state }
  unfolding walked
  stands_inside n zero k c a e h l = let same : k + 0 ≡ k = omega arith in ap (chained_at m es b) same ∙ e
  stands_inside zero (suc j) k c a e h l = absurd (omega arith)
  stands_inside (suc n) (suc j) k c a e h l =
      let p = and_parts (is_dispatch (step m a).told) (are_dispatch (walked m n (step m a).state).told) h in
      let same : k + suc j ≡ suc k + j = omega arith in
      ap (chained_at m es b) same ∙ stands_inside n j (suc k) c (step m a).state (stands_next k c a e p.0) p.1 (omega arith)

  told_next : (k c : ℕ) (a : State) → chained_at m es b k ≡ record { count = c; board = a } → told_to m is_body es b (suc k) ≡ told_to m is_body es b k ++ (step m a).told ∷ []
  unfolding told_to
  told_next k c a e = ap (λ (q : Stand). told_to m is_body es b k ++ (step m q.board).told ∷ []) e

  told_on : (n k c : ℕ) (a : State) → chained_at m es b k ≡ record { count = c; board = a } → are_dispatch (walked m n a).told ≡ true → told_to m is_body es b (k + n) ≡ told_to m is_body es b k ++ (walked m n a).told
  unfolding walked
  told_on zero k c a e h = let same : k + 0 ≡ k = omega arith in ap (told_to m is_body es b) same ∙ sym (append-nil (told_to m is_body es b k))
  told_on (suc n) k c a e h =
      let p = and_parts (is_dispatch (step m a).told) (are_dispatch (walked m n (step m a).state).told) h in
      let same : k + suc n ≡ suc k + n = omega arith in
      ap (told_to m is_body es b) same
      ∙ (told_on n (suc k) c (step m a).state (stands_next k c a e p.0) p.1
      ∙ (ap (λ ts. ts ++ (walked m n (step m a).state).told) (told_next k c a e)
      ∙ append_assoc (told_to m is_body es b k) ((step m a).told ∷ []) (walked m n (step m a).state).told))

  goes_next : (k c : ℕ) (a : State) → chained_at m es b k ≡ record { count = c; board = a } → is_dispatch (step m a).told ≡ true → GoesOnBefore m is_body es b k → GoesOnBefore m is_body es b (suc k)
  goes_next k c a e h before i l =
      ⊎_elim
      (λ (same : i ≡ k). subst (λ i. (m.halted (board_at m is_body es b i).outside.device ≡ None) × (goes_on (told_at m is_body es b i) ≡ true)) (sym same)
      (subst (λ (q : Stand). (m.halted q.board.outside.device ≡ None) × (goes_on (step m q.board).told ≡ true)) (sym e) (has_not_halted m a h, goes (step m a).told h)))
      (λ (other : i ≡ k → ⊥). before i (omega arith))
      (cases_eq i k)

  goes_along : (n k c : ℕ) (a : State) → chained_at m es b k ≡ record { count = c; board = a } → are_dispatch (walked m n a).told ≡ true → GoesOnBefore m is_body es b k → GoesOnBefore m is_body es b (k + n)
  unfolding walked
  goes_along zero k c a e h before = let same : k ≡ k + 0 = omega arith in subst (GoesOnBefore m is_body es b) same before
  goes_along (suc n) k c a e h before =
      let p = and_parts (is_dispatch (step m a).told) (are_dispatch (walked m n (step m a).state).told) h in
      let same : suc k + n ≡ k + suc n = omega arith in
      subst (GoesOnBefore m is_body es b) same (goes_along n (suc k) c (step m a).state (stands_next k c a e p.0) p.1 (goes_next k c a e p.0 before))

  -- ---- a walk whose steps are told
  module _ (n k c : ℕ) (a : State) (w : Walk) (stands : chained_at m es b k ≡ record { count = c; board = a }) (walk : walked m n a ≡ w) (dispatch : are_dispatch w.told ≡ true) where
    are_so : are_dispatch (walked m n a).told ≡ true
    are_so = ap (λ (w : Walk). are_dispatch w.told) walk ∙ dispatch

    pub walk_stands : chained_at m es b (k + n) ≡ record { count = c; board = w.state }
    walk_stands = stands_inside n n k c a stands are_so (omega arith) ∙ ap (λ (w : Walk). record { count = c; board = w.state }) walk

    pub walk_told : told_to m is_body es b (k + n) ≡ told_to m is_body es b k ++ w.told
    walk_told = told_on n k c a stands are_so ∙ ap (λ (w : Walk). told_to m is_body es b k ++ w.told) walk

    -- and no step before its end is the run's last
    pub walk_goes : GoesOnBefore m is_body es b k → GoesOnBefore m is_body es b (k + n)
    walk_goes before = goes_along n k c a stands are_so before

    -- inside it the count is what it was
    pub walk_count : (j : ℕ) → j ≤ n → chained_at m es b (k + j) ≡ record { count = c; board = (walked m j a).state }
    walk_count j l = stands_inside n j k c a stands are_so l
