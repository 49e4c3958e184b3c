-- The start of the chain's run, and a body in it.
use Rattle.std.proofs.Common.{◌≡◌, ℕ, suc, ◌+◌, ◌==◌, ⊎_elim, true, false, not, List, [], ◌∷◌, ◌++◌, Option, Some, None, refl, sym, ap, ap₂, ◌∙◌, subst, arith}
use Rattle.std.proofs.lemmas.Bool.{cases_eq}
use Rattle.std.proofs.lemmas.Bool.Decides.{nat_tests}
use Rattle.device_model.specs.Meanings.{Meanings}
use Rattle.hart_board.specs.State.{State}
use Rattle.hart_board.specs.Step.{Turn, step, turn_or_halted}
use Rattle.hart_board.specs.Event.{with_events}
use Rattle.hart_board.specs.Run.{Stand, after_step, standing}
use Rattle.hart_board.specs.Steps.{stands_at, board_at, told_at, told_to, goes_on, GoesOnBefore}
use Rattle.hart_board.specs.declared.event.Event.{Event}
use Rattle.hart_report.specs.declared.stepped.Stepped.{Stepped}
use Rattle.hart_report.specs.declared.stepped.Stepped.TheVariants.{Retired, Halted}
use Rattle.chain_moves.specs.Slot.{in_slot, call, back}
use Rattle.chain_core.specs.ChainRun.{is_body, chained_at, nothing_read, read_at, read_services, read_to}

-- the run's first k steps: where it stands, that it goes on, and what was read off
pub record StartsRun (m : Meanings) (es : List Event) (b : State) : Type 0 where
  pub stands : chained_at m es b 0 ≡ record { count = 0; board = with_events m 0 es b }
  pub told : told_to m is_body es b 0 ≡ []
  pub goes : GoesOnBefore m is_body es b 0
  pub read : read_to m es b 0 ≡ nothing_read

pub starts_run : (m : Meanings) (es : List Event) (b : State) → StartsRun m es b
unfolding stands_at told_to read_to
starts_run m es b = record { stands = refl; told = refl; goes = λ k l. absurd (omega arith); read = refl }

-- ---- a body
-- an instruction outside the slot retires: the count rises, its events come, and nothing is read off
pub record BodyInRun (m : Meanings) (es : List Event) (b : State) (k count : ℕ) (new : State) (told_is : Stepped) : Type 0 where
  pub stands : chained_at m es b (k + 1) ≡ record { count = count + 1; board = with_events m (count + 1) es new }
  pub told : told_to m is_body es b (k + 1) ≡ told_to m is_body es b k ++ told_is ∷ []
  pub goes : GoesOnBefore m is_body es b k → GoesOnBefore m is_body es b (k + 1)
  pub read : read_to m es b (k + 1) ≡ read_to m es b k

not_call : (pc : ℕ) → in_slot pc ≡ false → (pc == call) ≡ false
not_call pc h = grind (arith, nat_tests)

not_back : (pc : ℕ) → in_slot pc ≡ false → (pc == back) ≡ false
not_back pc h = grind (arith, nat_tests)

-- an instruction that retires does so before a halt
retires_by : (m : Meanings) (a new : State) (pc bits length : ℕ) (o : Option ℕ) → turn_or_halted m a o ≡ record { told = Retired pc bits length; state = new } → o ≡ None
retires_by m a new pc bits length None e = refl
retires_by m a new pc bits length (Some code) e = absurd (no_halt (ap (λ (u : Turn). u.told) e))
  where
    no_halt : Halted code ≡ Retired pc bits length → ⊥
    no_halt h = cc

module _ (m : Meanings) (es : List Event) (b : State) (k c : ℕ) (a new : State) (pc bits length : ℕ) (stands : chained_at m es b k ≡ record { count = c; board = a }) (turn : step m a ≡ record { told = Retired pc bits length; state = new }) (out : in_slot pc ≡ false) where
  stands_on : chained_at m es b (suc k) ≡ record { count = c + 1; board = with_events m (c + 1) es new }
  unfolding stands_at
  stands_on =
      ap (λ (q : Stand). after_step m is_body es q.count (step m q.board)) stands
      ∙ (ap (after_step m is_body es c) turn
      ∙ ap (λ x. standing m es c new (not x)) out)

  told_on : told_to m is_body es b (suc k) ≡ told_to m is_body es b k ++ Retired pc bits length ∷ []
  unfolding told_to
  told_on = ap (λ (q : Stand). told_to m is_body es b k ++ (step m q.board).told ∷ []) stands ∙ ap (λ (u : Turn). told_to m is_body es b k ++ u.told ∷ []) turn

  read_on : read_to m es b (suc k) ≡ read_to m es b k
  unfolding read_to
  read_on =
      ap (λ (q : Stand). read_services (read_to m es b k) (step m q.board)) stands
      ∙ (ap (read_services (read_to m es b k)) turn
      ∙ ap₂ (read_at (read_to m es b k) new) (not_call pc out) (not_back pc out))

  has_run : m.halted a.outside.device ≡ None
  unfolding step
  has_run = retires_by m a new pc bits length (m.halted a.outside.device) turn

  goes_so : GoesOnBefore m is_body es b k → GoesOnBefore m is_body es b (suc k)
  goes_so before i l =
      ⊎_elim
      (λ (same : i ≡ k). subst (λ i. (m.halted (board_at m is_body es b i).outside.device ≡ None) × (goes_on (told_at m is_body es b i) ≡ true)) (sym same)
      (subst (λ (q : Stand). (m.halted q.board.outside.device ≡ None) × (goes_on (step m q.board).told ≡ true)) (sym stands) (has_run, ap (λ (u : Turn). goes_on u.told) turn)))
      (λ (other : i ≡ k → ⊥). before i (omega arith))
      (cases_eq i k)

  pub body_in_run : BodyInRun m es b k c new (Retired pc bits length)
  body_in_run =
      let more : k + 1 ≡ suc k = omega arith in
      record {
        stands = ap (chained_at m es b) more ∙ stands_on;
        told = ap (told_to m is_body es b) more ∙ told_on;
        goes = λ before. subst (GoesOnBefore m is_body es b) (sym more) (goes_so before);
        read = ap (read_to m es b) more ∙ read_on;
      }
