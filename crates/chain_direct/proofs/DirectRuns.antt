-- The board's run through a direct service: its begin, and its instructions.
use Rattle.std.proofs.Common.{◌≡◌, ℕ, suc, ◌+◌, ◌==◌, ⊎_elim, true, false, List, [], ◌∷◌, ◌++◌, None, sym, ap, ◌∙◌, subst, arith}
use Rattle.std.proofs.lemmas.Bool.{cases_eq}
use Rattle.std.proofs.lemmas.Bool.Decides.{nat_tests}
use Rattle.device_model.specs.Meanings.{Meanings}
use Rattle.clic_select.specs.Top.{top}
use Rattle.hart_report.specs.declared.stepped.Stepped.{Stepped}
use Rattle.hart_report.specs.declared.stepped.Stepped.TheVariants.{Interrupted, Retired}
use Rattle.hart_board.specs.State.{State}
use Rattle.hart_board.specs.Step.{Turn, step}
use Rattle.hart_board.specs.Run.{Stand, after_step}
use Rattle.hart_board.specs.Steps.{stands_at, board_at, told_at, told_to, goes_on, GoesOnBefore}
use Rattle.hart_board.specs.declared.event.Event.{Event}
use Rattle.chain_moves.specs.Slot.{in_slot, call}
use Rattle.chain_core.specs.ChainRun.{is_body, chained_at, read_services, read_to}
use Rattle.chain_direct.specs.DirectRun.{is_vectored, called, entered_directly, begins, begins_after}

-- an input is taken directly: no count rises, and its service is read off
pub record BeginInRun (m : Meanings) (es : List Event) (b : State) (k count id : ℕ) (new : State) (told_is : Stepped) : Type 0 where
  pub stands : chained_at m es b (k + 1) ≡ record { count = count; board = new }
  pub told : told_to m is_body es b (k + 1) ≡ told_to m is_body es b k ++ told_is ∷ []
  pub goes : GoesOnBefore m is_body es b k → GoesOnBefore m is_body es b (k + 1)
  pub read : read_to m es b (k + 1) ≡ read_to m es b k
  pub begins : begins_after m es b k ≡ record { direct = true; service = record { number = id; level = new.csrs.mil; depth = suc (read_to m es b k).depth } } ∷ []

module _ (m : Meanings) (es : List Event) (b : State) (k c : ℕ) (a new : State) (stands : chained_at m es b k ≡ record { count = c; board = a }) where
  module _ (pc id : ℕ) (runs : m.halted a.outside.device ≡ None) (turn : step m a ≡ record { told = Interrupted pc id; state = new }) (hard : is_vectored (top a.outside.clic) ≡ true) where
    stands_on : chained_at m es b (suc k) ≡ record { count = c; board = new }
    unfolding stands_at
    stands_on = ap (λ (q : Stand). after_step m is_body es q.count (step m q.board)) stands ∙ ap (after_step m is_body es c) turn

    told_on : told_to m is_body es b (suc k) ≡ told_to m is_body es b k ++ Interrupted pc id ∷ []
    unfolding told_to
    told_on = ap (λ (q : Stand). told_to m is_body es b k ++ (step m q.board).told ∷ []) stands ∙ ap (λ (u : Turn). told_to m is_body es b k ++ u.told ∷ []) turn

    read_on : read_to m es b (suc k) ≡ read_to m es b k
    unfolding read_to
    read_on = ap (λ (q : Stand). read_services (read_to m es b k) (step m q.board)) stands ∙ ap (read_services (read_to m es b k)) turn

    goes_so : GoesOnBefore m is_body es b k → GoesOnBefore m is_body es b (suc k)
    goes_so before i l =
        ⊎_elim
        (λ (same : i ≡ k). subst (λ i. (m.halted (board_at m is_body es b i).outside.device ≡ None) × (goes_on (told_at m is_body es b i) ≡ true)) (sym same)
        (subst (λ (q : Stand). (m.halted q.board.outside.device ≡ None) × (goes_on (step m q.board).told ≡ true)) (sym stands) (runs, ap (λ (u : Turn). goes_on u.told) turn)))
        (λ (other : i ≡ k → ⊥). before i (omega arith))
        (cases_eq i k)

    begins_so : begins_after m es b k ≡ record { direct = true; service = record { number = id; level = new.csrs.mil; depth = suc (read_to m es b k).depth } } ∷ []
    unfolding begins_after
    begins_so =
        ap (λ (q : Stand). begins (read_to m es b k).depth q.board (step m q.board)) stands
        ∙ (ap (begins (read_to m es b k).depth a) turn
        ∙ ap (entered_directly (read_to m es b k).depth new id) hard)

    pub begin_in_run : BeginInRun m es b k c id new (Interrupted pc id)
    begin_in_run =
        let more : k + 1 ≡ suc k = omega arith in
        record {
          stands = ap (chained_at m es b) more ∙ stands_on;
          told = ap (told_to m is_body es b) more ∙ told_on;
          goes = λ before. subst (GoesOnBefore m is_body es b) (sym more) (goes_so before);
          read = ap (read_to m es b) more ∙ read_on;
          begins = begins_so;
        }

  -- no service begins with an instruction that retires outside the slot
  module _ (pc bits length : ℕ) (turn : step m a ≡ record { told = Retired pc bits length; state = new }) (out : in_slot pc ≡ false) where
    not_call : (pc == call) ≡ false
    not_call = grind (arith, nat_tests)

    pub none_begins : begins_after m es b k ≡ []
    unfolding begins_after
    none_begins =
        ap (λ (q : Stand). begins (read_to m es b k).depth q.board (step m q.board)) stands
        ∙ (ap (begins (read_to m es b k).depth a) turn
        ∙ ap (called (read_to m es b k).depth new) not_call)
