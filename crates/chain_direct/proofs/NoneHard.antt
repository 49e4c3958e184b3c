-- No move of the machine with direct services is refused since its top is hardware-vectored.
use Rattle.std.proofs.Common.{◌≡◌, ℕ, ◌==◌, Bool, true, false, List, [], ◌∷◌, drop, Option, Some, None, Result, Ok, Err, refl, sym, ap, ap₂, ◌∙◌, subst}
use Rattle.std.specs.Prelude.{if◌then◌else◌}
use Rattle.device_model.specs.Meanings.{Meanings}
use Rattle.clic_select.specs.Top.{top}
use Rattle.clic_select.specs.declared.choice.Choice.{Choice}
use Rattle.rv_encoding.specs.declared.instruction.Ins.{Ins}
use Rattle.rv_encoding.specs.declared.instruction.Ins.TheVariants.{Mret}
use Rattle.hart_exec.specs.Effect.{effect}
use Rattle.hart_exec.specs.declared.effect.Effect.{Effect}
use Rattle.hart_exec.specs.declared.effect.Effect.TheVariants.{Go, Load, Store, System}
use Rattle.hart_memory.specs.Fetch.{fetched}
use Rattle.hart_memory.specs.declared.fetched.Fetched.{Fetched}
use Rattle.hart_memory.specs.declared.fetched.Fetched.TheVariants.{Bits, Missing}
use Rattle.rvc_encoding.specs.Decoding.{decoded}
use Rattle.hart_board.specs.State.{State}
use Rattle.hart_board.specs.Attempt.{performed}
use Rattle.hart_board.specs.declared.trap.Trap.{Trap}
use Rattle.hart_board.specs.declared.event.Event.{Event}
use Rattle.chain_moves.specs.Slot.{back}
use Rattle.chain_moves.specs.Servicing.{Live, Servicing, marks}
use Rattle.chain_moves.specs.Tests.{first_broken, enter_tests, first_tests, second_tests, instruction_tests, access_tests, return_tests}
use Rattle.chain_moves.specs.Enter.{is_enter_due, new_frame, table_address, entered}
use Rattle.chain_moves.specs.Body.{hart, with_hart, is_long_at, dead_after, retired, performed_by, decoded_by, fetched_by, body}
use Rattle.chain_moves.specs.Machine.{When, Before, Within, After, Moved, Makes, Breaks, Ends, unless_broken}
use Rattle.chain_moves.specs.Moves.{move, move_unless_halted, move_by, leave_or_body, halted_with, enter}
use Rattle.chain_moves.specs.Start.{begun}
use Rattle.chain_moves.specs.declared.broken.Broken.{Broken}
use Rattle.chain_moves.specs.declared.broken.Broken.TheVariants.{HardVectored, CsrTouched}
use Rattle.chain_moves.specs.declared.dispatcher.Dispatcher.{Dispatcher}
use Rattle.chain_moves.specs.declared.moves.Move.{Move}
use Rattle.chain_moves.specs.declared.moves.Move.TheVariants.{Enter}
use Rattle.chain_core.specs.End.{end_at, EndsAs}
use Rattle.chain_core.specs.declared.chain_end.ChainEnd.{ChainEnd}
use Rattle.chain_core.specs.declared.chain_end.ChainEnd.TheVariants.{Broken as BrokenOff}
use Rattle.chain_core.proofs.Ends.{ends_so}
use Rattle.chain_direct.specs.Kind.{Kind}
use Rattle.chain_direct.specs.Directed.{Direct, Directed}
use Rattle.chain_direct.specs.DirectBody.{direct_instruction_tests, ended_tests, direct_performed, direct_ended, direct_made, direct_decoded, direct_fetched, direct_body}
use Rattle.chain_direct.specs.DirectMoves.{begin_tests, begin, with_move, entering_by, moved_alone, moved_by, direct_move, direct_machine}

-- ---- tests
abbrev Soft : Broken → Type 0
Soft HardVectored = ⊥
Soft _ = Unit {0}

abbrev SoftFirst : Option Broken → Type 0
SoftFirst None = Unit {0}
SoftFirst (Some kind) = Soft kind

abbrev AreSoft : List (Bool × Broken) → Type 0
AreSoft [] = Unit {0}
AreSoft (row ∷ rows) = Soft row.1 × AreSoft rows

row_soft : (holds : Bool) (kind : Broken) (rest : Option Broken) → Soft kind → SoftFirst rest → SoftFirst (if holds then Some kind else rest)
row_soft true kind rest h k = h
row_soft false kind rest h k = k

first_soft : (rows : List (Bool × Broken)) → AreSoft rows → SoftFirst (first_broken rows)
unfolding first_broken
first_soft [] h = tt
first_soft (row ∷ rows) h = row_soft row.0 row.1 (first_broken rows) h.0 (first_soft rows h.1)

abbrev shv_of : Option Choice → Bool
shv_of None = false
shv_of (Some t) = t.shv

-- ---- moves
abbrev NotHard : {K S : Type 0} → Moved K S → Type 0
NotHard (Makes kind t) = Unit {0}
NotHard (Breaks when kind n) = Soft kind
NotHard Ends = Unit {0}

unless_soft : {K S : Type 0} (when : When) (o : Option Broken) (n : ℕ) (moved : Moved K S) → SoftFirst o → NotHard moved → NotHard (unless_broken when o n moved)
unless_soft when None n moved s h = h
unless_soft when (Some kind) n moved s h = s

second_soft : (long : Bool) (dead : List Bool) (pc : ℕ) → AreSoft (second_tests long dead pc)
second_soft true dead pc = (tt, (tt, tt))
second_soft false dead pc = tt

access_soft : (s : Servicing) (e : Effect) → AreSoft (access_tests (marks s.live) s.dead e)
access_soft s (Go rd value target) = tt
access_soft s (Load rd at width signed) = (tt, tt)
access_soft s (Store at width value) = (tt, tt)
access_soft s System = tt

module _ (m : Meanings) (es : List Event) where
  -- ---- a body
  performed_soft : (s : Servicing) (e : Effect) (r : Result State Trap) → NotHard (performed_by m es s e r)
  performed_soft s e (Err trap) = tt
  performed_soft s e (Ok new) =
      let t = with_hart s new (dead_after s.dead e) in
      unless_soft Before _ _ _ (first_soft (access_tests (marks s.live) s.dead e) (access_soft s e)) (unless_soft After _ _ _ (first_soft (return_tests (marks t.live) t.pc t.registers) (tt, tt)) tt)

  decoded_soft : (s : Servicing) (bits length : ℕ) (o : Option Ins) → NotHard (decoded_by m es s bits length o)
  decoded_soft s bits length None = tt
  decoded_soft s bits length (Some ins) =
      unless_soft Before _ _ _ (first_soft (instruction_tests (marks s.live) ins) (tt, tt)) (performed_soft s (effect ins length s.registers s.pc) (performed m (hart s) ins bits length))

  fetched_soft : (s : Servicing) (f : Fetched) → NotHard (fetched_by m es s f)
  fetched_soft s (Missing at) = tt
  fetched_soft s (Bits bits length) = decoded_soft s bits length (decoded bits length)

  body_soft : (s : Servicing) → NotHard (body m es s)
  unfolding body
  body_soft s =
      unless_soft Before _ _ _ (first_soft (first_tests s.dead s.pc) (tt, (tt, (tt, tt))))
      (unless_soft Before _ _ _ (first_soft (second_tests (is_long_at s.memory s.pc) s.dead s.pc) (second_soft (is_long_at s.memory s.pc) s.dead s.pc)) (fetched_soft s (fetched s.memory s.pc)))

  -- ---- a move of the servicing machine
  left_soft : (s : Servicing) (live : List Live) (at_back : Bool) → NotHard (leave_or_body m es s live at_back)
  left_soft s (v ∷ vs) true = tt
  left_soft s (v ∷ vs) false = body_soft s
  left_soft s [] at_back = body_soft s

  -- the tests of an Enter behind that of a hardware-vectored top
  abbrev behind_tests : Servicing → Choice → List (Bool × Broken)
  behind_tests s t = drop 1 (enter_tests (marks s.live) s.dead false s.vector (new_frame s) (table_address s.table t.id))

  enter_soft : (s : Servicing) (t : Choice) (shv : Bool) → shv ≡ false → SoftFirst (first_broken (enter_tests (marks s.live) s.dead shv s.vector (new_frame s) (table_address s.table t.id)))
  unfolding first_broken
  enter_soft s t true e = absurd cc
  enter_soft s t false e = first_soft (behind_tests s t) (tt, (tt, (tt, (tt, (tt, (tt, (tt, (tt, tt))))))))

  halted_soft : (live : List Live) (n : ℕ) → NotHard (halted_with live n)
  halted_soft [] n = tt
  halted_soft (v ∷ vs) n = tt

  -- ---- a move beside direct services
  plain_soft : (s : Directed) (moved : Moved Move Servicing) → NotHard moved → NotHard (with_move s moved)
  plain_soft s (Makes kind t) h = tt
  plain_soft s (Breaks when kind n) h = h
  plain_soft s Ends h = tt

  begin_soft : (s : Directed) (t : Choice) → NotHard (begin s t)
  begin_soft s t = unless_soft Before _ _ _ (first_soft (begin_tests s.chained.dead (table_address s.chained.table t.id)) (tt, (tt, tt))) tt

  module _ (s : Servicing) (runs : m.halted s.outside.device ≡ None) where
    move_is : (o : Option Choice) (is_due : Bool) → top s.outside.clic ≡ o → is_enter_due s o ≡ is_due → move m es s ≡ move_by m es s o is_due
    unfolding move
    move_is o is_due e due = ap (move_unless_halted m es s) runs ∙ ap₂ (move_by m es s) e (ap (is_enter_due s) e ∙ due)

    top_soft : (o : Option Choice) (is_due : Bool) → ((t : Choice) → o ≡ Some t → is_due ≡ true → t.shv ≡ false) → NotHard (move_by m es s o is_due)
    top_soft (Some t) true h = unless_soft Before _ _ _ (enter_soft s t t.shv (h t refl refl)) tt
    top_soft (Some t) false h = left_soft s s.live (s.pc == back)
    top_soft None true h = left_soft s s.live (s.pc == back)
    top_soft None false h = left_soft s s.live (s.pc == back)

  alone_soft : (s : Directed) (o : Option Choice) (is_due : Bool) → m.halted s.chained.outside.device ≡ None → top s.chained.outside.clic ≡ o → is_enter_due s.chained o ≡ is_due → NotHard (moved_alone m es s o is_due)
  alone_soft s (Some t) true runs e due = by_shv t.shv refl
    where
      by_shv : (shv : Bool) → t.shv ≡ shv → NotHard (entering_by m es s t t.shv)
      by_shv true hard = subst (λ shv. NotHard (entering_by m es s t shv)) (sym hard) (begin_soft s t)
      by_shv false soft =
          subst (λ shv. NotHard (entering_by m es s t shv)) (sym soft) (plain_soft s (move m es s.chained)
          (subst NotHard (sym (move_is s.chained runs (Some t) true e due)) (top_soft s.chained runs (Some t) true (λ u same yes. ap shv_of (sym same) ∙ soft))))
  alone_soft s (Some t) false runs e due =
      plain_soft s (move m es s.chained) (subst NotHard (sym (move_is s.chained runs (Some t) false e due)) (top_soft s.chained runs (Some t) false (λ u same yes. absurd cc)))
  alone_soft s None is_due runs e due =
      plain_soft s (move m es s.chained) (subst NotHard (sym (move_is s.chained runs None is_due e due)) (top_soft s.chained runs None is_due (λ u same yes. absurd cc)))

  -- ---- a body of a direct service
  direct_performed_soft : (s : Directed) (e : Effect) (r : Result State Trap) → NotHard (direct_performed m es s e r)
  direct_performed_soft s e (Err trap) = tt
  direct_performed_soft s e (Ok new) = unless_soft Before _ _ _ (first_soft (access_tests (marks s.chained.live) s.chained.dead e) (access_soft s.chained e)) tt

  direct_made_soft : (s : Directed) (v : Direct) (bits length : ℕ) (ins : Ins) → NotHard (direct_made m es s v bits length ins)
  direct_made_soft s v bits length Mret = unless_soft After _ _ _ (first_soft (ended_tests v s.chained.registers) (tt, tt)) tt
  direct_made_soft s v bits length ins = direct_performed_soft s (effect ins length s.chained.registers s.chained.pc) (performed m (hart s.chained) ins bits length)

  direct_decoded_soft : (s : Directed) (v : Direct) (bits length : ℕ) (o : Option Ins) → NotHard (direct_decoded m es s v bits length o)
  direct_decoded_soft s v bits length None = tt
  direct_decoded_soft s v bits length (Some ins) = unless_soft Before _ _ _ (first_soft (direct_instruction_tests ins) (tt, tt)) (direct_made_soft s v bits length ins)

  direct_fetched_soft : (s : Directed) (v : Direct) (f : Fetched) → NotHard (direct_fetched m es s v f)
  direct_fetched_soft s v (Missing at) = tt
  direct_fetched_soft s v (Bits bits length) = direct_decoded_soft s v bits length (decoded bits length)

  direct_body_soft : (s : Directed) (v : Direct) → NotHard (direct_body m es s v)
  unfolding direct_body
  direct_body_soft s v =
      let c = s.chained in
      unless_soft Before _ _ _ (first_soft (first_tests c.dead c.pc) (tt, (tt, (tt, tt))))
      (unless_soft Before _ _ _ (first_soft (second_tests (is_long_at c.memory c.pc) c.dead c.pc) (second_soft (is_long_at c.memory c.pc) c.dead c.pc)) (direct_fetched_soft s v (fetched c.memory c.pc)))

  -- ---- every move
  halted_move : (s : Servicing) (code : ℕ) → m.halted s.outside.device ≡ Some code → NotHard (move m es s)
  unfolding move
  halted_move s code e = subst (λ o. NotHard (move_unless_halted m es s o)) (sym e) (halted_soft s.live s.bodies)

  soft_by : (s : Directed) (v : Option Direct) (o : Option ℕ) → m.halted s.chained.outside.device ≡ o → NotHard (moved_by m es s v o)
  soft_by s (Some v) (Some code) e = tt
  soft_by s (Some v) None e = direct_body_soft s v
  soft_by s None (Some code) e = plain_soft s (move m es s.chained) (halted_move s.chained code e)
  soft_by s None None e = alone_soft s (top s.chained.outside.clic) (is_enter_due s.chained (top s.chained.outside.clic)) e refl refl

  soft_move : (s : Directed) → NotHard (direct_move m es s)
  unfolding direct_move
  soft_move s = soft_by s s.direct (m.halted s.chained.outside.device) refl

  pub never_breaks : (s : Directed) (when : When) (n : ℕ) → direct_move m es s ≡ Breaks when HardVectored n → ⊥
  never_breaks s when n e = subst NotHard e (soft_move s)

  pub never_ends : (d : Dispatcher) (bound : ℕ) (s : Directed) (n : ℕ) → (end_at (direct_machine m es) d bound s).end ≡ BrokenOff HardVectored n → ⊥
  never_ends d bound s n e =
      let h = subst (λ (end : ChainEnd). EndsAs (direct_machine m es) d bound s end) e (ends_so (direct_machine m es) d bound s) in
      never_breaks h.state h.when n h.breaks
