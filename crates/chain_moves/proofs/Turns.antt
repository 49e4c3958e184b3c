-- The turn that is read off the board, and off what is kept beside it, is the move that is due.
use Rattle.std.proofs.Common.{◌≡◌, ℕ, Bool, true, false, List, [], ◌∷◌, Option, Some, None, refl, sym, ap, ◌∙◌, subst}
use Rattle.std.specs.Prelude.{◌==◌, not}
use Rattle.std.proofs.lemmas.Bool.{and_parts, eqb-true, not-true, true≢false, false≢true}
use Rattle.std.proofs.Math.Bool.{and-false}
use Rattle.device_model.specs.Meanings.{Meanings}
use Rattle.hart_words.specs.Registers.{register}
use Rattle.clic_select.specs.Top.{top}
use Rattle.clic_select.specs.declared.choice.Choice.{Choice}
use Rattle.clic_trap.specs.Due.{due, is_above}
use Rattle.hart_board.specs.State.{Outside, State}
use Rattle.hart_board.specs.declared.event.Event.{Event}
use Rattle.chain_moves.specs.Slot.{back}
use Rattle.chain_moves.specs.Servicing.{Live, Servicing, marks, innermost_level}
use Rattle.chain_moves.specs.Tests.{first_broken, enter_tests}
use Rattle.chain_moves.specs.Machine.{Before, Moved, Makes, Breaks, unless_broken}
use Rattle.chain_moves.specs.Enter.{takes_interrupts, is_enter_due, new_frame, table_address, entered}
use Rattle.chain_moves.specs.Leave.{left}
use Rattle.chain_moves.specs.Body.{body}
use Rattle.chain_moves.specs.Moves.{move, move_by, move_unless_halted, enter, leave_or_body, claims}
use Rattle.chain_moves.specs.Cost.{is_fused}
use Rattle.chain_moves.specs.Beside.{Rest, board_of}
use Rattle.chain_moves.specs.Related.{Related}
use Rattle.chain_moves.specs.Watched.{Watched, watched_of}
use Rattle.chain_moves.specs.Judge.{judge_body, entry_by, judge_entry, claims_above, judge_fused, judge_leave, judge_due, judge_turn}
use Rattle.chain_moves.specs.declared.broken.Broken.{Broken}
use Rattle.chain_moves.specs.declared.dispatcher.Dispatcher.{Dispatcher}
use Rattle.chain_moves.specs.declared.dispatcher.Dispatcher.TheVariants.{Looping, Returning}
use Rattle.chain_moves.specs.declared.moves.Move.{Move}
use Rattle.chain_moves.specs.declared.moves.Move.TheVariants.{Enter as EnterMove, Leave as LeaveMove}
use Rattle.chain_moves.specs.declared.entry.Entry.{Entry}
use Rattle.chain_moves.specs.declared.entry.Entry.TheVariants.{Refused, Admitted}
use Rattle.chain_moves.specs.declared.turn.Turn.{Turn}
use Rattle.chain_moves.specs.declared.turn.Turn.TheVariants.{Enter, Leave, Fuse, Body}
use Rattle.chain_moves.proofs.Leaves.{left_unmoved}
use Rattle.chain_moves.proofs.Enters.{IsUntested}
use Rattle.chain_moves.proofs.Fused.{due_after, claims_after, new_frame_after}

-- ---- Enter

-- what an entry says of the move
abbrev pub EntryMeans : Servicing → Choice → Moved Move Servicing → Entry → Type 0
EntryMeans t c moved (Refused kind) = moved ≡ Breaks Before kind t.bodies
EntryMeans t c moved (Admitted frame) = (frame ≡ new_frame t) × IsUntested t c × (moved ≡ Makes EnterMove (entered t c))

entry_by_means : (t : Servicing) (c : Choice) (o : Option Broken) → first_broken (enter_tests (marks t.live) t.dead c.shv t.vector (new_frame t) (table_address t.table c.id)) ≡ o → EntryMeans t c (unless_broken Before o t.bodies (Makes EnterMove (entered t c))) (entry_by (new_frame t) o)
entry_by_means t c (Some kind) e = refl
entry_by_means t c None e = (refl, e, refl)

entry_means : (t : Servicing) (c : Choice) (frame : ℕ) → frame ≡ new_frame t → EntryMeans t c (enter t c) (judge_entry (marks t.live) t.dead c.shv t.vector frame (table_address t.table c.id))
unfolding judge_entry
entry_means t c frame e =
    subst (λ f. EntryMeans t c (enter t c) (entry_by f (first_broken (enter_tests (marks t.live) t.dead c.shv t.vector f (table_address t.table c.id))))) (sym e)
    (entry_by_means t c (first_broken (enter_tests (marks t.live) t.dead c.shv t.vector (new_frame t) (table_address t.table c.id))) refl)

-- the move that is due is an Enter
pub move_enters : (m : Meanings) (es : List Event) (t : Servicing) (c : Choice) → m.halted t.outside.device ≡ None → top t.outside.clic ≡ Some c → is_enter_due t (Some c) ≡ true → move m es t ≡ enter t c
unfolding move
move_enters m es t c runs is_top is_due =
    ap (move_unless_halted m es t) runs
    ∙ (ap (λ o. move_by m es t o (is_enter_due t o)) is_top
    ∙ ap (move_by m es t (Some c)) is_due)

-- a Leave is fused where the top would be claimed, and the dispatcher loops
claims_fused : (d : Dispatcher) (b : Bool) → is_fused d LeaveMove b ≡ true → b ≡ true
claims_fused Looping b e = e
claims_fused Returning b e = absurd (false≢true e)

no_top_due : (s : Servicing) → is_enter_due s None ≡ false
unfolding is_enter_due
no_top_due s = and-false (takes_interrupts (marks s.live) s.on)

-- ---- the turn
module _ (m : Meanings) (es : List Event) (d : Dispatcher) (s : Servicing) (x : Rest) where
  abbrev b : State
  b = board_of s x

  abbrev w : Watched
  w = watched_of s

  -- a Leave is made, by whether it is fused with the Enter after it
  pub record Leaves (moved : Moved Move Servicing) (fused : Bool) : Type 0 where
    pub innermost : Live
    pub others : List Live
    pub is_live : s.live ≡ innermost ∷ others
    pub at_back : s.pc ≡ back
    pub calm : is_enter_due s (top s.outside.clic) ≡ false
    pub makes : moved ≡ Makes LeaveMove (left s innermost others)
    pub is_fused : is_fused d LeaveMove (claims (left s innermost others)) ≡ fused

  -- and the next move is an Enter with that entry
  pub record Fuses (moved : Moved Move Servicing) (e : Entry) : Type 0 where
    pub leaves : Leaves moved true
    pub choice : Choice
    pub is_top : top s.outside.clic ≡ Some choice
    pub above : is_above choice (innermost_level (marks leaves.others)) s.threshold ≡ true
    pub soft : choice.shv ≡ false
    pub enters : EntryMeans (left s leaves.innermost leaves.others) choice (move m es (left s leaves.innermost leaves.others)) e

  abbrev pub TurnMeans : Moved Move Servicing → Turn → Type 0
  TurnMeans moved (Enter e) = (c : Choice) × (top s.outside.clic ≡ Some c) × (is_enter_due s (Some c) ≡ true) × EntryMeans s c moved e
  TurnMeans moved Leave = Leaves moved false
  TurnMeans moved (Fuse e) = Fuses moved e
  TurnMeans moved (Body v) = (is_enter_due s (top s.outside.clic) ≡ false) × (moved ≡ body m es s) × (v ≡ judge_body b w)

  module _ (h : Related m d s x) (runs : m.halted s.outside.device ≡ None) where
    entry_after : (c : Choice) (v : Live) (vs : List Live) → s.live ≡ v ∷ vs → s.pc ≡ back → EntryMeans (left s v vs) c (enter (left s v vs) c) (judge_entry (marks vs) s.dead c.shv s.vector (register s.registers 2) (table_address s.table c.id))
    unfolding left
    entry_after c v [] e at_back = entry_means (left s v []) c (register s.registers 2) (new_frame_after m d s x h at_back v [] e)
    entry_after c v (u ∷ us) e at_back = entry_means (left s v (u ∷ us)) c (register s.registers 2) (new_frame_after m d s x h at_back v (u ∷ us) e)

    made_leave : (v : Live) (vs : List Live) (fused : Bool) → s.live ≡ v ∷ vs → s.pc ≡ back → is_enter_due s (top s.outside.clic) ≡ false → is_fused d LeaveMove (claims_above (top s.outside.clic) (innermost_level (marks vs)) s.threshold) ≡ fused → Leaves (Makes LeaveMove (left s v vs)) fused
    made_leave v vs fused e at_back calm f = record { innermost = v; others = vs; is_live = e; at_back = at_back; calm = calm; makes = refl; is_fused = ap (is_fused d LeaveMove) (claims_after m d s x h at_back v vs e) ∙ f }

    -- by the top, and whether the Leave is fused
    fused_means : (v : Live) (vs : List Live) (o : Option Choice) (fused : Bool) → s.live ≡ v ∷ vs → s.pc ≡ back → is_enter_due s (top s.outside.clic) ≡ false → top s.outside.clic ≡ o → is_fused d LeaveMove (claims_above (top s.outside.clic) (innermost_level (marks vs)) s.threshold) ≡ fused
        → TurnMeans (Makes LeaveMove (left s v vs)) (judge_fused b w (marks vs) o fused)
    unfolding made_leave
    fused_means v vs None true e at_back calm t f = absurd (false≢true (ap (λ o. claims_above o (innermost_level (marks vs)) s.threshold) (sym t) ∙ claims_fused d (claims_above (top s.outside.clic) (innermost_level (marks vs)) s.threshold) f))
    fused_means v vs None false e at_back calm t f = made_leave v vs false e at_back calm f
    fused_means v vs (Some c) false e at_back calm t f = made_leave v vs false e at_back calm f
    fused_means v vs (Some c) true e at_back calm t f =
        let both = ap (λ o. claims_above o (innermost_level (marks vs)) s.threshold) (sym t) ∙ claims_fused d (claims_above (top s.outside.clic) (innermost_level (marks vs)) s.threshold) f in
        let parts = and_parts (is_above c (innermost_level (marks vs)) s.threshold) (not c.shv) both in
        let same = (left_unmoved s v vs).outside in
        let next = move_enters m es (left s v vs) c (ap (λ (o : Outside). m.halted o.device) same ∙ runs) (ap (λ (o : Outside). top o.clic) same ∙ t) (due_after m d s x h at_back v vs (Some c) e ∙ parts.0) in
        record {
          leaves = made_leave v vs true e at_back calm f;
          choice = c;
          is_top = t;
          above = parts.0;
          soft = not-true c.shv parts.1;
          enters = subst (λ moved. EntryMeans (left s v vs) c moved (judge_entry (marks vs) s.dead c.shv s.vector (register s.registers 2) (table_address s.table c.id))) (sym next) (entry_after c v vs e at_back);
        }

    leave_means : (live : List Live) (at_back : Bool) → s.live ≡ live → (s.pc == back) ≡ at_back → is_enter_due s (top s.outside.clic) ≡ false → TurnMeans (leave_or_body m es s live at_back) (judge_leave d b w (marks live) at_back)
    unfolding marks
    leave_means [] at_back e a calm = (calm, refl, refl)
    leave_means (v ∷ vs) false e a calm = (calm, refl, refl)
    leave_means (v ∷ vs) true e a calm = fused_means v vs (top s.outside.clic) (is_fused d LeaveMove (claims_above (top s.outside.clic) (innermost_level (marks vs)) s.threshold)) e (eqb-true s.pc back a) calm refl refl

    due_means : (o : Option Choice) (is_due : Bool) → top s.outside.clic ≡ o → is_enter_due s o ≡ is_due → TurnMeans (move_by m es s o is_due) (judge_due d b w o is_due)
    due_means (Some c) true t e = (c, t, e, entry_means s c (new_frame s) refl)
    due_means (Some c) false t e = leave_means s.live (s.pc == back) refl refl (ap (is_enter_due s) t ∙ e)
    due_means None false t e = leave_means s.live (s.pc == back) refl refl (ap (is_enter_due s) t ∙ e)
    due_means None true t e = absurd (true≢false (sym e ∙ no_top_due s))

    pub turn_means : TurnMeans (move m es s) (judge_turn d b w)
    unfolding move judge_turn is_enter_due due
    turn_means =
        subst (λ o. TurnMeans (move_unless_halted m es s o) (judge_due d b w (top s.outside.clic) (is_enter_due s (top s.outside.clic)))) (sym runs)
        (due_means (top s.outside.clic) (is_enter_due s (top s.outside.clic)) refl refl)
