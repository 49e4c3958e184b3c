-- What each move leaves alone, and an Enter whose service ends at once.
use Rattle.std.proofs.Common.{◌≡◌, ℕ, ◌+◌, ◌-◌, ◌^◌, ◌<◌, true, List, [], ◌∷◌, length, refl, sym, ap, ◌∙◌, subst, arith}
use Rattle.hart_words.specs.TwosComplement.{word}
use Rattle.hart_words.specs.Registers.{register}
use Rattle.hart_memory.specs.declared.address_map.TheConstants.{RAM_BASE}
use Rattle.device_model.specs.Meanings.{Meanings}
use Rattle.clic_select.specs.declared.choice.Choice.{Choice}
use Rattle.hart_board.specs.declared.event.Event.{Event}
use Rattle.chain_moves.specs.Slot.{frame_size}
use Rattle.chain_moves.specs.Servicing.{Live, Servicing, marks}
use Rattle.chain_moves.specs.Enter.{new_frame, frame_below, table_address, table_word, enter_registers, entered}
use Rattle.chain_moves.specs.Leave.{raised_pointer, left, left_by}
use Rattle.chain_moves.specs.Body.{body}
use Rattle.chain_moves.specs.Kinds.{IsMoveBy, EnterLeaves, LeaveLeaves, LeavesAlone, GivesBack}
use Rattle.chain_moves.specs.declared.moves.Move.{Move}
use Rattle.chain_moves.specs.declared.moves.Move.TheVariants.{Enter, Leave, Body}
use Rattle.chain_moves.proofs.Registers.{enter_others, leave_others, enters, leave-enter}
use Rattle.chain_moves.proofs.Marking.{marked_other}
use Rattle.chain_moves.proofs.OneOfThree.{at_made, IsBody, body_leaves}

pub entered_leaves : (s : Servicing) (t : Choice) → EnterLeaves s (entered s t)
unfolding entered
entered_leaves s t = record {
  registers = λ r n1 n2 n10 n11. enter_others s.registers (new_frame s) (table_address s.table t.id) (table_word s.memory (table_address s.table t.id)) r n1 n2 n10 n11;
  fields = (refl, refl, refl, refl);
  memory = refl;
  device = refl;
  controller = (t.id, refl);
  dead = λ j h. marked_other frame_size s.dead (new_frame s - RAM_BASE) true j h;
  others = (_, refl);
  listed = (_, refl);
  bodies = refl;
}

pub left_leaves : (s : Servicing) (v : Live) (vs : List Live) → s.live ≡ v ∷ vs → LeaveLeaves s (left s v vs)
unfolding left
left_leaves s v [] e = record {
  registers = λ r n1 n2 n10 n11. leave_others s.registers v s.scratch r n1 n2 n10 n11;
  fields = (refl, refl, refl, refl, refl);
  memory = refl;
  outside = refl;
  dead = refl;
  others = (v, e);
  counts = (refl, refl);
}
left_leaves s v (w ∷ ws) e = record {
  registers = λ r n1 n2 n10 n11. leave_others s.registers v (raised_pointer s.registers) r n1 n2 n10 n11;
  fields = (refl, refl, refl, refl, refl);
  memory = refl;
  outside = refl;
  dead = refl;
  others = (v, e);
  counts = (refl, refl);
}

pub leaves_alone : (m : Meanings) (es : List Event) (s : Servicing) (kind : Move) (t : Servicing) → IsMoveBy m es s kind t → LeavesAlone kind s t
leaves_alone m es s Enter t h = subst (EnterLeaves s) (sym h.made) (entered_leaves s h.choice)
leaves_alone m es s Leave t h = subst (LeaveLeaves s) (sym h.made) (left_leaves s h.innermost h.others h.is_live)
leaves_alone m es s Body t h = (at_made (IsBody m es s) (body m es s) (body_leaves m es s) Body t h.made).1

-- ---- Enter and then Leave
raised : (p : ℕ) → p < 2 ^ 32 → word (frame_below p + frame_size) ≡ p
raised p l = omega arith

back_by : (s : Servicing) (t : Choice) (live : List Live) → length s.registers ≡ 32 → register s.registers 2 < 2 ^ 32 → s.scratch < 2 ^ 32
    → GivesBack (record s { live = live }) (left_by (entered (record s { live = live }) t) (entered (record s { live = live }) t).live)
unfolding entered left marks
back_by s t [] count sp scratch =
    let at = table_address s.table t.id in
    let target = table_word s.memory at in
    record {
      registers = leave-enter s.registers (frame_below s.scratch) at target _ (register s.registers 2) count refl refl refl refl;
      pc = refl;
      fields = (refl, refl, refl, refl, ap (λ f. word (f + frame_size)) (enters s.registers (frame_below s.scratch) at target count).sp ∙ raised s.scratch scratch);
      memory = refl;
      device = refl;
      controller = (t.id, refl);
      dead = λ j h. marked_other frame_size s.dead (frame_below s.scratch - RAM_BASE) true j h;
      live = refl;
      bodies = refl;
    }
back_by s t (w ∷ ws) count sp scratch =
    let at = table_address s.table t.id in
    let target = table_word s.memory at in
    let f = frame_below (register s.registers 2) in
    record {
      registers = leave-enter s.registers f at target _ (raised_pointer (enter_registers s.registers f at target)) count refl refl refl (ap (λ f. word (f + frame_size)) (enters s.registers f at target count).sp ∙ raised (register s.registers 2) sp);
      pc = refl;
      fields = (refl, refl, refl, refl, refl);
      memory = refl;
      device = refl;
      controller = (t.id, refl);
      dead = λ j h. marked_other frame_size s.dead (f - RAM_BASE) true j h;
      live = refl;
      bodies = refl;
    }

pub gives_back : (s : Servicing) (t : Choice) → length s.registers ≡ 32 → register s.registers 2 < 2 ^ 32 → s.scratch < 2 ^ 32 → GivesBack s (left_by (entered s t) (entered s t).live)
gives_back s t count sp scratch = back_by s t s.live count sp scratch
