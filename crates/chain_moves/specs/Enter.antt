-- Enter: a service begins.
use Rattle.std.specs.Prelude.{ℕ, suc, ◌+◌, ◌-◌, ◌*◌, ◌^◌, Bool, true, ◌&&◌, List, [], ◌∷◌, ◌++◌, length, Option, Some, None}
use Rattle.hart_words.specs.TwosComplement.{word}
use Rattle.hart_words.specs.Registers.{register, with_register}
use Rattle.hart_exec.specs.Effect.{even}
use Rattle.hart_memory.specs.Memory.{Memory}
use Rattle.hart_memory.specs.Access.{loaded}
use Rattle.hart_memory.specs.declared.address_map.TheConstants.{RAM_BASE}
use Rattle.clic_regs.specs.LineChange.{claimed}
use Rattle.clic_select.specs.declared.choice.Choice.{Choice}
use Rattle.clic_trap.specs.Due.{has_top_above}
use Rattle.chain_moves.specs.Slot.{back, frame_size}
use Rattle.chain_moves.specs.Servicing.{Servicing, marks, innermost_level}
use Rattle.chain_moves.specs.Bytes.{marked}
use Rattle.chain_moves.specs.declared.mark.Mark.{Mark}

-- handlers always take interrupts
abbrev pub takes_interrupts : List Mark → Bool → Bool
takes_interrupts [] on = on
takes_interrupts (v ∷ vs) on = true

-- interrupts are taken, and the top is above the innermost level and above the threshold
unfoldable pub is_enter_due : Servicing → Option Choice → Bool
is_enter_due s top = takes_interrupts (marks s.live) s.on && has_top_above top (innermost_level (marks s.live)) s.threshold

-- the outermost service gets the stack that the scratch register points to, and those inside go on with it
abbrev pub pointer_by : List Mark → ℕ → ℕ → ℕ
pointer_by [] sp scratch = scratch
pointer_by (v ∷ vs) sp scratch = sp

abbrev pub pointer : Servicing → ℕ
pointer s = pointer_by (marks s.live) (register s.registers 2) s.scratch

-- the frame below a pointer
abbrev pub frame_below : ℕ → ℕ
frame_below pointer = word (pointer + (2 ^ 32 - frame_size))

abbrev pub new_frame : Servicing → ℕ
new_frame s = frame_below (pointer s)

-- the outermost Enter leaves the foreground's sp there
abbrev pub scratch_after : List Mark → ℕ → ℕ → ℕ
scratch_after [] sp scratch = sp
scratch_after (v ∷ vs) sp scratch = scratch

-- where the table has the handler of an input
abbrev pub table_address : ℕ → ℕ → ℕ
table_address table id = word (table + 4 * id)

abbrev pub word_or_zero : Option ℕ → ℕ
word_or_zero None = 0
word_or_zero (Some w) = w

-- the word there
unfoldable pub table_word : Memory → ℕ → ℕ
table_word m at = word_or_zero (loaded m at 4)

-- the registers as a handler begins: sp is the frame, a0 the address of the table's word, a1 that word, and ra where it returns
unfoldable pub enter_registers : List ℕ → ℕ → ℕ → ℕ → List ℕ
enter_registers registers frame at target = with_register (with_register (with_register (with_register registers 2 frame) 10 at) 11 target) 1 back

-- the state as the handler begins whose word stands in the table, with the frame and the registers then
abbrev pub entered_with : Servicing → Choice → ℕ → ℕ → List ℕ → Servicing
entered_with s t frame target registers = record s {
  registers = registers;
  pc = even target;
  was = true;
  scratch = scratch_after (marks s.live) (register s.registers 2) s.scratch;
  outside = record s.outside { clic = claimed s.outside.clic t.id };
  live = record {
    number = t.id;
    mark = record { level = t.level; frame = frame; kept = registers };
    pc = s.pc;
    ra = register s.registers 1;
    a0 = register s.registers 10;
    a1 = register s.registers 11;
  } ∷ s.live;
  dead = marked s.dead (frame - RAM_BASE) frame_size true;
  services = s.services ++ record { number = t.id; level = t.level; depth = suc (length s.live) } ∷ [];
}

abbrev pub entered_at : Servicing → Choice → ℕ → ℕ → ℕ → Servicing
entered_at s t frame at target = entered_with s t frame target (enter_registers s.registers frame at target)

unfoldable pub entered : Servicing → Choice → Servicing
entered s t = entered_at s t (new_frame s) (table_address s.table t.id) (table_word s.memory (table_address s.table t.id))
