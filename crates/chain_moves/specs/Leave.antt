-- Leave: the innermost service ends. The bytes of its frame stay dead.
use Rattle.std.specs.Prelude.{ℕ, ◌+◌, List, [], ◌∷◌}
use Rattle.hart_words.specs.TwosComplement.{word}
use Rattle.hart_words.specs.Registers.{register, with_register}
use Rattle.chain_moves.specs.Slot.{frame_size}
use Rattle.chain_moves.specs.Servicing.{Live, Servicing}

-- the registers that come back: ra, a0, a1 and sp
unfoldable pub leave_registers : List ℕ → Live → ℕ → List ℕ
leave_registers registers v sp = with_register (with_register (with_register (with_register registers 1 v.ra) 10 v.a0) 11 v.a1) 2 sp

-- the stack pointer below which the frame was made
abbrev pub raised_pointer : List ℕ → ℕ
raised_pointer registers = word (register registers 2 + frame_size)

-- the service v leaves, and these stay live; the outermost one exchanges sp and scratch
unfoldable pub left : Servicing → Live → List Live → Servicing
left s v [] = record s { registers = leave_registers s.registers v s.scratch; pc = v.pc; scratch = raised_pointer s.registers; live = [] }
left s v (w ∷ ws) = record s { registers = leave_registers s.registers v (raised_pointer s.registers); pc = v.pc; live = w ∷ ws }

-- the innermost of these live services leaves, where there is one
abbrev pub left_by : Servicing → List Live → Servicing
left_by s [] = s
left_by s (v ∷ vs) = left s v vs
