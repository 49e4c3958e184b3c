-- The tests of a broken convention. Those of a move are made in the order in which they stand here, and the first that holds tells its kind.
use Rattle.std.specs.Prelude.{ℕ, zero, suc, ◌+◌, ◌%◌, ◌==◌, Bool, true, false, not, ◌&&◌, ◌||◌, List, [], ◌∷◌, Option, Some, None, if◌then◌else◌}
use Rattle.hart_words.specs.TwosComplement.{word}
use Rattle.hart_words.specs.Registers.{register}
use Rattle.hart_memory.specs.Place.{holds, is_in_ram}
use Rattle.hart_exec.specs.declared.effect.Effect.{Effect}
use Rattle.hart_exec.specs.declared.effect.Effect.TheVariants.{Go, Load, Store, System}
use Rattle.rv_encoding.specs.declared.instruction.Ins.{Ins}
use Rattle.hart_board.specs.declared.trap.TheConstants.{FETCH_FAULT}
use Rattle.chain_moves.specs.Slot.{base, back, frame_size, in_slot}
use Rattle.chain_moves.specs.Bytes.{some_byte, is_hidden, in_frame, in_live_frame}
use Rattle.chain_moves.specs.Convention.{is_permitted}
use Rattle.chain_moves.specs.Servicing.{is_foreground}
use Rattle.chain_moves.specs.declared.mark.Mark.{Mark}
use Rattle.chain_moves.specs.declared.broken.Broken.{Broken}
use Rattle.chain_moves.specs.declared.broken.Broken.TheVariants.{CsrTouched, RegisterLost, ReadsDispatch, WritesFrame, StackBad, BadTable, NoDispatcher, HardVectored, EnteredDispatch, Exception}

-- the first that holds
unfoldable pub first_broken : List (Bool × Broken) → Option Broken
first_broken [] = None
first_broken (row ∷ rows) = if row.0 then Some row.1 else first_broken rows

-- ---- Enter

-- by the live frames, the dead bytes, whether the top is hardware-vectored, where interrupts go, the new frame's address, and the address of the table's word
abbrev pub enter_tests : List Mark → List Bool → Bool → ℕ → ℕ → ℕ → List (Bool × Broken)
enter_tests live dead shv vector frame at =
    (shv, HardVectored)
    ∷ (not (vector == base), NoDispatcher)
    ∷ (not (frame % 4 == 0), StackBad)
    ∷ (not (is_in_ram frame frame_size), StackBad)
    ∷ (some_byte (in_live_frame live) frame frame_size, StackBad)
    -- the answer of mnxti would read as no claim
    ∷ (at == 0, BadTable)
    ∷ (not (holds at 4), BadTable)
    ∷ (some_byte (is_hidden dead) at 4, BadTable)
    ∷ (some_byte (in_frame frame) at 4, BadTable)
    ∷ []

-- ---- Body

-- a half-word of the instruction
abbrev pub half_tests : List Bool → ℕ → List (Bool × Broken)
half_tests dead at = (not (holds at 2), Exception FETCH_FAULT) ∷ (some_byte (is_hidden dead) at 2, ReadsDispatch) ∷ []

-- pc, and the half-word there
abbrev pub first_tests : List Bool → ℕ → List (Bool × Broken)
first_tests dead pc = (in_slot pc, EnteredDispatch) ∷ half_tests dead pc

-- by whether another half-word follows
abbrev pub second_tests : Bool → List Bool → ℕ → List (Bool × Broken)
second_tests false dead pc = []
second_tests true dead pc = half_tests dead (word (pc + 2))

-- the instruction
abbrev pub instruction_tests : List Mark → Ins → List (Bool × Broken)
instruction_tests live ins = (not (is_permitted (is_foreground live) ins), CsrTouched) ∷ []

-- its access, once the instruction is known to raise no exception
abbrev pub access_tests : List Mark → List Bool → Effect → List (Bool × Broken)
access_tests live dead (Go rd value target) = []
access_tests live dead (Load rd at width signed) = (some_byte (is_hidden dead) at width, ReadsDispatch) ∷ []
access_tests live dead (Store at width value) = (some_byte (in_live_frame live) at width, WritesFrame) ∷ []
access_tests live dead System = []

-- ra, a0 and a1 are the dispatcher's
abbrev pub is_free : ℕ → Bool
is_free r = r == 1 || (r == 10 || r == 11)

-- each of the first n registers that is not free is as it was
unfoldable pub are_kept : List ℕ → List ℕ → ℕ → Bool
are_kept kept registers zero = true
are_kept kept registers (suc r) = (is_free r || register registers r == register kept r) && are_kept kept registers r

-- a handler has come to where it returns, and a register is not as it was when the handler began
unfoldable pub is_lost : List Mark → ℕ → List ℕ → Bool
is_lost [] pc registers = false
is_lost (v ∷ vs) pc registers = (pc == back) && not (are_kept v.kept registers 32)

-- after the body retired: the live frames, pc and the registers then
abbrev pub return_tests : List Mark → ℕ → List ℕ → List (Bool × Broken)
return_tests live pc registers = (is_lost live pc registers, RegisterLost) ∷ []
