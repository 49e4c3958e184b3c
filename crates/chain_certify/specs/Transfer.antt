-- What each instruction makes of a flow state.
use Rattle.std.specs.Prelude.{ℕ, ◌+◌, ◌-◌, ◌*◌, ◌/◌, ◌%◌, ◌^◌, ◌==◌, Bool, ◌&&◌, ◌||◌, min, nat_le, nat_lt, List, Option, Some, None, if◌then◌else◌}
use Rattle.hart_words.specs.TwosComplement.{word}
use Rattle.hart_exec.specs.Access.{load_width, extends_sign, store_width, extended}
use Rattle.hart_exec.specs.Arithmetic.{register_result, on_registers}
use Rattle.hart_memory.specs.Bytes.{number_at}
use Rattle.hart_memory.specs.Place.{is_in_rom}
use Rattle.hart_memory.specs.declared.address_map.TheConstants.{RAM_BASE, BANK_LEN}
use Rattle.rv_encoding.specs.declared.instruction.Ins.{Ins}
use Rattle.rv_encoding.specs.declared.instruction.Ins.TheVariants.{Lui, Auipc, Jal, Jalr, Load, Store, Imm, Reg, Csr}
use Rattle.rv_encoding.specs.declared.operations.ImmOp.{ImmOp}
use Rattle.rv_encoding.specs.declared.operations.ImmOp.TheVariants.{Addi}
use Rattle.rv_encoding.specs.declared.operations.LoadOp.{LoadOp}
use Rattle.rv_encoding.specs.declared.operations.LoadOp.TheVariants.{Lbu, Lhu}
use Rattle.rv_encoding.specs.declared.operations.RegOp.{RegOp}
use Rattle.rv_encoding.specs.declared.operations.RegOp.TheVariants.{Add, Sub, Sll, Slt, Sltu, Srl, And, Mul, Remu}
use Rattle.chain_certify.specs.Flow.{Value, Entry, Const, Stack, Range, Unknown, StackWord, Flow, value_of, set_value, low, high, ranged, depth, found, with_stack_word, words_above}

-- ---- arithmetic

-- the word of a number from one to another
abbrev pub wrapped_range : ℕ → ℕ → Value
wrapped_range least greatest =
    if nat_le least greatest && nat_lt greatest (2 ^ 32) then ranged least greatest
    else if nat_le (2 ^ 32) least && (nat_le least greatest && nat_lt greatest (2 ^ 33)) then ranged (least - 2 ^ 32) (greatest - 2 ^ 32)
    else Unknown

-- a value plus an immediate; with 0 it is a copy
abbrev pub plus : Value → ℕ → Value
plus (Entry r) imm = if imm == 0 then Entry r else Unknown
plus (Const c) imm = Const (word (c + imm))
plus (Stack k) imm = Stack (word (k + imm))
plus (Range least greatest) imm = wrapped_range (least + imm) (greatest + imm)
plus Unknown imm = Unknown

-- by the least and the greatest of both operands
abbrev pub by_bounds : RegOp → Value → Value → Value
by_bounds Add v u = wrapped_range (low v + low u) (high v + high u)
by_bounds Sub v u = wrapped_range (low v + 2 ^ 32 - high u) (high v + 2 ^ 32 - low u)
by_bounds Mul v u = wrapped_range (low v * low u) (high v * high u)
by_bounds And v u = ranged 0 (min (high v) (high u))
by_bounds Slt v u = Range 0 1
by_bounds Sltu v u = Range 0 1
by_bounds Remu v u = if nat_le 1 (low u) then ranged 0 (high u - 1) else Unknown
by_bounds Sll v (Const c) = wrapped_range (low v * 2 ^ (c % 32)) (high v * 2 ^ (c % 32))
by_bounds Srl v (Const c) = ranged (low v / 2 ^ (c % 32)) (high v / 2 ^ (c % 32))
by_bounds _ v u = Unknown

-- of two numbers it is the operation's own result
abbrev pub computed : RegOp → Value → Value → Value
computed op (Const c) (Const d) = Const (register_result op c d)
computed op v u = by_bounds op v u

abbrev pub immediate_value : ImmOp → Value → ℕ → Value
immediate_value Addi v imm = plus v imm
immediate_value op v imm = computed (on_registers op) v (Const imm)

-- an addition with x0 as its first operand copies the second, and one with a number adds to the stack pointer
abbrev pub added : ℕ → Value → Value → Value
added rs1 v (Const c) = if rs1 == 0 then Const c else plus v c
added rs1 v u = if rs1 == 0 then u else by_bounds Add v u

abbrev pub sum_value : RegOp → ℕ → Value → Value → Value
sum_value Add rs1 v u = added rs1 v u
sum_value op rs1 v u = computed op v u

-- ---- loads and stores

abbrev pub value_or_unknown : Option Value → Value
value_or_unknown None = Unknown
value_or_unknown (Some v) = v

-- what a load from ROM or RAM gives by its width alone
abbrev pub by_width : LoadOp → Value
by_width Lbu = Range 0 0xFF
by_width Lhu = Range 0 0xFFFF
by_width _ = Unknown

-- so many bytes at each place from the least to the greatest are in ROM or in RAM
abbrev pub is_memory : ℕ → ℕ → ℕ → Bool
is_memory least greatest width = nat_le (greatest + width) BANK_LEN || (nat_le RAM_BASE least && nat_le (greatest + width) (RAM_BASE + BANK_LEN))

-- a load of a whole word of the stack gives its value, and one from ROM what stands there
abbrev pub loaded_value : List ℕ → List StackWord → LoadOp → Value → Value
loaded_value code ws op (Stack k) = if load_width op == 4 then value_or_unknown (found k ws) else Unknown
loaded_value code ws op (Const c) =
    if is_in_rom c (load_width op) then Const (extended (number_at code c (load_width op)) (load_width op) (extends_sign op))
    else if is_memory c c (load_width op) then by_width op else Unknown
loaded_value code ws op (Range least greatest) = if is_memory least greatest (load_width op) then by_width op else Unknown
loaded_value code ws op _ = Unknown

-- a store of a word of the stack sets it
abbrev pub stored_words : List StackWord → ℕ → Value → Value → List StackWord
stored_words ws width (Stack k) v = if width == 4 then with_stack_word k v ws else ws
stored_words ws width _ v = ws

-- the address of a load or a store
abbrev pub address_of : Flow → ℕ → ℕ → Value
address_of f rs1 imm = plus (value_of f.values rs1) imm

-- ---- instructions

-- the registers after the instruction of that length at an address
abbrev pub values_after : List ℕ → ℕ → ℕ → Flow → Ins → List Value
values_after code at length f (Lui rd imm) = set_value f.values rd (Const imm)
values_after code at length f (Auipc rd imm) = set_value f.values rd (Const (word (at + imm)))
values_after code at length f (Jal rd offset) = set_value f.values rd (Const (word (at + length)))
values_after code at length f (Jalr rd rs1 imm) = set_value f.values rd (Const (word (at + length)))
values_after code at length f (Load op rd rs1 imm) = set_value f.values rd (loaded_value code f.words op (address_of f rs1 imm))
values_after code at length f (Imm op rd rs1 imm) = set_value f.values rd (immediate_value op (value_of f.values rs1) imm)
values_after code at length f (Reg op rd rs1 rs2) = set_value f.values rd (sum_value op rs1 (value_of f.values rs1) (value_of f.values rs2))
values_after code at length f (Csr op rd source csr) = set_value f.values rd Unknown
values_after code at length f _ = f.values

-- the stack words, before any is forgotten
abbrev pub words_after : Flow → Ins → List StackWord
words_after f (Store op rs1 rs2 imm) = stored_words f.words (store_width op) (address_of f rs1 imm) (value_of f.values rs2)
words_after f _ = f.words

-- those below the stack pointer are forgotten
abbrev pub words_kept : Value → List StackWord → List StackWord
words_kept (Stack k) ws = words_above (depth k) ws
words_kept _ ws = ws

-- what is known after the instruction
unfoldable pub flow_after : List ℕ → ℕ → ℕ → Flow → Ins → Flow
flow_after code at length f ins = record { values = values_after code at length f ins; words = words_kept (value_of (values_after code at length f ins) 2) (words_after f ins) }
