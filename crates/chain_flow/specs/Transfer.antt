-- What each instruction makes of a flow state.
use Rattle.std.specs.Prelude.{ℕ, ◌+◌, ◌==◌, List, [], ◌∷◌, Option, Some, None, if◌then◌else◌}
use Rattle.hart_words.specs.TwosComplement.{word}
use Rattle.hart_exec.specs.Access.{load_width, store_width}
use Rattle.rv_encoding.specs.declared.instruction.Ins.{Ins}
use Rattle.rv_encoding.specs.declared.instruction.Ins.TheVariants.{Lui, Auipc, Jal, Jalr, Branch, Load, Store, Imm, Reg, Csr}
use Rattle.rv_encoding.specs.declared.operations.ImmOp.{ImmOp}
use Rattle.rv_encoding.specs.declared.operations.ImmOp.TheVariants.{Addi}
use Rattle.rv_encoding.specs.declared.operations.RegOp.{RegOp}
use Rattle.rv_encoding.specs.declared.operations.RegOp.TheVariants.{Add}
use Rattle.chain_flow.specs.Flow.{Value, Entry, Const, Stack, Unknown, StackWord, Flow, value_of, set_value, depth, found, with_stack_word, words_above}

-- a value plus an immediate; with 0 it is a copy
abbrev pub plus : Value → ℕ → Value
plus (Entry r) imm = if imm == 0 then Entry r else Unknown
plus (Const c) imm = Const (word (c + imm))
plus (Stack k) imm = Stack (word (k + imm))
plus Unknown imm = Unknown

abbrev pub immediate_value : ImmOp → Value → ℕ → Value
immediate_value Addi v imm = plus v imm
immediate_value _ v imm = Unknown

-- an addition with x0 as its first operand copies the second
abbrev pub sum_value : RegOp → ℕ → Value → Value
sum_value Add rs1 v = if rs1 == 0 then v else Unknown
sum_value _ rs1 v = Unknown

abbrev pub value_or_unknown : Option Value → Value
value_or_unknown None = Unknown
value_or_unknown (Some v) = v

-- a load of a whole word of the stack gives its value
abbrev pub loaded_value : List StackWord → ℕ → Value → Value
loaded_value ws width (Stack k) = if width == 4 then value_or_unknown (found k ws) else Unknown
loaded_value ws width _ = Unknown

-- a store of one sets it
abbrev pub stored_words : List StackWord → ℕ → Value → Value → List StackWord
stored_words ws width (Stack k) v = if width == 4 then with_stack_word k v ws else ws
stored_words ws width _ v = ws

-- the address of a load or a store
abbrev pub address_of : Flow → ℕ → ℕ → Value
address_of f rs1 imm = plus (value_of f.values rs1) imm

-- the registers after the instruction of that length at an address
abbrev pub values_after : ℕ → ℕ → Flow → Ins → List Value
values_after at length f (Lui rd imm) = set_value f.values rd (Const imm)
values_after at length f (Auipc rd imm) = set_value f.values rd (Const (word (at + imm)))
values_after at length f (Jal rd offset) = set_value f.values rd (Const (word (at + length)))
values_after at length f (Jalr rd rs1 imm) = set_value f.values rd Unknown
values_after at length f (Load op rd rs1 imm) = set_value f.values rd (loaded_value f.words (load_width op) (address_of f rs1 imm))
values_after at length f (Imm op rd rs1 imm) = set_value f.values rd (immediate_value op (value_of f.values rs1) imm)
values_after at length f (Reg op rd rs1 rs2) = set_value f.values rd (sum_value op rs1 (value_of f.values rs2))
values_after at length f (Csr op rd source csr) = set_value f.values rd Unknown
values_after at length f _ = f.values

-- the stack words, before any is forgotten
abbrev pub words_after : Flow → Ins → List StackWord
words_after f (Store op rs1 rs2 imm) = stored_words f.words (store_width op) (address_of f rs1 imm) (value_of f.values rs2)
words_after f _ = f.words

-- those below the stack pointer are forgotten
abbrev pub words_kept : Value → List StackWord → List StackWord
words_kept (Stack k) ws = words_above (depth k) ws
words_kept _ ws = ws

-- what is known after the instruction
unfoldable pub flow_after : ℕ → ℕ → Flow → Ins → Flow
flow_after at length f ins = record { values = values_after at length f ins; words = words_kept (value_of (values_after at length f ins) 2) (words_after f ins) }

-- where it goes on; a return goes nowhere in the handler
abbrev pub targets : ℕ → ℕ → Ins → List ℕ
targets at length (Jal rd offset) = word (at + offset) ∷ []
targets at length (Jalr rd rs1 imm) = []
targets at length (Branch op rs1 rs2 offset) = word (at + offset) ∷ word (at + length) ∷ []
targets at length _ = word (at + length) ∷ []
