-- The rules of the checker at one node.
use Rattle.std.specs.Prelude.{ℕ, zero, suc, ◌+◌, ◌%◌, ◌==◌, Bool, true, false, not, ◌&&◌, ◌||◌, nat_le, nat_lt, List, [], ◌∷◌, Option, Some, None, if◌then◌else◌}
use Rattle.hart_words.specs.TwosComplement.{word}
use Rattle.hart_exec.specs.Access.{load_width, store_width}
use Rattle.hart_exec.specs.Effect.{even}
use Rattle.rv_encoding.specs.declared.instruction.Ins.{Ins}
use Rattle.rv_encoding.specs.declared.instruction.Ins.TheVariants.{Jal, Jalr, Branch, Load, Store}
use Rattle.hart_memory.specs.Fetch.{fetched}
use Rattle.hart_memory.specs.declared.fetched.Fetched.{Fetched}
use Rattle.hart_memory.specs.declared.fetched.Fetched.TheVariants.{Bits, Missing}
use Rattle.rvc_encoding.specs.Decoding.{decoded}
use Rattle.chain_moves.specs.Slot.{base, slot_end}
use Rattle.chain_flow.specs.declared.region.Region.{Region}
use Rattle.chain_flow.specs.declared.lint_why.LintWhy.{LintWhy}
use Rattle.chain_flow.specs.declared.lint_why.LintWhy.TheVariants.{CodeOutside, NotSpelled, UnknownTarget, UnknownAddress, StackAccess, RegionAccess, StackPointer, RegisterChanged}
use Rattle.chain_flow.specs.declared.lint_why.LintWhy.TheVariants.{System as SystemKind}
unfoldable pub use Rattle.chain_flow.specs.Rules.{first_why}
pub use Rattle.chain_flow.specs.Rules.{or_why, is_bad_half, is_outside, is_other_system, in_region, is_free}
use Rattle.chain_certify.specs.Flow.{Value, Entry, Const, Stack, Range, Flow, value_of, set_value, depth, found}
use Rattle.chain_certify.specs.Transfer.{address_of, flow_after}
use Rattle.chain_certify.specs.Sides.{side}

-- ---- jumps by a register

-- what ra began with
abbrev pub is_return_address : Value → Bool
is_return_address (Entry r) = r == 1
is_return_address _ = false

-- a jump to it
abbrev pub is_return : Flow → Ins → Bool
is_return f (Jalr rd rs1 imm) = rd == 0 && (imm == 0 && is_return_address (value_of f.values rs1))
is_return f _ = false

abbrev pub is_number : Value → Bool
is_number (Const c) = true
is_number _ = false

-- neither the return nor to a number
abbrev pub is_unknown_target : Flow → Ins → Bool
is_unknown_target f (Jalr rd rs1 imm) = not (is_return f (Jalr rd rs1 imm) || is_number (value_of f.values rs1))
is_unknown_target f _ = false

-- ---- accesses, by their address

-- neither a number nor on the stack
abbrev pub is_unknown_address : Value → Bool
is_unknown_address (Const c) = false
is_unknown_address (Range least greatest) = false
is_unknown_address (Stack k) = false
is_unknown_address _ = true

-- a word of four bytes, below the start and not below the stack pointer
abbrev pub is_own_word : Value → ℕ → ℕ → Bool
is_own_word (Stack sp) width k = width == 4 && (depth k % 4 == 0 && (nat_le 4 (depth k) && nat_le (depth k) (depth sp)))
is_own_word _ width k = false

abbrev pub is_absent : Option Value → Bool
is_absent None = true
is_absent (Some v) = false

-- an access to the stack that isn't to a word of its own, or a load of one that wasn't stored
abbrev pub is_bad_stack : Flow → Bool → ℕ → Value → Bool
is_bad_stack f loads width (Stack k) = not (is_own_word (value_of f.values 2) width k) || (loads && is_absent (found k f.words))
is_bad_stack f loads width _ = false

-- the addresses from a to b - 1 have one in common with those from c to d - 1
abbrev pub meets : ℕ → ℕ → ℕ → ℕ → Bool
meets a b c d = nat_lt a d && nat_lt c b

-- an access by a number from one to another that may meet the region, or a load that may meet the slot
abbrev pub is_bad_far : Region → Bool → ℕ → ℕ → ℕ → Bool
is_bad_far region loads width least greatest = meets least (greatest + width) region.low region.high || (loads && meets least (greatest + width) base slot_end)

abbrev pub is_bad_number : Region → Bool → ℕ → Value → Bool
is_bad_number region loads width (Const c) = is_bad_far region loads width c c
is_bad_number region loads width (Range least greatest) = is_bad_far region loads width least greatest
is_bad_number region loads width _ = false

abbrev pub access_rules_at : Region → Flow → Bool → ℕ → Value → List (Bool × LintWhy)
access_rules_at region f loads width place =
    (is_unknown_address place, UnknownAddress) ∷ (is_bad_stack f loads width place, StackAccess) ∷ (is_bad_number region loads width place, RegionAccess) ∷ []

abbrev pub access_rules : Region → Flow → Ins → List (Bool × LintWhy)
access_rules region f (Load op rd rs1 imm) = access_rules_at region f true (load_width op) (address_of f rs1 imm)
access_rules region f (Store op rs1 rs2 imm) = access_rules_at region f false (store_width op) (address_of f rs1 imm)
access_rules region f _ = []

-- ---- afterwards

-- the stack pointer isn't a multiple of 4 at most 4,096 bytes below the start
abbrev pub is_bad_pointer : Value → Bool
is_bad_pointer (Stack k) = not (depth k % 4 == 0 && nat_le (depth k) 4096)
is_bad_pointer _ = true

-- register r has what it began with, which is Stack 0 for register 2
abbrev pub is_entry : ℕ → Value → Bool
is_entry r (Entry q) = r == q
is_entry r (Stack k) = r == 2 && k == 0
is_entry r _ = false

-- each of the first n registers that is not free is what it was
unfoldable pub are_entries : List Value → ℕ → Bool
are_entries values zero = true
are_entries values (suc r) = (is_free r || is_entry r (value_of values r)) && are_entries values r

-- a return, and a register isn't as it was
abbrev pub is_changed : Flow → Ins → Bool
is_changed f (Jalr rd rs1 imm) = is_return f (Jalr rd rs1 imm) && not (are_entries f.values 32)
is_changed f _ = false

-- ---- all rules in their order

abbrev pub rules_before : Region → Flow → Ins → List (Bool × LintWhy)
rules_before region f ins = (is_other_system ins, SystemKind) ∷ (is_unknown_target f ins, UnknownTarget) ∷ access_rules region f ins

abbrev pub rules_after : Flow → Flow → Ins → List (Bool × LintWhy)
rules_after f after ins = (is_bad_pointer (value_of after.values 2), StackPointer) ∷ (is_changed f ins, RegisterChanged) ∷ []

unfoldable pub broken_rule : Region → Flow → Flow → Ins → Option LintWhy
broken_rule region f after ins = or_why (first_why (rules_before region f ins)) (first_why (rules_after f after ins))

-- ---- where it goes on, and what is known there

pub record Next : Type 0 where
  pub at : ℕ
  pub flow : Flow

abbrev pub to : ℕ → Flow → List Next
to at f = record { at = at; flow = f } ∷ []

-- a side of a branch
abbrev pub sided : Option (Value × Value) → ℕ → Flow → ℕ → ℕ → List Next → List Next
sided None at f rs1 rs2 ns = ns
sided (Some both) at f rs1 rs2 ns = record { at = at; flow = record f { values = set_value (set_value f.values rs1 both.0) rs2 both.1 } } ∷ ns

-- a jump by a register goes to a number
abbrev pub jumped : Value → ℕ → Flow → List Next
jumped (Const c) imm f = to (even (word (c + imm))) f
jumped _ imm f = []

-- a return goes nowhere in the handler
unfoldable pub goes_to : ℕ → ℕ → Flow → Flow → Ins → List Next
goes_to at length f after (Jal rd offset) = to (word (at + offset)) after
goes_to at length f after (Jalr rd rs1 imm) = if is_return f (Jalr rd rs1 imm) then [] else jumped (value_of f.values rs1) imm after
goes_to at length f after (Branch op rs1 rs2 offset) =
    sided (side op true (value_of f.values rs1) (value_of f.values rs2)) (word (at + offset)) after rs1 rs2
    (sided (side op false (value_of f.values rs1) (value_of f.values rs2)) (word (at + length)) after rs1 rs2 [])
goes_to at length f after _ = to (word (at + length)) after

-- ---- one node

-- a rule holds, or none does: where the instruction goes on
pub data Looked : Type 0 where
  Refused : LintWhy → Looked
  Passed : List Next → Looked

abbrev pub looked_by : Option LintWhy → List Next → Looked
looked_by (Some why) next = Refused why
looked_by None next = Passed next

-- by what the bits spell
abbrev pub looked_ins : List ℕ → Region → ℕ → Flow → ℕ → Option Ins → Looked
looked_ins code region at f length None = Refused NotSpelled
looked_ins code region at f length (Some ins) = looked_by (broken_rule region f (flow_after code at length f ins) ins) (goes_to at length f (flow_after code at length f ins) ins)

-- by what is fetched; nothing is missing where each half-word is in ROM
abbrev pub looked_fetched : List ℕ → Region → ℕ → Flow → Fetched → Looked
looked_fetched code region at f (Missing a) = Refused CodeOutside
looked_fetched code region at f (Bits bits length) = looked_ins code region at f length (decoded bits length)

-- by whether a half-word is none of the code
abbrev pub looked_code : List ℕ → Region → ℕ → Flow → Bool → Looked
looked_code code region at f true = Refused CodeOutside
looked_code code region at f false = looked_fetched code region at f (fetched (record { rom = code; ram = [] }) at)

-- the instruction at an address of ROM, where so much is known
unfoldable pub looked : List ℕ → Region → ℕ → Flow → Looked
looked code region at f = looked_code code region at f (is_outside code at)
