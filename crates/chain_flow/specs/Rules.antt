-- The rules of the checker at one address.
use Rattle.std.specs.Prelude.{ℕ, zero, suc, ◌+◌, ◌%◌, ◌==◌, Bool, true, false, not, ◌&&◌, ◌||◌, nat_le, nat_lt, List, [], ◌∷◌, Option, Some, None, if◌then◌else◌}
use Rattle.hart_words.specs.TwosComplement.{word}
use Rattle.hart_exec.specs.Access.{load_width, store_width}
use Rattle.rv_encoding.specs.declared.instruction.Ins.{Ins}
use Rattle.rv_encoding.specs.declared.instruction.Ins.TheVariants.{Jal, Jalr, Branch, Load, Store, Ecall, Ebreak, Mret, Csr}
use Rattle.hart_memory.specs.Bytes.{number_at}
use Rattle.hart_memory.specs.Place.{is_in_rom}
use Rattle.hart_memory.specs.Fetch.{fetched, is_long}
use Rattle.hart_memory.specs.declared.fetched.Fetched.{Fetched}
use Rattle.hart_memory.specs.declared.fetched.Fetched.TheVariants.{Bits, Missing}
use Rattle.rvc_encoding.specs.Decoding.{decoded}
use Rattle.chain_moves.specs.Slot.{in_slot}
use Rattle.chain_moves.specs.Bytes.{some_byte}
use Rattle.chain_flow.specs.Flow.{Value, Entry, Const, Stack, Flow, value_of, depth, found}
use Rattle.chain_flow.specs.Transfer.{address_of, flow_after, targets}
use Rattle.chain_flow.specs.declared.region.Region.{Region}
use Rattle.chain_flow.specs.declared.lint_why.LintWhy.{LintWhy}
use Rattle.chain_flow.specs.declared.lint_why.LintWhy.TheVariants.{CodeOutside, NotSpelled, Backwards, UnknownTarget, UnknownAddress, StackAccess, RegionAccess, StackPointer, RegisterChanged}
use Rattle.chain_flow.specs.declared.lint_why.LintWhy.TheVariants.{System as SystemKind}

-- the first rule that holds
unfoldable pub first_why : List (Bool × LintWhy) → Option LintWhy
first_why [] = None
first_why (row ∷ rows) = if row.0 then Some row.1 else first_why rows

-- ---- code

-- the half-word isn't in ROM, or has a byte in the slot
abbrev pub is_bad_half : ℕ → Bool
is_bad_half at = not (is_in_rom at 2) || some_byte in_slot at 2

-- so is a half-word of the fetch
abbrev pub is_outside : List ℕ → ℕ → Bool
is_outside code at = is_bad_half at || (is_long (number_at code at 2) && is_bad_half (word (at + 2)))

-- ---- instructions

-- a system instruction but WFI
abbrev pub is_other_system : Ins → Bool
is_other_system Ecall = true
is_other_system Ebreak = true
is_other_system Mret = true
is_other_system (Csr op rd source csr) = true
is_other_system _ = false

-- a jump or a branch may go to this address or a lower one
abbrev pub goes_back : ℕ → Ins → Bool
goes_back at (Jal rd offset) = nat_le (word (at + offset)) at
goes_back at (Branch op rs1 rs2 offset) = nat_le (word (at + offset)) at
goes_back at _ = false

-- what ra began with
abbrev pub is_return_address : Value → Bool
is_return_address (Entry r) = r == 1
is_return_address _ = false

-- a jump to it
abbrev pub is_return : Flow → Ins → Bool
is_return f (Jalr rd rs1 imm) = rd == 0 && (imm == 0 && is_return_address (value_of f.values rs1))
is_return f _ = false

-- a jump by a register that isn't the return
abbrev pub is_unknown_target : Flow → Ins → Bool
is_unknown_target f (Jalr rd rs1 imm) = not (is_return f (Jalr rd rs1 imm))
is_unknown_target f _ = false

-- ---- accesses, by their address

-- neither a number nor on the stack
abbrev pub is_unknown_address : Value → Bool
is_unknown_address (Const c) = false
is_unknown_address (Stack k) = false
is_unknown_address _ = true

-- a word of four bytes, below the start and not below the stack pointer
abbrev pub is_own_word : Value → ℕ → ℕ → Bool
is_own_word (Stack sp) width k = width == 4 && (depth k % 4 == 0 && (nat_le 4 (depth k) && nat_le (depth k) (depth sp)))
is_own_word _ width k = false

abbrev pub is_absent : Option Value → Bool
is_absent None = true
is_absent (Some v) = false

-- an access to the stack that isn't to a word of its own, or a load of one that wasn't stored
abbrev pub is_bad_stack : Flow → Bool → ℕ → Value → Bool
is_bad_stack f loads width (Stack k) = not (is_own_word (value_of f.values 2) width k) || (loads && is_absent (found k f.words))
is_bad_stack f loads width _ = false

abbrev pub in_region : Region → ℕ → Bool
in_region region at = nat_le region.low at && nat_lt at region.high

-- an access by a number that meets the region, or a load from the slot
abbrev pub is_bad_const : Region → Bool → ℕ → Value → Bool
is_bad_const region loads width (Const at) = some_byte (in_region region) at width || (loads && some_byte in_slot at width)
is_bad_const region loads width _ = false

abbrev pub access_rules_at : Region → Flow → Bool → ℕ → Value → List (Bool × LintWhy)
access_rules_at region f loads width place =
    (is_unknown_address place, UnknownAddress) ∷ (is_bad_stack f loads width place, StackAccess) ∷ (is_bad_const region loads width place, RegionAccess) ∷ []

abbrev pub access_rules : Region → Flow → Ins → List (Bool × LintWhy)
access_rules region f (Load op rd rs1 imm) = access_rules_at region f true (load_width op) (address_of f rs1 imm)
access_rules region f (Store op rs1 rs2 imm) = access_rules_at region f false (store_width op) (address_of f rs1 imm)
access_rules region f _ = []

-- ---- afterwards

-- the stack pointer isn't a multiple of 4 at most 4,096 bytes below the start
abbrev pub is_bad_pointer : Value → Bool
is_bad_pointer (Stack k) = not (depth k % 4 == 0 && nat_le (depth k) 4096)
is_bad_pointer _ = true

-- the registers that a handler may change
abbrev pub is_free : ℕ → Bool
is_free r = r == 0 || (r == 1 || (r == 10 || r == 11))

-- register r has what it began with, which is Stack 0 for register 2
abbrev pub is_entry : ℕ → Value → Bool
is_entry r (Entry q) = r == q
is_entry r (Stack k) = r == 2 && k == 0
is_entry r _ = false

-- each of the first n registers that is not free is what it was
unfoldable pub are_entries : List Value → ℕ → Bool
are_entries values zero = true
are_entries values (suc r) = (is_free r || is_entry r (value_of values r)) && are_entries values r

-- a return, and a register isn't as it was
abbrev pub is_changed : Flow → Ins → Bool
is_changed f (Jalr rd rs1 imm) = not (are_entries f.values 32)
is_changed f _ = false

-- ---- all rules in their order

-- those that are tested before the instruction changes what is known
abbrev pub rules_before : Region → ℕ → Flow → Ins → List (Bool × LintWhy)
rules_before region at f ins = (is_other_system ins, SystemKind) ∷ (goes_back at ins, Backwards) ∷ (is_unknown_target f ins, UnknownTarget) ∷ access_rules region f ins

-- and after
abbrev pub rules_after : Flow → Flow → Ins → List (Bool × LintWhy)
rules_after f after ins = (is_bad_pointer (value_of after.values 2), StackPointer) ∷ (is_changed f ins, RegisterChanged) ∷ []

abbrev pub or_why : Option LintWhy → Option LintWhy → Option LintWhy
or_why (Some why) next = Some why
or_why None next = next

unfoldable pub broken_rule : Region → ℕ → Flow → Flow → Ins → Option LintWhy
broken_rule region at f after ins = or_why (first_why (rules_before region at f ins)) (first_why (rules_after f after ins))

-- ---- one address

-- a rule holds, or none does: what is known afterwards, and where the instruction goes on
pub data Looked : Type 0 where
  Refused : LintWhy → Looked
  Passed : Flow → List ℕ → Looked

abbrev pub looked_by : Option LintWhy → Flow → List ℕ → Looked
looked_by (Some why) after next = Refused why
looked_by None after next = Passed after next

-- by what the bits spell
abbrev pub looked_ins : Region → ℕ → Flow → ℕ → Option Ins → Looked
looked_ins region at f length None = Refused NotSpelled
looked_ins region at f length (Some ins) = looked_by (broken_rule region at f (flow_after at length f ins) ins) (flow_after at length f ins) (targets at length ins)

-- by what is fetched; nothing is missing where each half-word is in ROM
abbrev pub looked_fetched : Region → ℕ → Flow → Fetched → Looked
looked_fetched region at f (Missing a) = Refused CodeOutside
looked_fetched region at f (Bits bits length) = looked_ins region at f length (decoded bits length)

-- by whether a half-word is none of the code
abbrev pub looked_code : List ℕ → Region → ℕ → Flow → Bool → Looked
looked_code code region at f true = Refused CodeOutside
looked_code code region at f false = looked_fetched region at f (fetched (record { rom = code; ram = [] }) at)

-- the instruction at an address of ROM, where so much is known
unfoldable pub looked : List ℕ → Region → ℕ → Flow → Looked
looked code region at f = looked_code code region at f (is_outside code at)
