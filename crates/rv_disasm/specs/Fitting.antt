-- Which statements can be printed so that they are read again.
use Rattle.std.specs.Prelude.{ℕ, ◌+◌, ◌%◌, ◌^◌, Bool, true, false, ◌&&◌, ◌||◌, nat_lt, nat_le, ◌==◌, List, [], ◌∷◌}
use Rattle.asm_text.specs.Pieces.{is_mark}
use Rattle.rv_encoding.specs.Fits.{can_be_spelled}
use Rattle.rvc_encoding.specs.Fits.{fits_row}
use Rattle.asm_fields.specs.declared.field.Field.{Field}
use Rattle.asm_fields.specs.declared.field.Field.TheVariants.{Rd, Rs1, Rs2, Csr, Source, Pred, Succ, Signed, Below, Digits, Upper, Amount, Word as AnyWord, Label, Address, Target}
use Rattle.asm_fields.specs.declared.item.Item.{Item}
use Rattle.asm_fields.specs.declared.item.Item.TheVariants.{Operand, Mark}
use Rattle.rv_disasm.specs.declared.statement.Statement.{Statement}
use Rattle.rv_disasm.specs.declared.statement.Statement.TheVariants.{Entry, Org, Byte, Half, Word, Long, Short}
use Rattle.rv_disasm.specs.declared.values.Values.{Values}

abbrev pub is_word : ℕ → Bool
is_word n = nat_lt n (2 ^ 32)

-- from minus half to below half, as a word
abbrev pub is_near_zero : ℕ → ℕ → Bool
is_near_zero half n = nat_lt n half || (nat_le (2 ^ 32) (n + half) && is_word n)

-- the operand can hold its value; a label is none that is printed
abbrev pub field_fits : Field → Values → Bool
field_fits Rd v = nat_lt v.rd 32
field_fits Rs1 v = nat_lt v.rs1 32
field_fits Rs2 v = nat_lt v.rs2 32
field_fits Csr v = nat_lt v.csr 4096
field_fits Source v = nat_lt v.rs1 32
field_fits Pred v = nat_lt v.rs1 16
field_fits Succ v = nat_lt v.rs2 16
field_fits (Signed half) v = nat_le half (2 ^ 31) && is_near_zero half v.number
field_fits (Below limit) v = nat_le limit (2 ^ 32) && nat_lt v.number limit
field_fits (Digits limit digits) v = nat_le 1 digits && nat_le digits 8 && nat_le limit (16 ^ digits) && nat_lt v.number limit
field_fits Upper v = is_word v.number && (v.number % 4096 == 0)
field_fits Amount v = is_word v.number
field_fits AnyWord v = is_word v.number
field_fits Label v = false
field_fits Address v = is_word v.number
field_fits Target v = is_word v.number

-- no operand stands straight behind another
abbrev pub starts_with_mark : List Item → Bool
starts_with_mark [] = true
starts_with_mark (Operand f ∷ is) = false
starts_with_mark (Mark k ∷ is) = true

abbrev pub items_fit : List Item → Values → Bool
items_fit [] v = true
items_fit (Operand f ∷ is) v = field_fits f v && starts_with_mark is && items_fit is v
items_fit (Mark k ∷ is) v = is_mark k && items_fit is v

-- what the line says has its fields within their ranges
unfoldable pub statement_fits : Statement → Bool
statement_fits (Entry e) = is_word e
statement_fits (Org p) = is_word p
statement_fits (Byte b) = nat_lt b 256
statement_fits (Half h) = nat_lt h 65536
statement_fits (Word w) = is_word w
statement_fits (Long i) = can_be_spelled i
statement_fits (Short c) = fits_row c

-- the room that operands take at most
abbrev pub room_of : Item → ℕ
room_of (Operand f) = 21
room_of (Mark k) = 2

abbrev pub room_for : List Item → ℕ
room_for [] = 0
room_for (i ∷ is) = room_of i + room_for is
