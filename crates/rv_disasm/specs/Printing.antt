-- How a line of a listing is printed.
use Rattle.std.specs.Prelude.{ℕ, zero, suc, ◌+◌, ◌/◌, ◌%◌, ◌^◌, ◌==◌, cond, List, [], ◌∷◌, ◌++◌, Option, Some, None, pos, codes}
use Rattle.hart_words.specs.Bits.{bits}
use Rattle.hart_words.specs.TwosComplement.{signed_value}
use Rattle.asm_text.specs.Names.{register_name, csr_name}
use Rattle.asm_text.specs.Pieces.{Piece, NamePiece, DecimalPiece, HexPiece, MarkPiece, SpacePiece}
use Rattle.asm_text.specs.declared.token_kind.TokenKind.{TokenKind}
use Rattle.asm_text.specs.declared.token_kind.TokenKind.TheVariants.{Name, Number, Comma, Colon, Open, Close}
use Rattle.asm_forms.specs.Forms.{Row}
use Rattle.asm_fields.specs.declared.field.Field.{Field}
use Rattle.asm_fields.specs.declared.field.Field.TheVariants.{Rd, Rs1, Rs2, Csr, Source, Pred, Succ, Signed, Below, Digits, Upper, Amount, Word, Label, Address, Target}
use Rattle.asm_fields.specs.declared.item.Item.{Item}
use Rattle.asm_fields.specs.declared.item.Item.TheVariants.{Operand, Mark}
use Rattle.rv_disasm.specs.Shown.{row_of, values_of}
use Rattle.rv_disasm.specs.declared.statement.Statement.{Statement}
use Rattle.rv_disasm.specs.declared.values.Values.{Values}

-- the letter, where the bit is 1
abbrev pub letter : List ℕ → ℕ → ℕ → List ℕ
letter text set bit = cond (bits set bit 1 == 1) text []

-- a fence's set by its letters, of which the first is bit 3
abbrev pub letters : ℕ → List ℕ
letters set = letter (codes "i") set 3 ++ letter (codes "o") set 2 ++ letter (codes "r") set 1 ++ letter (codes "w") set 0

-- a set without letters is 0
abbrev pub set_piece : ℕ → Piece
set_piece zero = DecimalPiece (pos 0)
set_piece (suc n) = NamePiece (letters (suc n))

-- a control and status register that has no name is printed by its number
abbrev pub csr_by : Option (List ℕ) → ℕ → Piece
csr_by (Some name) csr = NamePiece name
csr_by None csr = HexPiece 3 csr

-- an operand of the line at a place; a target is printed by its address
unfoldable pub field_piece : Field → Values → ℕ → Piece
field_piece Rd v place = NamePiece (register_name v.rd)
field_piece Rs1 v place = NamePiece (register_name v.rs1)
field_piece Rs2 v place = NamePiece (register_name v.rs2)
field_piece Csr v place = csr_by (csr_name v.csr) v.csr
field_piece Source v place = DecimalPiece (pos v.rs1)
field_piece Pred v place = set_piece v.rs1
field_piece Succ v place = set_piece v.rs2
field_piece (Signed half) v place = DecimalPiece (signed_value v.number)
field_piece (Below limit) v place = DecimalPiece (pos v.number)
field_piece (Digits limit digits) v place = HexPiece digits v.number
field_piece Upper v place = HexPiece 5 (v.number / 4096)
field_piece Amount v place = HexPiece 8 v.number
field_piece Word v place = HexPiece 8 v.number
field_piece Label v place = HexPiece 8 v.number
field_piece Address v place = HexPiece 8 v.number
field_piece Target v place = HexPiece 8 ((place + v.number) % 2 ^ 32)

-- a space follows each comma
abbrev pub mark_pieces : TokenKind → List Piece
mark_pieces Comma = MarkPiece Comma ∷ SpacePiece ∷ []
mark_pieces Colon = MarkPiece Colon ∷ []
mark_pieces Open = MarkPiece Open ∷ []
mark_pieces Close = MarkPiece Close ∷ []
mark_pieces Name = []
mark_pieces Number = []

abbrev pub item_pieces : Item → Values → ℕ → List Piece
item_pieces (Operand f) v place = field_piece f v place ∷ []
item_pieces (Mark k) v place = mark_pieces k

abbrev pub items_pieces : List Item → Values → ℕ → List Piece
items_pieces [] v place = []
items_pieces (i ∷ is) v place = item_pieces i v place ++ items_pieces is v place

-- the operands behind a space, where there are some
abbrev pub operands_pieces : List Item → Values → ℕ → List Piece
operands_pieces [] v place = []
operands_pieces (i ∷ is) v place = SpacePiece ∷ items_pieces (i ∷ is) v place

-- the mnemonic and the operands
unfoldable pub row_pieces : Row → Values → ℕ → List Piece
row_pieces row v place = NamePiece row.name ∷ operands_pieces row.items v place

-- the line of a statement at a place
abbrev pub line_pieces : ℕ → Statement → List Piece
line_pieces place s = row_pieces (row_of s) (values_of s) place
