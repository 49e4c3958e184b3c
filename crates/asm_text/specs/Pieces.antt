-- Text as a list of pieces, and the words that the pieces are read as.
use Rattle.std.specs.Prelude.{ℕ, zero, suc, ◌/◌, ◌%◌, ◌^◌, ◌<◌, ◌≤◌, ◌≡◌, Bool, true, false, ◌&&◌, ◌||◌, not, ◌==◌, List, [], ◌∷◌, ◌++◌, ℤ, pos, nat_abs}
use Rattle.std.specs.List.{flat_map, AllByRecursion}
use Rattle.std.specs.Fmt.{signed_decimal, digit_glyph}
use Rattle.asm_text.specs.Bytes.{begins_name, is_name_byte}
use Rattle.asm_text.specs.Words.{Word, NameWord, NumberWord, MarkWord}
use Rattle.asm_text.specs.declared.token_kind.TokenKind.{TokenKind}
use Rattle.asm_text.specs.declared.token_kind.TokenKind.TheVariants.{Name, Number, Comma, Colon, Open, Close}

-- a name, a number in decimal, a number in this many hexadecimal digits, a mark, or a space
pub data Piece : Type 0 where
  NamePiece : List ℕ → Piece
  DecimalPiece : ℤ → Piece
  HexPiece : ℕ → ℕ → Piece
  MarkPiece : TokenKind → Piece
  SpacePiece : Piece

-- the last digits of n in upper case, this many
abbrev pub hex_digits : ℕ → ℕ → List ℕ
hex_digits zero n = []
hex_digits (suc k) n = hex_digits k (n / 16) ++ digit_glyph true (n % 16) ∷ []

-- the same, which goals above see as one word
unfoldable pub hex : ℕ → ℕ → List ℕ
hex k n = hex_digits k n

-- a mark's byte; the kinds that are no marks have none, and print as a space
abbrev pub mark_byte : TokenKind → ℕ
mark_byte Comma = 44
mark_byte Colon = 58
mark_byte Open = 40
mark_byte Close = 41
mark_byte Name = 32
mark_byte Number = 32

abbrev pub text_of : Piece → List ℕ
text_of (NamePiece t) = t
text_of (DecimalPiece z) = signed_decimal z
text_of (HexPiece k n) = 48 ∷ 120 ∷ hex k n  -- after "0x"
text_of (MarkPiece k) = mark_byte k ∷ []
text_of SpacePiece = 32 ∷ []

-- the text of the pieces, one after another
abbrev pub printed : List Piece → List ℕ
printed ps = flat_map text_of ps

abbrev pub words_in : Piece → List Word
words_in (NamePiece t) = NameWord t ∷ []
words_in (DecimalPiece z) = NumberWord z ∷ []
words_in (HexPiece k n) = NumberWord (pos n) ∷ []
words_in (MarkPiece k) = MarkWord k ∷ []
words_in SpacePiece = []

abbrev pub all_pass : (ℕ → Bool) → List ℕ → Bool
all_pass q [] = true
all_pass q (b ∷ bs) = q b && all_pass q bs

-- a text that is one name
abbrev pub is_name : List ℕ → Bool
is_name [] = false
is_name (b ∷ bs) = begins_name b && all_pass is_name_byte bs

abbrev pub is_mark : TokenKind → Bool
is_mark Name = false
is_mark Number = false
is_mark Comma = true
is_mark Colon = true
is_mark Open = true
is_mark Close = true

-- a piece that can be read again: a name that is one, a number below 2 ^ 32 that its digits hold
abbrev pub IsReadable : Piece → Type 0
IsReadable (NamePiece t) = is_name t ≡ true
IsReadable (DecimalPiece z) = nat_abs z < 2 ^ 32
IsReadable (HexPiece k n) = (1 ≤ k) × (k ≤ 8) × (n < 16 ^ k)
IsReadable (MarkPiece k) = is_mark k ≡ true
IsReadable SpacePiece = Unit {0}

abbrev pub AreReadable : List Piece → Type 0
AreReadable ps = AllByRecursion IsReadable ps

-- a mark and a space end what stands before them
abbrev pub is_loose : Piece → Bool
is_loose (NamePiece t) = false
is_loose (DecimalPiece z) = false
is_loose (HexPiece k n) = false
is_loose (MarkPiece k) = true
is_loose SpacePiece = true

abbrev pub starts_loose : List Piece → Bool
starts_loose [] = true
starts_loose (p ∷ ps) = is_loose p

-- no name or number stands straight before another
abbrev pub are_apart : List Piece → Bool
are_apart [] = true
are_apart (p ∷ ps) = (is_loose p || starts_loose ps) && are_apart ps

-- a byte that ends no line and is no carriage return
abbrev pub is_inline : ℕ → Bool
is_inline b = not (b == 10) && not (b == 13)
