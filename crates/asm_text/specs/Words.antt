-- A token without its place: a name's text, a number's value, or a mark.
use Rattle.std.specs.Prelude.{ℕ, List, ℤ, pos, slice_range}
use Rattle.asm_text.specs.declared.token_kind.TokenKind.{TokenKind}
use Rattle.asm_text.specs.declared.token_kind.TokenKind.TheVariants.{Name, Number, Comma, Colon, Open, Close}
use Rattle.asm_text.specs.declared.token.Token.{Token}

pub data Word : Type 0 where
  NameWord : List ℕ → Word
  NumberWord : ℤ → Word
  MarkWord : TokenKind → Word

abbrev pub kind_of : Word → TokenKind
kind_of (NameWord text) = Name
kind_of (NumberWord z) = Number
kind_of (MarkWord k) = k

-- a token that is no number has the value 0
abbrev pub value_of : Word → ℤ
value_of (NameWord text) = pos 0
value_of (NumberWord z) = z
value_of (MarkWord k) = pos 0

-- the token of a word that stands from one place to another
abbrev pub placed : Word → ℕ → ℕ → Token
placed w start stop = record { kind = kind_of w; start = start; end = stop; value = value_of w }

abbrev pub word_by : TokenKind → List ℕ → ℤ → Word
word_by Name text z = NameWord text
word_by Number text z = NumberWord z
word_by Comma text z = MarkWord Comma
word_by Colon text z = MarkWord Colon
word_by Open text z = MarkWord Open
word_by Close text z = MarkWord Close

-- the word of a token of the line: a name's text is the slice of the line that the token spans
abbrev pub word_at : List ℕ → Token → Word
word_at line t = word_by t.kind (slice_range line t.start t.end) t.value
