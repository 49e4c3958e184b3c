-- What it is to read a line as tokens, said of the line alone: nothing but blanks is left out, no token could be longer,
-- and reading ends only at the line's end, a comment or a fault.
use Rattle.std.specs.Prelude.{ℕ, ◌+◌, ◌<◌, ◌≤◌, ◌≡◌, ◌⊎◌, Bool, true, false, not, ◌&&◌, ◌||◌, ◌==◌, List, [], ◌∷◌, drop, length, slice_index, slice_range, Some, None, ℤ, pos, negsuc, ◌≤ℤ◌}
use Rattle.std.specs.declared.result.Result.{Result}
use Rattle.std.specs.declared.result.Result.TheVariants.{Ok, Err}
use Rattle.asm_text.specs.Bytes.{is_digit, begins_name, is_name_byte, is_number_byte}
use Rattle.asm_text.specs.Numbers.{number_of}
use Rattle.asm_text.specs.Pieces.{all_pass, is_name, mark_byte}
use Rattle.asm_text.specs.declared.token.Token.{Token}
use Rattle.asm_text.specs.declared.token_kind.TokenKind.{TokenKind}
use Rattle.asm_text.specs.declared.token_kind.TokenKind.TheVariants.{Name, Number, Comma, Colon, Open, Close}
use Rattle.asm_text.specs.declared.lex_fault.LexFault.{LexFault}
use Rattle.asm_text.specs.declared.lex_fault.LexFault.TheVariants.{BadChar, BadNumber, TooManyTokens}

-- a space or a tab
abbrev pub is_blank : ℕ → Bool
is_blank byte = byte == 32 || byte == 9

abbrev pub is_mark_byte : ℕ → Bool
is_mark_byte byte = byte == 44 || (byte == 58 || (byte == 40 || byte == 41))

-- a digit, or a minus and then a digit
abbrev pub begins_number : ℕ → ℕ → Bool
begins_number byte next = is_digit byte || (byte == 45 && is_digit next)

-- a byte that is no blank and begins neither a comment nor a token, where this byte follows it
abbrev pub begins_nothing : ℕ → ℕ → Bool
begins_nothing byte next = not (is_blank byte || (byte == 35 || (begins_name byte || (begins_number byte next || is_mark_byte byte))))

-- blanks alone stand from one place to another
pub record IsGap (line : List ℕ) (from stop : ℕ) : Type 0 where
  pub inside : from ≤ stop
  pub blank : all_pass is_blank (slice_range line from stop) ≡ true

-- the text begins as a number does and takes all letters and digits that follow, of which this byte is none
pub record IsNumberText (text : List ℕ) (next : ℕ) : Type 0 where
  pub begins : begins_number (slice_index text 0) (slice_index text 1) ≡ true
  pub goes_on : all_pass is_number_byte (drop 1 text) ≡ true
  pub ends : is_number_byte next ≡ false

-- the text is a token of this kind and value, and the byte that follows it doesn't belong to it
abbrev pub IsText : TokenKind → ℤ → List ℕ → ℕ → Type 0
IsText Name value text next = (is_name text ≡ true) × (is_name_byte next ≡ false) × (value ≡ pos 0)
IsText Number value text next = IsNumberText text next × (number_of text ≡ Some value)
IsText Comma value text next = (text ≡ mark_byte Comma ∷ []) × (value ≡ pos 0)
IsText Colon value text next = (text ≡ mark_byte Colon ∷ []) × (value ≡ pos 0)
IsText Open value text next = (text ≡ mark_byte Open ∷ []) × (value ≡ pos 0)
IsText Close value text next = (text ≡ mark_byte Close ∷ []) × (value ≡ pos 0)

-- the token spans a slice of the line that is its text (slice_index is 0 past the line's end)
pub record IsTokenOf (line : List ℕ) (t : Token) : Type 0 where
  pub some : t.start < t.end
  pub inside : t.end ≤ length line
  pub text : IsText t.kind t.value (slice_range line t.start t.end) (slice_index line t.end)

-- a magnitude below 2 ^ 32
pub record IsSmall (value : ℤ) : Type 0 where
  pub low : negsuc 0xFFFF_FFFE ≤ℤ value
  pub high : value ≤ℤ pos 0xFFFF_FFFF

-- from one place to another stand these tokens in this order, and blanks alone beside them
abbrev pub AreTokens : List ℕ → List Token → ℕ → ℕ → Type 0
AreTokens line [] from stop = IsGap line from stop
AreTokens line (t ∷ ts) from stop = IsGap line from t.start × IsTokenOf line t × AreTokens line ts t.end stop

-- a number begins at this place, and is none
pub record IsBadNumber (line : List ℕ) (place : ℕ) : Type 0 where
  pub stop : ℕ
  pub some : place < stop
  pub inside : stop ≤ length line
  pub text : IsNumberText (slice_range line place stop) (slice_index line stop)
  pub refused : number_of (slice_range line place stop) ≡ None

-- a token begins at this place
pub record BeginsToken (line : List ℕ) (place : ℕ) : Type 0 where
  pub token : Token
  pub start : token.start ≡ place
  pub reads : IsTokenOf line token

-- why reading ends at a place after these tokens
abbrev pub EndsWith : List ℕ → List Token → Result (Unit {0}) LexFault → ℕ → Type 0
EndsWith line ts (Ok u) stop = (stop ≡ length line) ⊎ (slice_index line stop ≡ 35)
EndsWith line ts (Err (BadChar place)) stop = (place ≡ stop) × (place < length line) × (begins_nothing (slice_index line place) (slice_index line (place + 1)) ≡ true)
EndsWith line ts (Err (BadNumber place)) stop = (place ≡ stop) × IsBadNumber line place
EndsWith line ts (Err (TooManyTokens place)) stop = (place ≡ stop) × (length ts ≡ 16) × BeginsToken line place

-- the tokens are those of the line up to a place, and the answer says why no more are read
pub record IsRead (line : List ℕ) (tokens : List Token) (answer : Result (Unit {0}) LexFault) : Type 0 where
  pub stop : ℕ
  pub all : AreTokens line tokens 0 stop
  pub few : length tokens ≤ 16
  pub ends : EndsWith line tokens answer stop
