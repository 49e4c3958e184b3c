-- The tokens of a line, up to its end, its comment or its first fault.
use Rattle.std.specs.Prelude.{ℕ, zero, suc, ◌+◌, nat_le, cond, List, [], ◌∷◌, ◌++◌, length, take, map, slice_index, Option, Some, None, ℤ}
use Rattle.std.specs.List.{prefix_len}
use Rattle.asm_text.specs.Bytes.{is_digit, is_name_byte, is_number_byte, class_of}
use Rattle.asm_text.specs.Numbers.{number_of}
use Rattle.asm_text.specs.Words.{Word, NameWord, NumberWord, MarkWord, placed}
use Rattle.asm_text.specs.declared.token.Token.{Token}
use Rattle.asm_text.specs.declared.byte_class.ByteClass.{ByteClass}
use Rattle.asm_text.specs.declared.byte_class.ByteClass.TheVariants.{Blank, Comment, NameStart, Digit, Minus, Mark, Other}
use Rattle.asm_text.specs.declared.lex_fault.LexFault.{LexFault}
use Rattle.asm_text.specs.declared.lex_fault.LexFault.TheVariants.{BadChar, BadNumber, TooManyTokens}

-- What the bytes begin with: a blank, a comment, a word and how many bytes it takes beside its first, a byte that
-- begins no token, or a number that is none.
pub data Front : Type 0 where
  Space : Front
  Rest : Front
  Taken : Word → ℕ → Front
  NoToken : Front
  NoNumber : Front

-- a name takes all name bytes that follow its first
abbrev pub name_front : ℕ → List ℕ → Front
name_front b bs = Taken (NameWord (b ∷ take (prefix_len is_name_byte bs) bs)) (prefix_len is_name_byte bs)

abbrev pub numbered : Option ℤ → ℕ → Front
numbered None n = NoNumber
numbered (Some z) n = Taken (NumberWord z) n

-- a number takes all letters and digits that follow its first byte
abbrev pub number_front : ℕ → List ℕ → Front
number_front b bs = numbered (number_of (b ∷ take (prefix_len is_number_byte bs) bs)) (prefix_len is_number_byte bs)

-- a minus begins a number where a digit follows it, and nothing elsewhere
abbrev pub front_by : ByteClass → ℕ → List ℕ → Front
front_by Blank b bs = Space
front_by Comment b bs = Rest
front_by NameStart b bs = name_front b bs
front_by Digit b bs = number_front b bs
front_by Minus b bs = cond (is_digit (slice_index bs 0)) (number_front b bs) NoToken
front_by (Mark k) b bs = Taken (MarkWord k) 0
front_by Other b bs = NoToken

-- what b ∷ bs begins with
unfoldable pub front_of : ℕ → List ℕ → Front
front_of b bs = front_by (class_of b) b bs

-- a word with its place in the line
pub record Lexeme : Type 0 where
  pub word : Word
  pub start : ℕ
  pub stop : ℕ

-- what is read, and why the rest isn't
pub record Lexed : Type 0 where
  pub lexemes : List Lexeme
  pub fault : Option LexFault

-- lexemes before others
abbrev pub after_lexemes : List Lexeme → Lexed → Lexed
after_lexemes ls rest = record { lexemes = ls ++ rest.lexemes; fault = rest.fault }

-- how many bytes the front takes beside its first
abbrev pub more_of : Front → ℕ
more_of (Taken w n) = n
more_of Space = 0
more_of Rest = 0
more_of NoToken = 0
more_of NoNumber = 0

-- what the front at place p makes of the rest
abbrev pub joined : Front → ℕ → Lexed → Lexed
joined Space p rest = rest
joined Rest p rest = record { lexemes = []; fault = None }
joined (Taken w n) p rest = after_lexemes (record { word = w; start = p; stop = p + 1 + n } ∷ []) rest
joined NoToken p rest = record { lexemes = []; fault = Some (BadChar p) }
joined NoNumber p rest = record { lexemes = []; fault = Some (BadNumber p) }

-- what the bytes hold, the first of them at place p, when the first skip of them belong to a token already
abbrev pub scanned : ℕ → ℕ → List ℕ → Lexed
scanned skip p [] = record { lexemes = []; fault = None }
scanned (suc skip) p (b ∷ bs) = scanned skip (p + 1) bs
scanned zero p (b ∷ bs) = joined (front_of b bs) p (scanned (more_of (front_of b bs)) (p + 1) bs)

-- where the lexeme of this number begins
abbrev pub start_at : List Lexeme → ℕ → ℕ
start_at [] i = 0
start_at (l ∷ ls) zero = l.start
start_at (l ∷ ls) (suc i) = start_at ls i

-- at most 16 tokens: the 17th is a fault
abbrev pub limited : Lexed → Lexed
limited s = cond (nat_le (length s.lexemes) 16) s (record { lexemes = take 16 s.lexemes; fault = Some (TooManyTokens (start_at s.lexemes 16)) })

-- what a line holds
unfoldable pub lexed : List ℕ → Lexed
lexed line = limited (scanned 0 0 line)

abbrev pub token_of : Lexeme → Token
token_of l = placed l.word l.start l.stop

abbrev pub tokens_of : List Lexeme → List Token
tokens_of ls = map token_of ls

abbrev pub words_of : List Lexeme → List Word
words_of ls = map (λ l. l.word) ls

-- the words and the fault, without places
pub record Spoken : Type 0 where
  pub words : List Word
  pub fault : Option LexFault

abbrev pub spoken : Lexed → Spoken
spoken s = record { words = words_of s.lexemes; fault = s.fault }
