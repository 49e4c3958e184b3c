-- What a byte does where reading stands.
use Rattle.std.specs.Prelude.{◌≡◌, ℕ, ◌+◌, ◌*◌, ◌^◌, ◌<◌, ◌≤◌, nat_lt, Bool, true, false}
use Rattle.mem_text.specs.Bytes.{digit_of}
use Rattle.mem_text.specs.declared.byte_kind.ByteKind.{ByteKind}
use Rattle.mem_text.specs.declared.byte_kind.ByteKind.TheVariants.{Digit, LineFeed, Blank, Slash, Star, At, Underscore, Other}
use Rattle.mem_text.specs.declared.token.Token.{Token}
use Rattle.mem_text.specs.declared.token.Token.TheVariants.{Between, AfterSlash, LineComment, BlockComment, AfterStar, AfterAt, Address, Number}
use Rattle.mem_text.specs.declared.moves.Move.{Move}
use Rattle.mem_text.specs.declared.moves.Move.TheVariants.{Go, Close, Begin, Bad}

-- one digit more, where the token has fewer than it may have
abbrev pub longer_by : Bool → Token → Move
longer_by true t = Go t
longer_by false t = Bad

abbrev pub longer_address : ℕ → ℕ → ℕ → Move
longer_address n v d = longer_by (nat_lt n 8) (Address (n + 1) (v * 16 + d))

abbrev pub longer_number : ℕ → ℕ → ℕ → Move
longer_number n v d = longer_by (nat_lt n 2) (Number (n + 1) (v * 16 + d))

-- behind the digits of an address or a number, where a further digit does this
abbrev pub behind_digits : Token → Move → ByteKind → Move
behind_digits t longer (Digit d) = longer
behind_digits t longer Underscore = Go t
behind_digits t longer LineFeed = Close Between
behind_digits t longer Blank = Close Between
behind_digits t longer Slash = Close AfterSlash
behind_digits t longer Star = Bad
behind_digits t longer At = Bad
behind_digits t longer Other = Bad

abbrev pub between : ByteKind → Move
between (Digit d) = Begin d
between LineFeed = Go Between
between Blank = Go Between
between Slash = Go AfterSlash
between At = Go AfterAt
between Star = Bad
between Underscore = Bad
between Other = Bad

abbrev pub after_slash : ByteKind → Move
after_slash Slash = Go LineComment
after_slash Star = Go BlockComment
after_slash (Digit d) = Bad
after_slash LineFeed = Bad
after_slash Blank = Bad
after_slash At = Bad
after_slash Underscore = Bad
after_slash Other = Bad

abbrev pub in_line : ByteKind → Move
in_line LineFeed = Go Between
in_line (Digit d) = Go LineComment
in_line Blank = Go LineComment
in_line Slash = Go LineComment
in_line Star = Go LineComment
in_line At = Go LineComment
in_line Underscore = Go LineComment
in_line Other = Go LineComment

abbrev pub in_block : ByteKind → Move
in_block Star = Go AfterStar
in_block (Digit d) = Go BlockComment
in_block LineFeed = Go BlockComment
in_block Blank = Go BlockComment
in_block Slash = Go BlockComment
in_block At = Go BlockComment
in_block Underscore = Go BlockComment
in_block Other = Go BlockComment

abbrev pub after_star : ByteKind → Move
after_star Slash = Go Between
after_star Star = Go AfterStar
after_star (Digit d) = Go BlockComment
after_star LineFeed = Go BlockComment
after_star Blank = Go BlockComment
after_star At = Go BlockComment
after_star Underscore = Go BlockComment
after_star Other = Go BlockComment

abbrev pub after_at : ByteKind → Move
after_at (Digit d) = Go (Address 1 d)
after_at LineFeed = Bad
after_at Blank = Bad
after_at Slash = Bad
after_at Star = Bad
after_at At = Bad
after_at Underscore = Bad
after_at Other = Bad

abbrev pub move_of : Token → ByteKind → Move
move_of Between kind = between kind
move_of AfterSlash kind = after_slash kind
move_of LineComment kind = in_line kind
move_of BlockComment kind = in_block kind
move_of AfterStar kind = after_star kind
move_of AfterAt kind = after_at kind
move_of (Address n v) kind = behind_digits (Address n v) (longer_address n v (digit_of kind)) kind
move_of (Number n v) kind = behind_digits (Number n v) (longer_number n v (digit_of kind)) kind

-- ---- bounds
-- an address has at most 8 digits, a number 2
abbrev pub IsShort : Token → Type 0
IsShort Between = Unit {0}
IsShort AfterSlash = Unit {0}
IsShort LineComment = Unit {0}
IsShort BlockComment = Unit {0}
IsShort AfterStar = Unit {0}
IsShort AfterAt = Unit {0}
IsShort (Address n v) = (n ≤ 8) × (v < 16 ^ n)
IsShort (Number n v) = (n ≤ 2) × (v < 16 ^ n)

-- no number, unless it is one already
abbrev pub IsNumberOnly : Bool → Token → Type 0
IsNumberOnly already Between = Unit {0}
IsNumberOnly already AfterSlash = Unit {0}
IsNumberOnly already LineComment = Unit {0}
IsNumberOnly already BlockComment = Unit {0}
IsNumberOnly already AfterStar = Unit {0}
IsNumberOnly already AfterAt = Unit {0}
IsNumberOnly already (Address n v) = Unit {0}
IsNumberOnly already (Number n v) = already ≡ true

-- within bounds, and a number only begins by Begin
abbrev pub IsAllowed : Bool → Move → Type 0
IsAllowed number (Go t) = IsShort t × IsNumberOnly number t
IsAllowed number (Close t) = IsShort t × IsNumberOnly false t
IsAllowed number (Begin d) = d < 16
IsAllowed number Bad = Unit {0}

abbrev pub is_number : Token → Bool
is_number Between = false
is_number AfterSlash = false
is_number LineComment = false
is_number BlockComment = false
is_number AfterStar = false
is_number AfterAt = false
is_number (Address n v) = false
is_number (Number n v) = true
