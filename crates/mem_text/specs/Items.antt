-- What a memory text is: white space, comments, addresses and numbers, one after the other, and the segments that they are.
use Rattle.std.specs.Prelude.{◌≡◌, ℕ, ◌+◌, ◌*◌, ◌≤◌, Bool, true, false, not, ◌&&◌, ◌||◌, ◌==◌, cond, List, [], ◌∷◌, ◌++◌, slice_index}
use Rattle.std.specs.List.{list_all}
use Rattle.hart_memory.specs.Image.{SegmentView, ImageView, AreSound}
use Rattle.mem_text.specs.Bytes.{is_white, is_hex, hex_value}

-- a byte of white space; what follows // up to the line's end; what stands between /* and */; the digits behind @; the digits of a number
pub data Item : Type 0 where
  White : ℕ → Item
  LineRemark : List ℕ → Item
  BlockRemark : List ℕ → Item
  AddressOf : List ℕ → Item
  NumberOf : List ℕ → Item

-- ---- its text
abbrev pub item_text : Item → List ℕ
item_text (White byte) = byte ∷ []
item_text (LineRemark t) = 47 ∷ 47 ∷ t
item_text (BlockRemark t) = 47 ∷ 42 ∷ (t ++ 42 ∷ 47 ∷ [])
item_text (AddressOf t) = 64 ∷ t
item_text (NumberOf t) = t

abbrev pub items_text : List Item → List ℕ
items_text [] = []
items_text (i ∷ is) = item_text i ++ items_text is

-- ---- which texts may stand so
-- no line feed
abbrev pub stays_in_line : List ℕ → Bool
stays_in_line t = list_all (λ byte. not (byte == 10)) t

-- a star and a slash straight behind it stand in the text
abbrev pub has_end : List ℕ → Bool
has_end [] = false
has_end (byte ∷ bytes) = (byte == 42 && slice_index bytes 0 == 47) || has_end bytes

-- a digit or an underscore
abbrev pub goes_on : ℕ → Bool
goes_on byte = is_hex byte || byte == 95

abbrev pub digit_count : List ℕ → ℕ
digit_count [] = 0
digit_count (byte ∷ bytes) = cond (is_hex byte) 1 0 + digit_count bytes

-- a digit first, digits and underscores behind it, and so many digits at most
pub record IsDigits (most : ℕ) (t : List ℕ) : Type 0 where
  pub begins : is_hex (slice_index t 0) ≡ true
  pub on : list_all goes_on t ≡ true
  pub few : digit_count t ≤ most

-- a comment in /* ends at the first */
abbrev pub IsItem : Item → Type 0
IsItem (White byte) = is_white byte ≡ true
IsItem (LineRemark t) = stays_in_line t ≡ true
IsItem (BlockRemark t) = has_end (t ++ 42 ∷ []) ≡ false
IsItem (AddressOf t) = IsDigits 8 t
IsItem (NumberOf t) = IsDigits 2 t

-- the text's end, or a line feed
abbrev pub ends_line : List ℕ → Bool
ends_line [] = true
ends_line (byte ∷ bytes) = byte == 10

-- the text's end, white space or a slash
abbrev pub ends_token : List ℕ → Bool
ends_token [] = true
ends_token (byte ∷ bytes) = is_white byte || byte == 47

-- whether this text may follow
abbrev pub may_precede : Item → List ℕ → Bool
may_precede (White byte) rest = true
may_precede (LineRemark t) rest = ends_line rest
may_precede (BlockRemark t) rest = true
may_precede (AddressOf t) rest = ends_token rest
may_precede (NumberOf t) rest = ends_token rest

abbrev pub AreItems : List Item → Type 0
AreItems [] = Unit {0}
AreItems (i ∷ is) = IsItem i × (may_precede i (items_text is) ≡ true) × AreItems is

-- ---- what they mean
-- the number whose digits are those of n and then these; an underscore is passed over
abbrev pub digits_after : ℕ → List ℕ → ℕ
digits_after n [] = n
digits_after n (byte ∷ bytes) = digits_after (cond (is_hex byte) (n * 16 + hex_value byte) n) bytes

-- the numbers up to the first address, and the segments from there on
pub record Runs : Type 0 where
  pub front : List ℕ
  pub behind : List SegmentView

-- the segment of these bytes, which is none where there is no byte
abbrev pub segment_of : ℕ → List ℕ → List SegmentView
segment_of at [] = []
segment_of at (byte ∷ bytes) = record { address = at; content = byte ∷ bytes } ∷ []

-- an address begins a segment with the numbers up to the next address
abbrev pub runs : List Item → Runs
runs [] = record { front = []; behind = [] }
runs (White byte ∷ is) = runs is
runs (LineRemark t ∷ is) = runs is
runs (BlockRemark t ∷ is) = runs is
runs (AddressOf t ∷ is) = record { front = []; behind = segment_of (digits_after 0 t) (runs is).front ++ (runs is).behind }
runs (NumberOf t ∷ is) = record { front = digits_after 0 t ∷ (runs is).front; behind = (runs is).behind }

-- numbers before the first address stand from address 0 on
abbrev pub segments_in : List Item → List SegmentView
segments_in is = segment_of 0 (runs is).front ++ (runs is).behind

-- the bytes are a memory text of this image with this entry
pub record IsMemoryText (bytes : List ℕ) (entry : ℕ) (i : ImageView) : Type 0 where
  pub items : List Item
  pub are : AreItems items
  pub text : items_text items ≡ bytes
  pub same : segments_in items ≡ i.segments
  pub sound : AreSound i.segments
  pub start : i.start ≡ entry
