-- What bytes are, in words: passed-over bytes, packets that were given up, and whole frames, one after the other.
use Rattle.std.specs.Prelude.{◌≡◌, ℕ, List, [], ◌∷◌, ◌++◌, length, Bool, true, not, ◌&&◌, ◌==◌, nat_le, if◌then◌else◌}
use Rattle.lab_packets.specs.Frames.{most_data, are_data, is_sum, Message, Whole, Refused, AskedAgain}

-- a byte between packets; `$` and what came behind it until it was given up; `$`, data, `#` and two bytes
pub data Item : Type 0 where
  Passed : ℕ → Item
  Begun : List ℕ → Item
  Frame : List ℕ → ℕ → ℕ → Item

-- ---- its text

abbrev pub item_text : Item → List ℕ
item_text (Passed byte) = byte ∷ []
item_text (Begun bytes) = 36 ∷ bytes
item_text (Frame bytes first second) = 36 ∷ bytes ++ 35 ∷ first ∷ second ∷ []

abbrev pub items_text : List Item → List ℕ
items_text [] = []
items_text (i ∷ is) = item_text i ++ items_text is

-- ---- which bytes may stand so

abbrev pub is_no_dollar : ℕ → Bool
is_no_dollar byte = not (byte == 36)

-- one byte at most
abbrev pub is_open_end : List ℕ → Bool
is_open_end [] = true
is_open_end (first ∷ bytes) = is_no_dollar first && length bytes == 0

-- no `$`, and behind the first `#` one byte at most
abbrev pub is_open : List ℕ → Bool
is_open [] = true
is_open (byte ∷ bytes) = is_no_dollar byte && (if byte == 35 then is_open_end bytes else is_open bytes)

abbrev pub IsItem : Item → Type 0
IsItem (Passed byte) = is_no_dollar byte ≡ true
IsItem (Begun bytes) = is_open bytes ≡ true
IsItem (Frame bytes first second) = (are_data bytes ≡ true) × (is_no_dollar first ≡ true) × (is_no_dollar second ≡ true)

-- the end, or a `$`
abbrev pub gives_up : List ℕ → Bool
gives_up [] = true
gives_up (byte ∷ bytes) = byte == 36

-- a packet is given up where another begins, or where the bytes end
abbrev pub may_precede : Item → List ℕ → Bool
may_precede (Passed byte) rest = true
may_precede (Begun bytes) rest = gives_up rest
may_precede (Frame bytes first second) rest = true

abbrev pub AreItems : List Item → Type 0
AreItems [] = Unit {0}
AreItems (i ∷ is) = IsItem i × (may_precede i (items_text is) ≡ true) × AreItems is

-- ---- what they tell

-- a frame is a packet where it has no more data than a packet may have, and its two bytes are the digits of the sum
abbrev pub item_messages : Item → List Message
item_messages (Passed byte) = if byte == 45 then AskedAgain ∷ [] else []
item_messages (Begun bytes) = []
item_messages (Frame bytes first second) = if nat_le (length bytes) most_data && is_sum bytes first second then Whole bytes ∷ [] else Refused ∷ []

abbrev pub items_messages : List Item → List Message
items_messages [] = []
items_messages (i ∷ is) = item_messages i ++ items_messages is

-- bytes that are these items
pub record AreItemsOf (bytes : List ℕ) (items : List Item) : Type 0 where
  pub are : AreItems items
  pub text : items_text items ≡ bytes
