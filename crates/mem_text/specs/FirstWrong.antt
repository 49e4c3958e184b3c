-- The first byte of a text that is no memory text with which something is wrong.
use Rattle.std.specs.Prelude.{◌≡◌, ℕ, List, [], ◌∷◌, ◌++◌, length, true, Option, Some}
use Rattle.hart_memory.specs.Image.{ImageView}
use Rattle.mem_text.specs.Bytes.{is_hex}
use Rattle.mem_text.specs.Items.{Item, White, LineRemark, BlockRemark, AddressOf, NumberOf, items_text, AreItems, digits_after, IsMemoryText}
use Rattle.mem_text.specs.Laying.{Laying, nothing_laid, moved_to, with_byte, why_not}
use Rattle.mem_text.specs.declared.mem_why.MemWhy.{MemWhy}
use Rattle.mem_text.specs.declared.mem_why.MemWhy.TheVariants.{BadByte, TooMany, OutsideMemory, Overlap, Truncated}
use Rattle.mem_text.specs.declared.mem_error.MemError.{MemError}
use Rattle.mem_text.specs.declared.mem_error.MemError.TheVariants.{Memory, Refused}

-- what these items lay down behind what was laid down before them
abbrev pub laid : List Item → Laying → Laying
laid [] l = l
laid (White byte ∷ is) l = laid is l
laid (LineRemark t ∷ is) l = laid is l
laid (BlockRemark t ∷ is) l = laid is l
laid (AddressOf t ∷ is) l = laid is (moved_to (digits_after 0 t) l)
laid (NumberOf t ∷ is) l = laid is (with_byte (digits_after 0 t) l)

-- these bytes are the beginning of a memory text
abbrev pub BeginsText : ℕ → List ℕ → Type 0
BeginsText entry bytes = (rest : List ℕ) × (i : ImageView) × IsMemoryText (bytes ++ rest) entry i

-- these bytes are the beginning of items, whatever the items mean
abbrev pub BeginsItems : List ℕ → Type 0
BeginsItems bytes = (rest : List ℕ) × (items : List Item) × AreItems items × (items_text items ≡ bytes ++ rest)

-- a number begins with this byte, since an address could begin there too, and its byte may not stand behind what the items before it lay down
pub record IsMisplaced (entry : ℕ) (front : List ℕ) (byte : ℕ) (why : MemWhy) : Type 0 where
  pub digit : is_hex byte ≡ true
  pub free : BeginsText entry (front ++ 64 ∷ [])
  pub items : List Item
  pub are : AreItems items
  pub text : items_text items ≡ front
  pub cause : why_not (laid items (nothing_laid entry)) ≡ Some why

-- this is wrong with the byte behind these
abbrev pub IsWrongByte : ℕ → List ℕ → ℕ → MemWhy → Type 0
IsWrongByte entry front byte BadByte = BeginsItems (front ++ byte ∷ []) → ⊥
IsWrongByte entry front byte TooMany = IsMisplaced entry front byte TooMany
IsWrongByte entry front byte OutsideMemory = IsMisplaced entry front byte OutsideMemory
IsWrongByte entry front byte Overlap = IsMisplaced entry front byte Overlap
IsWrongByte entry front byte Truncated = ⊥

-- some memory text begins with the bytes before the place, and none with the byte there too
pub record StopsAt (entry : ℕ) (bytes : List ℕ) (place : ℕ) (why : MemWhy) : Type 0 where
  pub front : List ℕ
  pub byte : ℕ
  pub behind : List ℕ
  pub text : bytes ≡ front ++ byte ∷ behind
  pub place_is : place ≡ length front
  pub before : BeginsText entry front
  pub with_it : BeginsText entry (front ++ byte ∷ []) → ⊥
  pub wrong : IsWrongByte entry front byte why

-- some memory text begins with all bytes, and they are no items themselves
pub record IsCutShort (entry : ℕ) (bytes : List ℕ) (place : ℕ) : Type 0 where
  pub place_is : place ≡ length bytes
  pub before : BeginsText entry bytes
  pub unfinished : (items : List Item) → AreItems items → items_text items ≡ bytes → ⊥

-- this is the first place at which something is wrong, and what is wrong there
abbrev pub IsFirstWrong : ℕ → List ℕ → ℕ → MemWhy → Type 0
IsFirstWrong entry bytes place BadByte = StopsAt entry bytes place BadByte
IsFirstWrong entry bytes place TooMany = StopsAt entry bytes place TooMany
IsFirstWrong entry bytes place OutsideMemory = StopsAt entry bytes place OutsideMemory
IsFirstWrong entry bytes place Overlap = StopsAt entry bytes place Overlap
IsFirstWrong entry bytes place Truncated = IsCutShort entry bytes place

-- it refused the first byte with which something is wrong, or memory was wanting
abbrev pub RefusesFirst : ℕ → List ℕ → MemError → Type 0
RefusesFirst entry bytes Memory = Unit {0}
RefusesFirst entry bytes (Refused place why) = IsFirstWrong entry bytes place why
