-- What reading a text from the front gives: an image, or the first thing that is wrong, with its place.
use Rattle.std.specs.Prelude.{ℕ, ◌+◌, List, [], ◌∷◌, Option, Some, None, Result, Ok, Err}
use Rattle.hart_memory.specs.Image.{ImageView}
use Rattle.mem_text.specs.Bytes.{kind_of}
use Rattle.mem_text.specs.Moves.{move_of}
use Rattle.mem_text.specs.Laying.{Laying, nothing_laid, whole_image, moved_to, with_byte, why_not}
use Rattle.mem_text.specs.declared.mem_why.MemWhy.{MemWhy}
use Rattle.mem_text.specs.declared.mem_why.MemWhy.TheVariants.{BadByte, Truncated}
use Rattle.mem_text.specs.declared.token.Token.{Token}
use Rattle.mem_text.specs.declared.token.Token.TheVariants.{Between, AfterSlash, LineComment, BlockComment, AfterStar, AfterAt, Address, Number}
use Rattle.mem_text.specs.declared.moves.Move.{Move}
use Rattle.mem_text.specs.declared.moves.Move.TheVariants.{Go, Close, Begin, Bad}

-- what is wrong, and where
pub record Fault : Type 0 where
  pub place : ℕ
  pub why : MemWhy

-- what was laid down, and what the bytes so far are within
pub record State : Type 0 where
  pub laying : Laying
  pub token : Token

-- before the first byte
abbrev pub fresh : ℕ → State
fresh entry = record { laying = nothing_laid entry; token = Between }

-- on with what was read, unless it was refused
abbrev pub on_with : {A B : Type 0} → Result A Fault → (A → Result B Fault) → Result B Fault
on_with (Ok x) f = f x
on_with (Err e) f = Err e

-- an address or a number counts when it ends
abbrev pub closed : Token → Laying → Laying
closed Between l = l
closed AfterSlash l = l
closed LineComment l = l
closed BlockComment l = l
closed AfterStar l = l
closed AfterAt l = l
closed (Address n v) l = moved_to v l
closed (Number n v) l = with_byte v l

-- a number is refused at its first digit, where its byte may not stand at the place
abbrev pub begun : Option MemWhy → ℕ → ℕ → Laying → Result State Fault
begun None place d l = Ok (record { laying = l; token = Number 1 d })
begun (Some why) place d l = Err (record { place = place; why = why })

abbrev pub made : Move → ℕ → State → Result State Fault
made (Go t) place s = Ok (record s { token = t })
made (Close t) place s = Ok (record { laying = closed s.token s.laying; token = t })
made (Begin d) place s = begun (why_not s.laying) place d s.laying
made Bad place s = Err (record { place = place; why = BadByte })

-- after the byte at a place
unfoldable pub step : ℕ → State → ℕ → Result State Fault
step place s byte = made (move_of s.token (kind_of byte)) place s

-- after these bytes, the first of them at a place
abbrev pub reads : ℕ → State → List ℕ → Result State Fault
reads place s [] = Ok s
reads place s (byte ∷ bytes) = on_with (step place s byte) (λ t. reads (place + 1) t bytes)

abbrev pub truncated : ℕ → Result ImageView Fault
truncated place = Err (record { place = place; why = Truncated })

abbrev pub ended_in : Token → ℕ → Laying → Result ImageView Fault
ended_in Between place l = Ok (whole_image l)
ended_in AfterSlash place l = truncated place
ended_in LineComment place l = Ok (whole_image l)
ended_in BlockComment place l = truncated place
ended_in AfterStar place l = truncated place
ended_in AfterAt place l = truncated place
ended_in (Address n v) place l = Ok (whole_image (moved_to v l))
ended_in (Number n v) place l = Ok (whole_image (with_byte v l))

-- the text ends at a place
unfoldable pub ended : ℕ → State → Result ImageView Fault
ended place s = ended_in s.token place s.laying

-- what bytes from a place on give, and their end
abbrev pub whole : ℕ → State → List ℕ → Result ImageView Fault
whole place s [] = ended place s
whole place s (byte ∷ bytes) = on_with (step place s byte) (λ t. whole (place + 1) t bytes)

-- what a text gives
unfoldable pub read_text : ℕ → List ℕ → Result ImageView Fault
read_text entry bytes = whole 0 (fresh entry) bytes
