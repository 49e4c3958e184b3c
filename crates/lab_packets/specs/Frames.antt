-- What of the bytes that come is a packet: `$`, data, `#`, and the sum of the data's bytes as two hexadecimal digits.
use Rattle.std.specs.Prelude.{◌≡◌, ℕ, ◌+◌, ◌%◌, List, [], ◌∷◌, ◌++◌, length, Bool, true, false, not, ◌&&◌, ◌==◌, nat_lt, if◌then◌else◌, Option, Some, None}
use Rattle.std.specs.List.{list_all}
use Rattle.lab_packets.specs.Digits.{byte_of, byte_digits}
use Rattle.lab_packets.specs.declared.frame_place.FramePlace.{FramePlace}
use Rattle.lab_packets.specs.declared.frame_place.FramePlace.TheVariants.{Between, InData, FirstDigit, SecondDigit}
use Rattle.lab_packets.specs.declared.heard.Heard.{Heard}
use Rattle.lab_packets.specs.declared.heard.Heard.TheVariants.{Nothing, Again, Bad, Packet}

-- the most bytes of data that a packet may have
abbrev pub most_data : ℕ
most_data = 16_384

-- ---- the sum

-- a sum, and these bytes added to it, modulo 256
abbrev pub summed : ℕ → List ℕ → ℕ
summed sum [] = sum
summed sum (byte ∷ bytes) = summed ((sum + byte) % 256) bytes

-- the sum of bytes modulo 256
unfoldable pub checksum : List ℕ → ℕ
checksum bytes = summed 0 bytes

abbrev pub is_some_of : Option ℕ → ℕ → Bool
is_some_of None n = false
is_some_of (Some m) n = m == n

-- the two bytes are digits, of either case, of the data's sum
abbrev pub is_sum : List ℕ → ℕ → ℕ → Bool
is_sum bytes first second = is_some_of (byte_of first second) (checksum bytes)

-- ---- byte by byte

-- where reading stands, the data so far, and whether more of it came than a packet may have
pub record Hearing : Type 0 where
  pub place : FramePlace
  pub content : List ℕ
  pub is_long : Bool

-- what a byte tells, and where reading stands then
pub record Told : Type 0 where
  pub heard : Heard
  pub next : Hearing

-- before the first byte
abbrev pub unread : Hearing
unread = record { place = Between; content = []; is_long = false }

-- a packet begins
abbrev pub begun : Hearing
begun = record { place = InData; content = []; is_long = false }

-- a byte of data
abbrev pub with_data : Hearing → ℕ → Hearing
with_data h byte = if nat_lt (length h.content) most_data then record h { content = h.content ++ byte ∷ [] } else record h { is_long = true }

abbrev pub go_to : FramePlace → Hearing → Hearing
go_to p h = record h { place = p }

-- a frame ends with these two bytes: it was a packet, or a bad one
abbrev pub verdict : Hearing → ℕ → ℕ → Heard
verdict h first second = if not h.is_long && is_sum h.content first second then Packet else Bad

-- a byte that is no `$`
abbrev pub after_other : FramePlace → Hearing → ℕ → Told
after_other Between h byte = record { heard = if byte == 45 then Again else Nothing; next = h }  -- `-`
after_other InData h byte = record { heard = Nothing; next = if byte == 35 then go_to FirstDigit h else with_data h byte }  -- `#`
after_other FirstDigit h byte = record { heard = Nothing; next = go_to (SecondDigit byte) h }
after_other (SecondDigit first) h byte = record { heard = verdict h first byte; next = go_to Between h }

-- a byte; a `$` begins a packet, also within one
unfoldable pub after : Hearing → ℕ → Told
after h byte = if byte == 36 then record { heard = Nothing; next = begun } else after_other h.place h byte

-- ---- many bytes

-- where reading stands behind these bytes
abbrev pub reached : Hearing → List ℕ → Hearing
reached h [] = h
reached h (byte ∷ bytes) = reached (after h byte).next bytes

-- what is heard: a packet's data, a bad packet, and that the last packets are asked for again
pub data Message : Type 0 where
  Whole : List ℕ → Message
  Refused : Message
  AskedAgain : Message

abbrev pub message_of : Heard → List ℕ → List Message
message_of Nothing bytes = []
message_of Again bytes = AskedAgain ∷ []
message_of Bad bytes = Refused ∷ []
message_of Packet bytes = Whole bytes ∷ []

abbrev pub told_message : Told → List Message
told_message t = message_of t.heard t.next.content

-- what these bytes tell, one after the other
abbrev pub messages : Hearing → List ℕ → List Message
messages h [] = []
messages h (byte ∷ bytes) = told_message (after h byte) ++ messages (after h byte).next bytes

-- reading stands where all these bytes lead
abbrev pub HasRead : List ℕ → Hearing → Type 0
HasRead bytes h = reached unread bytes ≡ h

-- ---- written

-- what may stand in data
abbrev pub may_stand : ℕ → Bool
may_stand byte = not (byte == 36) && not (byte == 35)

abbrev pub are_data : List ℕ → Bool
are_data bytes = list_all may_stand bytes

-- a frame around data
unfoldable pub framed : List ℕ → List ℕ
framed bytes = 36 ∷ bytes ++ 35 ∷ byte_digits (checksum bytes)
