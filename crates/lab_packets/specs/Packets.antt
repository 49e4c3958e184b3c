-- Which data is which packet.
use Rattle.std.specs.Prelude.{ℕ, List, length, drop, slice_index, Bool, true, false, ◌||◌, ◌==◌, nat_eq, Option, Some, None, if◌then◌else◌, codes}
use Rattle.std.specs.Str.{bytes_eq}
use Rattle.std.specs.List.{starts_with}
use Rattle.hart_words.specs.Cuts.{cut}
use Rattle.lab_packets.specs.Digits.{bytes_of}
use Rattle.lab_packets.specs.Numbers.{number_of, word_of}
use Rattle.lab_packets.specs.declared.point.Point.{Point}
use Rattle.lab_packets.specs.declared.point.Point.TheVariants.{Break, Watch}
use Rattle.lab_packets.specs.declared.packet.Packet.{Packet}
use Rattle.lab_packets.specs.declared.packet.Packet.TheVariants.{Supported, Features, NoFeatures, Why, ReadRegisters, ReadRegister, WriteRegister, ReadMemory, WriteMemory, Step, Continue, BackStep, BackContinue, Insert, Remove, Monitor, Detach, Kill, Malformed, Other}

-- ---- numbers

abbrev pub both : Option ℕ → Option ℕ → Option (ℕ × ℕ)
both (Some a) (Some b) = Some (a, b)
both _ _ = None

abbrev pub two_parts : List ℕ × Option (List ℕ) → Option (ℕ × ℕ)
two_parts (first, None) = None
two_parts (first, Some second) = both (number_of first) (number_of second)

-- N,N
unfoldable pub two_numbers : List ℕ → Option (ℕ × ℕ)
two_numbers text = two_parts (cut 44 text)

-- ---- registers

abbrev pub register_read : Option ℕ → Packet
register_read None = Malformed
register_read (Some n) = ReadRegister n

abbrev pub register_written : Option ℕ → Option ℕ → Packet
register_written (Some n) (Some v) = WriteRegister n v
register_written _ _ = Malformed

abbrev pub register_parts : List ℕ × Option (List ℕ) → Packet
register_parts (first, None) = Malformed
register_parts (first, Some second) = register_written (number_of first) (word_of second)

-- behind `P`: N=, and the word's eight digits
unfoldable pub written_register : List ℕ → Packet
written_register text = register_parts (cut 61 text)

-- ---- memory

abbrev pub memory_read : Option (ℕ × ℕ) → Packet
memory_read None = Malformed
memory_read (Some (at, count)) = ReadMemory at count

-- as many bytes as are announced
abbrev pub memory_written : Option (ℕ × ℕ) → Option (List ℕ) → Packet
memory_written (Some (at, count)) (Some bytes) = if length bytes == count then WriteMemory at bytes else Malformed
memory_written _ _ = Malformed

abbrev pub memory_parts : List ℕ × Option (List ℕ) → Packet
memory_parts (first, None) = Malformed
memory_parts (first, Some second) = memory_written (two_numbers first) (bytes_of second)

-- behind `M`: N,N: and the digits of the bytes
unfoldable pub written_memory : List ℕ → Packet
written_memory text = memory_parts (cut 58 text)

-- ---- breakpoints and watchpoints

-- put there, or taken away
abbrev pub moved : Bool → Point → Packet
moved true p = Insert p
moved false p = Remove p

-- the length of a breakpoint is passed over
abbrev pub point_at : Bool → Bool → Option (ℕ × ℕ) → Packet
point_at inserts watches None = Malformed
point_at inserts watches (Some (at, count)) = moved inserts (if watches then Watch at count else Break at)

-- behind the kind: ,N,N
abbrev pub point_behind : Bool → Bool → List ℕ → Packet
point_behind inserts watches text = if slice_index text 0 == 44 then point_at inserts watches (two_numbers (drop 1 text)) else Malformed

-- behind `Z` or `z`: of kind 0 or 1 a breakpoint, of kind 2 a watchpoint
unfoldable pub point_packet : Bool → List ℕ → Packet
point_packet inserts text =
    if (slice_index text 0 == 48) || (slice_index text 0 == 49) then point_behind inserts false (drop 1 text)
    else (if slice_index text 0 == 50 then point_behind inserts true (drop 1 text)
    else Other)

-- ---- queries

abbrev pub features_at : Option (ℕ × ℕ) → Packet
features_at None = NoFeatures
features_at (Some (at, count)) = Features at count

-- behind `qXfer:features:read:`: the name of the one file of features that there is, and N,N
unfoldable pub features : List ℕ → Packet
features text = if starts_with nat_eq text (codes "target.xml:") then features_at (two_numbers (drop 11 text)) else NoFeatures

abbrev pub command_in : Option (List ℕ) → Packet
command_in None = Malformed
command_in (Some text) = Monitor text

unfoldable pub query : List ℕ → Packet
query text =
    if starts_with nat_eq text (codes "qSupported") then Supported
    else (if starts_with nat_eq text (codes "qXfer:features:read:") then features (drop 20 text)
    else (if starts_with nat_eq text (codes "qRcmd,") then command_in (bytes_of (drop 6 text))
    else Other))

-- ---- all packets

-- by the first letter, and what follows it
unfoldable pub lettered : List ℕ → Packet
lettered text =
    if slice_index text 0 == 112 then register_read (number_of (drop 1 text))  -- p
    else (if slice_index text 0 == 80 then written_register (drop 1 text)  -- P
    else (if slice_index text 0 == 109 then memory_read (two_numbers (drop 1 text))  -- m
    else (if slice_index text 0 == 77 then written_memory (drop 1 text)  -- M
    else (if slice_index text 0 == 90 then point_packet true (drop 1 text)  -- Z
    else (if slice_index text 0 == 122 then point_packet false (drop 1 text)  -- z
    else query text)))))

-- one that goes back
abbrev pub back_or : Packet → List ℕ → Packet
back_or other text =
    if bytes_eq text (codes "bs") then BackStep
    else (if bytes_eq text (codes "bc") then BackContinue
    else other)

-- the packet whose data these bytes are
unfoldable pub packet_of : List ℕ → Packet
packet_of text =
    if bytes_eq text (codes "?") then Why
    else (if bytes_eq text (codes "g") then ReadRegisters
    else (if bytes_eq text (codes "s") then Step
    else (if bytes_eq text (codes "c") then Continue
    else (if bytes_eq text (codes "D") then Detach
    else (if bytes_eq text (codes "k") then Kill
    else back_or (lettered text) text)))))
