-- The data of the packets that answer.
use Rattle.std.specs.Prelude.{ℕ, zero, suc, ◌+◌, ◌-◌, ◌/◌, ◌%◌, List, [], ◌∷◌, ◌++◌, length, take, drop, min, Bool, false, not, ◌&&◌, ◌==◌, nat_lt, if◌then◌else◌, codes}
use Rattle.std.specs.List.{list_all}
use Rattle.std.specs.Fmt.{digit_glyph}
use Rattle.hart_words.specs.Decimal.{decimal}
use Rattle.hart_words.specs.Hexadecimal.{hex8}
use Rattle.lab_packets.specs.Digits.{byte_digits, bytes_digits}
use Rattle.lab_packets.specs.Frames.{may_stand, framed, most_data}
use Rattle.lab_packets.specs.declared.reply.Reply.{Reply}
use Rattle.lab_packets.specs.declared.reply.Reply.TheVariants.{Supports, Done, Refuses, NoFile, Empty}
use Rattle.lab_packets.specs.declared.stop.Stop.{Stop}
use Rattle.lab_packets.specs.declared.stop.Stop.TheVariants.{Trap, Watched, Begin, Halted, Exception, NoVector, Bounded}
use Rattle.lab_packets.specs.declared.target.TheConstants.{TARGET}

-- ---- answers that are always the same

abbrev pub reply_data : Reply → List ℕ
reply_data Supports = codes "PacketSize=4000;qXfer:features:read+;ReverseStep+;ReverseContinue+"
reply_data Done = codes "OK"
reply_data Refuses = codes "E01"
reply_data NoFile = codes "E00"
reply_data Empty = []

-- ---- words

-- a word: two digits for each byte, the lowest first
unfoldable pub word_digits : ℕ → List ℕ
word_digits v = byte_digits (v % 0x100) ++ byte_digits (v / 0x100 % 0x100) ++ byte_digits (v / 0x1_0000 % 0x100) ++ byte_digits (v / 0x100_0000)

-- words, one after the other
abbrev pub words_digits : List ℕ → List ℕ
words_digits [] = []
words_digits (v ∷ vs) = word_digits v ++ words_digits vs

-- ---- gdb's console

-- what gdb shows on its console
unfoldable pub console_data : List ℕ → List ℕ
console_data bytes = 79 ∷ bytes_digits bytes

-- frames that show bytes in pieces of so many, the last one shorter, in so many pieces at most
abbrev pub console_pieces : ℕ → ℕ → List ℕ → List ℕ
console_pieces zero size bytes = []
console_pieces (suc count) size [] = []
console_pieces (suc count) size (b ∷ bs) = framed (console_data (take size (b ∷ bs))) ++ console_pieces count size (drop size (b ∷ bs))

-- one frame shows so many bytes at most
abbrev pub most_shown : ℕ
most_shown = 1_024

-- frames that show all these bytes
abbrev pub console_frames : List ℕ → List ℕ
console_frames bytes = console_pieces (length bytes) most_shown bytes

-- ---- why the board stands where it does

-- hexadecimal without leading zeros, in lower case, of so many digits at most
abbrev pub hex_upto : ℕ → ℕ → List ℕ
hex_upto zero v = []
hex_upto (suc count) v = if nat_lt v 16 then digit_glyph false v ∷ [] else hex_upto count (v / 16) ++ digit_glyph false (v % 16) ∷ []

-- what gdb's console shows before it
unfoldable pub stop_note : Stop → List ℕ
stop_note Trap = []
stop_note (Watched at) = []
stop_note Begin = []
stop_note (Halted code steps) = codes "halted with code " ++ hex8 code ++ codes " after " ++ decimal steps ++ codes " steps\n"
stop_note (Exception code at) = codes "exception " ++ decimal code ++ codes " at " ++ hex8 at ++ codes "\n"
stop_note (NoVector input) = codes "the vector of input " ++ decimal input ++ codes " isn't in memory\n"
stop_note (Bounded steps) = codes "bound: " ++ decimal steps ++ codes " steps made\n"

unfoldable pub stop_data : Stop → List ℕ
stop_data Trap = codes "S05"
stop_data (Watched at) = codes "T05watch:" ++ hex_upto 8 at ++ codes ";"
stop_data Begin = codes "T05replaylog:begin;"
stop_data (Halted code steps) = codes "T05replaylog:end;"
stop_data (Exception code at) = codes "S05"
stop_data (NoVector input) = codes "S05"
stop_data (Bounded steps) = codes "S02"

-- ---- the description of the registers

-- it has each register's name, its width, its number, and what it holds
unfoldable pub target_text : List ℕ
target_text = TARGET

-- a piece of a text, with a letter that says whether more follows
abbrev pub lettered_piece : List ℕ → ℕ → List ℕ → List ℕ
lettered_piece text offset piece = (if nat_lt (offset + length piece) (length text) then 109 else 108) ∷ piece

-- from an offset on, so many bytes at most; behind the end there is no piece
unfoldable pub text_piece : List ℕ → ℕ → ℕ → List ℕ
text_piece text offset count =
    if nat_lt (length text) offset then codes "E00"
    else lettered_piece text offset (take (min count (most_data - 1)) (drop offset text))

-- ---- the texts of `monitor`

abbrev pub no_such_text : List ℕ
no_such_text = codes "no such command; monitor help tells them\n"

unfoldable pub help_front : List ℕ
help_front =
    codes "steps              the steps made; in a chain the bodies too, and the live services, input:level, the innermost last\n"
    ++ codes "bound N            a continue makes at most N steps (now "

unfoldable pub help_behind : List ℕ
help_behind =
    codes ")\n"
    ++ codes "until N            a continue, to either side, stops where N steps are made\n"
    ++ codes "until-body N       the same, where N bodies are made\n"
    ++ codes "until off          neither\n"
    ++ codes "clic I             pending, enable, attribute and control of input I\n"
    ++ codes "line I V  rx B  pins V  tick N    what a scenario's line says, now\n"

-- with the bound of a continue
unfoldable pub help_text : ℕ → List ℕ
help_text bound = help_front ++ decimal bound ++ help_behind

-- ---- what needs no escape

-- a byte that stands for itself in an answer: none that ends or begins a packet, escapes a byte, or repeats one
abbrev pub is_unescaped : ℕ → Bool
is_unescaped byte = may_stand byte && (not (byte == 125) && not (byte == 42))

abbrev pub are_unescaped : List ℕ → Bool
are_unescaped bytes = list_all is_unescaped bytes
