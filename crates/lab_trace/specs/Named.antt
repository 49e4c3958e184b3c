-- The lines of a trace with names and instructions.
use Rattle.std.specs.Prelude.{ℕ, zero, suc, ◌==◌, ◌&&◌, ◌||◌, nat_le, Bool, true, false, List, [], ◌∷◌, ◌++◌, length, Option, Some, None, slice_range, if◌then◌else◌, codes}
use Rattle.std.specs.List.{list_all}
use Rattle.hart_words.specs.Decimal.{decimal}
use Rattle.hart_words.specs.Lines.{lines_of}
use Rattle.asm_text.specs.Numbers.{digits_after}
use Rattle.asm_text.specs.Pieces.{printed}
use Rattle.rvc_encoding.specs.Rows.{spelled16}
use Rattle.rv_disasm.specs.Printing.{line_pieces}
use Rattle.rv_disasm.specs.Listing.{short_or, word_statement}
use Rattle.lab_names.specs.Name.{NameView, is_name}
use Rattle.lab_names.specs.Table.{at_or_below}
use Rattle.lab_trace.specs.declared.trace_line.TraceLine.{TraceLine}
use Rattle.lab_trace.specs.declared.trace_line.TraceLine.TheVariants.{Word, Half, Entry, Service, Other}
use Rattle.lab_trace.specs.Added.{spelled, added}

-- ---- what a line tells

-- a line begins with a letter and a space
abbrev pub begins_with : ℕ → List ℕ → Bool
begins_with letter [] = false
begins_with letter (a ∷ []) = false
begins_with letter (a ∷ b ∷ rest) = (a == letter) && (b == 32)

-- the address, whose eight digits stand behind them
abbrev pub address_in : List ℕ → Option ℕ
address_in line = digits_after 16 0 (slice_range line 2 10)

-- the number whose digits stand behind the address
abbrev pub bits_in : List ℕ → Option ℕ
bits_in line = digits_after 16 0 (slice_range line 11 (length line))

abbrev pub word_told : Option ℕ → Option ℕ → TraceLine
word_told None bits = Other
word_told (Some pc) None = Other
word_told (Some pc) (Some bits) = Word pc bits

abbrev pub half_told : Option ℕ → Option ℕ → TraceLine
half_told None bits = Other
half_told (Some pc) None = Other
half_told (Some pc) (Some bits) = Half pc bits

abbrev pub entry_told : Option ℕ → TraceLine
entry_told None = Other
entry_told (Some pc) = Entry pc

-- `i 00000246 00508067`, `c 00000246 8067`, `q 00000246 16` or `x 00000246 11`, `s 16 127 1` or `d 16 127 1`
unfoldable pub told_by : List ℕ → TraceLine
told_by line =
    if begins_with 105 line && (length line == 19) then word_told (address_in line) (bits_in line)
    else (if begins_with 99 line && (length line == 15) then half_told (address_in line) (bits_in line)
    else (if (begins_with 113 line || begins_with 120 line) && nat_le 12 (length line) then entry_told (address_in line)
    else (if begins_with 115 line || begins_with 100 line then Service
    else Other)))

-- the address that a line tells
abbrev pub address_of : TraceLine → Option ℕ
address_of (Word pc bits) = Some pc
address_of (Half pc bits) = Some pc
address_of (Entry pc) = Some pc
address_of Service = None
address_of Other = None

-- that of the first of some lines
abbrev pub address_first : List (List ℕ) → Option ℕ
address_first [] = None
address_first (line ∷ lines) = address_of (told_by line)

-- ---- what is added to it

-- how far behind the name, where it is
abbrev pub offset_text : ℕ → List ℕ
offset_text zero = []
offset_text (suc n) = codes "+" ++ decimal (suc n)

-- `<handler_16+8>`: a name and how far behind it; a text that is no name isn't shown
abbrev pub name_by : Option (List ℕ × ℕ) → List ℕ
name_by None = []
name_by (Some (name, offset)) = if is_name name then codes "<" ++ name ++ offset_text offset ++ codes ">" else []

-- the name at or below an address
abbrev pub name_text : List NameView → ℕ → List ℕ
name_text names at = name_by (at_or_below at names)

-- the name at or below an address, where there is one
abbrev pub place_text : List NameView → Option ℕ → List ℕ
place_text names None = []
place_text names (Some at) = name_text names at

-- the name of a line: that of its address; and that of a service is its handler's, which the next line tells, since its handler begins there
abbrev pub name_of : List NameView → Option ℕ → TraceLine → List ℕ
name_of names next (Word pc bits) = name_text names pc
name_of names next (Half pc bits) = name_text names pc
name_of names next (Entry pc) = name_text names pc
name_of names next Service = place_text names next
name_of names next Other = []

-- no byte is a control byte
abbrev pub is_shown : List ℕ → Bool
is_shown text = list_all (λ b. nat_le 32 b) text

abbrev pub shown : List ℕ → List ℕ
shown text = if is_shown text then text else []

-- the instruction of a line, as it is disassembled
abbrev pub instruction_in : TraceLine → List ℕ
instruction_in (Word pc bits) = printed (line_pieces pc (word_statement bits))
instruction_in (Half pc bits) = printed (line_pieces pc (short_or (spelled16 bits) bits))
instruction_in (Entry pc) = []
instruction_in Service = []
instruction_in Other = []

abbrev pub instruction_of : TraceLine → List ℕ
instruction_of told = shown (instruction_in told)

-- a line, without its line feed, with the name and the instruction behind it
abbrev pub with_both : List ℕ → List ℕ → List ℕ → List ℕ
with_both line name instruction = spelled line ++ added name ++ added instruction ++ codes "\n"

unfoldable pub named_line : List NameView → Option ℕ → List ℕ → List ℕ
named_line names next line = with_both line (name_of names next (told_by line)) (instruction_of (told_by line))

-- ---- a text

-- what stands between two line feeds is a line, to which nothing is added where it isn't one
abbrev pub named_piece : List NameView → Option ℕ → Bool → List ℕ → List ℕ
named_piece names next true piece = named_line names next piece
named_piece names next false piece = spelled piece

-- each line, and what stands behind the last line feed
abbrev pub named_pieces : List NameView → List (List ℕ) → List ℕ
named_pieces names [] = []
named_pieces names (last ∷ []) = named_piece names None false last
named_pieces names (line ∷ next ∷ pieces) = named_piece names (address_first (next ∷ pieces)) true line ++ named_pieces names (next ∷ pieces)

-- a text with what is added to each of its lines
unfoldable pub named_text : List NameView → List ℕ → List ℕ
named_text names text = named_pieces names (lines_of text)
