-- The trace of a run: a line for each step.
use Rattle.std.specs.Prelude.{ℕ, ◌%◌, ◌==◌, Bool, true, false, List, [], ◌∷◌, ◌++◌, codes, if◌then◌else◌}
use Rattle.hart_words.specs.Decimal.{decimal}
use Rattle.hart_words.specs.Hexadecimal.{hex4, hex8}
use Rattle.hart_report.specs.declared.stepped.Stepped.{Stepped}
use Rattle.hart_report.specs.declared.stepped.Stepped.TheVariants.{Retired, Interrupted, Raised, Halted, VectorFault}

-- an instruction of 32 bits, and one of 16 bits, with the pc before it
abbrev pub word_line : ℕ → ℕ → List ℕ
word_line pc bits = codes "i " ++ hex8 pc ++ codes " " ++ hex8 bits ++ codes "\n"

abbrev pub half_line : ℕ → ℕ → List ℕ
half_line pc bits = codes "c " ++ hex8 pc ++ codes " " ++ hex4 (bits % 0x1_0000) ++ codes "\n"

-- an entry, by its kind, the pc before it, and the input or the code
abbrev pub entry_line : List ℕ → ℕ → ℕ → List ℕ
entry_line kind pc number = kind ++ hex8 pc ++ codes " " ++ decimal number ++ codes "\n"

-- the line of a step: an instruction, an interrupt's entry with the input, or an exception's with the code
unfoldable pub trace_line : Stepped → List ℕ
trace_line (Retired pc bits length) = if length == 4 then word_line pc bits else half_line pc bits
trace_line (Interrupted pc id) = entry_line (codes "q ") pc id
trace_line (Raised pc code) = entry_line (codes "x ") pc code
trace_line (Halted code) = []
trace_line (VectorFault id) = []

-- what a step adds to the text, where a trace is asked for or not
abbrev pub step_text : Bool → Stepped → List ℕ
step_text true told = trace_line told
step_text false told = []

-- and what the steps of a run add
unfoldable pub trace_text : Bool → List Stepped → List ℕ
trace_text on [] = []
trace_text on (told ∷ steps) = step_text on told ++ trace_text on steps
