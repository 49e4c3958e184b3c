-- What reading a script line by line gives: its commands, or the first thing that is wrong, with its line.
use Rattle.std.specs.Prelude.{◌≡◌, ℕ, ◌+◌, List, [], ◌∷◌, ◌++◌, length, nat_le, Option, Some, None, if◌then◌else◌, Result, Ok, Err}
use Rattle.hart_words.specs.Lines.{lines_of}
use Rattle.hart_words.specs.InTurn.{◌>>=◌}
use Rattle.board_inputs.specs.Opening.{is_passed}
use Rattle.hart_monitor.specs.Lines.{command_of}
use Rattle.hart_monitor.specs.ScriptFile.{most_commands}
use Rattle.hart_monitor.specs.declared.command.Command.{Command}
use Rattle.hart_monitor.specs.declared.script_why.ScriptWhy.{ScriptWhy}
use Rattle.hart_monitor.specs.declared.script_why.ScriptWhy.TheVariants.{BadLine, TooMany}
use Rattle.hart_monitor.specs.declared.script_error.ScriptError.{ScriptError}
use Rattle.hart_monitor.specs.declared.script_error.ScriptError.TheVariants.{Memory, Refused}

-- what is wrong, and in which line
pub record Fault : Type 0 where
  pub line : ℕ
  pub why : ScriptWhy

abbrev pub in_line : ℕ → ScriptWhy → Result (List Command) Fault
in_line n why = Err (record { line = n; why = why })

-- the commands with one more, which stands in line n
abbrev pub with_command : Command → ℕ → List Command → Result (List Command) Fault
with_command c n before = if nat_le most_commands (length before) then in_line n TooMany else Ok (before ++ c ∷ [])

abbrev pub with_found : Option Command → ℕ → List Command → Result (List Command) Fault
with_found None n before = in_line n BadLine
with_found (Some c) n before = with_command c n before

-- the commands after line n
unfoldable pub with_line : List ℕ → ℕ → List Command → Result (List Command) Fault
with_line line n before = if is_passed line then Ok before else with_found (command_of line) n before

-- the commands after these lines, the first of which is line n
unfoldable pub with_lines : List (List ℕ) → ℕ → List Command → Result (List Command) Fault
with_lines [] n before = Ok before
with_lines (line ∷ lines) n before = with_line line n before >>= λ cs. with_lines lines (n + 1) cs

unfoldable pub script_of : List ℕ → Result (List Command) Fault
script_of bytes = with_lines (lines_of bytes) 1 []

-- ---- what a function answers

-- it refused what reading refuses, or memory was wanting
abbrev pub Fails : {A : Type 0} → ScriptError → Result A Fault → Type 0
Fails Memory read = Unit {0}
Fails (Refused line why) read = read ≡ Err (record { line = line; why = why })

-- it answered what reading gives, unless memory was wanting
abbrev pub Gives : Result (List Command) ScriptError → Result (List Command) Fault → Type 0
Gives (Ok x) read = read ≡ Ok x
Gives (Err e) read = Fails e read

-- it made the commands what reading gives; after an Err they are as they were
abbrev pub Becomes : List Command → List Command → Result (Unit {0}) ScriptError → Result (List Command) Fault → Type 0
Becomes old new (Ok done) read = read ≡ Ok new
Becomes old new (Err e) read = (new ≡ old) × Fails e read
