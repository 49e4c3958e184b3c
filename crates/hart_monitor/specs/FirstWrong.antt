-- The first line of a script in which something is wrong.
use Rattle.std.specs.Prelude.{◌≡◌, ℕ, ◌+◌, ◌≤◌, List, ◌∷◌, ◌++◌, length}
use Rattle.hart_words.specs.Lines.{lines_of}
use Rattle.board_inputs.specs.Spelling.{IsPassed}
use Rattle.hart_monitor.specs.Spelling.{Spells}
use Rattle.hart_monitor.specs.ScriptFile.{Tell, most_commands}
use Rattle.hart_monitor.specs.declared.command.Command.{Command}
use Rattle.hart_monitor.specs.declared.script_why.ScriptWhy.{ScriptWhy}
use Rattle.hart_monitor.specs.declared.script_why.ScriptWhy.TheVariants.{BadLine, TooMany}
use Rattle.hart_monitor.specs.declared.script_error.ScriptError.{ScriptError}
use Rattle.hart_monitor.specs.declared.script_error.ScriptError.TheVariants.{Memory, Refused}

-- this is wrong with the line, after these commands
abbrev pub IsWrong : List ℕ → List Command → ScriptWhy → Type 0
IsWrong line before BadLine = (IsPassed line → ⊥) × ((c : Command) → Spells line c → ⊥)
IsWrong line before TooMany = (c : Command) × Spells line c × (most_commands ≤ length before)

-- the lines before it tell commands, and this is wrong with it
pub record IsFirstWrong (bytes : List ℕ) (number : ℕ) (why : ScriptWhy) : Type 0 where
  pub front : List (List ℕ)
  pub line : List ℕ
  pub behind : List (List ℕ)
  pub lines : lines_of bytes ≡ front ++ line ∷ behind
  pub number_is : number ≡ length front + 1
  pub before : List Command
  pub told : Tell front before
  pub few : length before ≤ most_commands
  pub wrong : IsWrong line before why

-- it refused the first line in which something is wrong, or memory was wanting
abbrev pub RefusesFirst : List ℕ → ScriptError → Type 0
RefusesFirst bytes Memory = Unit {0}
RefusesFirst bytes (Refused number why) = IsFirstWrong bytes number why
