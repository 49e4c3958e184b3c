-- The file of a script: lines, each of which is passed over or spells a command.
use Rattle.std.specs.Prelude.{◌≡◌, ℕ, ◌≤◌, ◌⊎◌, List, [], ◌∷◌, length}
use Rattle.hart_words.specs.Lines.{lines_of}
use Rattle.board_inputs.specs.Spelling.{IsPassed}
use Rattle.hart_monitor.specs.Spelling.{Spells}
use Rattle.hart_monitor.specs.declared.command.Command.{Command}

-- the lines tell these commands, one after the other
abbrev pub Tell : List (List ℕ) → List Command → Type 0
Tell [] cs = cs ≡ []
Tell (line ∷ lines) cs = (IsPassed line × Tell lines cs) ⊎ ((c : Command) × (rest : List Command) × (cs ≡ c ∷ rest) × Spells line c × Tell lines rest)

-- so many commands a script has at most
abbrev pub most_commands : ℕ
most_commands = 4_096

-- the bytes are a file of these commands
pub record IsScriptFile (bytes : List ℕ) (cs : List Command) : Type 0 where
  pub lines : Tell (lines_of bytes) cs
  pub few : length cs ≤ most_commands
