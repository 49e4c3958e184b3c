-- The lines of the monitor.
use Rattle.std.specs.Prelude.{ℕ, Bool, true, false, List, ◌++◌, codes}
use Rattle.hart_words.specs.Hexadecimal.{hex8}
use Rattle.hart_monitor.specs.declared.stop.Stop.{Stop}
use Rattle.hart_monitor.specs.declared.stop.Stop.TheVariants.{Halt, Break, Budget, Vector}

abbrev pub stop_word : Stop → List ℕ
stop_word Halt = codes "halt"
stop_word Break = codes "break"
stop_word Budget = codes "budget"
stop_word Vector = codes "vector"

-- why it stopped, and pc
unfoldable pub stop_line : Stop → ℕ → List ℕ
stop_line why pc = codes "stop " ++ stop_word why ++ codes " " ++ hex8 pc ++ codes "\n"

-- a breakpoint stands at the address, or there is no room for it
unfoldable pub break_line : Bool → ℕ → List ℕ
break_line true at = codes "break " ++ hex8 at ++ codes "\n"
break_line false at = codes "breaks full\n"

-- it went back and pc is this, or nothing was kept
unfoldable pub back_line : Bool → ℕ → List ℕ
back_line true pc = codes "back " ++ hex8 pc ++ codes "\n"
back_line false pc = codes "no earlier state\n"
