use Rattle.std.proofs.Common.{◌≡◌, drop, ◌++◌}
use Rattle.tool_work.specs.Assemble.{symbols_text}
use Rattle.tool_work.proofs.assembling.text_of_symbols.Given as goal

-- the text so far and that of the labels that are left make the whole text
abbrev pub invariant-loop-i : goal.invariant-loop-i
invariant-loop-i l = l.text ++ symbols_text (drop l.i l.symbols) ≡ symbols_text l.symbols
