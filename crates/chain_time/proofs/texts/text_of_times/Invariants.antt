use Rattle.std.proofs.Common.{◌≡◌, ◌++◌, drop}
use Rattle.chain_time.specs.Text.{time_lines}
use Rattle.chain_time.proofs.texts.text_of_times.Given as goal

-- the text so far with the lines that are left
abbrev pub invariant-loop-row : goal.invariant-loop-row
invariant-loop-row l = l.text ++ time_lines l.names l.times (drop l.row-index l.row-items) ≡ time_lines l.names l.times l.times
