use Rattle.std.proofs.Common.{◌≡◌, ◌++◌, map, drop}
use Rattle.lab_sweep.specs.Outcome.{with_colon}
use Rattle.lab_sweep.proofs.outcome.push_numbers.Given as goal

-- with those that are left it is what is wanted
abbrev pub invariant-loop-byte : goal.invariant-loop-byte
invariant-loop-byte l = l.words.items ++ map with_colon (drop l.byte-index l.numbers) ≡ l.initial.words.items ++ map with_colon l.numbers
