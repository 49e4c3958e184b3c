use Rattle.std.proofs.Common.{◌+◌, ◌^◌, option_map}
use Rattle.hart_words.specs.Lines.{left}
use Rattle.lab_names.specs.NamesReading.{listed}
use Rattle.lab_names.proofs.Lines.{ReadsOn}
use Rattle.lab_names.proofs.names_reading.read_lines.Given as goal

-- reading on from here gives what reading all gives
abbrev pub invariant-loop-rest : goal.invariant-loop-rest
invariant-loop-rest l = ReadsOn (listed l.bytes) (2 ^ 32 + 1) (option_map (λ s. s.now) l.rest) l.number l.names.items

abbrev pub decreases-loop-rest : goal.decreases-loop-rest
decreases-loop-rest l = left (option_map (λ s. s.now) l.rest)
