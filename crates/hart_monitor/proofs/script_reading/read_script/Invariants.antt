use Rattle.std.proofs.Common.{◌+◌, ◌^◌, option_map}
use Rattle.hart_words.specs.Lines.{left}
use Rattle.hart_monitor.specs.ScriptReading.{script_of}
use Rattle.hart_monitor.proofs.LineLoop.{ReadsOn}
use Rattle.hart_monitor.proofs.script_reading.read_script.Given as goal

-- reading on from here gives what reading all gives
abbrev pub invariant-loop-rest : goal.invariant-loop-rest
invariant-loop-rest l = ReadsOn (script_of l.bytes) (2 ^ 32 + 1) (option_map (λ s. s.now) l.rest) l.number l.script

abbrev pub decreases-loop-rest : goal.decreases-loop-rest
decreases-loop-rest l = left (option_map (λ s. s.now) l.rest)
