use Rattle.std.proofs.Common.{◌≡◌, drop}
use Rattle.rv_assembler.specs.Source.{cut_segments}
use Rattle.rv_assembler.proofs.Adding.{Adding}
use Rattle.rv_assembler.proofs.cutting.add_segments.Given as goal

abbrev pub invariant-loop-stretch : goal.invariant-loop-stretch
invariant-loop-stretch l = (l.image.start ≡ l.initial.image.start) × Adding (cut_segments l.stretches l.bytes) (drop l.stretch-index l.stretches) l.rest l.image.segments
