use Rattle.std.proofs.Common.{◌≡◌, drop}
use Rattle.board_inputs.specs.ImageLoading.{with_segments}
use Rattle.chain_lint.proofs.code.place_segments.Given as goal

-- putting the segments that are left gives what putting all gives
abbrev pub invariant-loop-i : goal.invariant-loop-i
invariant-loop-i l = record l.banks { present = with_segments (drop l.i l.image.segments) l.banks.present } ≡ record l.fn.banks { present = with_segments l.image.segments l.fn.banks.present }
