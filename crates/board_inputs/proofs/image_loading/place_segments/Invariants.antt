use Rattle.std.proofs.Common.{◌≡◌, drop}
use Rattle.board_inputs.specs.ImageLoading.{with_segments}
use Rattle.board_inputs.proofs.image_loading.place_segments.Given as goal

-- putting the segments that are left gives what putting all gives
abbrev pub invariant-loop-i : goal.invariant-loop-i
invariant-loop-i g l = record l.board { memory = with_segments (drop l.i l.image.segments) l.board.memory } ≡ record l.fn.board { memory = with_segments l.image.segments l.fn.board.memory }
