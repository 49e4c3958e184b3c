use Rattle.std.proofs.Common.{◌≡◌, ◌+◌, drop}
use Rattle.board_inputs.specs.ImageLoading.{with_bytes}
use Rattle.board_inputs.proofs.image_loading.place_bytes.Given as goal

-- putting the bytes that are left gives what putting all gives
abbrev pub invariant-loop-i : goal.invariant-loop-i
invariant-loop-i g l = record l.board { memory = with_bytes (l.at + l.i) (drop l.i l.bytes) l.board.memory } ≡ record l.fn.board { memory = with_bytes l.at l.bytes l.fn.board.memory }
