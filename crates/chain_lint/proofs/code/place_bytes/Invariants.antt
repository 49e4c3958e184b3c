use Rattle.std.proofs.Common.{◌≡◌, ◌+◌, drop}
use Rattle.board_inputs.specs.ImageLoading.{with_bytes}
use Rattle.chain_lint.proofs.code.place_bytes.Given as goal

-- putting the bytes that are left gives what putting all gives
abbrev pub invariant-loop-i : goal.invariant-loop-i
invariant-loop-i l = record l.banks { present = with_bytes (l.at + l.i) (drop l.i l.bytes) l.banks.present } ≡ record l.fn.banks { present = with_bytes l.at l.bytes l.fn.banks.present }
