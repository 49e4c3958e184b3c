use Rattle.std.proofs.Common.{◌≡◌, ◌<◌, ℕ, length, slice_index}
use Rattle.chain_moves.proofs.kept.all.Given as goal

-- those before this one stand there
abbrev pub invariant-loop-r : goal.invariant-loop-r
invariant-loop-r l = record {
  long : length l.words ≡ 32;
  same : (k : ℕ) → k < l.r → slice_index l.words k ≡ slice_index l.registers k;
}
