use Rattle.clic_regs.proofs.Kept.{line_changed-kept, claimed-kept, byte_written-kept, line_changed-shape, claimed-shape, byte_written-shape}
use Rattle.clic_regs.proofs.laws.changes_keep_the_state_valid.Goals as goal

pub returns : goal.returns
returns c = record {
  line = line_changed-kept;
  claim = claimed-kept;
  byte = byte_written-kept;
  line_shape = line_changed-shape;
  claim_shape = claimed-shape;
  byte_shape = byte_written-shape;
}
