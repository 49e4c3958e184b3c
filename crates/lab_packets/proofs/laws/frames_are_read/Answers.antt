use Rattle.lab_packets.proofs.FrameLaw.{frame_told}
use Rattle.lab_packets.proofs.laws.frames_are_read.Goals as goal

pub returns : goal.returns
returns c = frame_told
