use Rattle.lab_packets.proofs.Onward.{taken_read, taken_messages}
use Rattle.lab_packets.proofs.frame_reader.FrameReader.take.Goals as goal

pub returns-clause-read : goal.returns-clause-read
returns-clause-read c = λ bytes h. taken_read bytes c.args.self.now c.args.byte _ c.step.ensures h

pub returns-clause-messages : goal.returns-clause-messages
returns-clause-messages c = λ bytes h. taken_messages bytes c.args.self.now c.args.byte _ c.step.ensures h
