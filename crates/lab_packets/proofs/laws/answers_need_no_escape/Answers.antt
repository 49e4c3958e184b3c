use Rattle.lab_packets.specs.Answers.{target_text}
use Rattle.lab_packets.proofs.FrameLaw.{frame_told}
use Rattle.lab_packets.proofs.Unescaped.{reply, bytes, words, console, stop, piece, target, stands}
use Rattle.lab_packets.proofs.laws.answers_need_no_escape.Goals as goal

pub returns-clause-replies : goal.returns-clause-replies
returns-clause-replies c = reply

pub returns-clause-bytes : goal.returns-clause-bytes
returns-clause-bytes c = bytes

pub returns-clause-words : goal.returns-clause-words
returns-clause-words c = words

pub returns-clause-console : goal.returns-clause-console
returns-clause-console c = console

pub returns-clause-stops : goal.returns-clause-stops
returns-clause-stops c = stop

pub returns-clause-features : goal.returns-clause-features
returns-clause-features c = λ offset count. piece target_text offset count target

pub returns-clause-read : goal.returns-clause-read
returns-clause-read c = λ h bs e l. frame_told h bs (stands bs e) l
