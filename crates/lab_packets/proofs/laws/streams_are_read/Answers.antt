use Rattle.std.proofs.Common.{refl, sym, ap, ◌∙◌}
use Rattle.lab_packets.specs.Frames.{messages, unread}
use Rattle.lab_packets.proofs.ItemsRead.{items_read}
use Rattle.lab_packets.proofs.ItemsFound.{found}
use Rattle.lab_packets.proofs.laws.streams_are_read.Goals as goal

pub returns-clause-some : goal.returns-clause-some
returns-clause-some c = λ bytes. ((found bytes).items, (found bytes).are)

pub returns-clause-told : goal.returns-clause-told
returns-clause-told c = λ bytes items a. ap (messages unread) (sym a.text) ∙ items_read items unread a.are refl
