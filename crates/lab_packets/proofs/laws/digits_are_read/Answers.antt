use Rattle.lab_packets.proofs.Again.{bytes_again, word_again}
use Rattle.lab_packets.proofs.laws.digits_are_read.Goals as goal

pub returns-clause-bytes : goal.returns-clause-bytes
returns-clause-bytes c = bytes_again

pub returns-clause-word : goal.returns-clause-word
returns-clause-word c = word_again
