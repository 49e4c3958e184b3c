use Rattle.csr_file.proofs.WrittenBack.{written_back}
use Rattle.csr_file.proofs.laws.what_is_read_may_be_written_back.Goals as goal

pub returns : goal.returns
returns c = written_back
