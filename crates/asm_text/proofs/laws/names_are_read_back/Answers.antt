use Rattle.asm_text.proofs.NameLaws.{register_again, csr_again}
use Rattle.asm_text.proofs.laws.names_are_read_back.Goals as goal

pub returns-clause-registers : goal.returns-clause-registers
returns-clause-registers c = register_again

pub returns-clause-csrs : goal.returns-clause-csrs
returns-clause-csrs c = λ name n. csr_again name n
