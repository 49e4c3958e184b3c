use Rattle.asm_text.proofs.NameLaws.{registers_are_told, csrs_are_told}
use Rattle.asm_text.proofs.laws.names_are_those_of_the_tables.Goals as goal

pub returns-clause-registers : goal.returns-clause-registers
returns-clause-registers c = registers_are_told

pub returns-clause-csrs : goal.returns-clause-csrs
returns-clause-csrs c = csrs_are_told
