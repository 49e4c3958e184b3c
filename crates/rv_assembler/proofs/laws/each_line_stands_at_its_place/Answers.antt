use Rattle.rv_assembler.proofs.Told.{source_told}
use Rattle.rv_assembler.proofs.Made.{source_made}
use Rattle.rv_assembler.proofs.laws.each_line_stands_at_its_place.Goals as goal

pub returns-clause-told : goal.returns-clause-told
returns-clause-told c = source_told

pub returns-clause-one : goal.returns-clause-one
returns-clause-one c = source_made
