use Rattle.std.proofs.Common.{subst, Result}
use Rattle.rv_assembler.specs.Source.{Program, Refusal}
use Rattle.rv_assembler.specs.Answers.{Gives}
use Rattle.rv_assembler.proofs.Made.{source_made}
use Rattle.rv_assembler.proofs.assembling.assemble.Goals as goal

pub returns-clause-only : goal.returns-clause-only
returns-clause-only c = λ p is. subst (λ (told : Result Program Refusal). Gives c.assembled_in.result told) (source_made c.args.source.now p is) c.assembled_in.ensures.answer
