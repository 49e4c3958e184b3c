use Rattle.std.proofs.Common.{sym}
use Rattle.std.proofs.lemmas.List.{take_all}
use Rattle.lab_elf.proofs.symbols.start_of.Goals as goal

pub returns-then-text-most : goal.returns-then-text-most
returns-then-text-most c = sym (take_all c.args.most c.args.text.now c.if-text-most.true)
