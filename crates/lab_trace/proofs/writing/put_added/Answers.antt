use Rattle.std.proofs.Common.{arith}
use Rattle.std.proofs.lemmas.Bool.Decides.{nat_tests}
use Rattle.board_outside.proofs.Writing.{then_writes}
use Rattle.lab_trace.proofs.Back.{added_some}
use Rattle.lab_trace.proofs.writing.put_added.Goals as goal

pub returns : goal.returns
returns g c = rw (added_some c.args.text.now (grind (arith, nat_tests, c.is_empty.ensures, c.if-is_empty.false, c.if-is_empty.ensures))) (then_writes c.in_ok-put.ensures c.put-2.ensures)
