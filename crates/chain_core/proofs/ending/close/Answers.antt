use Rattle.std.proofs.Common.{true, false, refl}
use Rattle.chain_core.proofs.ending.close.Goals as goal

pub returns-in-Ok-put_report : goal.returns-in-Ok-put_report
returns-in-Ok-put_report g c = rw c.in-Ok.is (record { whole = true; end_is = refl; told = c.in-Ok-put_report.ensures })

pub returns-in-Err-put_report : goal.returns-in-Err-put_report
returns-in-Err-put_report g c = rw c.in-Ok.is (record { whole = false; end_is = refl; told = c.in-Err-put_report.ensures })
