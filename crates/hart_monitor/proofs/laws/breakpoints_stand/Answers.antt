use Rattle.hart_monitor.proofs.BreakFacts.{break_stands, full_stays, others_stay, few_stand}
use Rattle.hart_monitor.proofs.laws.breakpoints_stand.Goals as goal

pub returns : goal.returns
returns c = record { stands = break_stands; full = full_stays; others = others_stay; few = few_stand }
