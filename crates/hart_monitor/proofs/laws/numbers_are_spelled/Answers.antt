use Rattle.hart_monitor.proofs.NumberText.{number_spelled, number_there}
use Rattle.hart_monitor.proofs.laws.numbers_are_spelled.Goals as goal

pub returns : goal.returns
returns c = λ least most n text small. (number_spelled least most n text, λ h. number_there least most n text small h.0 h.1 h.2)
