use Rattle.hart_monitor.proofs.CommandAgain.{command_again}
use Rattle.hart_monitor.proofs.CommandTold.{command_told}
use Rattle.hart_monitor.proofs.laws.commands_are_spelled.Goals as goal

pub returns : goal.returns
returns c = λ line command. (command_told line command, command_again line command)
