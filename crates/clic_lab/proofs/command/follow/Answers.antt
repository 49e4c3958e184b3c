use Rattle.std.proofs.Common.{ap}
use Rattle.lab_words.specs.Order.{view}
use Rattle.lab_words.specs.Sweep.{view_sweep}
use Rattle.clic_lab.proofs.command.follow.Goals as goal

pub sweep_files-requires : goal.sweep_files-requires
sweep_files-requires g c = record { parts = c.requires.parts (view_sweep c.in-Sweep.sweep) (ap view c.in-Sweep.is) }
