-- What is done of an order.
use Rattle.std.specs.Prelude.{Option, Some, None}
use Rattle.tool_frame.specs.Plan.{Plan, Makes}
use Rattle.lab_words.specs.Order.{Order, Elfs, Namings, Traces, Sweeps}
use Rattle.lab_work.specs.Elf.{elf_plan}
use Rattle.lab_work.specs.Names.{names_plan}
use Rattle.lab_work.specs.Trace.{trace_plan}
use Rattle.lab_work.specs.Sweep.{sweep_plan}
use Rattle.clic_lab.specs.Usage.{usage_due}

-- the plan of each command; words that are no command give the usage line
abbrev pub plan_of : Option Order → Plan (Unit {0})
plan_of None = Makes usage_due tt
plan_of (Some (Elfs words)) = elf_plan words
plan_of (Some (Namings words)) = names_plan words
plan_of (Some (Traces words)) = trace_plan words
plan_of (Some (Sweeps words)) = sweep_plan words
