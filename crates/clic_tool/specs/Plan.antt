-- What is done of an order.
use Rattle.std.specs.Prelude.{Option, Some, None}
use Rattle.tool_frame.specs.Plan.{Plan, Makes}
use Rattle.tool_work.specs.declared.bench.Bench.{Bench}
use Rattle.tool_work.specs.Bench.{empty_bench}
use Rattle.tool_work.specs.Run.{run_plan}
use Rattle.tool_work.specs.Chain.{chain_plan}
use Rattle.tool_work.specs.Monitor.{monitor_plan}
use Rattle.tool_work.specs.Gen.{gen_plan}
use Rattle.tool_work.specs.Assemble.{assemble_plan}
use Rattle.tool_work.specs.Disassemble.{disassemble_plan}
use Rattle.tool_work.specs.Mem.{mem_plan}
use Rattle.tool_work.specs.Unmem.{unmem_plan}
use Rattle.tool_work.specs.Lint.{lint_plan}
use Rattle.tool_work.specs.Bound.{bound_plan}
use Rattle.clic_tool.specs.Usage.{usage_due}
use Rattle.tool_words.specs.Order.{Order, Runs, Chains, Monitors, Gens, Assembles, Disassembles, Mems, Unmems, Lints, Bounds}

-- the plan of each command; words that are no command give the usage line
abbrev pub plan_of : Option Order → Plan Bench
plan_of None = Makes usage_due empty_bench
plan_of (Some (Runs run)) = run_plan run
plan_of (Some (Chains chain)) = chain_plan chain
plan_of (Some (Monitors words)) = monitor_plan words
plan_of (Some (Gens words)) = gen_plan words
plan_of (Some (Assembles words)) = assemble_plan words
plan_of (Some (Disassembles words)) = disassemble_plan words
plan_of (Some (Mems words)) = mem_plan words
plan_of (Some (Unmems words)) = unmem_plan words
plan_of (Some (Lints words)) = lint_plan words
plan_of (Some (Bounds words)) = bound_plan words
