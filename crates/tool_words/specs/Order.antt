-- What the words ask for.
use Rattle.std.specs.Prelude.{List, Option, None, codes, if◌then◌else◌, option_map}
use Rattle.clap.specs.Words.{Text}
use Rattle.tool_frame.specs.Options.{taken, taken_if, starts_with}
use Rattle.tool_words.specs.Run.{RunWords, run_app, run_in, view_run}
use Rattle.tool_words.specs.Chain.{ChainWords, chain_app, chain_in, view_chain}
use Rattle.tool_words.specs.Monitor.{MonitorWords, monitor_app, monitor_in, view_monitor}
use Rattle.tool_words.specs.Gen.{GenWords, gen_app, gen_in, view_gen}
use Rattle.tool_words.specs.Assemble.{AssembleWords, assemble_app, assemble_in, view_assemble}
use Rattle.tool_words.specs.Disassemble.{DisassembleWords, disassemble_app, disassemble_in, view_disassemble}
use Rattle.tool_words.specs.Mem.{MemWords, mem_app, mem_in, view_mem}
use Rattle.tool_words.specs.Unmem.{UnmemWords, unmem_app, unmem_in, view_unmem}
use Rattle.tool_words.specs.Lint.{LintWords, lint_app, lint_in, view_lint}
use Rattle.tool_words.specs.Bound.{BoundWords, bound_app, bound_in, view_bound}
use Rattle.tool_words.specs.declared.order.Order.{Order as Asked}
use Rattle.tool_words.specs.declared.order.Order.TheVariants.{Run, Chain, Monitor, Gen, Assemble, Disassemble, Mem, Unmem, Lint, Bound}

pub data Order : Type 0 where
  Runs : RunWords → Order
  Chains : ChainWords → Order
  Monitors : MonitorWords → Order
  Gens : GenWords → Order
  Assembles : AssembleWords → Order
  Disassembles : DisassembleWords → Order
  Mems : MemWords → Order
  Unmems : UnmemWords → Order
  Lints : LintWords → Order
  Bounds : BoundWords → Order

-- the commands of handlers
abbrev pub handler_order_of : List Text → Option Order
handler_order_of words =
    if starts_with (codes "lint") words then option_map Lints (taken lint_app lint_in words)
    else (if starts_with (codes "bound") words then option_map Bounds (taken_if bound_app bound_in words)
    else None)

-- the commands that make one file of another, or those of handlers
abbrev pub file_order_of : List Text → Option Order
file_order_of words =
    if starts_with (codes "asm") words then option_map Assembles (taken assemble_app assemble_in words)
    else (if starts_with (codes "disasm") words then option_map Disassembles (taken disassemble_app disassemble_in words)
    else (if starts_with (codes "mem") words then option_map Mems (taken mem_app mem_in words)
    else (if starts_with (codes "unmem") words then option_map Unmems (taken unmem_app unmem_in words)
    else handler_order_of words)))

-- the words are those of a command exactly where the first names it and clap takes them
unfoldable pub order_of : List Text → Option Order
order_of words =
    if starts_with (codes "run") words then option_map Runs (taken run_app run_in words)
    else (if starts_with (codes "chain") words then option_map Chains (taken_if chain_app chain_in words)
    else (if starts_with (codes "monitor") words then option_map Monitors (taken monitor_app monitor_in words)
    else (if starts_with (codes "gen") words then option_map Gens (taken gen_app gen_in words)
    else file_order_of words)))

-- an order, without where its names lie
abbrev pub view : Asked → Order
view (Run r) = Runs (view_run r)
view (Chain c) = Chains (view_chain c)
view (Monitor m) = Monitors (view_monitor m)
view (Gen g) = Gens (view_gen g)
view (Assemble a) = Assembles (view_assemble a)
view (Disassemble d) = Disassembles (view_disassemble d)
view (Mem m) = Mems (view_mem m)
view (Unmem u) = Unmems (view_unmem u)
view (Lint l) = Lints (view_lint l)
view (Bound b) = Bounds (view_bound b)
