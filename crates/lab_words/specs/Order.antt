-- What the words ask for.
use Rattle.std.specs.Prelude.{List, Option, None, codes, if◌then◌else◌, option_map}
use Rattle.clap.specs.Words.{Text}
use Rattle.tool_frame.specs.Options.{taken, taken_if, starts_with}
use Rattle.lab_words.specs.Elf.{ElfWords, elf_app, elf_in, view_elf}
use Rattle.lab_words.specs.Names.{NamesWords, names_app, names_in, view_names}
use Rattle.lab_words.specs.Trace.{TraceWords, trace_app, trace_in, view_trace}
use Rattle.lab_words.specs.Sweep.{SweepWords, sweep_app, sweep_in, view_sweep}
use Rattle.lab_words.specs.declared.order.Order.{Order as Asked}
use Rattle.lab_words.specs.declared.order.Order.TheVariants.{Elf, Names, Trace, Sweep}

pub data Order : Type 0 where
  Elfs : ElfWords → Order
  Namings : NamesWords → Order
  Traces : TraceWords → Order
  Sweeps : SweepWords → Order

-- the words are those of a command exactly where the first names it and clap takes them
unfoldable pub order_of : List Text → Option Order
order_of words =
    if starts_with (codes "elf") words then option_map Elfs (taken elf_app elf_in words)
    else (if starts_with (codes "names") words then option_map Namings (taken names_app names_in words)
    else (if starts_with (codes "trace") words then option_map Traces (taken_if trace_app trace_in words)
    else (if starts_with (codes "sweep") words then option_map Sweeps (taken_if sweep_app sweep_in words)
    else None)))

-- an order, without where its names lie
abbrev pub view : Asked → Order
view (Elf e) = Elfs (view_elf e)
view (Names n) = Namings (view_names n)
view (Trace t) = Traces (view_trace t)
view (Sweep s) = Sweeps (view_sweep s)
