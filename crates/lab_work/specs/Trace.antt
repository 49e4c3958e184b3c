-- What the command `trace` does with its files.
use Rattle.std.specs.Prelude.{◌≡◌, ℕ, List, [], true, Option, Some, None}
use Rattle.clap.specs.Words.{Text}
use Rattle.hart_memory.specs.Image.{ImageView}
use Rattle.hart_board.specs.Event.{EventList}
use Rattle.lab_names.specs.Name.{NameView}
use Rattle.lab_trace.specs.Added.{plain_text}
use Rattle.lab_trace.specs.Named.{named_text}
use Rattle.lab_words.specs.Trace.{TraceWords}
use Rattle.lab_words.specs.declared.chaining.Chaining.{Chaining}
use Rattle.tool_frame.specs.Due.{Due, at_once}
use Rattle.tool_frame.specs.Plan.{Plan, Makes}
use Rattle.tool_words.specs.Chain.{ChainWords}
use Rattle.tool_words.specs.Run.{RunWords}
use Rattle.tool_work.specs.Chain.{chain_due, taken_at, unless_taken}
use Rattle.tool_work.specs.Files.{files_plan}
use Rattle.tool_work.specs.Run.{run_due}
use Rattle.lab_work.specs.Files.{names_plan}

-- ---- the trace

-- the run, or the chain, that is traced
abbrev pub run_words : TraceWords → RunWords
run_words t = record { image_name = t.image_name; scenario_name = t.scenario_name; bound_is = t.bound_is; traces = true }

abbrev pub chain_words : TraceWords → Chaining → ChainWords
chain_words t c = record { image_name = t.image_name; scenario_name = t.scenario_name; dispatcher_is = c.dispatcher; bound_is = t.bound_is; traces = true; directs = c.direct }

-- what is due of it without names: under a dispatcher that of a chain, and else that of a run
abbrev pub plain_due : TraceWords → Option Chaining → ImageView → EventList → Due
plain_due t None image events = run_due (run_words t) image events
plain_due t (Some c) image events = chain_due (chain_words t c) image events

-- names are added to its text
abbrev pub named_due : List NameView → Due → Due
named_due names due = at_once (named_text names due.text) due.status

abbrev pub trace_due : TraceWords → ImageView → EventList → List NameView → Due
trace_due t image events names = named_due names (plain_due t t.chains_by image events)

-- what is left when the additions are taken away is the text without names
abbrev pub IsPlain : TraceWords → Type 0
IsPlain t = (image : ImageView) (events : EventList) (names : List NameView) → plain_text (trace_due t image events names).text ≡ (plain_due t t.chains_by image events).text

-- ---- its files

-- under a dispatcher the slot has to be free
abbrev pub taken_for : Option Chaining → ImageView → Option ℕ
taken_for None image = None
taken_for (Some c) image = taken_at image

-- the names are read last
abbrev pub named_plan : TraceWords → ImageView → EventList → Plan (Unit {0})
named_plan t image events = names_plan t.names_name (λ names. Makes (trace_due t image events names) tt)

abbrev pub slot_plan : TraceWords → ImageView → EventList → Plan (Unit {0})
slot_plan t image events = unless_taken (taken_for t.chains_by image) (named_plan t image events)

abbrev pub trace_plan : TraceWords → Plan (Unit {0})
trace_plan t = files_plan t.image_name t.scenario_name (λ image events. slot_plan t image events)
