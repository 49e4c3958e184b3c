-- What the frame asks of a plan holds of each command's.
use Rattle.std.proofs.Common.{◌≡◌, Option, Some, None, codes, refl, ap, inl, inr}
use Rattle.tool_frame.specs.Due.{Due}
use Rattle.tool_frame.specs.Plan.{Makes}
use Rattle.tool_frame.specs.Code.{OfCommand, origin_of}
use Rattle.tool_frame.specs.declared.status.Status.{Status}
use Rattle.tool_frame.specs.declared.status.Status.TheVariants.{Done}
use Rattle.tool_frame.proofs.Fits.{Fits, IsAtOnce, IsOfCommand, fits_more, fits_reads}
use Rattle.tool_frame.proofs.Causes.{BeginsWell}
use Rattle.rv_assembler.specs.declared.assembling.TheConstants.{MAX_SOURCE}
use Rattle.hart_board.specs.Run.{every_step}
use Rattle.hart_board.proofs.Ending.{never_sink_failed}
use Rattle.tool_work.specs.Shipped.{shipped_meanings}
use Rattle.tool_work.specs.Bench.{empty_bench}
use Rattle.tool_work.specs.Files.{image_limit, image_read, image_due, script_limit, script_read, source_read, memory_limit, memory_read}
use Rattle.tool_words.specs.Run.{RunWords}
use Rattle.tool_work.specs.Run.{run_due, run_made, run_plan}
use Rattle.tool_words.specs.Chain.{ChainWords}
use Rattle.tool_work.specs.Chain.{taken_at, slot_plan, chain_due, chain_left, chain_made, chain_plan}
use Rattle.tool_words.specs.Monitor.{MonitorWords}
use Rattle.tool_work.specs.Monitor.{monitor_due, script_plan, monitor_plan}
use Rattle.tool_words.specs.Gen.{GenWords}
use Rattle.tool_work.specs.Gen.{gen_plan}
use Rattle.tool_words.specs.Assemble.{AssembleWords}
use Rattle.tool_work.specs.Assemble.{program_due, assemble_plan}
use Rattle.tool_words.specs.Disassemble.{DisassembleWords}
use Rattle.tool_work.specs.Disassemble.{listing_due, disassemble_plan}
use Rattle.tool_words.specs.Mem.{MemWords}
use Rattle.tool_work.specs.Mem.{mem_due, mem_plan}
use Rattle.tool_words.specs.Unmem.{UnmemWords}
use Rattle.tool_work.specs.Unmem.{unmem_plan}
use Rattle.tool_words.specs.Lint.{LintWords}
use Rattle.tool_work.specs.Lint.{lint_made, lint_due, lint_plan}
use Rattle.tool_words.specs.Bound.{BoundWords}
use Rattle.tool_work.specs.Bound.{bound_made, bound_due, bound_plan}
use Rattle.tool_words.specs.Order.{Order, Runs, Chains, Monitors, Gens, Assembles, Disassembles, Mems, Unmems, Lints, Bounds}
use Rattle.clic_tool.specs.Plan.{plan_of}
use Rattle.tool_work.proofs.RunEnds.{IsWorkStatus, done_is_work, done_works, end_is_work}
use Rattle.tool_work.proofs.ChainEnds.{end_is_work as chain_is_work, never_by, taken_fits}
use Rattle.tool_work.proofs.GenEnds.{gen_is_work}
use Rattle.tool_work.proofs.TwoFiles.{files_fit}
use Rattle.clic_tool.proofs.Verdicts.{IsAnswerStatus, verdict_answers, bound_answers}

pub run_fits : (run : RunWords) → Fits (IsAtOnce IsWorkStatus) (run_plan run)
run_fits run =
    files_fit (IsAtOnce IsWorkStatus) run.image_name run.scenario_name (λ image events. Makes (run_due run image events) empty_bench) (λ image events.
    record { status = end_is_work (run_made image events run.bound_is).end (never_sink_failed shipped_meanings every_step events.list run.bound_is _); at_once = refl })

pub chain_fits : (chain : ChainWords) → Fits (IsAtOnce IsWorkStatus) (chain_plan chain)
chain_fits chain = files_fit (IsAtOnce IsWorkStatus) chain.image_name chain.scenario_name (λ image events. slot_plan chain image events) (λ image events.
    taken_fits (IsAtOnce IsWorkStatus) (taken_at image) (Makes (chain_due chain image events) (chain_left chain image events))
    (record { status = chain_is_work (chain_made chain image events) (never_by chain.directs chain.dispatcher_is chain.bound_is events _); at_once = refl }))

pub gen_fits : (words : GenWords) → Fits (IsAtOnce IsWorkStatus) (gen_plan words)
gen_fits words = record { status = gen_is_work words.number_is; at_once = refl }

-- work that was made is done in all other commands
pub assemble_fits : (words : AssembleWords) → Fits (IsAtOnce (λ s. s ≡ Done)) (assemble_plan words)
assemble_fits words =
    fits_reads (IsAtOnce (λ s. s ≡ Done)) (codes "source") MAX_SOURCE source_read words.source_name (λ a. Makes (program_due words a) empty_bench) (λ a. record { status = refl; at_once = refl })

pub disassemble_fits : (words : DisassembleWords) → Fits (IsAtOnce (λ s. s ≡ Done)) (disassemble_plan words)
disassemble_fits words =
    fits_reads (IsAtOnce (λ s. s ≡ Done)) (codes "image") image_limit image_read words.image_name (λ image. Makes (listing_due image) empty_bench) (λ image. record { status = refl; at_once = refl })

pub mem_fits : (words : MemWords) → Fits (IsAtOnce (λ s. s ≡ Done)) (mem_plan words)
mem_fits words =
    fits_reads (IsAtOnce (λ s. s ≡ Done)) (codes "image") image_limit image_read words.image_name (λ image. Makes (mem_due image) empty_bench) (λ image. record { status = refl; at_once = refl })

pub unmem_fits : (words : UnmemWords) → Fits (IsAtOnce (λ s. s ≡ Done)) (unmem_plan words)
unmem_fits words =
    fits_reads (IsAtOnce (λ s. s ≡ Done)) (codes "memory") memory_limit (memory_read words.entry_is) words.memory_name (λ image. Makes (image_due image) empty_bench) (λ image. record { status = refl; at_once = refl })

-- so is a script, whose text is written in parts
pub monitor_fits : (words : MonitorWords) → Fits (λ due. due.status ≡ Done) (monitor_plan words)
monitor_fits words =
    fits_reads (λ due. due.status ≡ Done) (codes "image") image_limit image_read words.image_name (script_plan words.script_name) (λ image.
    fits_reads (λ due. due.status ≡ Done) (codes "script") script_limit script_read words.script_name (λ commands. Makes (monitor_due image commands) empty_bench) (λ commands. refl))

-- a verdict and a bound may be refusals
pub lint_fits : (words : LintWords) → Fits (IsAtOnce IsAnswerStatus) (lint_plan words)
lint_fits words =
    fits_reads (IsAtOnce IsAnswerStatus) (codes "image") image_limit image_read words.image_name (λ image. Makes (lint_due words image) empty_bench) (λ image. record { status = verdict_answers (lint_made words image); at_once = refl })

pub bound_fits : (words : BoundWords) → Fits (IsAtOnce IsAnswerStatus) (bound_plan words)
bound_fits words =
    fits_reads (IsAtOnce IsAnswerStatus) (codes "image") image_limit image_read words.image_name (λ image. Makes (bound_due words image) empty_bench) (λ image. record { status = bound_answers (bound_made words image); at_once = refl })

-- ---- any words

answer_is_work : (s : Status) → IsAnswerStatus s → IsWorkStatus s
answer_is_work s (inl e) = done_is_work s e
answer_is_work s (inr e) = record { own = rw e refl; no_usage = λ c. cc }

answer_works : (due : Due) → IsAtOnce IsAnswerStatus due → IsAtOnce IsWorkStatus due
answer_works due answer = record { status = answer_is_work due.status answer.status; at_once = answer.at_once }

-- all but a script have their memory before they write
pub order_fits : (order : Order) → ((words : MonitorWords) → order ≡ Monitors words → ⊥) → Fits (IsAtOnce IsWorkStatus) (plan_of (Some order))
order_fits (Runs run) other = run_fits run
order_fits (Chains chain) other = chain_fits chain
order_fits (Monitors words) other = absurd (other words refl)
order_fits (Gens words) other = gen_fits words
order_fits (Assembles words) other = fits_more (IsAtOnce (λ s. s ≡ Done)) (IsAtOnce IsWorkStatus) done_works (assemble_plan words) (assemble_fits words)
order_fits (Disassembles words) other = fits_more (IsAtOnce (λ s. s ≡ Done)) (IsAtOnce IsWorkStatus) done_works (disassemble_plan words) (disassemble_fits words)
order_fits (Mems words) other = fits_more (IsAtOnce (λ s. s ≡ Done)) (IsAtOnce IsWorkStatus) done_works (mem_plan words) (mem_fits words)
order_fits (Unmems words) other = fits_more (IsAtOnce (λ s. s ≡ Done)) (IsAtOnce IsWorkStatus) done_works (unmem_plan words) (unmem_fits words)
order_fits (Lints words) other = fits_more (IsAtOnce IsAnswerStatus) (IsAtOnce IsWorkStatus) answer_works (lint_plan words) (lint_fits words)
order_fits (Bounds words) other = fits_more (IsAtOnce IsAnswerStatus) (IsAtOnce IsWorkStatus) answer_works (bound_plan words) (bound_fits words)

abbrev pub IsWork : Due → Type 0
IsWork due = IsWorkStatus due.status

at_once_works : (order : Order) → Fits (IsAtOnce IsWorkStatus) (plan_of (Some order)) → Fits IsWork (plan_of (Some order))
at_once_works order fits = fits_more (IsAtOnce IsWorkStatus) IsWork (λ due work. work.status) (plan_of (Some order)) fits

pub order_works : (order : Order) → Fits IsWork (plan_of (Some order))
order_works (Runs run) = at_once_works (Runs run) (run_fits run)
order_works (Chains chain) = at_once_works (Chains chain) (chain_fits chain)
order_works (Monitors words) = fits_more (λ due. due.status ≡ Done) IsWork (λ due done. done_is_work due.status done) (monitor_plan words) (monitor_fits words)
order_works (Gens words) = at_once_works (Gens words) (gen_fits words)
order_works (Assembles words) = at_once_works (Assembles words) (order_fits (Assembles words) (λ w c. cc))
order_works (Disassembles words) = at_once_works (Disassembles words) (order_fits (Disassembles words) (λ w c. cc))
order_works (Mems words) = at_once_works (Mems words) (order_fits (Mems words) (λ w c. cc))
order_works (Unmems words) = at_once_works (Unmems words) (order_fits (Unmems words) (λ w c. cc))
order_works (Lints words) = at_once_works (Lints words) (order_fits (Lints words) (λ w c. cc))
order_works (Bounds words) = at_once_works (Bounds words) (order_fits (Bounds words) (λ w c. cc))

pub plan_fits : (order : Option Order) → ((words : MonitorWords) → order ≡ Some (Monitors words) → ⊥) → Fits (IsAtOnce (λ s. origin_of s ≡ OfCommand)) (plan_of order)
plan_fits None other = record { status = refl; at_once = refl }
plan_fits (Some order) other =
    fits_more (IsAtOnce IsWorkStatus) (IsAtOnce (λ s. origin_of s ≡ OfCommand)) (λ due work. record { status = work.status.own; at_once = work.at_once }) (plan_of (Some order)) (order_fits order (λ words is. other words (ap Some is)))

pub plan_own : (order : Option Order) → Fits IsOfCommand (plan_of order)
plan_own None = refl
plan_own (Some order) = fits_more IsWork IsOfCommand (λ due work. work.own) (plan_of (Some order)) (order_works order)

pub plan_begins : (order : Option Order) → BeginsWell (plan_of order)
plan_begins None = tt
plan_begins (Some (Runs run)) = tt
plan_begins (Some (Chains chain)) = tt
plan_begins (Some (Monitors words)) = tt
plan_begins (Some (Gens words)) = tt
plan_begins (Some (Assembles words)) = tt
plan_begins (Some (Disassembles words)) = tt
plan_begins (Some (Mems words)) = tt
plan_begins (Some (Unmems words)) = tt
plan_begins (Some (Lints words)) = tt
plan_begins (Some (Bounds words)) = tt
