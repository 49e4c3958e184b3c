-- What the frame asks of a plan holds of each command's.
use Rattle.std.proofs.Common.{◌≡◌, Option, Some, None, codes, refl}
use Rattle.tool_frame.specs.Due.{Due}
use Rattle.tool_frame.specs.Plan.{Makes}
use Rattle.tool_frame.specs.Code.{OfCommand, origin_of}
use Rattle.tool_frame.specs.declared.status.Status.TheVariants.{Done}
use Rattle.tool_frame.proofs.Fits.{Fits, IsAtOnce, IsOfCommand, fits_more, fits_reads}
use Rattle.tool_frame.proofs.Causes.{BeginsWell}
use Rattle.tool_work.specs.Files.{image_due}
use Rattle.lab_words.specs.Elf.{ElfWords}
use Rattle.lab_words.specs.Names.{NamesWords}
use Rattle.lab_words.specs.Order.{Order, Elfs, Namings, Traces, Sweeps}
use Rattle.lab_work.specs.Files.{elf_limit, elf_read, symbols_read}
use Rattle.lab_work.specs.Elf.{elf_plan}
use Rattle.lab_work.specs.Names.{names_due, names_plan}
use Rattle.lab_work.specs.Sweep.{sweep_plan}
use Rattle.lab_work.proofs.SweepEnds.{IsSweepStatus, done_is_sweep, sweep_fits}
use Rattle.lab_work.proofs.TraceEnds.{IsLabStatus, sweep_is_lab, trace_fits}
use Rattle.clic_lab.specs.Plan.{plan_of}

-- work that was made is done in all commands but a trace and a sweep
pub elf_fits : (words : ElfWords) → Fits (IsAtOnce (λ s. s ≡ Done)) (elf_plan words)
elf_fits words =
    fits_reads (IsAtOnce (λ s. s ≡ Done)) (codes "elf") elf_limit elf_read words.file_name (λ image. Makes (image_due image) tt) (λ image. record { status = refl; at_once = refl })

pub names_fits : (words : NamesWords) → Fits (IsAtOnce (λ s. s ≡ Done)) (names_plan words)
names_fits words =
    fits_reads (IsAtOnce (λ s. s ≡ Done)) (codes "elf") elf_limit (symbols_read words.code_alone) words.file_name (λ names. Makes (names_due names) tt) (λ names. record { status = refl; at_once = refl })

-- ---- any words

done_works : (due : Due) → IsAtOnce (λ s. s ≡ Done) due → IsAtOnce IsLabStatus due
done_works due done = record { status = sweep_is_lab due.status (done_is_sweep due.status done.status); at_once = done.at_once }

sweep_works : (due : Due) → IsAtOnce IsSweepStatus due → IsAtOnce IsLabStatus due
sweep_works due swept = record { status = sweep_is_lab due.status swept.status; at_once = swept.at_once }

pub order_fits : (order : Order) → Fits (IsAtOnce IsLabStatus) (plan_of (Some order))
order_fits (Elfs words) = fits_more (IsAtOnce (λ s. s ≡ Done)) (IsAtOnce IsLabStatus) done_works (elf_plan words) (elf_fits words)
order_fits (Namings words) = fits_more (IsAtOnce (λ s. s ≡ Done)) (IsAtOnce IsLabStatus) done_works (names_plan words) (names_fits words)
order_fits (Traces words) = trace_fits words
order_fits (Sweeps words) = fits_more (IsAtOnce IsSweepStatus) (IsAtOnce IsLabStatus) sweep_works (sweep_plan words) (sweep_fits words)

pub plan_fits : (order : Option Order) → Fits (IsAtOnce (λ s. origin_of s ≡ OfCommand)) (plan_of order)
plan_fits None = record { status = refl; at_once = refl }
plan_fits (Some order) =
    fits_more (IsAtOnce IsLabStatus) (IsAtOnce (λ s. origin_of s ≡ OfCommand)) (λ due work. record { status = work.status.own; at_once = work.at_once }) (plan_of (Some order)) (order_fits order)

pub plan_own : (order : Option Order) → Fits IsOfCommand (plan_of order)
plan_own order = fits_more (IsAtOnce (λ s. origin_of s ≡ OfCommand)) IsOfCommand (λ due work. work.status) (plan_of order) (plan_fits order)

pub plan_begins : (order : Option Order) → BeginsWell (plan_of order)
plan_begins None = tt
plan_begins (Some (Elfs words)) = tt
plan_begins (Some (Namings words)) = tt
plan_begins (Some (Traces words)) = tt
plan_begins (Some (Sweeps words)) = tt
