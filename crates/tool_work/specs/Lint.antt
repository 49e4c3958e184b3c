-- What the command `lint` does with its file.
use Rattle.std.specs.Prelude.{ℕ, ◌%◌, ◌^◌, codes}
use Rattle.hart_words.specs.Bits.{even}
use Rattle.hart_memory.specs.Image.{ImageView}
use Rattle.chain_lint.specs.Code.{image_rom}
use Rattle.chain_flow.specs.Walk.{verdict}
use Rattle.chain_lint.specs.Texts.{verdict_line}
use Rattle.chain_flow.specs.declared.verdict.Verdict.{Verdict}
use Rattle.chain_flow.specs.declared.verdict.Verdict.TheVariants.{Yes, No}
use Rattle.tool_frame.specs.Due.{Due, at_once}
use Rattle.tool_frame.specs.Plan.{Plan, Makes, reads}
use Rattle.tool_frame.specs.declared.status.Status.{Status}
use Rattle.tool_frame.specs.declared.status.Status.TheVariants.{Done, Rejected}
use Rattle.tool_work.specs.Bench.{Bench, empty_bench}
use Rattle.tool_work.specs.Files.{image_limit, image_read}
use Rattle.tool_work.specs.Region.{region_of}
use Rattle.tool_words.specs.Lint.{LintWords}

-- the handler's address: bit 0 of its number is cleared. clap takes no number past 65,535, so that what is left of a division by 2 ^ 16 is the number itself
abbrev pub handler_of : ℕ → ℕ
handler_of n = even (n % 2 ^ 16)

-- the verdict on the handler
abbrev pub lint_made : LintWords → ImageView → Verdict
lint_made words image = verdict (image_rom image) (handler_of words.handler_is) (region_of words.low_is words.high_is)

abbrev pub status_of : Verdict → Status
status_of (Yes uses) = Done
status_of (No why at) = Rejected

-- the line of the verdict
abbrev pub lint_due : LintWords → ImageView → Due
lint_due words image = at_once (verdict_line (lint_made words image)) (status_of (lint_made words image))

abbrev pub lint_plan : LintWords → Plan Bench
lint_plan words = reads (codes "image") image_limit image_read words.image_name (λ image. Makes (lint_due words image) empty_bench)
