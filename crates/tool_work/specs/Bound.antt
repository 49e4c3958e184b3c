-- What the command `bound` does with its file.
use Rattle.std.specs.Prelude.{ℕ, ◌%◌, ◌^◌, [], codes}
use Rattle.hart_words.specs.Bits.{with_low_bits_clear}
use Rattle.hart_memory.specs.Image.{ImageView}
use Rattle.chain_lint.specs.Code.{image_rom}
use Rattle.chain_lint.specs.Tables.{table_bound}
use Rattle.chain_lint.specs.Texts.{table_line}
use Rattle.chain_lint.specs.declared.table_bound.TableBound.{TableBound}
use Rattle.chain_lint.specs.declared.table_bound.TableBound.TheVariants.{Bound as bounded, BadTable, Refused}
use Rattle.tool_frame.specs.Due.{Due, at_once}
use Rattle.tool_frame.specs.Plan.{Plan, Makes, reads}
use Rattle.tool_frame.specs.declared.status.Status.{Status}
use Rattle.tool_frame.specs.declared.status.Status.TheVariants.{Done, Rejected}
use Rattle.tool_work.specs.Bench.{Bench, empty_bench}
use Rattle.tool_work.specs.Files.{image_limit, image_read}
use Rattle.tool_work.specs.Region.{region_of}
use Rattle.tool_words.specs.Bound.{BoundWords}

-- the table's address: bits 5:0 of its number are cleared. clap takes no number past 65,472, so that what is left of a division by 2 ^ 16 is the number itself
abbrev pub table_of : ℕ → ℕ
table_of n = with_low_bits_clear (n % 2 ^ 16) 6

-- what the handlers in the table come to
abbrev pub bound_made : BoundWords → ImageView → TableBound
bound_made words image = table_bound (image_rom image) (region_of words.low_is words.high_is) (table_of words.table_is) words.pairs_are []

abbrev pub status_of : TableBound → Status
status_of (bounded bytes) = Done
status_of (BadTable at) = Rejected
status_of (Refused why at) = Rejected

-- the line of the bound, or of what is refused
abbrev pub bound_due : BoundWords → ImageView → Due
bound_due words image = at_once (table_line (bound_made words image)) (status_of (bound_made words image))

abbrev pub bound_plan : BoundWords → Plan Bench
bound_plan words = reads (codes "image") image_limit image_read words.image_name (λ image. Makes (bound_due words image) empty_bench)
