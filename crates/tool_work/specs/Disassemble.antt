-- What the command `disasm` does with its file.
use Rattle.std.specs.Prelude.{codes}
use Rattle.hart_memory.specs.Image.{ImageView}
use Rattle.rv_disasm.specs.Listing.{image_text}
use Rattle.tool_frame.specs.Due.{Due, at_once}
use Rattle.tool_frame.specs.Plan.{Plan, Makes, reads}
use Rattle.tool_frame.specs.declared.status.Status.TheVariants.{Done}
use Rattle.tool_work.specs.Bench.{Bench, empty_bench}
use Rattle.tool_work.specs.Files.{image_limit, image_read}
use Rattle.tool_words.specs.Disassemble.{DisassembleWords}

-- the source of an image
abbrev pub listing_due : ImageView → Due
listing_due image = at_once (image_text image) Done

abbrev pub disassemble_plan : DisassembleWords → Plan Bench
disassemble_plan words = reads (codes "image") image_limit image_read words.image_name (λ image. Makes (listing_due image) empty_bench)
