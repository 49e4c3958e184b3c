-- What the command `mem` does with its file.
use Rattle.std.specs.Prelude.{codes}
use Rattle.hart_memory.specs.Image.{ImageView}
use Rattle.mem_text.specs.Writing.{memory_text}
use Rattle.tool_frame.specs.Due.{Due, at_once}
use Rattle.tool_frame.specs.Plan.{Plan, Makes, reads}
use Rattle.tool_frame.specs.declared.status.Status.TheVariants.{Done}
use Rattle.tool_work.specs.Bench.{Bench, empty_bench}
use Rattle.tool_work.specs.Files.{image_limit, image_read}
use Rattle.tool_words.specs.Mem.{MemWords}

-- the memory text of an image
abbrev pub mem_due : ImageView → Due
mem_due image = at_once (memory_text image) Done

abbrev pub mem_plan : MemWords → Plan Bench
mem_plan words = reads (codes "image") image_limit image_read words.image_name (λ image. Makes (mem_due image) empty_bench)
