-- What the command `unmem` does with its file.
use Rattle.std.specs.Prelude.{codes}
use Rattle.tool_frame.specs.Plan.{Plan, Makes, reads}
use Rattle.tool_work.specs.Bench.{Bench, empty_bench}
use Rattle.tool_work.specs.Files.{image_due, memory_limit, memory_read}
use Rattle.tool_words.specs.Unmem.{UnmemWords}

abbrev pub unmem_plan : UnmemWords → Plan Bench
unmem_plan words = reads (codes "memory") memory_limit (memory_read words.entry_is) words.memory_name (λ image. Makes (image_due image) empty_bench)
