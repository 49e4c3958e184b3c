-- The code of an image.
use Rattle.std.specs.Prelude.{ℕ, List}
use Rattle.hart_memory.specs.Memory.{zero_memory}
use Rattle.hart_memory.specs.Image.{ImageView}
use Rattle.board_inputs.specs.ImageLoading.{with_segments}

-- an image's ROM: 0 where no segment is
abbrev pub image_rom : ImageView → List ℕ
image_rom i = (with_segments i.segments zero_memory).rom
