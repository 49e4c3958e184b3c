use Rattle.std.proofs.Common.{◌≡◌, refl}
use Rattle.hart_memory.specs.Memory.{IsWhole}
use Rattle.board_inputs.specs.ImageLoading.{loaded}
use Rattle.board_inputs.proofs.Loading.{loaded_loads}
use Rattle.board_inputs.proofs.image_loading.load_image.Goals as goal

pub returns-clause-loads : goal.returns-clause-loads
returns-clause-loads g c =
    let whole : IsWhole c.args.board.now.memory = rw c.banks.ensures at c.banks_are_whole.ensures in
    let is : c.set_pc.new.self ≡ loaded c.args.image.now c.args.board.now = rw (c.set_pc.ensures, c.place_segments.ensures, c.entry.ensures) refl in
    loaded_loads c.args.image.now c.args.board.now c.set_pc.new.self c.len-segments.ensures.sound (whole.rom_len, whole.ram_len) is
