use Rattle.std.proofs.Common.{◌≡◌, rules, true}
use Rattle.hart_memory.specs.Place.{is_in_rom}
use Rattle.hart_exec.specs.Access.{load_width, extended, extends_sign}
use Rattle.chain_certify.proofs.Loads.{rom_held, rom_value, rom_loaded}
use Rattle.chain_certify.proofs.transfer.loaded_at.Goals as goal

pub load-requires-clause-held : goal.load-requires-clause-held
load-requires-clause-held c = rom_held c.args.at c.load_width-width.result (search rules)

pub returns-then-is_rom : goal.returns-then-is_rom
returns-then-is_rom c =
    let width : c.load_width-width.result ≡ load_width c.args.op = search rules in
    let inside : is_in_rom c.args.at c.load_width-width.result ≡ true = search rules in
    let is : c.extend.result ≡ extended c.load.result c.load_width-width.result (extends_sign c.args.op) = search rules in
    rom_loaded c.args.code.now.present.rom c.args.at c.load_width-width.result c.load.result c.extend.result c.args.op width inside (rom_value c.args.code.now.present c.args.at c.load_width-width.result c.load.result inside c.load.ensures.value) is
