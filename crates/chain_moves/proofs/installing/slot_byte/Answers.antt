use Rattle.std.proofs.Common.{ap, ◌∙◌, ◌/◌, ◌*◌, ◌%◌, ◌^◌}
use Rattle.std.specs.Prelude.{slice_index}
use Rattle.chain_moves.proofs.SlotBytes.{slot_byte-is}
use Rattle.chain_moves.proofs.installing.slot_byte.Goals as goal

pub returns : goal.returns
returns c = ap (λ ws. slice_index ws (c.args.i / 4) / 2 ^ (8 * (c.args.i % 4)) % 256) c.slot_words.ensures ∙ slot_byte-is c.args.d c.args.i c.requires
