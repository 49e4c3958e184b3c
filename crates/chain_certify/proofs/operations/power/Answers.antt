use Rattle.std.proofs.Common.{◌≡◌, ◌∙◌, ◌*◌, ◌^◌, ◌%◌, rules, arith}
use Rattle.hart_words.specs.TwosComplement.{word}
use Rattle.chain_certify.proofs.Loads.{word_power}
use Rattle.chain_certify.proofs.operations.power.Goals as goal

pub returns : goal.returns
returns c =
    let is : c.wrapping_shl.result ≡ word (1 * 2 ^ (c.args.bits % 32)) = search rules in
    is ∙ word_power (c.args.bits % 32) (omega arith)
