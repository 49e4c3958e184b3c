use Rattle.std.proofs.Common.{rules}
use Rattle.chain_certify.proofs.Changes.{changed}
use Rattle.chain_certify.proofs.transfer.change.Goals as goal

pub returns : goal.returns
returns c = changed c.args.code.now.present.rom c.args.flow.now c.change_words.new.flow c.change_values.new.flow c.forget_words.new.flow c.args.at c.args.length c.args.ins.now (search rules) c.change_values.ensures c.forget_words.ensures
