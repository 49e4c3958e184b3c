use Rattle.std.proofs.Common.{◌≡◌, rules, false}
use Rattle.chain_lint.specs.Tables.{is_bad_word}
use Rattle.chain_lint.proofs.Tabled.{word_held, word_is}
use Rattle.chain_lint.proofs.tables.word_at.Goals as goal

pub load-requires-clause-held : goal.load-requires-clause-held
load-requires-clause-held c = word_held c.args.at (search rules)

pub returns : goal.returns
returns c =
    let good : is_bad_word c.args.at ≡ false = search rules in
    word_is c.args.code.now.present c.args.at c.load.result good c.load.ensures.value
