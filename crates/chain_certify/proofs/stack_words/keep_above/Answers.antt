use Rattle.std.proofs.Common.{rules}
use Rattle.std.specs.Prelude.{nat_le}
use Rattle.std.proofs.lemmas.Fn.{filter_same}
use Rattle.chain_certify.specs.Flow.{words_above, depth, StackWord}
use Rattle.chain_certify.proofs.stack_words.keep_above.Goals as goal

pub returns : goal.returns
unfolding words_above
returns c = filter_same _ (λ (w : StackWord). nat_le (depth w.offset) c.args.sp) _ (λ x b f' k. search rules) _ _ c.retain.ensures.filtered
