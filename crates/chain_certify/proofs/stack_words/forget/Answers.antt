use Rattle.std.proofs.Common.{rules}
use Rattle.std.specs.Prelude.{not, ◌==◌}
use Rattle.std.proofs.lemmas.Fn.{filter_same}
use Rattle.chain_certify.specs.Flow.{without, StackWord}
use Rattle.chain_certify.proofs.stack_words.forget.Goals as goal

pub returns : goal.returns
unfolding without
returns c = filter_same _ (λ (w : StackWord). not (w.offset == c.args.offset)) _ (λ x b f' k. search rules) _ _ c.retain.ensures.filtered
