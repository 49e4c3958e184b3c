use Rattle.std.proofs.Common.{rules, ◌≡◌, ◌∙◌, ap, get_or, ℕ, arith}
use Rattle.std.proofs.lemmas.List.{get_or_default}
use Rattle.chain_certify.specs.Flow.{Entry, Unknown}
use Rattle.chain_certify.proofs.flow_state.value_in.Goals as goal

pub returns : goal.returns
returns c = let same : c.from.result ≡ c.args.r = search rules in get_or_default c.args.values.now c.from.result (Entry 0) Unknown (search (rules, arith)) ∙ ap (λ (i : ℕ). get_or c.args.values.now i Unknown) same
