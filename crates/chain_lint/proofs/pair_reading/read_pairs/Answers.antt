use Rattle.std.proofs.Common.{◌≡◌, ◌∙◌, ◌-◌, ◌+◌, ◌++◌, ◌∷◌, [], List, Some, sym, ap, rules, arith}
use Rattle.chain_lint.specs.Pairs.{most_pairs, pairs_from, pairs_of}
use Rattle.chain_lint.specs.declared.pair.Pair.{Pair}
use Rattle.chain_lint.proofs.PairWords.{no_pair, last_pair, next_pair, too_many}
use Rattle.chain_lint.proofs.pair_reading.read_pairs.Goals as goal

pub returns-in_default : goal.returns-in_default
unfolding pairs_of
returns-in_default c =
    sym (no_pair (most_pairs - c.loop.counter) (most_pairs - (c.loop.counter + 1)) c.loop.pairs c.loop.rest.now _ c.cut_at.ensures (omega (arith, c.loop-test.true)) c.pair_in.result c.pair_in.ensures.pair (search rules))
    ∙ c.loop.invariant

pub returns-in-None : goal.returns-in-None
unfolding pairs_of
returns-in-None c =
    let items : c.push.new.self ≡ c.loop.pairs ++ c.in-Some.pair ∷ [] = search rules in
    ap (λ (ps : List Pair). Some ps) items
    ∙ (sym (last_pair (most_pairs - c.loop.counter) (most_pairs - (c.loop.counter + 1)) c.loop.pairs c.loop.rest.now _ c.cut_at.ensures (omega (arith, c.loop-test.true)) c.in-Some.pair c.pair_in.result c.pair_in.ensures.pair (search rules) (search rules))
    ∙ c.loop.invariant)

pub loop-preserved : goal.loop-preserved
loop-preserved c =
    let items : c.push.new.self ≡ c.loop.pairs ++ c.in-Some.pair ∷ [] = search rules in
    ap (λ (ps : List Pair). pairs_from (most_pairs - (c.loop.counter + 1)) ps c.in-Some-after.text.now) items
    ∙ (sym (next_pair (most_pairs - c.loop.counter) (most_pairs - (c.loop.counter + 1)) c.loop.pairs c.loop.rest.now _ c.cut_at.ensures (omega (arith, c.loop-test.true)) c.in-Some.pair c.in-Some-after.text.now c.pair_in.result c.pair_in.ensures.pair (search rules) (search rules))
    ∙ c.loop.invariant)

pub returns : goal.returns
unfolding pairs_of
returns c = sym (too_many (most_pairs - c.loop.counter) c.loop.pairs c.loop.rest.now (omega (arith, c.loop-test.false))) ∙ c.loop.invariant
