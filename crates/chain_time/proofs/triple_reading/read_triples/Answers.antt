use Rattle.std.proofs.Common.{◌≡◌, ◌∙◌, ◌-◌, ◌+◌, ◌++◌, ◌∷◌, [], List, length, Some, sym, ap, rules, arith}
use Rattle.std.proofs.lemmas.List.{length-append}
use Rattle.chain_time.specs.Triples.{most_triples, triples_from, triples_of}
use Rattle.chain_time.specs.declared.triple.Triple.{Triple}
use Rattle.chain_time.proofs.TripleWords.{no_triple, last_triple, next_triple, too_many}
use Rattle.chain_time.proofs.triple_reading.read_triples.Goals as goal

pub returns-in_default : goal.returns-in_default
unfolding triples_of
returns-in_default c =
    sym (no_triple (most_triples - c.loop.counter) (most_triples - (c.loop.counter + 1)) c.loop.triples c.loop.rest.now _ c.cut_at.ensures (omega (arith, c.loop-test.true)) c.triple_in.result c.triple_in.ensures.triple (search rules))
    ∙ c.loop.invariant.1

pub returns-in-None : goal.returns-in-None
unfolding triples_of
returns-in-None c =
    let items : c.push.new.self ≡ c.loop.triples ++ c.in-Some.triple ∷ [] = search rules in
    ap (λ (ps : List Triple). Some ps) items
    ∙ (sym (last_triple (most_triples - c.loop.counter) (most_triples - (c.loop.counter + 1)) c.loop.triples c.loop.rest.now _ c.cut_at.ensures (omega (arith, c.loop-test.true)) c.in-Some.triple c.triple_in.result c.triple_in.ensures.triple (search rules) (search rules))
    ∙ c.loop.invariant.1)

pub loop-preserved : goal.loop-preserved
loop-preserved c =
    let items : c.push.new.self ≡ c.loop.triples ++ c.in-Some.triple ∷ [] = search rules in
    let more : length c.push.new.self ≡ c.loop.counter + 1 = ap length items ∙ (length-append c.loop.triples (c.in-Some.triple ∷ []) ∙ ap (λ n. n + 1) c.loop.invariant.0) in (
      more,
      ap (λ (ps : List Triple). triples_from (most_triples - (c.loop.counter + 1)) ps c.in-Some-after.text.now) items
          ∙ (sym (next_triple (most_triples - c.loop.counter) (most_triples - (c.loop.counter + 1)) c.loop.triples c.loop.rest.now _ c.cut_at.ensures (omega (arith, c.loop-test.true)) c.in-Some.triple c.in-Some-after.text.now c.triple_in.result c.triple_in.ensures.triple (search rules) (search rules))
          ∙ c.loop.invariant.1),
    )

pub returns : goal.returns
unfolding triples_of
returns c = sym (too_many (most_triples - c.loop.counter) c.loop.triples c.loop.rest.now (omega (arith, c.loop-test.false))) ∙ c.loop.invariant.1
