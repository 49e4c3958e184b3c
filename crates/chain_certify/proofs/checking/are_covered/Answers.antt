use Rattle.std.proofs.Common.{◌≡◌, ◌∙◌, rules, sym, ap, arith, get_or, true, false}
use Rattle.chain_certify.specs.Rules.{Next}
use Rattle.chain_certify.specs.Check.{node_at, is_covering}
use Rattle.chain_certify.proofs.Loops.{covered_more, covered_fails, no_hint, covered_all, no_next}
use Rattle.chain_certify.proofs.checking.are_covered.Goals as goal

pub returns-then-i-hints : goal.returns-then-i-hints
returns-then-i-hints c = sym (sym c.loop-i.invariant ∙ no_hint c.args.nodes.now c.args.hints.now c.args.next.now c.loop-i.i 0 no_next (search (rules, arith)) (search (rules, arith)))

pub returns-then-not-is_next_covered : goal.returns-then-not-is_next_covered
returns-then-not-is_next_covered c =
    let n = c.index-next-i.result in
    let at : n ≡ get_or c.args.next.now c.loop-i.i n = search rules in
    let fails : is_covering (node_at c.args.nodes.now (get_or c.args.hints.now c.loop-i.i 0)) n ≡ false = search rules in
    sym
    (sym c.loop-i.invariant
    ∙ covered_fails c.args.nodes.now c.args.hints.now c.args.next.now c.loop-i.i 0 n (search (rules, arith)) (search (rules, arith))
    (ap (λ (x : Next). is_covering (node_at c.args.nodes.now (get_or c.args.hints.now c.loop-i.i 0)) x) (sym at) ∙ fails))

pub loop-i-preserved : goal.loop-i-preserved
loop-i-preserved c =
    let n = c.index-next-i.result in
    let at : n ≡ get_or c.args.next.now c.loop-i.i n = search rules in
    let holds : is_covering (node_at c.args.nodes.now (get_or c.args.hints.now c.loop-i.i 0)) n ≡ true = search rules in
    covered_more c.args.nodes.now c.args.hints.now c.args.next.now c.loop-i.i 0 n (search (rules, arith)) (search (rules, arith))
    (ap (λ (x : Next). is_covering (node_at c.args.nodes.now (get_or c.args.hints.now c.loop-i.i 0)) x) (sym at) ∙ holds)
    ∙ c.loop-i.invariant

pub returns : goal.returns
returns c = sym (sym c.loop-i.invariant ∙ covered_all c.args.nodes.now c.args.hints.now c.args.next.now c.loop-i.i (search (rules, arith)))
