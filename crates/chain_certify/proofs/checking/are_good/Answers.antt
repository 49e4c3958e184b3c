use Rattle.std.proofs.Common.{◌≡◌, ◌∙◌, rules, sym, ap, arith, get_or, true, false}
use Rattle.chain_certify.specs.Check.{Node, is_good}
use Rattle.chain_certify.proofs.Loops.{good_more, good_fails, good_all}
use Rattle.chain_certify.proofs.checking.are_good.Goals as goal

pub returns-then-not-branch : goal.returns-then-not-branch
returns-then-not-branch c =
    let n = c.index-nodes-i.result in
    let at : n ≡ get_or c.args.nodes.now c.loop-i.i n = search rules in
    let fails : is_good c.args.code.now.present.rom c.args.region.now c.args.nodes.now n ≡ false = search rules in
    sym
    (sym c.loop-i.invariant
    ∙ good_fails c.args.code.now.present.rom c.args.region.now c.args.nodes.now c.args.nodes.now c.loop-i.i n (search (rules, arith))
    (ap (λ (x : Node). is_good c.args.code.now.present.rom c.args.region.now c.args.nodes.now x) (sym at) ∙ fails))

pub loop-i-preserved : goal.loop-i-preserved
loop-i-preserved c =
    let n = c.index-nodes-i.result in
    let at : n ≡ get_or c.args.nodes.now c.loop-i.i n = search rules in
    let holds : is_good c.args.code.now.present.rom c.args.region.now c.args.nodes.now n ≡ true = search rules in
    good_more c.args.code.now.present.rom c.args.region.now c.args.nodes.now c.args.nodes.now c.loop-i.i n (search (rules, arith))
    (ap (λ (x : Node). is_good c.args.code.now.present.rom c.args.region.now c.args.nodes.now x) (sym at) ∙ holds)
    ∙ c.loop-i.invariant

pub returns : goal.returns
returns c = sym (sym c.loop-i.invariant ∙ good_all c.args.code.now.present.rom c.args.region.now c.args.nodes.now c.args.nodes.now c.loop-i.i (search (rules, arith)))
