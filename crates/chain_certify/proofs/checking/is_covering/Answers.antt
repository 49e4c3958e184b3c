use Rattle.std.proofs.Common.{◌≡◌, ◌∙◌, rules, arith, ap, get_or, Some}
use Rattle.chain_certify.specs.Check.{Node, is_covering}
use Rattle.chain_certify.proofs.Loops.{nothing_covers, node_covers}
use Rattle.chain_certify.proofs.checking.is_covering.Goals as goal

pub returns-then-place-nodes : goal.returns-then-place-nodes
returns-then-place-nodes c = nothing_covers c.args.nodes.now c.args.place (record { at = c.args.at; flow = c.args.flow.now }) (search (rules, arith))

pub returns : goal.returns
returns c =
    let n = c.index-nodes-place.result in
    let at : n ≡ get_or c.args.nodes.now c.args.place n = search rules in
    let is : c.covers.result ≡ is_covering (Some n) (record { at = c.args.at; flow = c.args.flow.now }) = search rules in
    is
    ∙ (ap (λ (x : Node). is_covering (Some x) (record { at = c.args.at; flow = c.args.flow.now })) at
    ∙ node_covers c.args.nodes.now c.args.place n (record { at = c.args.at; flow = c.args.flow.now }) (search (rules, arith)))
