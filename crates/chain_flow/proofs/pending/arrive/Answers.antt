use Rattle.std.proofs.Common.{rules, ◌≡◌, ◌∙◌, ◌++◌, ◌∷◌, [], take, drop, arith}
use Rattle.chain_flow.proofs.Arrivals.{code_more, code_before, code_here, arrived_last}
use Rattle.chain_flow.proofs.pending.arrive.Goals as goal

pub loop-i-preserved : goal.loop-i-preserved
loop-i-preserved c =
    code_more c.args.at c.loop-i.flow c.loop-i.pending.items c.loop-i.i c.index.result.now c.index-in-loop-i.result.now c.place.result c.place-in-loop-i.result
    (search (rules, arith)) (search rules) (search rules) (search rules) (search rules) (search rules) (search (rules, arith))
    ∙ c.loop-i.invariant

pub returns-then-place-at : goal.returns-then-place-at
returns-then-place-at c = record {
  ok =
      code_here c.args.at c.loop-i.flow c.loop-i.pending.items c.loop-i.i c.index.result.now c.index_mut.result.now c.join.new.self c.place.result
      (search (rules, arith)) (search rules) (search rules) (search rules) (search rules) (search rules)
      ∙ c.loop-i.invariant;
}

pub returns-then-at-place : goal.returns-then-at-place
returns-then-at-place c =
    let made : c.insert.new.self.items ≡ take c.loop-i.i c.loop-i.pending.items ++ record { at = c.args.at; flow = c.loop-i.flow } ∷ drop c.loop-i.i c.loop-i.pending.items = search rules in
    record {
      ok = made
          ∙ code_before c.args.at c.loop-i.flow c.loop-i.pending.items c.loop-i.i c.index.result.now c.index-in-loop-i.result.now c.place.result c.place-in-loop-i.result
          (search (rules, arith)) (search rules) (search rules) (search rules) (search rules) (search rules) (search (rules, arith))
          ∙ c.loop-i.invariant;
    }

pub returns : goal.returns
returns c =
    let made : c.push.new.self.items ≡ c.loop-i.pending.items ++ record { at = c.args.at; flow = c.loop-i.flow } ∷ [] = search rules in
    record { ok = made ∙ arrived_last c.args.at c.loop-i.flow c.loop-i.pending.items c.loop-i.i (search (rules, arith)) ∙ c.loop-i.invariant }
