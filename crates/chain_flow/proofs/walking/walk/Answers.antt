use Rattle.std.proofs.Common.{◌≡◌, ◌∙◌, ◌∷◌, [], ◌+◌, ◌-◌, max, rules, arith, sym, ap, ℕ, List}
use Rattle.chain_flow.specs.Flow.{value_of}
use Rattle.chain_flow.specs.Rules.{looked}
use Rattle.chain_flow.specs.Look.{look_of, targets_of}
use Rattle.chain_flow.specs.Walk.{walk, max_addresses, Reached, all_arrived, depth_of}
use Rattle.chain_flow.specs.declared.look.Look.TheVariants.{Refuses}
use Rattle.chain_flow.proofs.Stepping.{none_left, first_taken, walk_empty, walk_ended, walk_refused, walk_passed}
use Rattle.chain_flow.proofs.walking.walk.Goals as goal

pub returns-then-is_empty : goal.returns-then-is_empty
returns-then-is_empty c =
    let none : c.loop.pending.items ≡ [] = none_left c.loop.pending.items (search (rules, arith)) in
    sym (walk_empty c.args.code.now.present.rom c.args.region.now (max_addresses - c.loop.counter) c.loop.pending.items c.loop.uses none) ∙ c.loop.invariant

pub returns-in-Refuses : goal.returns-in-Refuses
returns-in-Refuses c =
    let here : c.loop.pending.items ≡ record { at = c.parts-at.result.0; flow = c.parts-at.result.1 } ∷ c.remove.new.self.items = first_taken c.loop.pending.items c.remove.new.self.items (record { at = c.parts-at.result.0; flow = c.parts-at.result.1 }) (search (rules, arith)) (search rules) (search rules) in
    let is : looked c.args.code.now.present.rom c.args.region.now c.parts-at.result.0 c.parts-at.result.1 ≡ look_of c.in_ok-look.look c.look.new.flow = search rules in
    let why : c.in_ok-look.look ≡ Refuses c.in-Refuses.why = search rules in
    sym (walk_refused c.args.code.now.present.rom c.args.region.now (max_addresses - c.loop.counter) (max_addresses - (c.loop.counter + 1)) c.parts-at.result.0 c.parts-at.result.1 c.look.new.flow c.loop.pending.items c.remove.new.self.items c.loop.uses c.in_ok-look.look here (omega (arith, c.loop-test.true)) is c.in-Refuses.why why)
    ∙ c.loop.invariant

pub loop-preserved : goal.loop-preserved
loop-preserved c =
    let here : c.loop.pending.items ≡ record { at = c.parts-at.result.0; flow = c.parts-at.result.1 } ∷ c.remove.new.self.items = first_taken c.loop.pending.items c.remove.new.self.items (record { at = c.parts-at.result.0; flow = c.parts-at.result.1 }) (search (rules, arith)) (search rules) (search rules) in
    let is : looked c.args.code.now.present.rom c.args.region.now c.parts-at.result.0 c.parts-at.result.1 ≡ look_of c.in_ok-look.look c.look.new.flow = search rules in
    let pending : c.go_on.new.pending.items ≡ all_arrived (targets_of c.in_ok-look.look) c.look.new.flow c.remove.new.self.items = search rules in
    let uses : c.max-uses.result ≡ max c.loop.uses (depth_of (value_of c.look.new.flow.values 2)) = search rules in
    ap (λ (ps : List Reached). walk c.args.code.now.present.rom c.args.region.now (max_addresses - (c.loop.counter + 1)) ps c.max-uses.result) pending
    ∙ (ap (λ (u : ℕ). walk c.args.code.now.present.rom c.args.region.now (max_addresses - (c.loop.counter + 1)) (all_arrived (targets_of c.in_ok-look.look) c.look.new.flow c.remove.new.self.items) u) uses
    ∙ (sym (walk_passed c.args.code.now.present.rom c.args.region.now (max_addresses - c.loop.counter) (max_addresses - (c.loop.counter + 1)) c.parts-at.result.0 c.parts-at.result.1 c.look.new.flow c.loop.pending.items c.remove.new.self.items c.loop.uses c.in_ok-look.look here (omega (arith, c.loop-test.true)) is (search rules))
    ∙ c.loop.invariant))

pub returns : goal.returns
returns c = search rules ∙ (sym (walk_ended c.args.code.now.present.rom c.args.region.now (max_addresses - c.loop.counter) c.loop.pending.items c.loop.uses (omega (arith, c.loop-test.false))) ∙ c.loop.invariant)
