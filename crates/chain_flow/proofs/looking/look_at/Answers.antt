use Rattle.std.proofs.Common.{◌≡◌, ◌∙◌, rules, sym, ap, subst, true, false}
use Rattle.std.specs.Prelude.{None, Some}
use Rattle.chain_flow.specs.Flow.{Flow, value_of}
use Rattle.chain_flow.specs.Transfer.{flow_after, targets}
use Rattle.chain_flow.specs.Rules.{first_why, rules_before, is_bad_pointer, is_changed, Passed}
use Rattle.chain_flow.proofs.Found.{refused_before, refused_pointer, refused_changed, passed_all}
use Rattle.chain_flow.proofs.looking.look_at.Goals as goal

pub returns-in-Some : goal.returns-in-Some
returns-in-Some c =
    let after = flow_after c.args.at c.args.length c.args.flow.now c.args.ins.now in
    let e : first_why (rules_before c.args.region.now c.args.at c.args.flow.now c.args.ins.now) ≡ Some c.in-Some.why = search rules in
    refused_before c.args.region.now c.args.at c.args.flow.now after c.args.ins.now (targets c.args.at c.args.length c.args.ins.now) c.in-Some.why e

pub returns-then-is_bad_pointer : goal.returns-then-is_bad_pointer
returns-then-is_bad_pointer c =
    let after = flow_after c.args.at c.args.length c.args.flow.now c.args.ins.now in
    let none : first_why (rules_before c.args.region.now c.args.at c.args.flow.now c.args.ins.now) ≡ None = search rules in
    let is : c.change.new.flow ≡ after = search rules in
    let bad : is_bad_pointer (value_of c.change.new.flow.values 2) ≡ true = search rules in
    refused_pointer c.args.region.now c.args.at c.args.flow.now after c.args.ins.now (targets c.args.at c.args.length c.args.ins.now) none (subst (λ (f : Flow). is_bad_pointer (value_of f.values 2) ≡ true) is bad)

pub returns-then-changed : goal.returns-then-changed
returns-then-changed c =
    let after = flow_after c.args.at c.args.length c.args.flow.now c.args.ins.now in
    let none : first_why (rules_before c.args.region.now c.args.at c.args.flow.now c.args.ins.now) ≡ None = search rules in
    let is : c.change.new.flow ≡ after = search rules in
    let good : is_bad_pointer (value_of c.change.new.flow.values 2) ≡ false = search rules in
    let changed : is_changed c.args.flow.now c.args.ins.now ≡ true = search rules in
    refused_changed c.args.region.now c.args.at c.args.flow.now after c.args.ins.now (targets c.args.at c.args.length c.args.ins.now) none (subst (λ (f : Flow). is_bad_pointer (value_of f.values 2) ≡ false) is good) changed

pub returns : goal.returns
returns c =
    let after = flow_after c.args.at c.args.length c.args.flow.now c.args.ins.now in
    let none : first_why (rules_before c.args.region.now c.args.at c.args.flow.now c.args.ins.now) ≡ None = search rules in
    let is : c.change.new.flow ≡ after = search rules in
    let good : is_bad_pointer (value_of c.change.new.flow.values 2) ≡ false = search rules in
    let same : is_changed c.args.flow.now c.args.ins.now ≡ false = search rules in
    passed_all c.args.region.now c.args.at c.args.flow.now after c.args.ins.now (targets c.args.at c.args.length c.args.ins.now) none (subst (λ (f : Flow). is_bad_pointer (value_of f.values 2) ≡ false) is good) same
    ∙ (ap (λ (f : Flow). Passed f (targets c.args.at c.args.length c.args.ins.now)) (sym is)
    ∙ sym (c.next.ensures c.change.new.flow))
