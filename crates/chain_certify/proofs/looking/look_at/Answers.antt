use Rattle.std.proofs.Common.{◌≡◌, ◌∙◌, rules, sym, ap, subst, true, false}
use Rattle.std.specs.Prelude.{None, Some}
use Rattle.chain_certify.specs.Flow.{Flow, value_of}
use Rattle.chain_certify.specs.Transfer.{flow_after}
use Rattle.chain_certify.specs.Rules.{first_why, rules_before, is_bad_pointer, is_changed, goes_to, Passed}
use Rattle.chain_certify.proofs.Found.{refused_before, refused_pointer, refused_changed, passed_all}
use Rattle.chain_certify.proofs.looking.look_at.Goals as goal

pub returns-in-Some : goal.returns-in-Some
returns-in-Some c =
    let after = flow_after c.args.code.now.present.rom c.args.site.at c.args.site.length c.args.flow.now c.args.ins.now in
    let e : first_why (rules_before c.args.region.now c.args.flow.now c.args.ins.now) ≡ Some c.in-Some.why = search rules in
    c.refused.ensures ∙ sym (refused_before c.args.region.now c.args.flow.now after c.args.ins.now (goes_to c.args.site.at c.args.site.length c.args.flow.now after c.args.ins.now) c.in-Some.why e)

pub returns-then-is_bad_pointer : goal.returns-then-is_bad_pointer
returns-then-is_bad_pointer c =
    let after = flow_after c.args.code.now.present.rom c.args.site.at c.args.site.length c.args.flow.now c.args.ins.now in
    let none : first_why (rules_before c.args.region.now c.args.flow.now c.args.ins.now) ≡ None = search rules in
    let is : c.change.new.flow ≡ after = search rules in
    let bad : is_bad_pointer (value_of c.change.new.flow.values 2) ≡ true = search rules in
    c.refused-then-is_bad_pointer.ensures ∙ sym (refused_pointer c.args.region.now c.args.flow.now after c.args.ins.now (goes_to c.args.site.at c.args.site.length c.args.flow.now after c.args.ins.now) none (subst (λ (f : Flow). is_bad_pointer (value_of f.values 2) ≡ true) is bad))

pub returns-then-is_changed : goal.returns-then-is_changed
returns-then-is_changed c =
    let after = flow_after c.args.code.now.present.rom c.args.site.at c.args.site.length c.args.flow.now c.args.ins.now in
    let none : first_why (rules_before c.args.region.now c.args.flow.now c.args.ins.now) ≡ None = search rules in
    let is : c.change.new.flow ≡ after = search rules in
    let good : is_bad_pointer (value_of c.change.new.flow.values 2) ≡ false = search rules in
    let changed : is_changed c.args.flow.now c.args.ins.now ≡ true = search rules in
    c.refused-then-is_changed.ensures ∙ sym (refused_changed c.args.region.now c.args.flow.now after c.args.ins.now (goes_to c.args.site.at c.args.site.length c.args.flow.now after c.args.ins.now) none (subst (λ (f : Flow). is_bad_pointer (value_of f.values 2) ≡ false) is good) changed)

pub returns : goal.returns
returns c =
    let after = flow_after c.args.code.now.present.rom c.args.site.at c.args.site.length c.args.flow.now c.args.ins.now in
    let none : first_why (rules_before c.args.region.now c.args.flow.now c.args.ins.now) ≡ None = search rules in
    let is : c.change.new.flow ≡ after = search rules in
    let good : is_bad_pointer (value_of c.change.new.flow.values 2) ≡ false = search rules in
    let same : is_changed c.args.flow.now c.args.ins.now ≡ false = search rules in
    let e : c.passed.result ≡ Passed (goes_to c.args.site.at c.args.site.length c.args.flow.now c.change.new.flow c.args.ins.now) = search rules in
    e
    ∙ (ap (λ (f : Flow). Passed (goes_to c.args.site.at c.args.site.length c.args.flow.now f c.args.ins.now)) is
    ∙ sym (passed_all c.args.region.now c.args.flow.now after c.args.ins.now (goes_to c.args.site.at c.args.site.length c.args.flow.now after c.args.ins.now) none (subst (λ (f : Flow). is_bad_pointer (value_of f.values 2) ≡ false) is good) same))
