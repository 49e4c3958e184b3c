use Rattle.std.proofs.Common.{◌≡◌, ◌∙◌, rules, sym, ap, subst}
use Rattle.std.specs.Prelude.{None, Some, IfOk}
use Rattle.rvc_encoding.specs.Decoding.{decoded}
use Rattle.chain_certify.specs.Rules.{looked, looked_ins, Looked}
use Rattle.chain_certify.proofs.Found.{looked_outside, looked_bits}
use Rattle.chain_certify.proofs.looking.look.Goals as goal

pub returns-in_default : goal.returns-in_default
returns-in_default c = c.refused.ensures ∙ sym (looked_outside c.args.code.now.present.rom c.args.region.now c.args.at c.args.flow.now c.code_at.result c.code_at.ensures (search rules))

pub returns-in-Some-decode_bits : goal.returns-in-Some-decode_bits
returns-in-Some-decode_bits c =
    let is : looked c.args.code.now.present.rom c.args.region.now c.args.at c.args.flow.now ≡ looked_ins c.args.code.now.present.rom c.args.region.now c.args.at c.args.flow.now c.in-Some.length (decoded c.in-Some.bits c.in-Some.length) =
    looked_bits c.args.code.now.present.rom c.args.region.now c.args.at c.args.flow.now c.code_at.result c.in-Some.bits c.in-Some.length c.code_at.ensures (search rules) in
    let spelled : decoded c.in-Some.bits c.in-Some.length ≡ Some c.in-Some-decode_bits.ins = search rules in
    let all : looked c.args.code.now.present.rom c.args.region.now c.args.at c.args.flow.now ≡ looked_ins c.args.code.now.present.rom c.args.region.now c.args.at c.args.flow.now c.in-Some.length (Some c.in-Some-decode_bits.ins) =
    is ∙ ap (looked_ins c.args.code.now.present.rom c.args.region.now c.args.at c.args.flow.now c.in-Some.length) spelled in
    subst (λ (l : Looked). IfOk c.look_at.result (λ (look : Looked). look ≡ l)) (sym all) c.look_at.ensures

pub returns-in-None : goal.returns-in-None
returns-in-None c =
    let is : looked c.args.code.now.present.rom c.args.region.now c.args.at c.args.flow.now ≡ looked_ins c.args.code.now.present.rom c.args.region.now c.args.at c.args.flow.now c.in-Some.length (decoded c.in-Some.bits c.in-Some.length) =
    looked_bits c.args.code.now.present.rom c.args.region.now c.args.at c.args.flow.now c.code_at.result c.in-Some.bits c.in-Some.length c.code_at.ensures (search rules) in
    let none : decoded c.in-Some.bits c.in-Some.length ≡ None = search rules in
    c.refused-in-None.ensures ∙ sym (is ∙ ap (looked_ins c.args.code.now.present.rom c.args.region.now c.args.at c.args.flow.now c.in-Some.length) none)
