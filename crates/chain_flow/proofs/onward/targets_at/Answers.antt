use Rattle.std.proofs.Common.{◌≡◌, ◌∙◌, rules, sym, ap}
use Rattle.std.specs.Prelude.{None, Some}
use Rattle.rvc_encoding.specs.Decoding.{decoded}
use Rattle.chain_flow.specs.Transfer.{targets}
use Rattle.chain_flow.specs.Onward.{onward, onward_ins}
use Rattle.chain_flow.proofs.Goings.{onward_outside, onward_bits, onward_same}
use Rattle.chain_flow.proofs.onward.targets_at.Goals as goal

pub returns-in_default : goal.returns-in_default
returns-in_default c = onward_outside c.args.code.now.present.rom c.args.at c.code_at.result c.code_at.ensures (search rules)

pub returns-in-Some-decode_bits : goal.returns-in-Some-decode_bits
returns-in-Some-decode_bits c =
    let is : onward c.args.code.now.present.rom c.args.at ≡ onward_ins c.args.at c.in-Some.length (decoded c.in-Some.bits c.in-Some.length) =
    onward_bits c.args.code.now.present.rom c.args.at c.code_at.result c.in-Some.bits c.in-Some.length c.code_at.ensures (search rules) in
    let spelled : decoded c.in-Some.bits c.in-Some.length ≡ Some c.in-Some-decode_bits.ins = search rules in
    onward_same c.next.result (targets c.args.at c.in-Some.length c.in-Some-decode_bits.ins) c.next.ensures ∙ sym (is ∙ ap (onward_ins c.args.at c.in-Some.length) spelled)

pub returns-in-None : goal.returns-in-None
returns-in-None c =
    let is : onward c.args.code.now.present.rom c.args.at ≡ onward_ins c.args.at c.in-Some.length (decoded c.in-Some.bits c.in-Some.length) =
    onward_bits c.args.code.now.present.rom c.args.at c.code_at.result c.in-Some.bits c.in-Some.length c.code_at.ensures (search rules) in
    let none : decoded c.in-Some.bits c.in-Some.length ≡ None = search rules in
    sym (is ∙ ap (onward_ins c.args.at c.in-Some.length) none)
