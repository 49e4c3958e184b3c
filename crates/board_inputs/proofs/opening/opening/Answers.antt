use Rattle.std.proofs.Common.{◌≡◌, option_map, false, true, Some, None, sym, ◌∙◌, rules}
use Rattle.board_inputs.specs.Opening.{is_passed, shape_in}
use Rattle.board_inputs.proofs.Openings.{passes_on, says, says_none, ends}
use Rattle.board_inputs.proofs.opening.opening.Goals as goal

pub returns-in-Some-shape_in-clause-shape : goal.returns-in-Some-shape_in-clause-shape
returns-in-Some-shape_in-clause-shape c =
    let other : is_passed c.cut_line.result.0.now ≡ false = sym c.is_passed.ensures ∙ (search rules) in
    let said : shape_in c.cut_line.result.0.now ≡ Some c.in-Some-shape_in.shape = sym c.shape_in.ensures ∙ c.in-Some-shape_in.is in
    (says c.args.bytes.now c.in-Some.text.now c.cut_line.result.0.now (option_map (λ s. s.now) c.cut_line.result.1) c.loop-rest.number c.in-Some-shape_in.shape c.cut_line.ensures.lines c.cut_line.ensures.less other said (rw c.in-Some.is at c.loop-rest.invariant)).shape_is

pub returns-in-Some-shape_in-clause-lines : goal.returns-in-Some-shape_in-clause-lines
returns-in-Some-shape_in-clause-lines c =
    let other : is_passed c.cut_line.result.0.now ≡ false = sym c.is_passed.ensures ∙ (search rules) in
    let said : shape_in c.cut_line.result.0.now ≡ Some c.in-Some-shape_in.shape = sym c.shape_in.ensures ∙ c.in-Some-shape_in.is in
    (says c.args.bytes.now c.in-Some.text.now c.cut_line.result.0.now (option_map (λ s. s.now) c.cut_line.result.1) c.loop-rest.number c.in-Some-shape_in.shape c.cut_line.ensures.lines c.cut_line.ensures.less other said (rw c.in-Some.is at c.loop-rest.invariant)).lines

pub returns-in-None-clause-shape : goal.returns-in-None-clause-shape
returns-in-None-clause-shape c =
    let other : is_passed c.cut_line.result.0.now ≡ false = sym c.is_passed.ensures ∙ (search rules) in
    let said : shape_in c.cut_line.result.0.now ≡ None = sym c.shape_in.ensures ∙ c.in-None.is in
    c.plain.ensures ∙ (says_none c.args.bytes.now c.in-Some.text.now c.cut_line.result.0.now (option_map (λ s. s.now) c.cut_line.result.1) c.loop-rest.number c.cut_line.ensures.lines other said (rw c.in-Some.is at c.loop-rest.invariant)).shape_is

pub returns-in-None-clause-lines : goal.returns-in-None-clause-lines
returns-in-None-clause-lines c =
    let other : is_passed c.cut_line.result.0.now ≡ false = sym c.is_passed.ensures ∙ (search rules) in
    let said : shape_in c.cut_line.result.0.now ≡ None = sym c.shape_in.ensures ∙ c.in-None.is in
    (says_none c.args.bytes.now c.in-Some.text.now c.cut_line.result.0.now (option_map (λ s. s.now) c.cut_line.result.1) c.loop-rest.number c.cut_line.ensures.lines other said (rw c.in-Some.is at c.loop-rest.invariant)).lines

pub loop-rest-preserved : goal.loop-rest-preserved
loop-rest-preserved c =
    let passed : is_passed c.cut_line.result.0.now ≡ true = sym c.is_passed.ensures ∙ (search rules) in
    passes_on c.args.bytes.now c.in-Some.text.now c.cut_line.result.0.now (option_map (λ s. s.now) c.cut_line.result.1) c.loop-rest.number c.cut_line.ensures.lines c.cut_line.ensures.less passed (rw c.in-Some.is at c.loop-rest.invariant)

pub returns-clause-shape : goal.returns-clause-shape
returns-clause-shape c =
    c.plain-2.ensures ∙ (ends c.args.bytes.now c.loop-rest.number (rw c.in_default.is at c.loop-rest.invariant)).shape_is

pub returns-clause-lines : goal.returns-clause-lines
returns-clause-lines c =
    (ends c.args.bytes.now c.loop-rest.number (rw c.in_default.is at c.loop-rest.invariant)).lines
