use Rattle.std.proofs.Common.{◌≡◌, ◌∙◌, ◌≤◌, ◌<◌, ◌+◌, ◌*◌, length, get_or, true, false, rules, arith, sym, ap}
use Rattle.board_outside.proofs.Writing.{then_writes, stops_writing, writes_nothing}
use Rattle.hart_report.proofs.Texts.{stopped}
use Rattle.chain_lint.specs.declared.pair.Pair.{Pair}
use Rattle.chain_search.specs.declared.pair_answer.PairAnswer.{PairAnswer}
use Rattle.chain_search.specs.declared.pair_answer.PairAnswer.TheVariants.{BadTable}
use Rattle.lab_check.specs.Lines.{handler_at, answer_line}
use Rattle.lab_check.proofs.LinesLeft.{as_text, line_left, no_answer, none_left}
use Rattle.lab_check.proofs.lines.put_lines.Goals as goal

pub returns-then-i-answers : goal.returns-then-i-answers
returns-then-i-answers g c =
    let d : Pair = record { input = 0; level = 0 } in
    let past : length c.args.answers.now ≤ c.loop-i.i = search (rules, arith) in
    c.loop-i.invariant true _ (as_text (sym (no_answer c.args.names.now c.args.code.now.present.rom c.args.table c.args.pairs.now c.args.answers.now c.loop-i.i d c.loop-i-test.true past)) (writes_nothing _))

pub returns-in_err-put_line : goal.returns-in_err-put_line
returns-in_err-put_line g c =
    let d : Pair = record { input = 0; level = 0 } in
    let e : PairAnswer = BadTable 0 in
    let p = get_or c.args.pairs.now c.loop-i.i d in
    let input : c.from.result ≡ p.input = search rules in
    let there : c.loop-i.i < length c.args.answers.now = search (rules, arith) in
    let handler = c.handler_at-handler.ensures ∙ ap (λ n. handler_at c.args.code.now.present.rom (c.args.table + 4 * n)) input in
    stopped c.from_residual.result c.from_residual.ensures.0
    (c.loop-i.invariant false _ (as_text (sym (line_left c.args.names.now c.args.code.now.present.rom c.args.table c.args.pairs.now c.args.answers.now c.loop-i.i d e c.loop-i-test.true there))
    (stops_writing _ (as_text (ap (λ h. answer_line c.args.names.now h p (get_or c.args.answers.now c.loop-i.i e)) handler) c.in_err-put_line.ensures))))

pub loop-i-preserved : goal.loop-i-preserved
loop-i-preserved g c r n later =
    let d : Pair = record { input = 0; level = 0 } in
    let e : PairAnswer = BadTable 0 in
    let p = get_or c.args.pairs.now c.loop-i.i d in
    let input : c.from.result ≡ p.input = search rules in
    let there : c.loop-i.i < length c.args.answers.now = search (rules, arith) in
    let handler = c.handler_at-handler.ensures ∙ ap (λ n. handler_at c.args.code.now.present.rom (c.args.table + 4 * n)) input in
    c.loop-i.invariant r n (as_text (sym (line_left c.args.names.now c.args.code.now.present.rom c.args.table c.args.pairs.now c.args.answers.now c.loop-i.i d e c.loop-i-test.true there))
    (then_writes (as_text (ap (λ h. answer_line c.args.names.now h p (get_or c.args.answers.now c.loop-i.i e)) handler) c.in_ok-put_line.ensures) later))

pub returns : goal.returns
returns g c =
    let none : length c.args.pairs.now ≤ c.loop-i.i = omega (arith, c.loop-i-test.false) in
    c.loop-i.invariant true _ (as_text (sym (none_left c.args.names.now c.args.code.now.present.rom c.args.table c.args.pairs.now c.args.answers.now c.loop-i.i none)) (writes_nothing _))
