use Rattle.std.proofs.Common.{sym, ap, ◌∙◌, false, true}
use Rattle.hart_report.proofs.Texts.{same_text}
use Rattle.hart_board.specs.Step.{Turn}
use Rattle.chain_core.specs.Progress.{progress_of, gone_by}
use Rattle.chain_core.specs.Text.{turn_text}
use Rattle.chain_core.specs.Rounds.{raised_code}
use Rattle.chain_core.proofs.Told.{stopped_told, raised_told, made_told}
use Rattle.chain_core.proofs.stepping.settle_tried.Goals as goal

pub returns-in_err-settle-in-None-clause-tells : goal.returns-in_err-settle-in-None-clause-tells
returns-in_err-settle-in-None-clause-tells g c =
    let m = g.D.Device.means in
    let es = c.args.events.now.list in
    λ start turn.
    stopped_told m es c.from_residual.result c.args.trace _ _ _ _ _ c.from_residual.ensures.0
    (made_told m es c.args.trace false _ _ _ _ (sym (ap (λ (t : Turn). raised_code t.told) turn) ∙ sym c.in-None.ensures) (c.settle.ensures.progress start ∙ ap (gone_by m es (progress_of start c.args.course.now)) turn) (same_text (ap (turn_text c.args.trace c.args.course.now.depth) turn) c.in_err-settle-in-None.ensures.text))

pub returns-in-Some-clause-tells : goal.returns-in-Some-clause-tells
returns-in-Some-clause-tells g c =
    let m = g.D.Device.means in
    let es = c.args.events.now.list in
    λ start turn. raised_told m es c.args.trace _ _ _ _ (sym (ap (λ (t : Turn). raised_code t.told) turn) ∙ sym c.in-Some.ensures) (ap (λ (t : Turn). progress_of t.state c.args.course.now) turn)

pub returns-in_ok-settle-in-None-clause-tells : goal.returns-in_ok-settle-in-None-clause-tells
returns-in_ok-settle-in-None-clause-tells g c =
    let m = g.D.Device.means in
    let es = c.args.events.now.list in
    λ start turn. made_told m es c.args.trace true _ _ _ _ (sym (ap (λ (t : Turn). raised_code t.told) turn) ∙ sym c.in-None.ensures) (c.settle.ensures.progress start ∙ ap (gone_by m es (progress_of start c.args.course.now)) turn) (same_text (ap (turn_text c.args.trace c.args.course.now.depth) turn) c.in_ok-settle-in-None.ensures.text)
