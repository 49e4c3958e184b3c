use Rattle.std.proofs.Common.{◌≡◌, ◌∙◌, Bool, false, Some, is_ok, sym, ap, ap₂, subst, if◌then◌else◌}
use Rattle.hart_board.specs.State.{State}
use Rattle.hart_board.specs.Event.{EventList}
use Rattle.chain_moves.specs.declared.dispatcher.Dispatcher.TheVariants.{Looping, Returning}
use Rattle.tool_frame.specs.declared.status.Status.{Status}
use Rattle.tool_frame.specs.declared.status.Status.TheVariants.{SinkFailed}
use Rattle.tool_work.specs.Bench.{Bench, empty_bench}
use Rattle.tool_work.specs.Chain.{status_of, chain_board, DoAgree}
use Rattle.tool_work.specs.GenImage.{gen_image}
use Rattle.tool_work.specs.Gen.{gen_end, gen_after, gen_decides, deciding}
use Rattle.tool_work.proofs.GenEnds.{end_is, after_is, served_is, gen_ends, gen_leaves}
use Rattle.tool_work.proofs.generating.run_both.Goals as goal

pub returns-clause-ends : goal.returns-clause-ends
returns-clause-ends g c =
    let first : c.chained-first_end.result ≡ gen_end Looping c.args.number = end_is Looping c.args.number c.args.events.now c.args.looping.board c.requires.made c.requires.looping c.chained-first_end.ensures.end in
    let second : c.chained-second_end.result ≡ gen_end Returning c.args.number = end_is Returning c.args.number c.args.events.now c.args.returning.board c.requires.made c.requires.returning c.chained-second_end.ensures.end in
    gen_ends c.args.number c.chained-first_end.result c.chained-second_end.result (is_ok c.put_line-written.result) first second
    (c.ended.ensures ∙ ap (λ (s : Status). if is_ok c.put_line-written.result then s else SinkFailed) (c.status_of_end.ensures ∙ ap status_of c.deciding.ensures))
    c.put_line-written.ensures

pub returns-clause-leaves : goal.returns-clause-leaves
returns-clause-leaves g c =
    let first : c.chained-first_end.result ≡ gen_end Looping c.args.number = end_is Looping c.args.number c.args.events.now c.args.looping.board c.requires.made c.requires.looping c.chained-first_end.ensures.end in
    let second : c.chained-second_end.result ≡ gen_end Returning c.args.number = end_is Returning c.args.number c.args.events.now c.args.returning.board c.requires.made c.requires.returning c.chained-second_end.ensures.end in
    let decides : c.status_of_end.result ≡ status_of (gen_decides c.args.number) = c.status_of_end.ensures ∙ ap status_of (c.deciding.ensures ∙ ap₂ deciding first second) in
    let looping : c.chained-first_end.new.prepared.board ≡ gen_after Looping c.args.number = after_is Looping c.args.number c.args.events.now c.args.looping.board c.requires.made c.requires.looping c.chained-first_end.ensures.board in
    let returning : c.chained-second_end.new.prepared.board ≡ gen_after Returning c.args.number = after_is Returning c.args.number c.args.events.now c.args.returning.board c.requires.made c.requires.returning c.chained-second_end.ensures.board in
    let left : Bool → State → State → Bench = λ w f s. if w then record { first = Some f; second = Some s } else empty_bench in
    gen_leaves c.args.number (is_ok c.put_line-written.result)
    (c.ended.ensures ∙ ap (λ (s : Status). if is_ok c.put_line-written.result then s else SinkFailed) decides)
    (c.leave.ensures ∙ (ap (λ (w : Bool). left w c.chained-first_end.new.prepared.board c.chained-second_end.new.prepared.board) c.is_ok.ensures.value ∙ ap₂ (left (is_ok c.put_line-written.result)) looping returning))

pub returns-clause-served : goal.returns-clause-served
returns-clause-served g c = record {
  looping = served_is Looping c.args.number c.args.events.now c.args.looping.board c.requires.made c.requires.looping c.chained-first_end.ensures.served;
  returning = served_is Returning c.args.number c.args.events.now c.args.returning.board c.requires.made c.requires.returning c.chained-second_end.ensures.served;
  agree = subst (DoAgree false (gen_image c.args.number)) c.requires.made
      (c.chains_agree.ensures (gen_image c.args.number) false (c.requires.looping ∙ sym (ap (λ (es : EventList). chain_board Looping (gen_image c.args.number) es) c.requires.made)));
}
