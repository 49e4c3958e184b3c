use Rattle.std.proofs.Common.{subst}
use Rattle.board_outside.specs.Sink.{Writes}
use Rattle.lab_sweep.specs.Sink.{sink_view}
use Rattle.lab_sweep.specs.Sweep.{text_by}
use Rattle.lab_sweep.proofs.Chains.{whole_unless, text_told, end_told, went_back}
use Rattle.lab_sweep.proofs.sweeping.text_of.Goals as goal

pub returns : goal.returns
returns g c =
    let m = g.D.Device.means in
    let es = c.args.events.now.list in
    let how = c.args.how.now in
    let b = c.args.board.now in
    let kept = c.in_ok-keep.ensures.kept in
    let whole = whole_unless c.in_ok-end.end c.in_default.not-SinkFailed in
    record {
      text = text_told m es how.dispatcher how.bound b c.keep.new.self how.direct c.new-sink.result c.run.new.out kept c.new-sink.ensures
          (subst (λ whole. Writes whole (sink_view c.new-sink.result) (sink_view c.run.new.out) (text_by how.direct m es how.dispatcher how.bound c.keep.new.self)) whole c.in_ok-end.ensures.text);
      end = end_told m es how.dispatcher how.bound b c.keep.new.self how.direct c.in_ok-end.end kept (c.in_ok-end.ensures.end whole);
      back = went_back b c.keep.new.self c.run.new.board c.back.new.self c.requires.none kept c.in_ok-end.ensures.kept c.back.ensures.state;
    }
