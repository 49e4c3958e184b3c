use Rattle.std.proofs.Common.{◌-◌, true}
use Rattle.chain_core.specs.Progress.{progress_of, HasRoom, IsOnCourse}
use Rattle.chain_core.specs.Text.{Tells}
use Rattle.chain_core.proofs.stepping.walk.Given as goal

-- so many steps were made and told
abbrev pub invariant-loop-made : goal.invariant-loop-made
invariant-loop-made g l =
    let m = g.D.Device.means in
    let told = g.W.Sink.told in
    record {
      course : IsOnCourse m l.events l.board l.course;
      tells : Tells m l.events.list l.trace l._made true (progress_of l.fn.board l.fn.course) (progress_of l.board l.course) (told l.fn.out) (told l.out);
      room : HasRoom l.course (l.count - l._made);
    }
