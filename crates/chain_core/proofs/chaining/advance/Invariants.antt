use Rattle.std.proofs.Common.{◌-◌, true}
use Rattle.chain_core.specs.Progress.{progress_of, progress_at, IsOnCourse}
use Rattle.chain_core.specs.Text.{Tells}
use Rattle.chain_core.proofs.Standing.{Stood}
use Rattle.chain_core.proofs.chaining.advance.Given as goal

-- the board stands where the machine does, and so many steps are made and told
abbrev pub invariant-loop-count : goal.invariant-loop-count
invariant-loop-count g l =
    let m = g.D.Device.means in
    let es = l.events.list in
    let told = g.W.Sink.told in
    record {
      course : IsOnCourse m l.events l.board l.course;
      stood : Stood m es 0 l.d l.bound l.fn.board (progress_of l.board l.course) l.watch l.steps;
      tells : Tells m es l.trace l.steps true (progress_at m es l.fn.board 0) (progress_of l.board l.course) (told l.fn.out) (told l.out);
    }

abbrev pub decreases-loop-count : goal.decreases-loop-count
decreases-loop-count g l = l.bound - l.steps
