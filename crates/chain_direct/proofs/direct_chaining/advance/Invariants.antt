use Rattle.std.proofs.Common.{◌-◌, true}
use Rattle.board_outside.specs.Sink.{Writes}
use Rattle.chain_core.specs.Progress.{progress_of, IsOnCourse}
use Rattle.chain_direct.specs.DirectText.{text_to}
use Rattle.chain_direct.proofs.DirectStanding.{DirectStood}
use Rattle.chain_direct.proofs.direct_chaining.advance.Given as goal

-- the board stands where the machine does, and so many steps are made and told
abbrev pub invariant-loop-count : goal.invariant-loop-count
invariant-loop-count g l =
    let m = g.D.Device.means in
    let es = l.events.list in
    let told = g.W.Sink.told in
    record {
      course : IsOnCourse m l.events l.board l.course;
      stood : DirectStood m es 0 l.d l.bound l.fn.board (progress_of l.board l.course) l.watch l.steps;
      text : Writes true (told l.fn.out) (told l.out) (text_to m es l.trace l.fn.board l.steps);
    }

abbrev pub decreases-loop-count : goal.decreases-loop-count
decreases-loop-count g l = l.bound - l.steps
