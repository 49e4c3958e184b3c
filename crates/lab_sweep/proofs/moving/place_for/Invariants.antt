use Rattle.std.proofs.Common.{◌≡◌, ◌++◌, take, drop}
use Rattle.hart_board.specs.declared.event.Event.{Event}
use Rattle.lab_sweep.specs.Moved.{put_in}
use Rattle.lab_sweep.proofs.moving.place_for.Given as goal

-- the place is behind the events so far, or among the rest
abbrev pub invariant-loop-k : goal.invariant-loop-k
invariant-loop-k l = (e : Event) → e.at ≡ l.at → take l.k l.others ++ put_in e (drop l.k l.others) ≡ put_in e l.others
