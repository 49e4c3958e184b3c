-- Positions: where a board stands after so many steps.
use Rattle.std.specs.Prelude.{ℕ, zero, suc, ◌+◌, Bool, true, List}
use Rattle.device_model.specs.Meanings.{Meanings}
use Rattle.hart_report.specs.declared.stepped.Stepped.{Stepped}
use Rattle.hart_report.specs.declared.stepped.Stepped.TheVariants.{VectorFault}
use Rattle.hart_board.specs.State.{State}
use Rattle.hart_board.specs.Step.{Turn, step}
use Rattle.hart_board.specs.Run.{Stand, every_step, at_start, after_step}
use Rattle.hart_board.specs.declared.event.Event.{Event}
use Rattle.chain_core.specs.ChainRun.{is_body}
use Rattle.lab_positions.specs.declared.timing.Timing.{Timing}
use Rattle.lab_positions.specs.declared.timing.Timing.TheVariants.{Steps, Bodies}

-- with which steps the count of events rises: with every one, or with the bodies of a chain
abbrev pub rises : Timing → Stepped → Bool
rises Steps told = every_step told
rises Bodies told = is_body told

-- how many steps were made in all, whether none was made or the count of events rose with the latest, that count, and the board
pub record Position : Type 0 where
  pub steps : ℕ
  pub fresh : Bool
  pub stand : Stand

-- after a step that came to this: the events of a count come as soon as it is reached
abbrev pub settled : Meanings → Timing → List Event → Position → Turn → Position
settled m timing es p turn = record { steps = p.steps + 1; fresh = rises timing turn.told; stand = after_step m (rises timing) es p.stand.count turn }

-- by what became of a step: one that finds no vector isn't made
abbrev pub unless_missing : Stepped → Position → Position → Position
unless_missing (VectorFault input) p made = p
unless_missing told p made = made

-- after the next step
unfoldable pub next : Meanings → Timing → List Event → Position → Position
next m timing es p = unless_missing (step m p.stand.board).told p (settled m timing es p (step m p.stand.board))

-- and after n steps
unfoldable pub after : Meanings → Timing → List Event → Position → ℕ → Position
after m timing es base zero = base
after m timing es base (suc n) = next m timing es (after m timing es base n)

-- what became of the step after a position
abbrev pub told_of : Meanings → Position → Stepped
told_of m p = (step m p.stand.board).told

-- before the first step: the count is 0, and the events of that count have come
abbrev pub start : Meanings → List Event → State → Position
start m es s = record { steps = 0; fresh = true; stand = at_start m es s }
