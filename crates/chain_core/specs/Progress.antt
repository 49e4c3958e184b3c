-- How far a chain has come: the board, and what is counted beside it, step by step. The counts are those of ChainRun.
use Rattle.std.specs.Prelude.{◌≡◌, ◌+◌, ◌^◌, ◌<◌, ◌-◌, ℕ, zero, suc, ◌==◌, Bool, true, false, List, length, drop}
use Rattle.device_model.specs.Meanings.{Meanings}
use Rattle.hart_board.specs.State.{State}
use Rattle.hart_board.specs.Step.{Turn, step}
use Rattle.hart_board.specs.Run.{Stand, after_step}
use Rattle.hart_board.specs.Event.{EventList, IsAhead, with_events}
use Rattle.hart_board.specs.declared.event.Event.{Event}
use Rattle.hart_report.specs.declared.stepped.Stepped.{Stepped}
use Rattle.hart_report.specs.declared.stepped.Stepped.TheVariants.{Retired}
use Rattle.chain_moves.specs.Slot.{call, back}
use Rattle.chain_core.specs.ChainRun.{is_body, chained_at, read_to}
use Rattle.chain_core.specs.declared.course.Course.{Course}

-- the board, the bodies so far, the calls less the returns so far, and how many services there were
pub record Progress : Type 0 where
  pub board : State
  pub bodies : ℕ
  pub depth : ℕ
  pub services : ℕ

abbrev pub progress_of : State → Course → Progress
progress_of board course = record { board = board; bodies = course.bodies; depth = course.depth; services = course.services }

-- after a step that retired, by whether it is the dispatcher's call, and whether it stands where handlers return
abbrev pub counted : Progress → Stand → Bool → Bool → Progress
counted p at true at_back = record { board = at.board; bodies = at.count; depth = p.depth + 1; services = p.services + 1 }
counted p at false true = record { board = at.board; bodies = at.count; depth = p.depth - 1; services = p.services }
counted p at false false = record { board = at.board; bodies = at.count; depth = p.depth; services = p.services }

abbrev pub counted_by : Progress → Stand → Stepped → Progress
counted_by p at (Retired pc bits length) = counted p at (pc == call) (pc == back)
counted_by p at told = record { board = at.board; bodies = at.count; depth = p.depth; services = p.services }

-- after a step that came to this
abbrev pub gone_by : Meanings → List Event → Progress → Turn → Progress
gone_by m es p turn = counted_by p (after_step m is_body es p.bodies turn) turn.told

-- after a step
unfoldable pub gone : Meanings → List Event → Progress → Progress
gone m es p = gone_by m es p (step m p.board)

-- and after n steps
unfoldable pub goes : Meanings → List Event → ℕ → Progress → Progress
goes m es zero p = p
goes m es (suc n) p = goes m es n (gone m es p)

-- the board after k steps of a chain, with its counts
abbrev pub progress_at : Meanings → List Event → State → ℕ → Progress
progress_at m es b k = record { board = (chained_at m es b k).board; bodies = (chained_at m es b k).count; depth = (read_to m es b k).depth; services = length (read_to m es b k).services }

-- the counts have room for n steps more
abbrev pub HasRoom : Course → ℕ → Type 0
HasRoom c n = (c.bodies + n < 2 ^ 64) × (c.depth + n < 2 ^ 64) × (c.services + n < 2 ^ 64)

-- the events before the next one are past
pub record IsOnCourse (m : Meanings) (events : EventList) (board : State) (c : Course) : Type 0 where
  pub shape : events.shape ≡ board.outside.clic.shape
  pub ahead : IsAhead events (c.bodies + 1) c.ahead
  pub passed : (count : ℕ) (s : State) → c.bodies < count → with_events m count events.list s ≡ with_events m count (drop c.ahead.first events.list) s
