-- What was written, and where the board stands, where memory was wanting or the sink failed.
use Rattle.std.specs.Prelude.{◌≡◌, ℕ, true, false, List, [], ◌∷◌, ◌++◌, take, Result, Ok, Err}
use Rattle.board_outside.specs.Sink.{SinkView, Writes}
use Rattle.board_outside.specs.declared.sink.SinkFault.{SinkFault}
use Rattle.device_model.specs.Meanings.{Meanings}
use Rattle.hart_board.specs.State.{State, with_kept}
use Rattle.hart_board.specs.Run.{every_step}
use Rattle.hart_board.specs.Text.{StopsInTrace}
use Rattle.hart_monitor.specs.Session.{Session, KeepsFirst, outcome, outcome_of, opened, steps_run}
use Rattle.hart_monitor.specs.declared.command.Command.{Command}
use Rattle.hart_monitor.specs.declared.command.Command.TheVariants.{Step}
use Rattle.hart_monitor.specs.declared.monitor_fault.MonitorFault.{MonitorFault}
use Rattle.hart_monitor.specs.declared.monitor_fault.MonitorFault.TheVariants.{SinkFailed, Memory}

-- the sink failed in a command's text, and the command was done; a `step` has made the steps up to and with the one whose line was being written
abbrev pub BreaksOff : Meanings → Command → Session → Session → SinkView → SinkView → Type 0
BreaksOff m (Step n) s new before now = (new.breaks ≡ s.breaks) × StopsInTrace m every_step [] (with_kept s.board) (steps_run m n s.board).steps new.board before now
BreaksOff m c s new before now = (new ≡ (outcome m c s).session) × Writes false before now (outcome m c s).text

-- an answer of the sink
abbrev pub of_sink : Result (Unit {0}) SinkFault → Result (Unit {0}) MonitorFault
of_sink (Ok done) = Ok done
of_sink (Err fault) = Err SinkFailed

-- what a command did: all of it; nothing, for want of memory, which only one that keeps the board's state needs; or the sink failed in its text
abbrev pub Obeys : Meanings → Command → Session → Result (Unit {0}) MonitorFault → Session → SinkView → SinkView → Type 0
Obeys m c s (Ok done) new before now = (new ≡ (outcome m c s).session) × Writes true before now (outcome m c s).text
Obeys m c s (Err Memory) new before now = KeepsFirst c × (new ≡ s) × (now ≡ before)
Obeys m c s (Err SinkFailed) new before now = BreaksOff m c s new before now

-- what was written of the whole text: where the sink failed, a front of it, and the count of faults rose; where memory was wanting, a front of it, and no more was tried
abbrev pub WritesFront : MonitorFault → SinkView → SinkView → List ℕ → Type 0
WritesFront SinkFailed before now text = Writes false before now text
WritesFront Memory before now text = (n : ℕ) × Writes true before now (take n text)

-- the commands before it were done and their texts written, and then the fault came in this command
pub record StopsAt (m : Meanings) (cs : List Command) (s : State) (fault : MonitorFault) (new : State) (before now : SinkView) : Type 0 where
  pub done : List Command
  pub command : Command
  pub later : List Command
  pub script : cs ≡ done ++ command ∷ later
  pub between : SinkView
  pub written : Writes true before between (outcome_of m done (opened s)).text
  pub after : Session
  pub board : new ≡ after.board
  pub stopped : Obeys m command (outcome_of m done (opened s)).session (Err fault) after between now
