-- A chain with direct services: the board runs under a dispatcher, and its run ends where that of the machine with direct services does.
use Rattle.std.specs.Prelude.{◌≡◌, ◌⊎◌, ◌<◌, ℕ, zero, suc, ◌+◌, Bool, true, false, List, [], ◌++◌}
use Rattle.board_outside.specs.Sink.{SinkView, Writes}
use Rattle.device_model.specs.Meanings.{Meanings}
use Rattle.hart_report.specs.Text.{StopsAfter}
use Rattle.hart_board.specs.State.{State}
use Rattle.hart_board.specs.Steps.{board_at}
use Rattle.hart_board.specs.declared.event.Event.{Event}
use Rattle.chain_moves.specs.Run.{Run, On, Broke, Over}
use Rattle.chain_core.specs.ChainRun.{is_body}
use Rattle.chain_core.specs.Chain.{AgreesWith}
use Rattle.chain_moves.specs.declared.dispatcher.Dispatcher.{Dispatcher}
use Rattle.chain_core.specs.declared.chain_end.ChainEnd.{ChainEnd}
use Rattle.chain_core.specs.declared.chain_end.ChainEnd.TheVariants.{Done, BudgetSpent, SinkFailed, Broken}
use Rattle.chain_direct.specs.Kind.{Kind}
use Rattle.chain_direct.specs.Directed.{Listed, Directed}
use Rattle.chain_direct.specs.DirectRun.{begins_after}
use Rattle.chain_direct.specs.DirectText.{text_after, text_to, direct_end, direct_board, direct_report}

-- the services that are read off the first k steps of the board's run, direct ones among them
unfoldable pub begun_to : Meanings → List Event → State → ℕ → List Listed
begun_to m es b zero = []
begun_to m es b (suc k) = begun_to m es b k ++ begins_after m es b k

-- ---- where the sink fails

-- in what a step adds: the board has made that step, and all before it was written
pub record StopsInStep (m : Meanings) (es : List Event) (d : Dispatcher) (trace : Bool) (bound : ℕ) (b new_board : State) (old new : SinkView) : Type 0 where
  pub k : ℕ
  pub early : k < (direct_end m es d bound b).steps
  pub board : new_board ≡ board_at m is_body es b (k + 1)
  pub between : SinkView
  pub whole : Writes true old between (text_to m es trace b k)
  pub broken : Writes false between new (text_after m es trace b k)

-- in the report: the board stands where the chain ends
pub record StopsInDirectReport (m : Meanings) (es : List Event) (d : Dispatcher) (trace : Bool) (bound : ℕ) (b new_board : State) (old new : SinkView) : Type 0 where
  pub board : new_board ≡ direct_board m es d bound b
  pub text : StopsAfter old new (text_to m es trace b (direct_end m es d bound b).steps) (direct_report m es d bound b)

abbrev pub StopsDirect : Meanings → List Event → Dispatcher → Bool → ℕ → State → State → SinkView → SinkView → Type 0
StopsDirect m es d trace bound b new_board old new = StopsInDirectReport m es d trace bound b new_board old new ⊎ StopsInStep m es d trace bound b new_board old new

-- ---- the state at a chain's end

-- where a run is over, the board agrees with its last state
abbrev pub AgreesOver : State → Run Kind Directed → Type 0
AgreesOver b (On made s) = ⊥
AgreesOver b (Broke made when kind bodies) = ⊥
AgreesOver b (Over made s) = AgreesWith b s.chained

-- and a chain that is done is over
abbrev pub AgreesWhereOver : ChainEnd → State → Run Kind Directed → Type 0
AgreesWhereOver (Done steps bodies services) b run = AgreesOver b run
AgreesWhereOver BudgetSpent b run = Unit {0}
AgreesWhereOver (Broken kind bodies) b run = Unit {0}
AgreesWhereOver SinkFailed b run = Unit {0}
