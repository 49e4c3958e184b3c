-- How a chain is closed: its rounds come to an end, and its report follows.
use Rattle.std.specs.Prelude.{◌≡◌, ℕ, ◌+◌, Bool, true, false, List, Result, Ok, Err, IsTrue}
use Rattle.board_outside.specs.Sink.{SinkView, Writes}
use Rattle.device_model.specs.Meanings.{Meanings}
use Rattle.hart_board.specs.State.{State}
use Rattle.chain_core.specs.Text.{report}
use Rattle.chain_core.specs.Chain.{is_done}
use Rattle.chain_core.specs.declared.ended.Ended.{Ended}
use Rattle.chain_core.specs.declared.chain_end.ChainEnd.{ChainEnd}
use Rattle.chain_core.specs.declared.chain_end.ChainEnd.TheVariants.{Done, BudgetSpent, Broken, SinkFailed}
use Rattle.chain_core.specs.declared.round.Round.{Round}
use Rattle.chain_core.specs.declared.round.Round.TheVariants.{Made, Failed, Ended as RoundEnded, Spent}

-- the rounds came to the end that is due, with the board there, those dead bytes where the chain is done, and all of those lines
pub record ComesTo (due : Ended) (there : State) (hidden : List Bool) (lines : List ℕ) (ended : Ended) (board : State) (dead : List Bool) (old new : SinkView) : Type 0 where
  pub ends : ended ≡ due
  pub stands : board ≡ there
  pub hides : IsTrue (is_done ended.end) → dead ≡ hidden
  pub told : Writes true old new lines

-- a round that isn't made ends the rounds so, after n steps of at most so many, and with so many bodies and services
abbrev pub EndsRound : (bound n bodies services : ℕ) → Round → Ended → Type 0
EndsRound bound n bodies services (Made k) ended = ⊥
EndsRound bound n bodies services (Failed kind k) ended = ended ≡ record { end = Broken kind bodies; steps = n + k }
EndsRound bound n bodies services RoundEnded ended = ended ≡ record { end = Done n bodies services; steps = n }
EndsRound bound n bodies services Spent ended = ended ≡ record { end = BudgetSpent; steps = bound }

-- by whether the report was written
abbrev pub closed_by : Bool → ChainEnd → ChainEnd
closed_by true end = end
closed_by false end = SinkFailed

-- the report was written, or the sink failed in it
pub record IsReported (m : Meanings) (ended : Ended) (dead : List Bool) (b : State) (end : ChainEnd) (old new : SinkView) : Type 0 where
  pub whole : Bool
  pub end_is : end ≡ closed_by whole ended.end
  pub told : Writes whole old new (report m dead b ended.end ended.steps)

-- nothing is written where the sink failed in the rounds
abbrev pub Closes : {E : Type 0} → Meanings → Result Ended E → List Bool → State → ChainEnd → SinkView → SinkView → Type 0
Closes m (Ok ended) dead b end old new = IsReported m ended dead b end old new
Closes m (Err fault) dead b end old new = (end ≡ SinkFailed) × (new ≡ old)
