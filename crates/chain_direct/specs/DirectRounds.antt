-- A round of a chain with direct services: one of the direct service that is live, or that begins, or else one of the chained services.
use Rattle.std.specs.Prelude.{◌≡◌, ℕ, ◌+◌, Bool, true, false, nat_le, List, ◌++◌, Option, Some, None, Result, is_ok, IfOk}
use Rattle.board_outside.specs.Sink.{SinkView, Writes}
use Rattle.device_model.specs.Meanings.{Meanings}
use Rattle.hart_memory.specs.Place.{place}
use Rattle.clic_select.specs.Top.{top}
use Rattle.clic_select.specs.declared.choice.Choice.{Choice}
use Rattle.clic_trap.specs.Due.{due}
use Rattle.hart_board.specs.State.{State}
use Rattle.hart_board.specs.Step.{Turn, tried}
use Rattle.hart_board.specs.declared.event.Event.{Event}
use Rattle.chain_moves.specs.Bytes.{revived_at}
use Rattle.chain_moves.specs.Tests.{first_broken}
use Rattle.chain_moves.specs.Enter.{table_address}
use Rattle.chain_moves.specs.Cost.{body_cost}
use Rattle.chain_moves.specs.Watched.{Watched}
use Rattle.chain_core.specs.Progress.{Progress, goes}
use Rattle.chain_core.specs.Text.{steps_text, Tells}
use Rattle.chain_core.specs.Rounds.{Rounded, spent, raised_code, tried_by, steps_made, round}
use Rattle.chain_moves.specs.declared.broken.Broken.{Broken}
use Rattle.chain_moves.specs.declared.broken.Broken.TheVariants.{RegisterLost, Exception, HaltInHandler}
use Rattle.chain_moves.specs.declared.dispatcher.Dispatcher.{Dispatcher}
use Rattle.chain_core.specs.declared.round.Round.{Round}
use Rattle.chain_core.specs.declared.round.Round.TheVariants.{Made, Failed, Ended, Spent}
use Rattle.chain_moves.specs.declared.verdict.Verdict.{Verdict}
use Rattle.chain_moves.specs.declared.verdict.Verdict.TheVariants.{Refused, Plain, Reviving}
use Rattle.chain_direct.specs.DirectWatched.{DirectWatched, with_direct, without_direct, with_dead, with_chained}
use Rattle.chain_direct.specs.DirectBody.{are_same}
use Rattle.chain_direct.specs.DirectMoves.{begin_tests}
use Rattle.chain_direct.specs.DirectJudge.{judge_direct_body}
use Rattle.chain_direct.specs.DirectText.{direct_line}
use Rattle.chain_direct.specs.declared.direct_verdict.DirectVerdict.{DirectVerdict}
use Rattle.chain_direct.specs.declared.direct_verdict.DirectVerdict.TheVariants.{Ends, Goes}

abbrev pub direct_refused : Progress → DirectWatched → Broken → Rounded DirectWatched
direct_refused p w kind = record { told = Failed kind 0; progress = p; watch = w }

-- ---- a direct service begins

-- the input is hardware-vectored
abbrev pub only_hard : Choice → Bool → Option Choice
only_hard t true = Some t
only_hard t false = None

-- by whether the board has halted, the top, and whether it is due
abbrev pub hard_by : Option ℕ → Option Choice → Bool → Option Choice
hard_by (Some code) choice is_due = None
hard_by None (Some t) true = only_hard t t.shv
hard_by None (Some t) false = None
hard_by None None is_due = None

-- the hardware-vectored input that the board takes with its next step
unfoldable pub hard_due : Meanings → State → Option Choice
hard_due m b = hard_by (m.halted b.outside.device) (top b.outside.clic) (due b.csrs (top b.outside.clic))

-- by whether a step is left
abbrev pub round_begun : Meanings → List Event → ℕ → Progress → DirectWatched → Bool → Rounded DirectWatched
round_begun m es left p w true = record { told = Made body_cost; progress = goes m es body_cost p; watch = with_direct w p.board.registers }
round_begun m es left p w false = spent m es left p w

abbrev pub round_tested : Meanings → List Event → ℕ → Progress → DirectWatched → Option Broken → Rounded DirectWatched
round_tested m es left p w (Some kind) = direct_refused p w kind
round_tested m es left p w None = round_begun m es left p w (nat_le body_cost left)

abbrev pub round_begin : Meanings → List Event → ℕ → Progress → DirectWatched → Choice → Rounded DirectWatched
round_begin m es left p w t = round_tested m es left p w (first_broken (begin_tests w.chained.dead (table_address p.board.csrs.mtvt t.id)))

-- ---- a direct service is live

-- its MRET retired: whether each register is as it was
abbrev pub ended_round : Bool → Round
ended_round true = Made body_cost
ended_round false = Failed RegisterLost body_cost

abbrev pub round_returned : Progress → DirectWatched → List ℕ → Rounded DirectWatched
round_returned p w kept = record { told = ended_round (are_same kept p.board.registers 32); progress = p; watch = without_direct w }

abbrev pub round_ended : Meanings → List Event → ℕ → Progress → DirectWatched → List ℕ → Bool → Rounded DirectWatched
round_ended m es left p w kept true = round_returned (goes m es body_cost p) w kept
round_ended m es left p w kept false = spent m es left p w

-- another instruction: the step raises, or it is made
abbrev pub round_direct_tried : Meanings → List Event → Progress → DirectWatched → List Bool → Turn → Option ℕ → Rounded DirectWatched
round_direct_tried m es p w dead turn (Some code) = record { told = Failed (Exception code) 0; progress = tried_by m es p turn (Some code); watch = w }
round_direct_tried m es p w dead turn None = record { told = Made body_cost; progress = tried_by m es p turn None; watch = with_dead w dead }

abbrev pub round_direct_turn : Meanings → List Event → Progress → DirectWatched → List Bool → Turn → Rounded DirectWatched
round_direct_turn m es p w dead turn = round_direct_tried m es p w dead turn (raised_code turn.told)

-- by whether a step is left
abbrev pub round_direct_body : Meanings → List Event → ℕ → Progress → DirectWatched → Bool → List Bool → Rounded DirectWatched
round_direct_body m es left p w true dead = round_direct_turn m es p w dead (tried m p.board)
round_direct_body m es left p w false dead = spent m es left p w

abbrev pub round_going : Meanings → List Event → ℕ → Progress → DirectWatched → Verdict → Rounded DirectWatched
round_going m es left p w (Refused kind) = direct_refused p w kind
round_going m es left p w Plain = round_direct_body m es left p w (nat_le body_cost left) w.chained.dead
round_going m es left p w (Reviving at width) = round_direct_body m es left p w (nat_le body_cost left) (revived_at (place at width) width w.chained.dead)

abbrev pub round_direct_due : Meanings → List Event → ℕ → Progress → DirectWatched → List ℕ → DirectVerdict → Rounded DirectWatched
round_direct_due m es left p w kept Ends = round_ended m es left p w kept (nat_le body_cost left)
round_direct_due m es left p w kept (Goes verdict) = round_going m es left p w verdict

-- by whether the board has halted
abbrev pub round_serving : Meanings → List Event → ℕ → Progress → DirectWatched → List ℕ → Option ℕ → Rounded DirectWatched
round_serving m es left p w kept (Some code) = direct_refused p w HaltInHandler
round_serving m es left p w kept None = round_direct_due m es left p w kept (judge_direct_body p.board w.chained)

-- ---- a round

abbrev pub round_chained : DirectWatched → Rounded Watched → Rounded DirectWatched
round_chained w r = record { told = r.told; progress = r.progress; watch = with_chained w r.watch }

-- by the direct service that is live, if one is, and the one that is due, if one is
abbrev pub direct_round_by : Meanings → List Event → Dispatcher → ℕ → Progress → DirectWatched → Option (List ℕ) → Option Choice → Rounded DirectWatched
direct_round_by m es d left p w (Some kept) choice = round_serving m es left p w kept (m.halted p.board.outside.device)
direct_round_by m es d left p w None (Some t) = round_begin m es left p w t
direct_round_by m es d left p w None None = round_chained w (round m es d left p w.chained)

-- of which so many steps may be made
unfoldable pub direct_round : Meanings → List Event → Dispatcher → ℕ → Progress → DirectWatched → Rounded DirectWatched
direct_round m es d left p w = direct_round_by m es d left p w w.kept (hard_due m p.board)

-- ---- its text

-- a direct service that begins has its line after that of its step; the board has made the step where the sink fails in either
abbrev pub BeginTells : Meanings → List Event → Bool → ℕ → Choice → Round → Bool → Progress → Progress → SinkView → SinkView → Type 0
BeginTells m es trace left t (Made steps) whole p q old new = (q ≡ goes m es 1 p) × Writes whole old new (steps_text m es trace 1 p ++ direct_line t.id q.board.csrs.mil (p.depth + 1))
BeginTells m es trace left t (Failed kind steps) whole p q old new = Tells m es trace steps whole p q old new
BeginTells m es trace left t Ended whole p q old new = Tells m es trace 0 whole p q old new
BeginTells m es trace left t Spent whole p q old new = Tells m es trace left whole p q old new

-- by the direct service that is live, and the one that is due
abbrev pub RoundTells : Meanings → List Event → Bool → ℕ → Option (List ℕ) → Option Choice → Round → Bool → Progress → Progress → SinkView → SinkView → Type 0
RoundTells m es trace left (Some kept) choice t whole p q old new = Tells m es trace (steps_made left t) whole p q old new
RoundTells m es trace left None (Some choice) t whole p q old new = BeginTells m es trace left choice t whole p q old new
RoundTells m es trace left None None t whole p q old new = Tells m es trace (steps_made left t) whole p q old new

-- such a round was made as it is due, from what was kept before it, and with the input that was due
pub record IsDirectMade {E : Type 0} (m : Meanings) (es : List Event) (trace : Bool) (left : ℕ) (kept : Option (List ℕ)) (hard : Option Choice) (due : Rounded DirectWatched) (result : Result Round E) (p q : Progress) (watch : DirectWatched) (old new : SinkView) : Type 0 where
  pub round : IfOk result (λ told. record { told = told; progress = q; watch = watch } ≡ due)
  pub tells : RoundTells m es trace left kept hard due.told (is_ok result) p q old new
