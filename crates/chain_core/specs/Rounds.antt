-- A round of a chain: the move that is due, or a Leave with the Enter that it is fused with.
use Rattle.std.specs.Prelude.{◌≡◌, ℕ, ◌-◌, Bool, true, false, nat_le, List, Option, Some, None, Result, is_ok, IfOk}
use Rattle.board_outside.specs.Sink.{SinkView}
use Rattle.device_model.specs.Meanings.{Meanings}
use Rattle.hart_memory.specs.Place.{place}
use Rattle.hart_memory.specs.declared.address_map.TheConstants.{RAM_BASE}
use Rattle.hart_board.specs.State.{State}
use Rattle.hart_board.specs.Step.{Turn, tried}
use Rattle.hart_board.specs.declared.event.Event.{Event}
use Rattle.hart_report.specs.declared.stepped.Stepped.{Stepped}
use Rattle.hart_report.specs.declared.stepped.Stepped.TheVariants.{Raised}
use Rattle.chain_moves.specs.Servicing.{is_foreground}
use Rattle.chain_moves.specs.Bytes.{revived_at}
use Rattle.chain_moves.specs.Tests.{is_lost}
use Rattle.chain_moves.specs.Cost.{body_cost, enter_cost, leave_cost, fused_leave_cost}
use Rattle.chain_moves.specs.Watched.{Watched, with_service, without_service}
use Rattle.chain_moves.specs.Judge.{judge_turn}
use Rattle.chain_core.specs.Progress.{Progress, gone_by, goes}
use Rattle.chain_core.specs.Text.{Tells}
use Rattle.chain_moves.specs.declared.broken.Broken.{Broken}
use Rattle.chain_moves.specs.declared.broken.Broken.TheVariants.{RegisterLost, Exception, HaltInHandler}
use Rattle.chain_moves.specs.declared.mark.Mark.{Mark}
use Rattle.chain_moves.specs.declared.dispatcher.Dispatcher.{Dispatcher}
use Rattle.chain_core.specs.declared.round.Round.{Round}
use Rattle.chain_core.specs.declared.round.Round.TheVariants.{Made, Failed, Ended, Spent}
use Rattle.chain_moves.specs.declared.verdict.Verdict.{Verdict}
use Rattle.chain_moves.specs.declared.verdict.Verdict.TheVariants.{Refused as BodyRefused, Plain, Reviving}
use Rattle.chain_moves.specs.declared.entry.Entry.{Entry}
use Rattle.chain_moves.specs.declared.entry.Entry.TheVariants.{Refused, Admitted}
use Rattle.chain_moves.specs.declared.turn.Turn.{Turn as Due}
use Rattle.chain_moves.specs.declared.turn.Turn.TheVariants.{Enter, Leave, Fuse, Body}

-- what became of a round, how far the chain has come then, and what is kept beside the board
pub record Rounded (W : Type 0) : Type 0 where
  pub told : Round
  pub progress : Progress
  pub watch : W

-- the mark of a service that begins: the board stands where its handler begins
abbrev pub mark_at : State → ℕ → Mark
mark_at b frame = record { level = b.csrs.mil; frame = frame; kept = b.registers }

abbrev pub watched_after : Watched → State → ℕ → Watched
watched_after w b frame = with_service w (mark_at b frame) (frame - RAM_BASE)

-- both parts of a fused pair
abbrev pub fused_cost : ℕ
fused_cost = 7

-- where the steps that are left don't reach to the end of the move, as many as are left
abbrev pub spent : {W : Type 0} → Meanings → List Event → ℕ → Progress → W → Rounded W
spent m es left p w = record { told = Spent; progress = goes m es left p; watch = w }

-- by whether they do
abbrev pub round_enter : Meanings → List Event → ℕ → Progress → Watched → Bool → ℕ → Rounded Watched
round_enter m es left p w true frame = record { told = Made enter_cost; progress = goes m es enter_cost p; watch = watched_after w (goes m es enter_cost p).board frame }
round_enter m es left p w false frame = spent m es left p w

abbrev pub round_leave : Meanings → List Event → ℕ → Progress → Watched → Bool → Rounded Watched
round_leave m es left p w true = record { told = Made leave_cost; progress = goes m es leave_cost p; watch = without_service w }
round_leave m es left p w false = spent m es left p w

-- a Leave, and then the Enter breaks
abbrev pub round_parted : Meanings → List Event → ℕ → Progress → Watched → Bool → Broken → Rounded Watched
round_parted m es left p w true kind = record { told = Failed kind fused_leave_cost; progress = goes m es fused_leave_cost p; watch = without_service w }
round_parted m es left p w false kind = spent m es left p w

abbrev pub round_fused : Meanings → List Event → ℕ → Progress → Watched → Bool → ℕ → Rounded Watched
round_fused m es left p w true frame = record { told = Made fused_cost; progress = goes m es fused_cost p; watch = watched_after (without_service w) (goes m es fused_cost p).board frame }
round_fused m es left p w false frame = spent m es left p w

-- the body retired: whether it lost a register
abbrev pub retired_round : Bool → Round
retired_round true = Failed RegisterLost body_cost
retired_round false = Made body_cost

abbrev pub round_retired : Progress → Watched → Bool → Rounded Watched
round_retired p w lost = record { told = retired_round lost; progress = p; watch = w }

-- the exception that a step raises
abbrev pub raised_code : Stepped → Option ℕ
raised_code (Raised pc code) = Some code
raised_code told = None

-- after a step that was only tried: where it raises nothing is counted
abbrev pub tried_by : Meanings → List Event → Progress → Turn → Option ℕ → Progress
tried_by m es p turn (Some code) = record p { board = turn.state }
tried_by m es p turn None = gone_by m es p turn

-- the steps that it makes
abbrev pub tried_steps : Option ℕ → ℕ
tried_steps (Some code) = 0
tried_steps None = 1

-- the step raises, or it is made
abbrev pub round_tried : Meanings → List Event → Progress → Watched → Watched → Turn → Option ℕ → Rounded Watched
round_tried m es p w revived turn (Some code) = record { told = Failed (Exception code) 0; progress = tried_by m es p turn (Some code); watch = w }
round_tried m es p w revived turn None = round_retired (tried_by m es p turn None) revived (is_lost w.live turn.state.pc turn.state.registers)

abbrev pub round_turn : Meanings → List Event → Progress → Watched → Watched → Turn → Rounded Watched
round_turn m es p w revived turn = round_tried m es p w revived turn (raised_code turn.told)

abbrev pub round_body : Meanings → List Event → ℕ → Progress → Watched → Bool → Watched → Rounded Watched
round_body m es left p w true revived = round_turn m es p w revived (tried m p.board)
round_body m es left p w false revived = spent m es left p w

-- ---- by the move that is due

abbrev pub round_entry : Meanings → List Event → ℕ → Progress → Watched → Entry → Rounded Watched
round_entry m es left p w (Refused kind) = record { told = Failed kind 0; progress = p; watch = w }
round_entry m es left p w (Admitted frame) = round_enter m es left p w (nat_le enter_cost left) frame

abbrev pub round_fuse : Meanings → List Event → ℕ → Progress → Watched → Entry → Rounded Watched
round_fuse m es left p w (Refused kind) = round_parted m es left p w (nat_le fused_leave_cost left) kind
round_fuse m es left p w (Admitted frame) = round_fused m es left p w (nat_le fused_cost left) frame

abbrev pub round_verdict : Meanings → List Event → ℕ → Progress → Watched → Verdict → Rounded Watched
round_verdict m es left p w (BodyRefused kind) = record { told = Failed kind 0; progress = p; watch = w }
round_verdict m es left p w Plain = round_body m es left p w (nat_le body_cost left) w
round_verdict m es left p w (Reviving at width) = round_body m es left p w (nat_le body_cost left) (record w { dead = revived_at (place at width) width w.dead })

abbrev pub round_due : Meanings → List Event → ℕ → Progress → Watched → Due → Rounded Watched
round_due m es left p w (Enter entry) = round_entry m es left p w entry
round_due m es left p w Leave = round_leave m es left p w (nat_le leave_cost left)
round_due m es left p w (Fuse entry) = round_fuse m es left p w entry
round_due m es left p w (Body verdict) = round_verdict m es left p w verdict

-- the board has halted: whether a service is live
abbrev pub halted_round : Bool → Round
halted_round true = Ended
halted_round false = Failed HaltInHandler 0

abbrev pub round_halted : Progress → Watched → Rounded Watched
round_halted p w = record { told = halted_round (is_foreground w.live); progress = p; watch = w }

abbrev pub round_unless_halted : Meanings → List Event → Dispatcher → ℕ → Progress → Watched → Option ℕ → Rounded Watched
round_unless_halted m es d left p w (Some code) = round_halted p w
round_unless_halted m es d left p w None = round_due m es left p w (judge_turn d p.board w)

-- a round, of which so many steps may be made
unfoldable pub round : Meanings → List Event → Dispatcher → ℕ → Progress → Watched → Rounded Watched
round m es d left p w = round_unless_halted m es d left p w (m.halted p.board.outside.device)

-- the steps that a round made, of those that were left
abbrev pub steps_made : ℕ → Round → ℕ
steps_made left (Made steps) = steps
steps_made left (Failed kind steps) = steps
steps_made left Ended = 0
steps_made left Spent = left

-- a round was made as it is due: where the sink held it came to that, and its steps were made and told as far as the sink held
pub record IsMade {W E : Type 0} (m : Meanings) (es : List Event) (trace : Bool) (left : ℕ) (due : Rounded W) (result : Result Round E) (p q : Progress) (watch : W) (old new : SinkView) : Type 0 where
  pub round : IfOk result (λ told. record { told = told; progress = q; watch = watch } ≡ due)
  pub tells : Tells m es trace (steps_made left due.told) (is_ok result) p q old new
