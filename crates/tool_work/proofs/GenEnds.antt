-- How the chains of `gen` end, and what is left of them.
use Rattle.std.proofs.Common.{◌≡◌, ◌∙◌, ◌≤◌, ◌+◌, ℕ, List, min, Bool, true, false, refl, sym, ap, subst, arith, if◌then◌else◌}
use Rattle.board_outside.specs.Counts.{last_count}
use Rattle.board_outside.specs.Sink.{SinkView, Writes}
use Rattle.hart_board.specs.State.{State}
use Rattle.hart_board.specs.Event.{EventList}
use Rattle.chain_core.specs.Chain.{chain_end, board_after}
use Rattle.chain_moves.specs.declared.dispatcher.Dispatcher.{Dispatcher}
use Rattle.chain_moves.specs.declared.dispatcher.Dispatcher.TheVariants.{Looping, Returning}
use Rattle.chain_core.specs.declared.chain_end.ChainEnd.{ChainEnd}
use Rattle.chain_core.specs.declared.chain_end.ChainEnd.TheVariants.{Done as done, BudgetSpent as budget_spent, SinkFailed as sink_failed, Broken as broken}
use Rattle.tool_frame.specs.Due.{at_once, worked}
use Rattle.tool_frame.specs.Answers.{Ends, Leaves}
use Rattle.tool_frame.proofs.Ends.{ends_by}
use Rattle.tool_frame.specs.declared.status.Status.{Status}
use Rattle.tool_frame.specs.declared.status.Status.TheVariants.{SinkFailed}
use Rattle.tool_work.specs.Shipped.{shipped_meanings}
use Rattle.tool_work.specs.Bench.{Bench, empty_bench}
use Rattle.tool_work.specs.Chain.{status_of, IsServed}
use Rattle.tool_work.specs.Gen.{gen_bound, gen_board, gen_end, gen_after, gen_line, gen_due, gen_left, deciding, gen_decides}
use Rattle.tool_work.specs.GenEvents.{gen_events}
use Rattle.tool_work.proofs.RunEnds.{IsWorkStatus}
use Rattle.tool_work.proofs.ChainEnds.{end_is_work, never_sink_failed, due_no_sink}

-- a sink that counts no fault took all
pub all_taken : (whole : Bool) {old new : SinkView} {text : List ℕ} → old.faults ≡ 0 → new.faults ≡ 0 → Writes whole old new text → whole ≡ true
all_taken true before now w = refl
all_taken false before now w = let risen : min (0 + 1) last_count ≤ 0 = rw (before, now) at w.counts.risen in absurd (omega (arith, risen))

-- the ends and the boards are those of the definition, by the events and the board before
pub end_is : (d : Dispatcher) (n : ℕ) (events : EventList) (b : State) {end : ChainEnd} → events ≡ gen_events n → b ≡ gen_board d n → end ≡ (chain_end shipped_meanings events.list d gen_bound b).end → end ≡ gen_end d n
unfolding gen_end
end_is d n events b made at is =
    is ∙ (ap (λ (es : EventList). (chain_end shipped_meanings es.list d gen_bound b).end) made ∙ ap (λ (s : State). (chain_end shipped_meanings (gen_events n).list d gen_bound s).end) at)

pub after_is : (d : Dispatcher) (n : ℕ) (events : EventList) (b : State) {b' : State} → events ≡ gen_events n → b ≡ gen_board d n → b' ≡ board_after shipped_meanings events.list d gen_bound b → b' ≡ gen_after d n
unfolding gen_after
after_is d n events b made at is =
    is ∙ (ap (λ (es : EventList). board_after shipped_meanings es.list d gen_bound b) made ∙ ap (λ (s : State). board_after shipped_meanings (gen_events n).list d gen_bound s) at)

pub served_is : (d : Dispatcher) (n : ℕ) (events : EventList) (b : State) → events ≡ gen_events n → b ≡ gen_board d n → IsServed false d gen_bound events b → IsServed false d gen_bound (gen_events n) (gen_board d n)
served_is d n events b made at s = subst (λ (t : State). IsServed false d gen_bound (gen_events n) t) at (subst (λ (es : EventList). IsServed false d gen_bound es b) made s)

-- the line was written, or the sink failed
pub gen_ends : (n : ℕ) (first second : ChainEnd) (written : Bool) {status : Status} {o o' : SinkView} → first ≡ gen_end Looping n → second ≡ gen_end Returning n → status ≡ (if written then status_of (deciding first second) else SinkFailed) → Writes written o o' (gen_line n first second) → Ends status o o' (gen_due n)
gen_ends n first second written {status} {o} {o'} one other e w =
    subst (λ (s : ChainEnd). Ends status o o' (at_once (gen_line n (gen_end Looping n) s) (status_of (deciding (gen_end Looping n) s)))) other
    (subst (λ (f : ChainEnd). Ends status o o' (at_once (gen_line n f second) (status_of (deciding f second)))) one
    (ends_by written (status_of (deciding first second)) (gen_line n first second) e w))

-- neither chain is due to end by its sink
gen_no_sink : (d : Dispatcher) (n : ℕ) → gen_end d n ≡ sink_failed → ⊥
unfolding gen_end
gen_no_sink d n e = never_sink_failed shipped_meanings (gen_events n).list d gen_bound (gen_board d n) e

no_sink_decides : (first second : ChainEnd) → (first ≡ sink_failed → ⊥) → (second ≡ sink_failed → ⊥) → deciding first second ≡ sink_failed → ⊥
no_sink_decides (done steps bodies services) second one other = other
no_sink_decides budget_spent second one other = one
no_sink_decides (broken kind bodies) second one other = one
no_sink_decides sink_failed second one other = one

decides_no_sink : (n : ℕ) → gen_decides n ≡ sink_failed → ⊥
decides_no_sink n = no_sink_decides (gen_end Looping n) (gen_end Returning n) (gen_no_sink Looping n) (gen_no_sink Returning n)

pub gen_is_work : (n : ℕ) → IsWorkStatus (status_of (gen_decides n))
gen_is_work n = end_is_work (gen_decides n) (decides_no_sink n)

-- the boards are left where the line was written
pub gen_leaves : (n : ℕ) (written : Bool) {status : Status} {bench : Bench} → status ≡ (if written then status_of (gen_decides n) else SinkFailed) → bench ≡ (if written then gen_left n else empty_bench)
    → Leaves empty_bench status (worked (gen_due n) (gen_left n)) bench
gen_leaves n true e is = record { where_due = λ same. is; elsewhere = λ other. absurd (other e) }
gen_leaves n false e is = record { where_due = λ same. absurd (due_no_sink (gen_decides n) (decides_no_sink n) (sym e ∙ same)); elsewhere = λ other. is }
