-- How a chain ends.
use Rattle.std.proofs.Common.{◌≡◌, ◌∙◌, ℕ, List, IsTrue, false, refl, ap, subst, inl, inr}
use Rattle.device_model.specs.Meanings.{Meanings}
use Rattle.board_outside.specs.Sink.{SinkView, Writes}
use Rattle.hart_board.specs.State.{State}
use Rattle.hart_board.specs.Event.{EventList}
use Rattle.chain_moves.specs.Start.{installed}
use Rattle.chain_moves.specs.declared.dispatcher.Dispatcher.{Dispatcher}
use Rattle.chain_core.specs.Chain.{chain_end, chain_text, is_whole}
use Rattle.chain_core.specs.declared.chain_end.ChainEnd.{ChainEnd}
use Rattle.chain_core.specs.declared.chain_end.ChainEnd.TheVariants.{Done as done, BudgetSpent as budget_spent, SinkFailed as sink_failed, Broken as broken}
use Rattle.tool_frame.specs.Due.{at_once}
use Rattle.tool_frame.specs.Answers.{Ends}
use Rattle.tool_frame.specs.declared.status.Status.{Status}
use Rattle.tool_work.specs.Chain.{status_of}
use Rattle.template_tool.specs.Work.{chain_due, HasItsServices, HasItsState, IsServed}

-- a chain, with the status of its end
ends_with : (end due : ChainEnd) (text : List ℕ) {status : Status} {o n : SinkView} → status ≡ status_of end → (IsTrue (is_whole end) → end ≡ due) → Writes (is_whole end) o n text → Ends status o n (at_once text (status_of due))
ends_with (done steps bodies services) due text e same w = inl (e ∙ ap status_of (same refl), w)
ends_with budget_spent due text e same w = inl (e ∙ ap status_of (same refl), w)
ends_with (broken kind bodies) due text e same w = inl (e ∙ ap status_of (same refl), w)
ends_with sink_failed due text e same w = inr (e, w)

-- where the dispatcher was put into its place
pub chain_ended : (m : Meanings) (d : Dispatcher) (events : EventList) (bound : ℕ) (b c : State) (end : ChainEnd) {status : Status} {o n : SinkView} → c ≡ installed d b → status ≡ status_of end
    → (IsTrue (is_whole end) → end ≡ (chain_end m events.list d bound c).end) → Writes (is_whole end) o n (chain_text m events.list d false bound c) → Ends status o n (chain_due m d events bound b)
chain_ended m d events bound b c end {status} {o} {n} is e made text =
    subst (λ (x : State). Ends status o n (at_once (chain_text m events.list d false bound x) (status_of (chain_end m events.list d bound x).end))) is
    (ends_with end (chain_end m events.list d bound c).end (chain_text m events.list d false bound c) e made text)

pub chain_served : (m : Meanings) (d : Dispatcher) (events : EventList) (bound : ℕ) (b c : State) → c ≡ installed d b → HasItsServices m d events bound c → HasItsState m d events bound c → IsServed m d events bound b
chain_served m d events bound b c is services state = record {
  services = subst (HasItsServices m d events bound) is services;
  state = subst (HasItsState m d events bound) is state;
}
