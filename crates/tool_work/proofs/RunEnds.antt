-- How a run ends, and what its status says.
use Rattle.std.proofs.Common.{◌≡◌, ◌∙◌, ℕ, List, IsTrue, refl, ap, subst, inl, inr}
use Rattle.board_outside.specs.Sink.{SinkView, Writes}
use Rattle.clic_regs.specs.Shape.{ClicShape}
use Rattle.hart_memory.specs.Image.{ImageView}
use Rattle.hart_board.specs.State.{State}
use Rattle.hart_board.specs.Event.{EventList}
use Rattle.hart_board.specs.Run.{Ran, every_step, is_whole, run_of}
use Rattle.hart_board.specs.Text.{run_text}
use Rattle.hart_board.specs.declared.run_end.RunEnd.{RunEnd}
use Rattle.hart_board.specs.declared.run_end.RunEnd.TheVariants.{Halted, BudgetSpent as budget_spent, VectorFault as vector_fault, SinkFailed as sink_failed}
use Rattle.board_inputs.specs.ImageLoading.{loaded}
use Rattle.tool_work.specs.Shipped.{shipped_meanings, shipped_board}
use Rattle.tool_words.specs.Run.{RunWords}
use Rattle.tool_work.specs.Run.{run_due, run_told, status_of}
use Rattle.tool_frame.specs.Answers.{Ends}
use Rattle.tool_frame.specs.Due.{Due, at_once}
use Rattle.tool_frame.specs.Code.{OfCommand, origin_of}
use Rattle.tool_frame.specs.declared.status.Status.{Status}
use Rattle.tool_frame.specs.declared.status.Status.TheVariants.{Done, BudgetSpent, Usage, Broken, VectorFault}
use Rattle.tool_frame.proofs.Fits.{IsAtOnce}

-- the status of work that was made
pub record IsWorkStatus (s : Status) : Type 0 where
  pub own : origin_of s ≡ OfCommand
  pub no_usage : s ≡ Usage → ⊥

-- work that is always done has one
pub done_is_work : (s : Status) → s ≡ Done → IsWorkStatus s
done_is_work s e = record { own = rw e refl; no_usage = λ c. cc }

pub done_works : (due : Due) → IsAtOnce (λ s. s ≡ Done) due → IsAtOnce IsWorkStatus due
done_works due done = record { status = done_is_work due.status done.status; at_once = done.at_once }

pub end_is_work : (end : RunEnd) → (end ≡ sink_failed → ⊥) → IsWorkStatus (status_of end)
end_is_work (Halted code steps) never = record { own = refl; no_usage = λ c. cc }
end_is_work budget_spent never = record { own = refl; no_usage = λ c. cc }
end_is_work (vector_fault id steps) never = record { own = refl; no_usage = λ c. cc }
end_is_work sink_failed never = absurd (never refl)

pub is_halted : (end : RunEnd) → status_of end ≡ Done → (code : ℕ) × (steps : ℕ) × (end ≡ Halted code steps)
is_halted (Halted code steps) e = (code, steps, refl)
is_halted budget_spent e = cc
is_halted (vector_fault id steps) e = cc
is_halted sink_failed e = cc

pub is_budget_spent : (end : RunEnd) → status_of end ≡ BudgetSpent → end ≡ budget_spent
is_budget_spent (Halted code steps) e = cc
is_budget_spent budget_spent e = refl
is_budget_spent (vector_fault id steps) e = cc
is_budget_spent sink_failed e = cc

pub is_vector_fault : (end : RunEnd) → status_of end ≡ VectorFault → (id : ℕ) × (steps : ℕ) × (end ≡ vector_fault id steps)
is_vector_fault (Halted code steps) e = cc
is_vector_fault budget_spent e = cc
is_vector_fault (vector_fault id steps) e = (id, steps, refl)
is_vector_fault sink_failed e = cc

pub run_no_broken : (end : RunEnd) → status_of end ≡ Broken → ⊥
run_no_broken (Halted code steps) e = cc
run_no_broken budget_spent e = cc
run_no_broken (vector_fault id steps) e = cc
run_no_broken sink_failed e = cc

-- a run, and the status that it ends with
pub run_ends : (end due : RunEnd) (text : List ℕ) {status : Status} {o n : SinkView} → status ≡ status_of end → (IsTrue (is_whole end) → end ≡ due) → Writes (is_whole end) o n text → Ends status o n (at_once text (status_of due))
run_ends (Halted code steps) due text e same w = inl (e ∙ ap status_of (same refl), w)
run_ends budget_spent due text e same w = inl (e ∙ ap status_of (same refl), w)
run_ends (vector_fault id steps) due text e same w = inl (e ∙ ap status_of (same refl), w)
run_ends sink_failed due text e same w = inr (e, w)

-- a run of the image's board in the shape of the events
pub image_runs : (run : RunWords) (image : ImageView) (events : EventList) (shape : ClicShape) (before b : State) (end : RunEnd) {status : Status} {o n : SinkView}
    → shape ≡ events.shape → before ≡ shipped_board shape → b ≡ loaded image before → status ≡ status_of end
    → (IsTrue (is_whole end) → end ≡ (run_of shipped_meanings every_step events.list run.bound_is b).end)
    → Writes (is_whole end) o n (run_text shipped_meanings run.traces run.bound_is (run_of shipped_meanings every_step events.list run.bound_is b))
    → Ends status o n (run_due run image events)
unfolding run_told
image_runs run image events shape before b end {status} {o} {n} same at is ends made text =
    let ran : State → Ran = λ x. run_of shipped_meanings every_step events.list run.bound_is x in
    subst (λ x. Ends status o n (at_once (run_text shipped_meanings run.traces run.bound_is (ran x)) (status_of (ran x).end)))
    (is ∙ ap (loaded image) (at ∙ ap shipped_board same))
    (run_ends end (ran b).end (run_text shipped_meanings run.traces run.bound_is (ran b)) ends made text)
