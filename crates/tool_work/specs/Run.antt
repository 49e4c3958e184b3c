-- What the command `run` does with its files.
use Rattle.std.specs.Prelude.{ℕ, List}
use Rattle.hart_memory.specs.Image.{ImageView}
use Rattle.hart_board.specs.Event.{EventList}
use Rattle.hart_board.specs.Run.{Ran, every_step, run_of}
use Rattle.hart_board.specs.Text.{run_text}
use Rattle.hart_board.specs.declared.run_end.RunEnd.{RunEnd}
use Rattle.hart_board.specs.declared.run_end.RunEnd.TheVariants.{Halted, BudgetSpent as budget_spent, VectorFault as vector_fault, SinkFailed as sink_failed}
use Rattle.board_inputs.specs.ImageLoading.{loaded}
use Rattle.tool_frame.specs.Due.{Due, at_once}
use Rattle.tool_frame.specs.Plan.{Plan, Makes}
use Rattle.tool_frame.specs.declared.status.Status.{Status}
use Rattle.tool_frame.specs.declared.status.Status.TheVariants.{Done, BudgetSpent, SinkFailed, VectorFault}
use Rattle.tool_work.specs.Shipped.{shipped_meanings, shipped_board}
use Rattle.tool_work.specs.Bench.{Bench, empty_bench}
use Rattle.tool_work.specs.Files.{files_plan}
use Rattle.tool_words.specs.Run.{RunWords}

-- the status of a run that ended so
abbrev pub status_of : RunEnd → Status
status_of (Halted code steps) = Done
status_of budget_spent = BudgetSpent
status_of (vector_fault id steps) = VectorFault
status_of sink_failed = SinkFailed

-- a run: the board at reset in the scenario's shape, with the image's bytes and its entry, and the events as they come
abbrev pub run_made : ImageView → EventList → ℕ → Ran
run_made image events bound = run_of shipped_meanings every_step events.list bound (loaded image (shipped_board events.shape))

-- what is told of it
unfoldable pub run_told : RunWords → ImageView → EventList → List ℕ
run_told run image events = run_text shipped_meanings run.traces run.bound_is (run_made image events run.bound_is)

-- what is due of it
abbrev pub run_due : RunWords → ImageView → EventList → Due
run_due run image events = at_once (run_told run image events) (status_of (run_made image events run.bound_is).end)

-- the image is read, then the scenario, and then the run is made
abbrev pub run_plan : RunWords → Plan Bench
run_plan run = files_plan run.image_name run.scenario_name (λ image events. Makes (run_due run image events) empty_bench)
