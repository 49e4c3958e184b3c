-- What is done with an image and a scenario, on a board with any devices.
use Rattle.std.specs.Prelude.{◌≡◌, ℕ, List, false, Option, Some, None}
use Rattle.device_model.specs.Meanings.{Meanings}
use Rattle.board_outside.specs.Shelf.{ShelfView}
use Rattle.hart_memory.specs.Image.{ImageView}
use Rattle.hart_board.specs.State.{State, reset}
use Rattle.hart_board.specs.Outside.{reset_outside}
use Rattle.hart_board.specs.Event.{EventList}
use Rattle.hart_board.specs.Run.{Ran, every_step, run_of}
use Rattle.hart_board.specs.Text.{run_text}
use Rattle.board_inputs.specs.ImageLoading.{loaded}
use Rattle.chain_moves.specs.Start.{installed, begun}
use Rattle.chain_moves.specs.Moves.{servicing_machine}
use Rattle.chain_moves.specs.declared.dispatcher.Dispatcher.{Dispatcher}
use Rattle.chain_core.specs.ChainRun.{read_to}
use Rattle.chain_core.specs.End.{services_within}
use Rattle.chain_core.specs.Chain.{chain_end, board_after, chain_text, machine_run, AgreesWhereDone}
use Rattle.tool_frame.specs.Due.{Due, at_once}
use Rattle.tool_frame.specs.Plan.{Plan, Makes}
use Rattle.tool_frame.specs.Code.{OfCommand, origin_of}
use Rattle.tool_frame.specs.declared.status.Status.{Status}
use Rattle.tool_work.specs.Files.{files_plan, PassesFiles}
use Rattle.tool_work.specs.Run.{status_of}
use Rattle.tool_work.specs.Chain.{taken_at, unless_taken, status_of as status_of_chain}
use Rattle.template_tool.specs.Words.{TemplateWords}

-- the board before the first step: at reset with these devices, in the scenario's shape, with the image's bytes and its entry
unfoldable pub board_on : Meanings → List ℕ → ImageView → EventList → State
board_on m devices image events = loaded image (reset (reset_outside m events.shape devices))

-- ---- a run

abbrev pub run_made : Meanings → EventList → ℕ → State → Ran
run_made m events bound b = run_of m every_step events.list bound b

-- its text, without a trace, and the status of its end
abbrev pub run_due : Meanings → EventList → ℕ → State → Due
run_due m events bound b = at_once (run_text m false bound (run_made m events bound b)) (status_of (run_made m events bound b).end)

-- ---- a chain, whose board has the dispatcher besides

-- its text, without a trace, and the status of its end
abbrev pub chain_due : Meanings → Dispatcher → EventList → ℕ → State → Due
chain_due m d events bound b = at_once (chain_text m events.list d false bound (installed d b)) (status_of_chain (chain_end m events.list d bound (installed d b)).end)

-- the services that are read off the board's run are those of the servicing machine within the bound
abbrev pub HasItsServices : Meanings → Dispatcher → EventList → ℕ → State → Type 0
HasItsServices m d events bound b = (read_to m events.list b (chain_end m events.list d bound b).steps).services ≡ services_within (servicing_machine m events.list) d bound (begun m events.list b)

-- and where the chain is done, the board agrees with the machine's last state
abbrev pub HasItsState : Meanings → Dispatcher → EventList → ℕ → State → Type 0
HasItsState m d events bound b = AgreesWhereDone (chain_end m events.list d bound b).end (board_after m events.list d bound b) (machine_run m events.list bound b)

-- the board of a chain does what the servicing machine does
pub record IsServed (m : Meanings) (d : Dispatcher) (events : EventList) (bound : ℕ) (b : State) : Type 0 where
  pub services : HasItsServices m d events bound (installed d b)
  pub state : HasItsState m d events bound (installed d b)

-- ---- with the files

-- a run is made; or the dispatcher's place has to be free, and then a chain is made
abbrev pub work : Meanings → List ℕ → Option Dispatcher → ℕ → ImageView → EventList → Plan (Unit {0})
work m devices None bound image events = Makes (run_due m events bound (board_on m devices image events)) tt
work m devices (Some d) bound image events = unless_taken (taken_at image) (Makes (chain_due m d events bound (board_on m devices image events)) tt)

-- the image is read, then the scenario, and then the work is done
abbrev pub files_then_work : Meanings → List ℕ → TemplateWords → Plan (Unit {0})
files_then_work m devices asked = files_plan asked.image_name asked.scenario_name (work m devices asked.under asked.bound_is)

-- a chain's files were given and passed, the dispatcher's place was free, and the board did what the servicing machine does
pub record ServedTo (m : Meanings) (devices : List ℕ) (asked : TemplateWords) (d : Dispatcher) (shelf shelf' : ShelfView) : Type 0 where
  pub image : ImageView
  pub events : EventList
  pub files : PassesFiles asked.image_name asked.scenario_name shelf shelf' image events
  pub free : taken_at image ≡ None
  pub served : IsServed m d events asked.bound_is (board_on m devices image events)

-- a chain that was made is one
abbrev pub IsServedTo : Meanings → List ℕ → TemplateWords → Status → ShelfView → ShelfView → Type 0
IsServedTo m devices asked status shelf shelf' = (d : Dispatcher) → asked.under ≡ Some d → origin_of status ≡ OfCommand → ServedTo m devices asked d shelf shelf'
