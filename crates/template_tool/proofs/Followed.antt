-- How the plan of both files is followed.
use Rattle.std.proofs.Common.{◌≡◌, ◌∙◌, ℕ, List, Option, Some, None, sym, ap, subst, inl, unwrap_or}
use Rattle.clap.specs.Words.{Text}
use Rattle.device_model.specs.Meanings.{Meanings}
use Rattle.board_outside.specs.Shelf.{ShelfView}
use Rattle.board_outside.specs.Sink.{SinkView}
use Rattle.hart_memory.specs.Image.{ImageView}
use Rattle.hart_board.specs.State.{State}
use Rattle.hart_board.specs.Event.{EventList}
use Rattle.chain_moves.specs.Slot.{IsLeastTaken}
use Rattle.chain_moves.specs.declared.dispatcher.Dispatcher.{Dispatcher}
use Rattle.tool_frame.specs.Due.{refused_due}
use Rattle.tool_frame.specs.Plan.{Plan, Makes}
use Rattle.tool_frame.specs.Answers.{Ends, EndsOrWants, IsRead, Follows}
use Rattle.tool_frame.specs.declared.status.Status.{Status}
use Rattle.tool_frame.proofs.Ends.{read_on, makes}
use Rattle.tool_work.specs.Files.{image_limit, image_stage, scenario_limit, scenario_stage, scenario_plan, files_plan, PassesFiles}
use Rattle.tool_work.specs.Chain.{slot_line}
use Rattle.tool_work.proofs.ChainEnds.{least_is, taken_ends, free_ends}
use Rattle.template_tool.specs.Words.{TemplateWords}
use Rattle.template_tool.specs.Work.{board_on, run_due, chain_due, work, IsServed, ServedTo}

-- both files were read, and the work went on
pub both_on : (status : Status) (image_name scenario_name : Text) (next : ImageView → EventList → Plan (Unit {0})) (image : ImageView) (events : EventList) (shelf between shelf' : ShelfView) (sink one two sink' : SinkView)
    → IsRead image_name image_limit image_stage shelf between sink one image → IsRead scenario_name scenario_limit scenario_stage between shelf' one two events
    → Follows tt status (next image events) shelf' shelf' two sink' → Follows tt status (files_plan image_name scenario_name next) shelf shelf' sink sink'
both_on status image_name scenario_name next image events shelf between shelf' sink one two sink' first second follows =
    read_on tt status image_name image_limit image_stage (λ i. scenario_plan scenario_name (next i)) image shelf between shelf' sink one sink' tt first
    (read_on tt status scenario_name scenario_limit scenario_stage (next image) events between shelf' shelf' one two sink' tt second follows)

-- a run from the board that is there
pub run_follows : (m : Meanings) (devices : List ℕ) (under : Option Dispatcher) (bound : ℕ) (image : ImageView) (events : EventList) (b : State) {status : Status} (shelf : ShelfView) {o n : SinkView}
    → b ≡ board_on m devices image events → under ≡ None → Ends status o n (run_due m events bound b) → Follows tt status (work m devices under bound image events) shelf shelf o n
run_follows m devices under bound image events b {status} shelf {o} {n} is none ends =
    subst (λ (u : Option Dispatcher). Follows tt status (work m devices u bound image events) shelf shelf o n) (sym none)
    (makes tt shelf (inl (subst (λ (x : State). Ends status o n (run_due m events bound x)) is ends)))

-- a chain from it, where the slot is free
pub chain_follows : (m : Meanings) (devices : List ℕ) (under : Option Dispatcher) (d : Dispatcher) (bound : ℕ) (image : ImageView) (events : EventList) (b : State) {status : Status} (shelf : ShelfView) {o n : SinkView}
    → b ≡ board_on m devices image events → under ≡ Some d → IsLeastTaken image.segments None → EndsOrWants status o n (chain_due m d events bound b) → Follows tt status (work m devices under bound image events) shelf shelf o n
chain_follows m devices under d bound image events b {status} shelf {o} {n} is some free ends =
    subst (λ (u : Option Dispatcher). Follows tt status (work m devices u bound image events) shelf shelf o n) (sym some)
    (free_ends tt image (Makes (chain_due m d events bound (board_on m devices image events)) tt) free (makes tt shelf (subst (λ (x : State). EndsOrWants status o n (chain_due m d events bound x)) is ends)))

-- and where it isn't
pub taken_follows : (m : Meanings) (devices : List ℕ) (under : Option Dispatcher) (d : Dispatcher) (bound : ℕ) (image : ImageView) (events : EventList) (at : ℕ) {status : Status} (shelf : ShelfView) {o n : SinkView} {line : List ℕ}
    → under ≡ Some d → IsLeastTaken image.segments (Some at) → line ≡ slot_line at → Ends status o n (refused_due line) → Follows tt status (work m devices under bound image events) shelf shelf o n
taken_follows m devices under d bound image events at {status} shelf {o} {n} some taken is ends =
    subst (λ (u : Option Dispatcher). Follows tt status (work m devices u bound image events) shelf shelf o n) (sym some)
    (taken_ends tt image at (Makes (chain_due m d events bound (board_on m devices image events)) tt) shelf taken is ends)

-- what is said of a chain that was made
pub served_of : (m : Meanings) (devices : List ℕ) (asked : TemplateWords) (found d : Dispatcher) (image : ImageView) (events : EventList) (b : State) (shelf shelf' : ShelfView) → PassesFiles asked.image_name asked.scenario_name shelf shelf' image events
    → IsLeastTaken image.segments None → b ≡ board_on m devices image events → asked.under ≡ Some found → asked.under ≡ Some d → IsServed m found events asked.bound_is b → ServedTo m devices asked d shelf shelf'
served_of m devices asked found d image events b shelf shelf' files free is one other served = record {
  image = image;
  events = events;
  files = files;
  free = least_is image None free;
  served = subst (λ (x : Dispatcher). IsServed m x events asked.bound_is (board_on m devices image events)) (ap (λ (o : Option Dispatcher). unwrap_or o found) (sym one ∙ other)) (subst (IsServed m found events asked.bound_is) is served);
}
