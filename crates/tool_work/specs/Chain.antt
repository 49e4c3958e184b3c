-- What the command `chain` does with its files.
use Rattle.std.specs.Prelude.{◌≡◌, ℕ, zero, suc, ◌+◌, ◌-◌, List, ◌++◌, Bool, true, false, Option, Some, None, codes, if◌then◌else◌}
use Rattle.hart_words.specs.Hexadecimal.{hex8}
use Rattle.hart_memory.specs.Image.{SegmentView, ImageView}
use Rattle.hart_board.specs.State.{State}
use Rattle.hart_board.specs.Event.{EventList}
use Rattle.board_inputs.specs.ImageLoading.{loaded}
use Rattle.chain_moves.specs.Slot.{base, slot_end, is_covered}
use Rattle.chain_moves.specs.Start.{installed, begun}
use Rattle.chain_moves.specs.Moves.{servicing_machine}
use Rattle.chain_core.specs.ChainRun.{read_to}
use Rattle.chain_core.specs.End.{services_within}
use Rattle.chain_core.specs.Chain.{chain_end, board_after, chain_text, machine_run, AgreesWhereDone}
use Rattle.chain_core.specs.declared.ended.Ended.{Ended}
use Rattle.chain_core.specs.Both.{BothAgree}
use Rattle.chain_moves.specs.declared.dispatcher.Dispatcher.{Dispatcher}
use Rattle.chain_moves.specs.declared.dispatcher.Dispatcher.TheVariants.{Looping, Returning}
use Rattle.chain_core.specs.declared.chain_end.ChainEnd.{ChainEnd}
use Rattle.chain_core.specs.declared.chain_end.ChainEnd.TheVariants.{Done as done, BudgetSpent as budget_spent, SinkFailed as sink_failed, Broken as broken}
use Rattle.chain_direct.specs.DirectMoves.{direct_machine, direct_start}
use Rattle.chain_direct.specs.DirectText.{direct_end, direct_run, direct_board, direct_text}
use Rattle.chain_direct.specs.DirectChain.{begun_to, AgreesWhereOver}
use Rattle.chain_direct.specs.DirectBoth.{BothDirectAgree}
use Rattle.tool_frame.specs.Due.{Due, at_once}
use Rattle.tool_frame.specs.Plan.{Plan, Makes, Refuses}
use Rattle.tool_frame.specs.declared.status.Status.{Status}
use Rattle.tool_frame.specs.declared.status.Status.TheVariants.{Done, BudgetSpent, SinkFailed, Broken}
use Rattle.tool_work.specs.Shipped.{shipped_meanings, shipped_board}
use Rattle.tool_work.specs.Bench.{Bench}
use Rattle.tool_work.specs.Files.{files_plan}
use Rattle.tool_words.specs.Chain.{ChainWords}

-- ---- the slot

-- the least of so many addresses that segments cover
unfoldable pub least_from : List SegmentView → ℕ → ℕ → Option ℕ
least_from segments at zero = None
least_from segments at (suc n) = if is_covered segments at then Some at else least_from segments (at + 1) n

-- the least address of the slot that an image covers
abbrev pub taken_at : ImageView → Option ℕ
taken_at image = least_from image.segments base (slot_end - base)

unfoldable pub slot_line : ℕ → List ℕ
slot_line at = codes "refused image SlotTaken " ++ hex8 at ++ codes "\n"

-- an image that covers the slot is refused
abbrev pub unless_taken : {B : Type 0} → Option ℕ → Plan B → Plan B
unless_taken None next = next
unless_taken (Some at) next = Refuses (slot_line at)

-- ---- the chain

-- the status of a chain that ended so
abbrev pub status_of : ChainEnd → Status
status_of (done steps bodies services) = Done
status_of budget_spent = BudgetSpent
status_of (broken kind bodies) = Broken
status_of sink_failed = SinkFailed

-- the board from which it starts: at reset in the scenario's shape, with the image's bytes and its entry, and the dispatcher in the slot
abbrev pub chain_board : Dispatcher → ImageView → EventList → State
chain_board d image events = installed d (loaded image (shipped_board events.shape))

-- with direct services or without: how a chain from that board ends, and after how many steps
abbrev pub ends_by : Bool → Dispatcher → ℕ → EventList → State → Ended
ends_by false d bound events b = chain_end shipped_meanings events.list d bound b
ends_by true d bound events b = direct_end shipped_meanings events.list d bound b

-- what is told of it
abbrev pub text_by : Bool → Dispatcher → Bool → ℕ → EventList → State → List ℕ
text_by false d traces bound events b = chain_text shipped_meanings events.list d traces bound b
text_by true d traces bound events b = direct_text shipped_meanings events.list d traces bound b

-- the board where it ends
abbrev pub board_by : Bool → Dispatcher → ℕ → EventList → State → State
board_by false d bound events b = board_after shipped_meanings events.list d bound b
board_by true d bound events b = direct_board shipped_meanings events.list d bound b

-- how the chain of the words ends
abbrev pub chain_made : ChainWords → ImageView → EventList → ChainEnd
chain_made chain image events = (ends_by chain.directs chain.dispatcher_is chain.bound_is events (chain_board chain.dispatcher_is image events)).end

-- what is told of it
unfoldable pub chain_told : ChainWords → ImageView → EventList → List ℕ
chain_told chain image events = text_by chain.directs chain.dispatcher_is chain.traces chain.bound_is events (chain_board chain.dispatcher_is image events)

-- the board where it ends
unfoldable pub chain_left : ChainWords → ImageView → EventList → Bench
chain_left chain image events = record { first = Some (board_by chain.directs chain.dispatcher_is chain.bound_is events (chain_board chain.dispatcher_is image events)); second = None }

-- the services that are read off the board's run are those of the servicing machine within the bound
abbrev pub HasItsServices : Bool → Dispatcher → ℕ → EventList → State → Type 0
HasItsServices false d bound events b = (read_to shipped_meanings events.list b (chain_end shipped_meanings events.list d bound b).steps).services ≡ services_within (servicing_machine shipped_meanings events.list) d bound (begun shipped_meanings events.list b)
HasItsServices true d bound events b = begun_to shipped_meanings events.list b (direct_end shipped_meanings events.list d bound b).steps ≡ services_within (direct_machine shipped_meanings events.list) d bound (direct_start shipped_meanings events.list b)

-- and where the chain is done, the board agrees with the machine's last state
abbrev pub HasItsState : Bool → Dispatcher → ℕ → EventList → State → Type 0
HasItsState false d bound events b = AgreesWhereDone (chain_end shipped_meanings events.list d bound b).end (board_after shipped_meanings events.list d bound b) (machine_run shipped_meanings events.list bound b)
HasItsState true d bound events b = AgreesWhereOver (direct_end shipped_meanings events.list d bound b).end (direct_board shipped_meanings events.list d bound b) (direct_run shipped_meanings events.list bound b)

-- the board of a chain does what the servicing machine does, or the one with direct services
pub record IsServed (directs : Bool) (d : Dispatcher) (bound : ℕ) (events : EventList) (b : State) : Type 0 where
  pub services : HasItsServices directs d bound events b
  pub state : HasItsState directs d bound events b

abbrev pub IsChainServed : ChainWords → ImageView → EventList → Type 0
IsChainServed chain image events = IsServed chain.directs chain.dispatcher_is chain.bound_is events (chain_board chain.dispatcher_is image events)

-- the chains of an image and its events under both dispatchers: where both are done, whatever their bounds, they made the same moves, and left the same but for dispatch code, dead bytes and what the last trap saved; going back cost 23 steps for each handler that began straight after another
abbrev pub DoAgree : Bool → ImageView → EventList → Type 0
DoAgree false image events = (one other steps bodies services more also listed : ℕ)
    → (ends_by false Looping one events (chain_board Looping image events)).end ≡ done steps bodies services → (ends_by false Returning other events (chain_board Returning image events)).end ≡ done more also listed
    → BothAgree shipped_meanings events.list (chain_board Looping image events) (chain_board Returning image events) one other steps more bodies also services listed
DoAgree true image events = (one other steps bodies services more also listed : ℕ)
    → (ends_by true Looping one events (chain_board Looping image events)).end ≡ done steps bodies services → (ends_by true Returning other events (chain_board Returning image events)).end ≡ done more also listed
    → BothDirectAgree shipped_meanings events.list (chain_board Looping image events) (chain_board Returning image events) one other steps more bodies also services listed

-- what is due of it
abbrev pub chain_due : ChainWords → ImageView → EventList → Due
chain_due chain image events = at_once (chain_told chain image events) (status_of (chain_made chain image events))

-- the image is read, then the scenario; then the slot has to be free; and then the chain is made
abbrev pub slot_plan : ChainWords → ImageView → EventList → Plan Bench
slot_plan chain image events = unless_taken (taken_at image) (Makes (chain_due chain image events) (chain_left chain image events))

abbrev pub chain_plan : ChainWords → Plan Bench
chain_plan chain = files_plan chain.image_name chain.scenario_name (λ image events. slot_plan chain image events)
