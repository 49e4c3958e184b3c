-- What the command `sweep` does with its files.
use Rattle.std.specs.Prelude.{◌≡◌, ℕ, ◌-◌, ◌&&◌, nat_le, nat_lt, Bool, true, false, List, length, codes, if◌then◌else◌}
use Rattle.hart_memory.specs.Image.{ImageView}
use Rattle.hart_board.specs.Event.{EventList}
use Rattle.lab_sweep.specs.declared.sweep.Sweep.{Sweep}
use Rattle.hart_board.specs.State.{State}
use Rattle.lab_sweep.specs.Sweep.{Row, outcomes, any_broken, any_spent}
use Rattle.lab_sweep.specs.Texts.{rows_text}
use Rattle.lab_words.specs.Sweep.{SweepWords}
use Rattle.tool_frame.specs.Due.{Due, at_once}
use Rattle.tool_frame.specs.Lines.{refused_line}
use Rattle.tool_frame.specs.Plan.{Plan, Makes, Refuses}
use Rattle.tool_frame.specs.declared.status.Status.{Status}
use Rattle.tool_frame.specs.declared.status.Status.TheVariants.{Done, BudgetSpent, Broken}
use Rattle.tool_work.specs.Chain.{chain_board, taken_at, unless_taken}
use Rattle.tool_work.specs.Files.{files_plan}
use Rattle.tool_work.specs.Shipped.{shipped_meanings}

-- ---- the event that is moved

-- the scenario has an event of this number, of which the first is 1
abbrev pub has_event : ℕ → EventList → Bool
has_event number events = nat_lt 0 number && nat_le number (length events.list)

-- else it is refused, with the number of events that it has
abbrev pub no_event_line : EventList → List ℕ
no_event_line events = refused_line (codes "scenario") (codes "NoEvent") (length events.list)

abbrev pub where_event : {B : Type 0} → Bool → EventList → Plan B → Plan B
where_event true events next = next
where_event false events next = Refuses (no_event_line events)

-- ---- the chains

-- what the words ask for
abbrev pub sweep_of : SweepWords → Sweep
sweep_of words = record {
  dispatcher = words.chains_by.dispatcher;
  direct = words.chains_by.direct;
  bound = words.bound_is;
  place = words.event_is - 1;
  counts = record { from = words.from_is; to = words.to_is; part = words.part_is.number; parts = words.part_is.parts };
}

-- what came of the chains: their outcomes, whether one broke the convention, and whether one reached its bound
pub record Made : Type 0 where
  pub rows : List Row
  pub broken : Bool
  pub spent : Bool

-- that of a sweep over chains that start from a board
abbrev pub made_from : EventList → Sweep → State → Made
made_from events how b = record {
  rows = outcomes shipped_meanings events.list how b;
  broken = any_broken shipped_meanings events.list how b;
  spent = any_spent shipped_meanings events.list how b;
}

-- one chain for each count, each from the board from which a chain starts
unfoldable pub sweep_made : SweepWords → ImageView → EventList → Made
sweep_made words image events = made_from events (sweep_of words) (chain_board words.chains_by.dispatcher image events)

-- ---- the status

-- a broken chain counts before one at its bound
abbrev pub status_by : Bool → Bool → Status
status_by true spent = Broken
status_by false true = BudgetSpent
status_by false false = Done

abbrev pub status_of : Made → Status
status_of made = status_by made.broken made.spent

-- what each status says
abbrev pub IsBroken : Made → Type 0
IsBroken made = made.broken ≡ true

abbrev pub IsSpent : Made → Type 0
IsSpent made = (made.broken ≡ false) × (made.spent ≡ true)

abbrev pub AreWhole : Made → Type 0
AreWhole made = (made.broken ≡ false) × (made.spent ≡ false)

-- ---- what is due

abbrev pub rows_due : Made → Due
rows_due made = at_once (rows_text made.rows) (status_of made)

abbrev pub sweep_due : SweepWords → ImageView → EventList → Due
sweep_due words image events = rows_due (sweep_made words image events)

-- the scenario has to have the event, then the slot has to be free, and then the chains are made
abbrev pub event_plan : SweepWords → ImageView → EventList → Plan (Unit {0})
event_plan words image events = where_event (has_event words.event_is events) events (unless_taken (taken_at image) (Makes (sweep_due words image events) tt))

-- the image is read, then the scenario
abbrev pub sweep_plan : SweepWords → Plan (Unit {0})
sweep_plan words = files_plan words.image_name words.scenario_name (λ image events. event_plan words image events)
