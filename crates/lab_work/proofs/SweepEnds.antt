-- What the statuses of a sweep say, and what comes of the event that is moved.
use Rattle.std.proofs.Common.{◌≡◌, ◌∙◌, ℕ, List, Bool, true, false, Option, Some, None, refl, sym, ap, subst}
use Rattle.std.specs.Prelude.{if◌then◌else◌}
use Rattle.board_outside.specs.Shelf.{ShelfView}
use Rattle.board_outside.specs.Sink.{SinkView, Writes}
use Rattle.hart_memory.specs.Image.{ImageView}
use Rattle.hart_board.specs.Event.{EventList}
use Rattle.hart_board.specs.State.{State}
use Rattle.lab_sweep.specs.Sweep.{Row, outcomes, any_broken, any_spent}
use Rattle.lab_sweep.specs.Texts.{rows_text}
use Rattle.lab_sweep.specs.declared.sweep.Sweep.{Sweep}
use Rattle.lab_words.specs.Sweep.{SweepWords}
use Rattle.tool_frame.specs.Answers.{Ends, Reaches, FollowsWith}
use Rattle.tool_frame.specs.Code.{OfCommand, OfFile, origin_of}
use Rattle.tool_frame.specs.Due.{Due, Outcome, refused_due}
use Rattle.tool_frame.specs.Plan.{Plan, Makes}
use Rattle.tool_frame.specs.declared.status.Status.{Status}
use Rattle.tool_frame.specs.declared.status.Status.TheVariants.{Done, BudgetSpent, Broken, Usage, VectorFault, Rejected, SinkFailed}
use Rattle.tool_frame.proofs.Ends.{refuses, ends_by}
use Rattle.tool_frame.proofs.Fits.{Fits, IsAtOnce}
use Rattle.tool_work.specs.Chain.{chain_board, taken_at, unless_taken}
use Rattle.tool_work.specs.Files.{PassesFiles}
use Rattle.tool_work.specs.Shipped.{shipped_meanings}
use Rattle.tool_work.proofs.ChainEnds.{taken_fits, is_free}
use Rattle.tool_work.proofs.TwoFiles.{files_fit, both_passed}
use Rattle.lab_work.specs.Sweep.{has_event, sweep_of, no_event_line, where_event, Made, made_from, status_by, status_of, IsBroken, IsSpent, AreWhole, sweep_made, sweep_due, rows_due, event_plan, sweep_plan}

-- ---- statuses

-- the status of work that was made
pub record IsSweepStatus (s : Status) : Type 0 where
  pub own : origin_of s ≡ OfCommand
  pub no_usage : s ≡ Usage → ⊥
  pub no_vector : s ≡ VectorFault → ⊥
  pub no_rejected : s ≡ Rejected → ⊥

pub done_is_sweep : (s : Status) → s ≡ Done → IsSweepStatus s
done_is_sweep s e = record { own = rw e refl; no_usage = λ c. cc; no_vector = λ c. cc; no_rejected = λ c. cc }

by_is_sweep : (broken spent : Bool) → IsSweepStatus (status_by broken spent)
by_is_sweep true spent = record { own = refl; no_usage = λ c. cc; no_vector = λ c. cc; no_rejected = λ c. cc }
by_is_sweep false true = record { own = refl; no_usage = λ c. cc; no_vector = λ c. cc; no_rejected = λ c. cc }
by_is_sweep false false = record { own = refl; no_usage = λ c. cc; no_vector = λ c. cc; no_rejected = λ c. cc }

pub made_is_sweep : (made : Made) → IsSweepStatus (status_of made)
made_is_sweep made = by_is_sweep made.broken made.spent

broken_by : (broken spent : Bool) → status_by broken spent ≡ Broken → broken ≡ true
broken_by true spent e = refl
broken_by false true e = cc
broken_by false false e = cc

spent_by : (broken spent : Bool) → status_by broken spent ≡ BudgetSpent → (broken ≡ false) × (spent ≡ true)
spent_by true spent e = cc
spent_by false true e = (refl, refl)
spent_by false false e = cc

whole_by : (broken spent : Bool) → status_by broken spent ≡ Done → (broken ≡ false) × (spent ≡ false)
whole_by true spent e = cc
whole_by false true e = cc
whole_by false false e = (refl, refl)

pub are_broken : (made : Made) → status_of made ≡ Broken → IsBroken made
are_broken made e = broken_by made.broken made.spent e

pub are_spent : (made : Made) → status_of made ≡ BudgetSpent → IsSpent made
are_spent made e = spent_by made.broken made.spent e

pub are_whole : (made : Made) → status_of made ≡ Done → AreWhole made
are_whole made e = whole_by made.broken made.spent e

-- ---- the event

pub no_event : {B : Type 0} (nothing : B) (there : Bool) (events : EventList) (next : Plan B) {status : Status} (shelf : ShelfView) {sink sink' : SinkView} {line : List ℕ} → there ≡ false → line ≡ no_event_line events → Ends status sink sink' (refused_due line)
    → FollowsWith nothing status (where_event there events next) shelf shelf sink sink' nothing
no_event nothing there events next {status} shelf {sink} {sink'} {line} none is ends =
    subst (λ (b : Bool). FollowsWith nothing status (where_event b events next) shelf shelf sink sink' nothing) (sym none)
    (refuses nothing status (no_event_line events) shelf sink sink' (subst (λ (l : List ℕ). Ends status sink sink' (refused_due l)) is ends))

pub with_event : {B : Type 0} (nothing : B) (there : Bool) (events : EventList) (next : Plan B) {status : Status} {shelf shelf' : ShelfView} {sink sink' : SinkView} {bench : B} → there ≡ true → FollowsWith nothing status next shelf shelf' sink sink' bench
    → FollowsWith nothing status (where_event there events next) shelf shelf' sink sink' bench
with_event nothing there events next {status} {shelf} {shelf'} {sink} {sink'} {bench} is follows =
    subst (λ (b : Bool). FollowsWith nothing status (where_event b events next) shelf shelf' sink sink' bench) (sym is) follows

event_fits : {B : Type 0} (P : Due → Type 0) (there : Bool) (events : EventList) (next : Plan B) → Fits P next → Fits P (where_event there events next)
event_fits P true events next fits = fits
event_fits P false events next fits = tt

-- the event was there, where the work was done
record IsThere {B : Type 0} (there : Bool) (next : Plan B) (shelf shelf' : ShelfView) (outcome : Outcome B) : Type 0 where
  is : there ≡ true
  rest : Reaches next shelf shelf' outcome

is_there : {B : Type 0} (there : Bool) (events : EventList) (next : Plan B) (shelf shelf' : ShelfView) (outcome : Outcome B) → Reaches (where_event there events next) shelf shelf' outcome → origin_of outcome.due.status ≡ OfCommand → IsThere there next shelf shelf' outcome
is_there true events next shelf shelf' outcome reached own = record { is = refl; rest = reached }
is_there {B} false events next shelf shelf' outcome reached own =
    let bad : OfFile ≡ OfCommand = sym (ap (λ (o : Outcome B). origin_of o.due.status) reached.1) ∙ own in cc

-- ---- the whole plan

pub sweep_fits : (words : SweepWords) → Fits (IsAtOnce IsSweepStatus) (sweep_plan words)
sweep_fits words = files_fit (IsAtOnce IsSweepStatus) words.image_name words.scenario_name (λ image events. event_plan words image events) (λ image events.
    event_fits (IsAtOnce IsSweepStatus) (has_event words.event_is events) events (unless_taken (taken_at image) (Makes (sweep_due words image events) tt))
    (taken_fits (IsAtOnce IsSweepStatus) (taken_at image) (Makes (sweep_due words image events) tt) (record { status = made_is_sweep (sweep_made words image events); at_once = refl })))

-- the chains were made, and the status is that of their outcomes
pub record SweptSo (words : SweepWords) (shelf shelf' : ShelfView) (s : Status) : Type 0 where
  pub image : ImageView
  pub events : EventList
  pub files : PassesFiles words.image_name words.scenario_name shelf shelf' image events
  pub has_event : has_event words.event_is events ≡ true
  pub free : taken_at image ≡ None
  pub status : status_of (sweep_made words image events) ≡ s

pub sweep_ran : (words : SweepWords) (shelf shelf' : ShelfView) (outcome : Outcome (Unit {0})) (s : Status) → Reaches (sweep_plan words) shelf shelf' outcome → outcome.due.status ≡ s → origin_of s ≡ OfCommand → SweptSo words shelf shelf' s
sweep_ran words shelf shelf' outcome s reached e own =
    let passed = both_passed words.image_name words.scenario_name (λ image events. event_plan words image events) shelf shelf' outcome reached (ap origin_of e ∙ own) in
    let work : Plan (Unit {0}) = Makes (sweep_due words passed.image passed.events) tt in
    let there = is_there (has_event words.event_is passed.events) passed.events (unless_taken (taken_at passed.image) work) passed.last shelf' outcome passed.rest (ap origin_of e ∙ own) in
    let free = is_free (taken_at passed.image) work passed.last shelf' outcome there.rest (ap origin_of e ∙ own) in
    record {
      image = passed.image;
      events = passed.events;
      files = subst (λ (t : ShelfView). PassesFiles words.image_name words.scenario_name shelf t passed.image passed.events) (sym free.rest.0) passed.files;
      has_event = there.is;
      free = free.free;
      status = sym (ap (λ (o : Outcome (Unit {0})). o.due.status) free.rest.1) ∙ e;
    }

-- ---- what was made

pub made_is : (words : SweepWords) (image : ImageView) (events : EventList) (how : Sweep) (b : State) (made : Made) → how ≡ sweep_of words → b ≡ chain_board words.chains_by.dispatcher image events
    → made.rows ≡ outcomes shipped_meanings events.list how b → made.broken ≡ any_broken shipped_meanings events.list how b → made.spent ≡ any_spent shipped_meanings events.list how b → made ≡ sweep_made words image events
unfolding sweep_made
made_is words image events how b made how_is start rows broken spent =
    ap (λ (r : List Row). record made { rows = r }) rows
    ∙ ap (λ (x : Bool). record { rows = outcomes shipped_meanings events.list how b; broken = x; spent = made.spent }) broken
    ∙ ap (λ (x : Bool). record { rows = outcomes shipped_meanings events.list how b; broken = any_broken shipped_meanings events.list how b; spent = x }) spent
    ∙ ap (λ (s : Sweep). made_from events s b) how_is
    ∙ ap (λ (t : State). made_from events (sweep_of words) t) start

-- the lines of outcomes, and the status that goes with them
pub rows_end : (b : Bool) {result status : Status} (made due : Made) {o n : SinkView} → made ≡ due → status ≡ status_of made → result ≡ (if b then status else SinkFailed) → Writes b o n (rows_text made.rows) → Ends result o n (rows_due due)
rows_end b {result} {status} made due {o} {n} same is e w =
    subst (λ (r : Made). Ends result o n (rows_due r)) same (ends_by b (status_of made) (rows_text made.rows) (e ∙ ap (λ (s : Status). if b then s else SinkFailed) is) w)
