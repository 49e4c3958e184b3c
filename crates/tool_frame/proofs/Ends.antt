-- What was written, and how a plan is followed.
use Rattle.std.proofs.Common.{◌≡◌, ◌∙◌, ℕ, List, Bool, true, false, Result, Ok, Err, refl, sym, subst, inl, inr, ◌⊎◌, if◌then◌else◌}
use Rattle.board_outside.specs.Shelf.{ShelfView, KeepsCounts}
use Rattle.board_outside.specs.Sink.{SinkView, Writes}
use Rattle.board_outside.proofs.Writing.{writes_nothing}
use Rattle.tool_frame.specs.Due.{Due, Outcome, at_once, worked, stopped, usage_due, refused_due, fault_due}
use Rattle.tool_frame.specs.Plan.{Plan, Makes, Refuses, Asks, go_on}
use Rattle.tool_frame.specs.Answers.{Ends, EndsOrWants, EndsAs, Leaves, Fetches, IsRead, TellsUngiven, TellsRefused, Lacks, FollowsWith, Follows, Misuses}
use Rattle.tool_frame.specs.declared.status.Status.{Status}
use Rattle.tool_frame.specs.declared.status.Status.TheVariants.{SinkFailed, Memory}

-- one text, and the status that it goes with
pub ends_by : (b : Bool) {result : Status} (status : Status) (text : List ℕ) {o n : SinkView} → result ≡ (if b then status else SinkFailed) → Writes b o n text → Ends result o n (at_once text status)
ends_by true status text e w = inl (e, w)
ends_by false status text e w = inr (e, w)

same_counts : (shelf : ShelfView) → KeepsCounts shelf shelf
same_counts shelf = record { absences = refl; faults = refl }

-- memory was wanting, and no count has risen
pub lacks_at : {shelf shelf' : ShelfView} (sink : SinkView) → KeepsCounts shelf shelf' → Lacks Memory shelf shelf' sink sink
lacks_at sink counts = record { counts = counts; status_is = refl; silent = writes_nothing sink }

-- before anything was fetched
pub lacks : {B : Type 0} (nothing : B) (plan : Plan B) (shelf : ShelfView) (sink : SinkView) → FollowsWith nothing Memory plan shelf shelf sink sink nothing
lacks nothing plan shelf sink = inr (record { lacks = lacks_at sink (same_counts shelf); none_left = refl })

-- of work
work_ends : {B : Type 0} (status : Status) (sink sink' : SinkView) (due : Due) (left : B) → EndsOrWants status sink sink' due → EndsAs status sink sink' (worked due left)
work_ends status sink sink' due left (inl h) = inl h
work_ends status sink sink' due left (inr h) = inr (refl, h)

-- what was due was made, and this is left
pub makes_with : {B : Type 0} (nothing left : B) {status : Status} {due : Due} (shelf : ShelfView) {sink sink' : SinkView} {bench : B}
    → EndsOrWants status sink sink' due → Leaves nothing status (worked due left) bench → FollowsWith nothing status (Makes due left) shelf shelf sink sink' bench
makes_with nothing left {status = status} {due = due} shelf {sink = sink} {sink' = sink'} ends leaves =
    inl (record { outcome = worked due left; reached = (refl, refl); ends = work_ends status sink sink' due left ends; leaves = leaves })

-- what was due was made, and nothing is left to be looked at
pub makes : {B : Type 0} (nothing : B) {status : Status} {due : Due} (shelf : ShelfView) {sink sink' : SinkView} → EndsOrWants status sink sink' due → Follows nothing status (Makes due nothing) shelf shelf sink sink'
makes nothing {due = due} shelf ends = makes_with nothing nothing {due = due} shelf ends (record { where_due = λ e. refl; elsewhere = λ e. refl })

-- a command that stopped before its work leaves nothing
none_left : {B : Type 0} (nothing : B) (status : Status) (due : Due) → Leaves nothing status (stopped due) nothing
none_left nothing status due = record { where_due = λ e. refl; elsewhere = λ e. refl }

-- what was fetched is refused
pub refuses : {B : Type 0} (nothing : B) (status : Status) (line : List ℕ) (shelf : ShelfView) (sink sink' : SinkView) → Ends status sink sink' (refused_due line) → FollowsWith nothing status (Refuses line) shelf shelf sink sink' nothing
refuses nothing status line shelf sink sink' ends = inl (record { outcome = stopped (refused_due line); reached = (refl, refl); ends = inl ends; leaves = none_left nothing status (refused_due line) })

-- what was read goes on, or its refusal ends the command
pub goes_on : {A B : Type 0} (nothing : B) (status : Status) (read : Result A (List ℕ)) (next : A → Plan B) (x : A) (shelf shelf' : ShelfView) (sink sink' : SinkView) (bench : B)
    → read ≡ Ok x → FollowsWith nothing status (next x) shelf shelf' sink sink' bench → FollowsWith nothing status (go_on read next) shelf shelf' sink sink' bench
goes_on {A} {B} nothing status read next x shelf shelf' sink sink' bench e follows =
    subst (λ (r : Result A (List ℕ)). FollowsWith nothing status (go_on r next) shelf shelf' sink sink' bench) (sym e) follows

pub refused : {A B : Type 0} (nothing : B) (status : Status) (read : Result A (List ℕ)) (next : A → Plan B) (line : List ℕ) (shelf : ShelfView) (sink sink' : SinkView)
    → read ≡ Err line → Ends status sink sink' (refused_due line) → FollowsWith nothing status (go_on read next) shelf shelf sink sink' nothing
refused {A} {B} nothing status read next line shelf sink sink' e ends =
    subst (λ (r : Result A (List ℕ)). FollowsWith nothing status (go_on r next) shelf shelf sink sink' nothing) (sym e) (refuses nothing status line shelf sink sink' ends)

-- a file was given, and its bytes decided
given : {B : Type 0} (nothing : B) (status : Status) (name : List ℕ) (limit : ℕ) (next : List ℕ → Plan B) (shelf between shelf' : ShelfView) (sink sink' : SinkView) (bench : B) (bytes : List ℕ)
    → Fetches name limit shelf between (Ok bytes) → FollowsWith nothing status (next bytes) between shelf' sink sink' bench → FollowsWith nothing status (Asks name limit next) shelf shelf' sink sink' bench
given nothing status name limit next shelf between shelf' sink sink' bench bytes fetch (inl does) =
    inl (record { outcome = does.outcome; reached = inr (record { bytes = bytes; between = between; fetch = fetch; after = does.reached }); ends = does.ends; leaves = does.leaves })
given nothing status name limit next shelf between shelf' sink sink' bench bytes fetch (inr stops) =
    let counts = stops.lacks.counts in
    inr (record {
      lacks = record { counts = record { absences = counts.absences ∙ fetch.counts.absences; faults = counts.faults ∙ fetch.counts.faults }; status_is = stops.lacks.status_is; silent = stops.lacks.silent };
      none_left = stops.none_left;
    })

-- a file was read, and the plan was followed with what it gives
pub read_on : {A B : Type 0} (nothing : B) (status : Status) (name : List ℕ) (limit : ℕ) (stage : List ℕ → Result A (List ℕ)) (next : A → Plan B) (x : A) (shelf between shelf' : ShelfView) (sink still sink' : SinkView) (bench : B)
    → IsRead name limit stage shelf between sink still x → FollowsWith nothing status (next x) between shelf' still sink' bench
    → FollowsWith nothing status (Asks name limit (λ bytes. go_on (stage bytes) next)) shelf shelf' sink sink' bench
read_on nothing status name limit stage next x shelf between shelf' sink still sink' bench read follows =
    let p = read.passes in
    given nothing status name limit (λ bytes. go_on (stage bytes) next) shelf between shelf' sink sink' bench p.bytes p.fetch
    (goes_on nothing status (stage p.bytes) next x between shelf' sink sink' bench p.passed
    (subst (λ (s : SinkView). FollowsWith nothing status (next x) between shelf' s sink' bench) read.silent follows))

-- a file was not read, and the command has ended
pub read_ended : {A B : Type 0} (nothing : B) (status : Status) (name : List ℕ) (limit : ℕ) (stage : List ℕ → Result A (List ℕ)) (next : A → Plan B) (shelf shelf' : ShelfView) (sink sink' : SinkView)
    → TellsUngiven name limit status shelf shelf' sink sink' ⊎ (TellsRefused name limit stage status shelf shelf' sink sink' ⊎ Lacks status shelf shelf' sink sink')
    → FollowsWith nothing status (Asks name limit (λ bytes. go_on (stage bytes) next)) shelf shelf' sink sink' nothing
read_ended nothing status name limit stage next shelf shelf' sink sink' (inl u) =
    inl (record {
      outcome = stopped (fault_due name u.fault);
      reached = inl (record { fault = u.fault; fetch = u.fetch; outcome_is = refl });
      ends = inl u.ends;
      leaves = none_left nothing status (fault_due name u.fault);
    })
read_ended nothing status name limit stage next shelf shelf' sink sink' (inr (inl r)) =
    given nothing status name limit (λ bytes. go_on (stage bytes) next) shelf shelf' shelf' sink sink' nothing r.bytes r.fetch
    (refused nothing status (stage r.bytes) next r.line shelf' sink sink' r.refused r.ends)
read_ended nothing status name limit stage next shelf shelf' sink sink' (inr (inr lacks)) = inr (record { lacks = lacks; none_left = refl })

-- with or without the work
pub ends_due : {B : Type 0} (status : Status) (sink sink' : SinkView) (outcome : Outcome B) → EndsAs status sink sink' outcome → EndsOrWants status sink sink' outcome.due
ends_due status sink sink' outcome (inl h) = inl h
ends_due status sink sink' outcome (inr h) = inr h.1

-- words that are no command
misused : {B : Type 0} (line : List ℕ) (status : Status) (shelf shelf' : ShelfView) (sink sink' : SinkView) (left : B) (outcome : Outcome B) → (shelf' ≡ shelf) → (outcome ≡ worked (usage_due line) left) → EndsOrWants status sink sink' outcome.due → Misuses line status shelf shelf' sink sink'
misused {B} line status shelf shelf' sink sink' left outcome same is ends = record {
  counts = subst (λ (s : ShelfView). KeepsCounts shelf s) (sym same) (same_counts shelf);
  ends = subst (λ (o : Outcome B). EndsOrWants status sink sink' o.due) is ends;
}

pub misuses : {B : Type 0} (line : List ℕ) (nothing left : B) (status : Status) (shelf shelf' : ShelfView) (sink sink' : SinkView) (bench : B) → FollowsWith nothing status (Makes (usage_due line) left) shelf shelf' sink sink' bench → Misuses line status shelf shelf' sink sink'
misuses line nothing left status shelf shelf' sink sink' bench (inl does) = misused line status shelf shelf' sink sink' left does.outcome does.reached.0 does.reached.1 (ends_due status sink sink' does.outcome does.ends)
misuses line nothing left status shelf shelf' sink sink' bench (inr stops) = record { counts = stops.lacks.counts; ends = inr (stops.lacks.status_is, stops.lacks.silent) }
