-- What a command's status says of what was done.
use Rattle.std.proofs.Common.{◌≡◌, ◌∙◌, ℕ, ◌<◌, List, [], Bool, true, false, Option, Some, None, IfSome, IsSome, Result, Ok, Err, refl, sym, ap, subst, arith, inl, inr, ◌⊎◌}
use Rattle.board_outside.specs.Counts.{Rose}
use Rattle.board_outside.specs.Shelf.{File, ShelfView, file_at, KeepsCounts}
use Rattle.board_outside.specs.Sink.{SinkView, Writes}
use Rattle.board_outside.specs.declared.shelf.ShelfFault.{ShelfFault}
use Rattle.board_outside.specs.declared.shelf.ShelfFault.TheVariants.{Absent as absent, Failed as failed, Memory as memory}
use Rattle.board_outside.proofs.Writing.{stops_writing}
use Rattle.tool_frame.specs.Due.{Due, Outcome, worked, stopped, refused_due, fault_due, memory_due}
use Rattle.tool_frame.specs.Plan.{Plan, Makes, Refuses, Asks, go_on, due_of}
use Rattle.tool_frame.specs.Answers.{EndsOrWants, EndsAs, WritesPart, Fetches, Passes, Reaches, FollowsWith, IsCalm}
use Rattle.tool_frame.specs.Causes.{NoneRose, AtFile, IsAbsentFile, IsFailedFile, IsRefusedFile, BeginsFailedLine, StopsShort}
use Rattle.tool_frame.specs.Code.{OfCommand, OfFile, OfSink, OfMemory, origin_of}
use Rattle.tool_frame.specs.declared.status.Status.{Status}
use Rattle.tool_frame.specs.declared.status.Status.TheVariants.{Done, Absent, ShelfFailed, Refused, SinkFailed, Memory}
use Rattle.tool_frame.proofs.Fits.{Fits, IsOfCommand, IsAtOnce}
use Rattle.tool_frame.proofs.Ends.{ends_due}
use Rattle.tool_frame.proofs.Held.{due_is, never_rose, by_none, by_front}

-- ---- which statuses are due

-- those of a file that stopped the command
abbrev IsStop : Status → Type 0
IsStop s = (origin_of s ≡ OfFile) ⊎ (origin_of s ≡ OfMemory)

same_origin : (s t : Status) → s ≡ t → origin_of s ≡ origin_of t
same_origin s t e = ap origin_of e

-- a command's own status is no stop, and neither is the sink's
own_no_stop : (s : Status) → origin_of s ≡ OfCommand → IsStop s → ⊥
own_no_stop s e (inl h) = let bad : OfCommand ≡ OfFile = sym e ∙ h in cc
own_no_stop s e (inr h) = let bad : OfCommand ≡ OfMemory = sym e ∙ h in cc

never_sink : (s : Status) → (origin_of s ≡ OfCommand) ⊎ IsStop s → s ≡ SinkFailed → ⊥
never_sink s (inl h) e = let bad : OfCommand ≡ OfSink = sym h ∙ same_origin s SinkFailed e in cc
never_sink s (inr (inl h)) e = let bad : OfFile ≡ OfSink = sym h ∙ same_origin s SinkFailed e in cc
never_sink s (inr (inr h)) e = let bad : OfMemory ≡ OfSink = sym h ∙ same_origin s SinkFailed e in cc

fault_stops : (name : List ℕ) (fault : ShelfFault) → IsStop (fault_due name fault).status
fault_stops name absent = inl refl
fault_stops name failed = inl refl
fault_stops name memory = inr refl

status_is : {B : Type 0} (outcome o : Outcome B) → outcome ≡ o → outcome.due.status ≡ o.due.status
status_is {B} outcome o e = ap (λ (x : Outcome B). x.due.status) e

ungiven_stops : {B : Type 0} (name : List ℕ) (fault : ShelfFault) (outcome : Outcome B) → outcome ≡ stopped (fault_due name fault) → IsStop outcome.due.status
ungiven_stops name fault outcome e = subst IsStop (sym (status_is outcome (stopped (fault_due name fault)) e)) (fault_stops name fault)

-- what is due of a plan: one that its work has, or a stop's
reached_is : {B : Type 0} (P : Due → Type 0) (plan : Plan B) (shelf shelf' : ShelfView) (outcome : Outcome B) → Fits P plan → Reaches plan shelf shelf' outcome → P outcome.due ⊎ IsStop outcome.due.status
reached_is P (Makes due left) shelf shelf' outcome fits reached = inl (subst P (sym (due_is outcome (worked due left) reached.1)) fits)
reached_is P (Refuses line) shelf shelf' outcome fits reached = inr (inl (ap origin_of (status_is outcome (stopped (refused_due line)) reached.1)))
reached_is P (Asks name limit next) shelf shelf' outcome fits (inl u) = inr (ungiven_stops name u.fault outcome u.outcome_is)
reached_is P (Asks name limit next) shelf shelf' outcome fits (inr on) = reached_is P (next on.bytes) on.between shelf' outcome (fits.1 on.bytes) on.after

-- ---- a status that isn't the sink's or memory's is the one due, and all was written

pub record Settled {B : Type 0} (plan : Plan B) (s : Status) (shelf shelf' : ShelfView) (sink sink' : SinkView) : Type 0 where
  pub outcome : Outcome B
  pub reached : Reaches plan shelf shelf' outcome
  pub due_status : outcome.due.status ≡ s
  pub text : Writes true sink sink' outcome.due.text

ended : {B : Type 0} (plan : Plan B) (s status : Status) (shelf shelf' : ShelfView) (sink sink' : SinkView) (outcome : Outcome B) → Reaches plan shelf shelf' outcome → status ≡ s → (s ≡ SinkFailed → ⊥) → (s ≡ Memory → ⊥) → EndsOrWants status sink sink' outcome.due → Settled plan s shelf shelf' sink sink'
ended plan s status shelf shelf' sink sink' outcome reached e other no_memory (inl (inl h)) = record { outcome = outcome; reached = reached; due_status = sym h.0 ∙ e; text = h.1 }
ended plan s status shelf shelf' sink sink' outcome reached e other no_memory (inl (inr h)) = absurd (other (sym e ∙ h.0))
ended plan s status shelf shelf' sink sink' outcome reached e other no_memory (inr h) = absurd (no_memory (sym e ∙ h.0))

pub settled : {B : Type 0} (nothing : B) (plan : Plan B) (s status : Status) (shelf shelf' : ShelfView) (sink sink' : SinkView) (bench : B) → FollowsWith nothing status plan shelf shelf' sink sink' bench → status ≡ s → (s ≡ SinkFailed → ⊥) → (s ≡ Memory → ⊥) → Settled plan s shelf shelf' sink sink'
settled nothing plan s status shelf shelf' sink sink' bench (inl does) e other no_memory = ended plan s status shelf shelf' sink sink' does.outcome does.reached e other no_memory (ends_due status sink sink' does.outcome does.ends)
settled nothing plan s status shelf shelf' sink sink' bench (inr stops) e other no_memory = absurd (no_memory (sym e ∙ stops.lacks.status_is))

-- ---- work that was done

own_keeps : {B : Type 0} (plan : Plan B) (shelf shelf' : ShelfView) (outcome : Outcome B) → Reaches plan shelf shelf' outcome → origin_of outcome.due.status ≡ OfCommand → KeepsCounts shelf shelf'
own_keeps (Makes due left) shelf shelf' outcome reached h = rw reached.0 (record { absences = refl; faults = refl })
own_keeps (Refuses line) shelf shelf' outcome reached h = rw reached.0 (record { absences = refl; faults = refl })
own_keeps (Asks name limit next) shelf shelf' outcome (inl u) h = absurd (own_no_stop outcome.due.status h (ungiven_stops name u.fault outcome u.outcome_is))
own_keeps (Asks name limit next) shelf shelf' outcome (inr on) h =
    let rest = own_keeps (next on.bytes) on.between shelf' outcome on.after h in
    record { absences = rest.absences ∙ on.fetch.counts.absences; faults = rest.faults ∙ on.fetch.counts.faults }

pub done_cause : {B : Type 0} (nothing : B) (plan : Plan B) (status : Status) (shelf shelf' : ShelfView) (sink sink' : SinkView) (bench : B) → FollowsWith nothing status plan shelf shelf' sink sink' bench → status ≡ Done → NoneRose shelf shelf' sink sink'
done_cause nothing plan status shelf shelf' sink sink' bench follows e =
    let all = settled nothing plan Done status shelf shelf' sink sink' bench follows e (λ c. cc) (λ c. cc) in
    record { shelf_counts = own_keeps plan shelf shelf' all.outcome all.reached (same_origin all.outcome.due.status Done all.due_status); sink_faults = all.text.counts }

-- of a status of the command's own
pub settled_own : {B : Type 0} (nothing : B) (plan : Plan B) (s status : Status) (shelf shelf' : ShelfView) (sink sink' : SinkView) (bench : B) → origin_of s ≡ OfCommand → FollowsWith nothing status plan shelf shelf' sink sink' bench → status ≡ s → Settled plan s shelf shelf' sink sink'
settled_own nothing plan s status shelf shelf' sink sink' bench own follows e =
    let no_sink : s ≡ SinkFailed → ⊥ = λ c. (let bad : OfCommand ≡ OfSink = sym own ∙ same_origin s SinkFailed c in cc) in
    let no_memory : s ≡ Memory → ⊥ = λ c. (let bad : OfCommand ≡ OfMemory = sym own ∙ same_origin s Memory c in cc) in
    settled nothing plan s status shelf shelf' sink sink' bench follows e no_sink no_memory

-- one that a plan's work doesn't have never comes
pub never : {B : Type 0} (nothing : B) (P : Due → Type 0) (plan : Plan B) (s status : Status) (shelf shelf' : ShelfView) (sink sink' : SinkView) (bench : B) → Fits P plan → origin_of s ≡ OfCommand → ((due : Due) → P due → due.status ≡ s → ⊥)
    → FollowsWith nothing status plan shelf shelf' sink sink' bench → status ≡ s → ⊥
never nothing P plan s status shelf shelf' sink sink' bench fits own other follows e =
    let all = settled_own nothing plan s status shelf shelf' sink sink' bench own follows e in
    elim (reached_is P plan shelf shelf' all.outcome fits all.reached) [
      | inl p ↦ other all.outcome.due p all.due_status
      | inr stop ↦ own_no_stop all.outcome.due.status (same_origin all.outcome.due.status s all.due_status ∙ own) stop
    ]

-- of what was read of a file, where the work was done
went_on : {A B : Type 0} (read : Result A (List ℕ)) (next : A → Plan B) (shelf shelf' : ShelfView) (outcome : Outcome B) → Reaches (go_on read next) shelf shelf' outcome → origin_of outcome.due.status ≡ OfCommand
    → (x : A) × (read ≡ Ok x) × Reaches (next x) shelf shelf' outcome
went_on (Ok x) next shelf shelf' outcome reached h = (x, refl, reached)
went_on (Err line) next shelf shelf' outcome reached h = absurd (own_no_stop outcome.due.status h (inl (ap origin_of (status_is outcome (stopped (refused_due line)) reached.1))))

-- a file that passed, where the work was done
pub record Passed {A B : Type 0} (name : List ℕ) (limit : ℕ) (stage : List ℕ → Result A (List ℕ)) (next : A → Plan B) (shelf shelf' : ShelfView) (outcome : Outcome B) : Type 0 where
  pub value : A
  pub between : ShelfView
  pub passes : Passes name limit stage shelf between value
  pub rest : Reaches (next value) between shelf' outcome

pub passed_on : {A B : Type 0} (name : List ℕ) (limit : ℕ) (stage : List ℕ → Result A (List ℕ)) (next : A → Plan B) (shelf shelf' : ShelfView) (outcome : Outcome B)
    → Reaches (Asks name limit (λ bytes. go_on (stage bytes) next)) shelf shelf' outcome → origin_of outcome.due.status ≡ OfCommand → Passed name limit stage next shelf shelf' outcome
passed_on name limit stage next shelf shelf' outcome (inl u) h = absurd (own_no_stop outcome.due.status h (ungiven_stops name u.fault outcome u.outcome_is))
passed_on name limit stage next shelf shelf' outcome (inr on) h =
    let on_it = went_on (stage on.bytes) next on.between shelf' outcome on.after h in
    record { value = on_it.0; between = on.between; passes = record { bytes = on.bytes; fetch = on.fetch; passed = on_it.1 }; rest = on_it.2 }

-- ---- files that stop the command

text_is : {B : Type 0} (sink sink' : SinkView) (outcome o : Outcome B) → outcome ≡ o → Writes true sink sink' outcome.due.text → Writes true sink sink' o.due.text
text_is {B} sink sink' outcome o e w = subst (λ (x : Outcome B). Writes true sink sink' x.due.text) e w

-- the work doesn't end with a file's status
work_here : {B : Type 0} (due : Due) (left : B) (outcome : Outcome B) (s : Status) → origin_of due.status ≡ OfCommand → outcome ≡ worked due left → outcome.due.status ≡ s → IsStop s → ⊥
work_here due left outcome s own e is stops = own_no_stop due.status own (subst IsStop (sym is ∙ status_is outcome (worked due left) e) stops)

absent_here : {B : Type 0} (name : List ℕ) (limit : ℕ) (next : List ℕ → Plan B) (shelf shelf' : ShelfView) (sink sink' : SinkView) (outcome : Outcome B) (fault : ShelfFault)
    → Fetches name limit shelf shelf' (Err fault) → outcome ≡ stopped (fault_due name fault) → outcome.due.status ≡ Absent → Writes true sink sink' outcome.due.text → IsAbsentFile sink sink' name limit next shelf shelf'
absent_here name limit next shelf shelf' sink sink' outcome absent fetch is e w = record { rose = fetch.counts.absences; file = fetch.file; text = text_is sink sink' outcome _ is w }
absent_here name limit next shelf shelf' sink sink' outcome failed fetch is e w = let c = sym (status_is outcome _ is) ∙ e in cc
absent_here name limit next shelf shelf' sink sink' outcome memory fetch is e w = let c = sym (status_is outcome _ is) ∙ e in cc

absent_at : {B : Type 0} (plan : Plan B) (shelf shelf' : ShelfView) (sink sink' : SinkView) (outcome : Outcome B) → Fits IsOfCommand plan → Reaches plan shelf shelf' outcome → outcome.due.status ≡ Absent → Writes true sink sink' outcome.due.text → AtFile (IsAbsentFile sink sink') plan shelf shelf'
absent_at (Makes due left) shelf shelf' sink sink' outcome fits reached e w = work_here due left outcome Absent fits reached.1 e (inl refl)
absent_at (Refuses line) shelf shelf' sink sink' outcome fits reached e w = let c = sym (status_is outcome _ reached.1) ∙ e in cc
absent_at (Asks name limit next) shelf shelf' sink sink' outcome fits (inl u) e w = inl (absent_here name limit next shelf shelf' sink sink' outcome u.fault u.fetch u.outcome_is e w)
absent_at (Asks name limit next) shelf shelf' sink sink' outcome fits (inr on) e w =
    inr (record { bytes = on.bytes; between = on.between; fetch = on.fetch; after = absent_at (next on.bytes) on.between shelf' sink sink' outcome (fits.1 on.bytes) on.after e w })

pub absent_cause : {B : Type 0} (nothing : B) (plan : Plan B) (status : Status) (shelf shelf' : ShelfView) (sink sink' : SinkView) (bench : B) → Fits IsOfCommand plan → FollowsWith nothing status plan shelf shelf' sink sink' bench → status ≡ Absent → AtFile (IsAbsentFile sink sink') plan shelf shelf'
absent_cause nothing plan status shelf shelf' sink sink' bench fits follows e =
    let all = settled nothing plan Absent status shelf shelf' sink sink' bench follows e (λ c. cc) (λ c. cc) in
    absent_at plan shelf shelf' sink sink' all.outcome fits all.reached all.due_status all.text

failed_here : {B : Type 0} (name : List ℕ) (limit : ℕ) (next : List ℕ → Plan B) (shelf shelf' : ShelfView) (sink sink' : SinkView) (outcome : Outcome B) (fault : ShelfFault)
    → Fetches name limit shelf shelf' (Err fault) → outcome ≡ stopped (fault_due name fault) → outcome.due.status ≡ ShelfFailed → Writes true sink sink' outcome.due.text → IsFailedFile sink sink' name limit next shelf shelf'
failed_here name limit next shelf shelf' sink sink' outcome absent fetch is e w = let c = sym (status_is outcome _ is) ∙ e in cc
failed_here name limit next shelf shelf' sink sink' outcome failed fetch is e w = record { rose = fetch.counts.faults; text = text_is sink sink' outcome _ is w }
failed_here name limit next shelf shelf' sink sink' outcome memory fetch is e w = let c = sym (status_is outcome _ is) ∙ e in cc

failed_at : {B : Type 0} (plan : Plan B) (shelf shelf' : ShelfView) (sink sink' : SinkView) (outcome : Outcome B) → Fits IsOfCommand plan → Reaches plan shelf shelf' outcome → outcome.due.status ≡ ShelfFailed → Writes true sink sink' outcome.due.text → AtFile (IsFailedFile sink sink') plan shelf shelf'
failed_at (Makes due left) shelf shelf' sink sink' outcome fits reached e w = work_here due left outcome ShelfFailed fits reached.1 e (inl refl)
failed_at (Refuses line) shelf shelf' sink sink' outcome fits reached e w = let c = sym (status_is outcome _ reached.1) ∙ e in cc
failed_at (Asks name limit next) shelf shelf' sink sink' outcome fits (inl u) e w = inl (failed_here name limit next shelf shelf' sink sink' outcome u.fault u.fetch u.outcome_is e w)
failed_at (Asks name limit next) shelf shelf' sink sink' outcome fits (inr on) e w =
    inr (record { bytes = on.bytes; between = on.between; fetch = on.fetch; after = failed_at (next on.bytes) on.between shelf' sink sink' outcome (fits.1 on.bytes) on.after e w })

pub failed_cause : {B : Type 0} (nothing : B) (plan : Plan B) (status : Status) (shelf shelf' : ShelfView) (sink sink' : SinkView) (bench : B) → Fits IsOfCommand plan → FollowsWith nothing status plan shelf shelf' sink sink' bench → status ≡ ShelfFailed → AtFile (IsFailedFile sink sink') plan shelf shelf'
failed_cause nothing plan status shelf shelf' sink sink' bench fits follows e =
    let all = settled nothing plan ShelfFailed status shelf shelf' sink sink' bench follows e (λ c. cc) (λ c. cc) in
    failed_at plan shelf shelf' sink sink' all.outcome fits all.reached all.due_status all.text

fault_no_refusal : (name : List ℕ) (fault : ShelfFault) → (fault_due name fault).status ≡ Refused → ⊥
fault_no_refusal name absent c = cc
fault_no_refusal name failed c = cc
fault_no_refusal name memory c = cc

-- a file whose bytes are refused here, or passed to a later refusal
refused_by : {B : Type 0} (p : Plan B) (name : List ℕ) (limit : ℕ) (next : List ℕ → Plan B) (shelf between shelf' : ShelfView) (sink sink' : SinkView) (outcome : Outcome B) (bytes : List ℕ) → Fetches name limit shelf between (Ok bytes) → next bytes ≡ p
    → Fits IsOfCommand p → Reaches p between shelf' outcome → outcome.due.status ≡ Refused → Writes true sink sink' outcome.due.text
    → IsRefusedFile sink sink' name limit next shelf shelf' ⊎ AtFile (IsRefusedFile sink sink') p between shelf'
refused_by (Makes due left) name limit next shelf between shelf' sink sink' outcome bytes fetch is fits reached e w = absurd (work_here due left outcome Refused fits reached.1 e (inl refl))
refused_by (Refuses line) name limit next shelf between shelf' sink sink' outcome bytes fetch is fits reached e w =
    inl (subst (λ (s : ShelfView). IsRefusedFile sink sink' name limit next shelf s) (sym reached.0) (record { bytes = bytes; line = line; fetch = fetch; refused = is; text = text_is sink sink' outcome _ reached.1 w }))
refused_by (Asks name' limit' next') name limit next shelf between shelf' sink sink' outcome bytes fetch is fits (inl u) e w = absurd (fault_no_refusal name' u.fault (sym (status_is outcome _ u.outcome_is) ∙ e))
refused_by (Asks name' limit' next') name limit next shelf between shelf' sink sink' outcome bytes fetch is fits (inr on) e w =
    elim (refused_by (next' on.bytes) name' limit' next' between on.between shelf' sink sink' outcome on.bytes on.fetch refl (fits.1 on.bytes) on.after e w) [
      | inl here ↦ inr (inl here)
      | inr later ↦ inr (inr (record { bytes = on.bytes; between = on.between; fetch = on.fetch; after = later }))
    ]

-- a plan that doesn't begin with a refusal
abbrev pub BeginsWell : {B : Type 0} → Plan B → Type 0
BeginsWell (Makes due left) = Unit {0}
BeginsWell (Refuses line) = ⊥
BeginsWell (Asks name limit next) = Unit {0}

refused_at : {B : Type 0} (plan : Plan B) (shelf shelf' : ShelfView) (sink sink' : SinkView) (outcome : Outcome B) → BeginsWell plan → Fits IsOfCommand plan → Reaches plan shelf shelf' outcome → outcome.due.status ≡ Refused → Writes true sink sink' outcome.due.text → AtFile (IsRefusedFile sink sink') plan shelf shelf'
refused_at (Makes due left) shelf shelf' sink sink' outcome begins fits reached e w = work_here due left outcome Refused fits reached.1 e (inl refl)
refused_at (Refuses line) shelf shelf' sink sink' outcome begins fits reached e w = begins
refused_at (Asks name limit next) shelf shelf' sink sink' outcome begins fits (inl u) e w = absurd (fault_no_refusal name u.fault (sym (status_is outcome _ u.outcome_is) ∙ e))
refused_at (Asks name limit next) shelf shelf' sink sink' outcome begins fits (inr on) e w =
    elim (refused_by (next on.bytes) name limit next shelf on.between shelf' sink sink' outcome on.bytes on.fetch refl (fits.1 on.bytes) on.after e w) [
      | inl here ↦ inl here
      | inr later ↦ inr (record { bytes = on.bytes; between = on.between; fetch = on.fetch; after = later })
    ]

pub refused_cause : {B : Type 0} (nothing : B) (plan : Plan B) (status : Status) (shelf shelf' : ShelfView) (sink sink' : SinkView) (bench : B) → BeginsWell plan → Fits IsOfCommand plan → FollowsWith nothing status plan shelf shelf' sink sink' bench → status ≡ Refused → AtFile (IsRefusedFile sink sink') plan shelf shelf'
refused_cause nothing plan status shelf shelf' sink sink' bench begins fits follows e =
    let all = settled nothing plan Refused status shelf shelf' sink sink' bench follows e (λ c. cc) (λ c. cc) in
    refused_at plan shelf shelf' sink sink' all.outcome begins fits all.reached all.due_status all.text

-- ---- want of memory, of plans whose work has its memory before it writes

memory_here : {B : Type 0} (name : List ℕ) (outcome : Outcome B) (fault : ShelfFault) → outcome ≡ stopped (fault_due name fault) → (outcome.due.status ≡ Memory → outcome.due.text ≡ []) × (outcome.due.in_parts ≡ false)
memory_here {B} name outcome absent is = (λ e. (let c = sym (status_is outcome _ is) ∙ e in cc), ap (λ (o : Outcome B). o.due.in_parts) is)
memory_here {B} name outcome failed is = (λ e. (let c = sym (status_is outcome _ is) ∙ e in cc), ap (λ (o : Outcome B). o.due.in_parts) is)
memory_here {B} name outcome memory is = (λ e. ap (λ (o : Outcome B). o.due.text) is, ap (λ (o : Outcome B). o.due.in_parts) is)

-- a text that is due with this status is none, and no text is written in parts
memory_at : {B : Type 0} (plan : Plan B) (shelf shelf' : ShelfView) (outcome : Outcome B) → Fits (IsAtOnce (λ s. origin_of s ≡ OfCommand)) plan → Reaches plan shelf shelf' outcome → (outcome.due.status ≡ Memory → outcome.due.text ≡ []) × (outcome.due.in_parts ≡ false)
memory_at {B} (Makes due left) shelf shelf' outcome fits reached =
    (λ e. absurd (work_here due left outcome Memory fits.status reached.1 e (inr refl)), ap (λ (o : Outcome B). o.due.in_parts) reached.1 ∙ fits.at_once)
memory_at {B} (Refuses line) shelf shelf' outcome fits reached = (λ e. (let c = sym (status_is outcome _ reached.1) ∙ e in cc), ap (λ (o : Outcome B). o.due.in_parts) reached.1)
memory_at (Asks name limit next) shelf shelf' outcome fits (inl u) = memory_here name outcome u.fault u.outcome_is
memory_at (Asks name limit next) shelf shelf' outcome fits (inr on) = memory_at (next on.bytes) on.between shelf' outcome (fits.1 on.bytes) on.after

at_once_part : (b : Bool) (sink sink' : SinkView) (text : List ℕ) → b ≡ false → WritesPart b sink sink' text → Writes true sink sink' []
at_once_part false sink sink' text e w = w
at_once_part true sink sink' text e w = absurd cc

memory_ends : (status : Status) (sink sink' : SinkView) (due : Due) → (due.status ≡ Memory → due.text ≡ []) × (due.in_parts ≡ false) → EndsOrWants status sink sink' due → status ≡ Memory → Writes true sink sink' []
memory_ends status sink sink' due facts (inl (inl h)) e = subst (λ (t : List ℕ). Writes true sink sink' t) (facts.0 (sym h.0 ∙ e)) h.1
memory_ends status sink sink' due facts (inl (inr h)) e = let c = sym e ∙ h.0 in cc
memory_ends status sink sink' due facts (inr h) e = at_once_part due.in_parts sink sink' due.text facts.1 h.1

pub memory_cause : {B : Type 0} (nothing : B) (plan : Plan B) (status : Status) (shelf shelf' : ShelfView) (sink sink' : SinkView) (bench : B) → Fits (IsAtOnce (λ s. origin_of s ≡ OfCommand)) plan → FollowsWith nothing status plan shelf shelf' sink sink' bench → status ≡ Memory → Writes true sink sink' []
memory_cause nothing plan status shelf shelf' sink sink' bench fits (inl does) e = memory_ends status sink sink' does.outcome.due (memory_at plan shelf shelf' does.outcome fits does.reached) (ends_due status sink sink' does.outcome does.ends) e
memory_cause nothing plan status shelf shelf' sink sink' bench fits (inr stops) e = stops.lacks.silent

-- ---- the sink failed, or the status is the one due, which is none of the sink's

sink_ends : {B : Type 0} (plan : Plan B) (status : Status) (shelf shelf' : ShelfView) (sink sink' : SinkView) (outcome : Outcome B) → Fits IsOfCommand plan → Reaches plan shelf shelf' outcome → EndsOrWants status sink sink' outcome.due → status ≡ SinkFailed → Rose sink.faults sink'.faults
sink_ends plan status shelf shelf' sink sink' outcome fits reached (inl (inl h)) e = absurd (never_sink outcome.due.status (reached_is IsOfCommand plan shelf shelf' outcome fits reached) (sym h.0 ∙ e))
sink_ends plan status shelf shelf' sink sink' outcome fits reached (inl (inr h)) e = h.1.counts
sink_ends plan status shelf shelf' sink sink' outcome fits reached (inr h) e = let c = sym e ∙ h.0 in cc

pub sink_cause : {B : Type 0} (nothing : B) (plan : Plan B) (status : Status) (shelf shelf' : ShelfView) (sink sink' : SinkView) (bench : B) → Fits IsOfCommand plan → FollowsWith nothing status plan shelf shelf' sink sink' bench → status ≡ SinkFailed → Rose sink.faults sink'.faults
sink_cause nothing plan status shelf shelf' sink sink' bench fits (inl does) e = sink_ends plan status shelf shelf' sink sink' does.outcome fits does.reached (ends_due status sink sink' does.outcome does.ends) e
sink_cause nothing plan status shelf shelf' sink sink' bench fits (inr stops) e = let c = sym e ∙ stops.lacks.status_is in cc

-- ---- what was written where the sink failed

-- nothing is a front of any text
front_of_nothing : {B : Type 0} (outcome : Outcome B) (sink sink' : SinkView) (text : List ℕ) → outcome ≡ stopped memory_due → Writes false sink sink' outcome.due.text → Writes false sink sink' text
front_of_nothing {B} outcome sink sink' text e w = stops_writing text (subst (λ (o : Outcome B). Writes false sink sink' o.due.text) e w)

front_here : {B : Type 0} (name : List ℕ) (limit : ℕ) (next : List ℕ → Plan B) (shelf shelf' : ShelfView) (sink sink' : SinkView) (outcome : Outcome B) (files : List File) (fault : ShelfFault) → shelf.files ≡ Some files → Fetches name limit shelf shelf' (Err fault) → outcome ≡ stopped (fault_due name fault)
    → Writes false sink sink' outcome.due.text → Writes false sink sink' (due_of (Asks name limit next) files).text ⊎ BeginsFailedLine (Asks name limit next) sink sink'
front_here {B} name limit next shelf shelf' sink sink' outcome files absent told fetch is w =
    let file = rw told at fetch.file in
    let same = by_none name (λ bytes. due_of (next bytes) files) (file_at files name) file ∙ sym (due_is outcome _ is) in
    inl (subst (λ (d : Due). Writes false sink sink' d.text) (sym same) w)
front_here {B} name limit next shelf shelf' sink sink' outcome files failed told fetch is w =
    inr (record { name = name; of_plan = inl refl; front = subst (λ (o : Outcome B). Writes false sink sink' o.due.text) is w })
front_here name limit next shelf shelf' sink sink' outcome files memory told fetch is w =
    inl (front_of_nothing outcome sink sink' _ is w)

front_at : {B : Type 0} (P : Due → Type 0) (plan : Plan B) (shelf shelf' : ShelfView) (sink sink' : SinkView) (outcome : Outcome B) (files : List File) → Fits P plan → shelf.files ≡ Some files → Reaches plan shelf shelf' outcome → Writes false sink sink' outcome.due.text
    → Writes false sink sink' (due_of plan files).text ⊎ BeginsFailedLine plan sink sink'
front_at {B} P (Makes due left) shelf shelf' sink sink' outcome files fits told reached w = inl (subst (λ (o : Outcome B). Writes false sink sink' o.due.text) reached.1 w)
front_at {B} P (Refuses line) shelf shelf' sink sink' outcome files fits told reached w = inl (subst (λ (o : Outcome B). Writes false sink sink' o.due.text) reached.1 w)
front_at P (Asks name limit next) shelf shelf' sink sink' outcome files fits told (inl u) w = front_here name limit next shelf shelf' sink sink' outcome files u.fault told u.fetch u.outcome_is w
front_at P (Asks name limit next) shelf shelf' sink sink' outcome files fits told (inr on) w =
    let file = rw told at on.fetch.file in
    let here = by_front limit name next files fits.0 (file_at files name) on.bytes file in
    elim (front_at P (next on.bytes) on.between shelf' sink sink' outcome files (fits.1 on.bytes) (on.fetch.kept ∙ told) on.after w) [
      | inl same ↦ inl (subst (λ (d : Due). Writes false sink sink' d.text) (sym here) same)
      | inr line ↦ inr (record { name = line.name; of_plan = inr (on.bytes, line.of_plan); front = line.front })
    ]

front_told : {B : Type 0} (P : Due → Type 0) (files : Option (List File)) (plan : Plan B) (shelf shelf' : ShelfView) (sink sink' : SinkView) (outcome : Outcome B) → Fits P plan → shelf.files ≡ files → Reaches plan shelf shelf' outcome → Writes false sink sink' outcome.due.text
    → IfSome files (λ files. Writes false sink sink' (due_of plan files).text ⊎ BeginsFailedLine plan sink sink')
front_told P None plan shelf shelf' sink sink' outcome fits told reached w = tt
front_told P (Some files) plan shelf shelf' sink sink' outcome fits told reached w = front_at P plan shelf shelf' sink sink' outcome files fits told reached w

part_keeps : (b : Bool) (sink sink' : SinkView) (text : List ℕ) → WritesPart b sink sink' text → sink'.faults ≡ sink.faults
part_keeps false sink sink' text w = w.counts
part_keeps true sink sink' text w = w.1.counts

stops_at : {B : Type 0} (P : Due → Type 0) (plan : Plan B) (status : Status) (shelf shelf' : ShelfView) (sink sink' : SinkView) (outcome : Outcome B) → Fits P plan → Reaches plan shelf shelf' outcome → EndsOrWants status sink sink' outcome.due → sink.faults < sink'.faults → StopsShort plan status shelf shelf' sink sink'
stops_at P plan status shelf shelf' sink sink' outcome fits reached (inl (inl h)) rose = absurd (omega (arith, h.1.counts))
stops_at P plan status shelf shelf' sink sink' outcome fits reached (inl (inr h)) rose =
    record { status_is = h.0; outcome = outcome; reached = reached; front = h.1; by_files = front_told P shelf.files plan shelf shelf' sink sink' outcome fits refl reached h.1 }
stops_at P plan status shelf shelf' sink sink' outcome fits reached (inr h) rose = absurd (omega (arith, part_keeps outcome.due.in_parts sink sink' outcome.due.text h.1))

pub stops_short : {B : Type 0} (P : Due → Type 0) (nothing : B) (plan : Plan B) (status : Status) (shelf shelf' : ShelfView) (sink sink' : SinkView) (bench : B) → Fits P plan → FollowsWith nothing status plan shelf shelf' sink sink' bench → sink.faults < sink'.faults → StopsShort plan status shelf shelf' sink sink'
stops_short P nothing plan status shelf shelf' sink sink' bench fits (inl does) rose = stops_at P plan status shelf shelf' sink sink' does.outcome fits does.reached (ends_due status sink sink' does.outcome does.ends) rose
stops_short P nothing plan status shelf shelf' sink sink' bench fits (inr stops) rose = absurd (omega (arith, stops.lacks.silent.counts))

-- ---- where the shelf's counts rose

-- where the sink is calm and no work was made, the status is the one due
calm_ends : {B : Type 0} (status : Status) (sink sink' : SinkView) (outcome : Outcome B) → EndsAs status sink sink' outcome → IsCalm sink.faults sink'.faults → outcome.left ≡ None → status ≡ outcome.due.status
calm_ends status sink sink' outcome (inl (inl h)) calm none = h.0
calm_ends status sink sink' outcome (inl (inr h)) calm none = absurd (never_rose calm h.1.counts)
calm_ends {B} status sink sink' outcome (inr h) calm none = let bad : IsSome {T = B} None = subst (λ (o : Option B). IsSome o) none h.0 in cc

-- a status that is due before any work
record IsDue {B : Type 0} (s : Status) (outcome : Outcome B) : Type 0 where
  status : outcome.due.status ≡ s
  no_work : outcome.left ≡ None

stopped_is : {B : Type 0} (outcome : Outcome B) (due : Due) → outcome ≡ stopped due → IsDue due.status outcome
stopped_is {B} outcome due e = record { status = ap (λ (o : Outcome B). o.due.status) e; no_work = ap (λ (o : Outcome B). o.left) e }

faults_here : {B : Type 0} (name : List ℕ) (limit : ℕ) (shelf shelf' : ShelfView) (outcome : Outcome B) (fault : ShelfFault) → Fetches name limit shelf shelf' (Err fault) → outcome ≡ stopped (fault_due name fault) → shelf.faults < shelf'.faults → IsDue ShelfFailed outcome
faults_here name limit shelf shelf' outcome absent fetch is rose = absurd (omega (arith, fetch.counts.faults))
faults_here name limit shelf shelf' outcome failed fetch is rose = stopped_is outcome (fault_due name failed) is
faults_here name limit shelf shelf' outcome memory fetch is rose = absurd (omega (arith, fetch.counts.faults))

same_faults : (shelf shelf' : ShelfView) → shelf' ≡ shelf → shelf.faults < shelf'.faults → ⊥
same_faults shelf shelf' e rose = let same : shelf'.faults ≡ shelf.faults = ap (λ (s : ShelfView). s.faults) e in omega (arith, same)

faults_at : {B : Type 0} (plan : Plan B) (shelf shelf' : ShelfView) (outcome : Outcome B) → Reaches plan shelf shelf' outcome → shelf.faults < shelf'.faults → IsDue ShelfFailed outcome
faults_at (Makes due left) shelf shelf' outcome reached rose = absurd (same_faults shelf shelf' reached.0 rose)
faults_at (Refuses line) shelf shelf' outcome reached rose = absurd (same_faults shelf shelf' reached.0 rose)
faults_at (Asks name limit next) shelf shelf' outcome (inl u) rose = faults_here name limit shelf shelf' outcome u.fault u.fetch u.outcome_is rose
faults_at (Asks name limit next) shelf shelf' outcome (inr on) rose = faults_at (next on.bytes) on.between shelf' outcome on.after (omega (arith, on.fetch.counts.faults))

pub shelf_faults : {B : Type 0} (nothing : B) (plan : Plan B) (status : Status) (shelf shelf' : ShelfView) (sink sink' : SinkView) (bench : B) → FollowsWith nothing status plan shelf shelf' sink sink' bench → IsCalm sink.faults sink'.faults → shelf.faults < shelf'.faults → status ≡ ShelfFailed
shelf_faults nothing plan status shelf shelf' sink sink' bench (inl does) calm rose =
    let due = faults_at plan shelf shelf' does.outcome does.reached rose in
    calm_ends status sink sink' does.outcome does.ends calm due.no_work ∙ due.status
shelf_faults nothing plan status shelf shelf' sink sink' bench (inr stops) calm rose = absurd (omega (arith, stops.lacks.counts.faults))

absences_here : {B : Type 0} (name : List ℕ) (limit : ℕ) (shelf shelf' : ShelfView) (outcome : Outcome B) (fault : ShelfFault) → Fetches name limit shelf shelf' (Err fault) → outcome ≡ stopped (fault_due name fault) → shelf.absences < shelf'.absences → IsDue Absent outcome
absences_here name limit shelf shelf' outcome absent fetch is rose = stopped_is outcome (fault_due name absent) is
absences_here name limit shelf shelf' outcome failed fetch is rose = absurd (omega (arith, fetch.counts.absences))
absences_here name limit shelf shelf' outcome memory fetch is rose = absurd (omega (arith, fetch.counts.absences))

same_absences : (shelf shelf' : ShelfView) → shelf' ≡ shelf → shelf.absences < shelf'.absences → ⊥
same_absences shelf shelf' e rose = let same : shelf'.absences ≡ shelf.absences = ap (λ (s : ShelfView). s.absences) e in omega (arith, same)

absences_at : {B : Type 0} (plan : Plan B) (shelf shelf' : ShelfView) (outcome : Outcome B) → Reaches plan shelf shelf' outcome → shelf.absences < shelf'.absences → IsDue Absent outcome
absences_at (Makes due left) shelf shelf' outcome reached rose = absurd (same_absences shelf shelf' reached.0 rose)
absences_at (Refuses line) shelf shelf' outcome reached rose = absurd (same_absences shelf shelf' reached.0 rose)
absences_at (Asks name limit next) shelf shelf' outcome (inl u) rose = absences_here name limit shelf shelf' outcome u.fault u.fetch u.outcome_is rose
absences_at (Asks name limit next) shelf shelf' outcome (inr on) rose = absences_at (next on.bytes) on.between shelf' outcome on.after (omega (arith, on.fetch.counts.absences))

pub shelf_absences : {B : Type 0} (nothing : B) (plan : Plan B) (status : Status) (shelf shelf' : ShelfView) (sink sink' : SinkView) (bench : B) → FollowsWith nothing status plan shelf shelf' sink sink' bench → IsCalm sink.faults sink'.faults → shelf.absences < shelf'.absences → status ≡ Absent
shelf_absences nothing plan status shelf shelf' sink sink' bench (inl does) calm rose =
    let due = absences_at plan shelf shelf' does.outcome does.reached rose in
    calm_ends status sink sink' does.outcome does.ends calm due.no_work ∙ due.status
shelf_absences nothing plan status shelf shelf' sink sink' bench (inr stops) calm rose = absurd (omega (arith, stops.lacks.counts.absences))
