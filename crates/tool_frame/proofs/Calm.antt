-- Where no fault was counted, a plan is followed by the files that the shelf holds.
use Rattle.std.proofs.Common.{◌≡◌, List, [], ℕ, Bool, true, false, Option, Some, None, IfSome, refl, sym, subst, inl, inr}
use Rattle.std.specs.Io.KnownBytes.{Appends}
use Rattle.board_outside.specs.Shelf.{File, ShelfView}
use Rattle.board_outside.specs.Sink.{SinkView}
use Rattle.tool_frame.specs.Due.{Due, memory_due}
use Rattle.tool_frame.specs.Plan.{Plan, due_of}
use Rattle.tool_frame.specs.Answers.{EndsOrWants, WritesPart, AppendsPart, FollowsWith, IsCalm, HasDone}
use Rattle.tool_frame.specs.declared.status.Status.{Status}
use Rattle.tool_frame.proofs.Fits.{Fits}
use Rattle.tool_frame.proofs.Ends.{ends_due}
use Rattle.tool_frame.proofs.Held.{never_rose, reaches_held}

-- nothing is a part of any text
nothing_appended : (b : Bool) (old new : Option (List ℕ)) (text : List ℕ) → Appends old new [] → AppendsPart b old new text
nothing_appended false old new text h = h
nothing_appended true old new text h = (0, h)

part_appended : (b : Bool) (sink sink' : SinkView) (text : List ℕ) → WritesPart b sink sink' text → AppendsPart b sink.written sink'.written text
part_appended false sink sink' text w = w.bytes
part_appended true sink sink' text w = (w.0, w.1.bytes)

done : (status : Status) (sink sink' : SinkView) (due : Due) → EndsOrWants status sink sink' due → IsCalm sink.faults sink'.faults → HasDone status sink.written sink'.written due
done status sink sink' due (inl (inl h)) calm = inl (h.0, h.1.bytes)
done status sink sink' due (inl (inr h)) calm = absurd (never_rose calm h.1.counts)
done status sink sink' due (inr h) calm = inr (h.0, part_appended due.in_parts sink sink' due.text h.1)

-- where memory was wanting at a fetch
wanting : (status : Status) (old new : Option (List ℕ)) (due : Due) → HasDone status old new memory_due → HasDone status old new due
wanting status old new due (inl h) = inr (h.0, nothing_appended due.in_parts old new due.text h.1)
wanting status old new due (inr h) = inr (h.0, nothing_appended due.in_parts old new due.text h.1)

calm_told : {B : Type 0} (P : Due → Type 0) (nothing : B) (files : List File) (status : Status) (plan : Plan B) (shelf shelf' : ShelfView) (sink sink' : SinkView) (bench : B) → Fits P plan → shelf.files ≡ Some files → FollowsWith nothing status plan shelf shelf' sink sink' bench
    → IsCalm shelf.faults shelf'.faults → IsCalm sink.faults sink'.faults → HasDone status sink.written sink'.written (due_of plan files)
calm_told P nothing files status plan shelf shelf' sink sink' bench fits told (inl does) calm calm' =
    let here = done status sink sink' does.outcome.due (ends_due status sink sink' does.outcome does.ends) calm' in
    elim (reaches_held P plan shelf shelf' does.outcome files fits told calm does.reached) [
      | inl same ↦ subst (λ (d : Due). HasDone status sink.written sink'.written d) (sym same) here
      | inr none ↦ wanting status sink.written sink'.written (due_of plan files) (subst (λ (d : Due). HasDone status sink.written sink'.written d) none here)
    ]
calm_told P nothing files status plan shelf shelf' sink sink' bench fits told (inr stops) calm calm' =
    let due = due_of plan files in
    inr (stops.lacks.status_is, nothing_appended due.in_parts sink.written sink'.written due.text stops.lacks.silent.bytes)

by_files : {B : Type 0} (P : Due → Type 0) (nothing : B) (files : Option (List File)) (status : Status) (plan : Plan B) (shelf shelf' : ShelfView) (sink sink' : SinkView) (bench : B) → Fits P plan → shelf.files ≡ files → FollowsWith nothing status plan shelf shelf' sink sink' bench
    → IsCalm shelf.faults shelf'.faults → IsCalm sink.faults sink'.faults
    → IfSome files (λ held. HasDone status sink.written sink'.written (due_of plan held))
by_files P nothing None status plan shelf shelf' sink sink' bench fits told follows calm calm' = tt
by_files P nothing (Some files) status plan shelf shelf' sink sink' bench fits told follows calm calm' = calm_told P nothing files status plan shelf shelf' sink sink' bench fits told follows calm calm'

pub calm_done : {B : Type 0} (P : Due → Type 0) (nothing : B) (status : Status) (plan : Plan B) (shelf shelf' : ShelfView) (sink sink' : SinkView) (bench : B) → Fits P plan → FollowsWith nothing status plan shelf shelf' sink sink' bench
    → IsCalm shelf.faults shelf'.faults → IsCalm sink.faults sink'.faults
    → IfSome shelf.files (λ held. HasDone status sink.written sink'.written (due_of plan held))
calm_done P nothing status plan shelf shelf' sink sink' bench fits = by_files P nothing shelf.files status plan shelf shelf' sink sink' bench fits refl
