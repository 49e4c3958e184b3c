-- What is left of a command's work, by the files that a shelf holds.
use Rattle.std.proofs.Common.{◌≡◌, ◌∙◌, ℕ, ◌+◌, List, Option, Some, None, IfSome, Err, take, option_map, unwrap_or, refl, sym, ap, subst, inl, inr, ◌⊎◌}
use Rattle.std.specs.Prelude.{option_and_then}
use Rattle.std.proofs.lemmas.Bool.{false≢true}
use Rattle.board_outside.specs.Shelf.{File, ShelfView, file_at}
use Rattle.board_outside.specs.Sink.{SinkView}
use Rattle.board_outside.specs.declared.shelf.ShelfFault.{ShelfFault}
use Rattle.board_outside.specs.declared.shelf.ShelfFault.TheVariants.{Absent as absent, Failed as failed, Memory as memory}
use Rattle.tool_frame.specs.Code.{OfCommand, OfFile, OfSink, OfMemory, origin_of}
use Rattle.tool_frame.specs.Due.{Due, Outcome, worked, stopped, memory_due, refused_due, fault_due}
use Rattle.tool_frame.specs.Plan.{Plan, Makes, Refuses, Asks, by_file, due_of, left_of, outcome_of}
use Rattle.tool_frame.specs.Answers.{EndsAs, Leaves, Fetches, Reaches, FollowsWith, IsCalm}
use Rattle.tool_frame.specs.declared.status.Status.{Status}
use Rattle.tool_frame.specs.declared.status.Status.TheVariants.{SinkFailed, Memory}
use Rattle.tool_frame.proofs.Fits.{Fits, IsOfCommand}
use Rattle.tool_frame.proofs.Held.{never_rose, by_none, by_front, due_is}

-- a plan came to what the files give
record IsHeld {B : Type 0} (plan : Plan B) (files : List File) (outcome : Outcome B) : Type 0 where
  due_same : due_of plan files ≡ outcome.due
  left_same : left_of plan files ≡ outcome.left

left_is : {B : Type 0} (outcome o : Outcome B) → outcome ≡ o → outcome.left ≡ o.left
left_is {B} outcome o e = ap (λ (x : Outcome B). x.left) e

left_front : {B : Type 0} (limit : ℕ) (next : List ℕ → Plan B) (files : List File) → ((content : List ℕ) → next (take (limit + 1) content) ≡ next content)
    → (file : Option (List ℕ)) (bytes : List ℕ) → option_map (take (limit + 1)) file ≡ Some bytes → option_and_then (λ b. left_of (next b) files) file ≡ left_of (next bytes) files
left_front limit next files same None bytes e = cc
left_front {B} limit next files same (Some content) bytes e =
    let front : take (limit + 1) content ≡ bytes = cc in
    ap (λ (p : Plan B). left_of p files) (sym (same content) ∙ ap next front)

ungiven_left : {B : Type 0} (name : List ℕ) (limit : ℕ) (next : List ℕ → Plan B) (shelf shelf' : ShelfView) (outcome : Outcome B) (files : List File) (fault : ShelfFault) → shelf.files ≡ Some files
    → IsCalm shelf.faults shelf'.faults → Fetches name limit shelf shelf' (Err fault) → outcome ≡ stopped (fault_due name fault) → IsHeld (Asks name limit next) files outcome ⊎ (outcome ≡ stopped memory_due)
ungiven_left {B} name limit next shelf shelf' outcome files absent told calm fetch e =
    let file : file_at files name ≡ None = rw told at fetch.file in
    inl (record {
      due_same = by_none name (λ bytes. due_of (next bytes) files) (file_at files name) file ∙ sym (due_is outcome _ e);
      left_same = ap (option_and_then (λ bytes. left_of (next bytes) files)) file ∙ sym (left_is outcome _ e);
    })
ungiven_left name limit next shelf shelf' outcome files failed told calm fetch e = absurd (never_rose calm fetch.counts.faults)
ungiven_left name limit next shelf shelf' outcome files memory told calm fetch e = inr e

reaches_left : {B : Type 0} (P : Due → Type 0) (plan : Plan B) (shelf shelf' : ShelfView) (outcome : Outcome B) (files : List File) → Fits P plan → shelf.files ≡ Some files → IsCalm shelf.faults shelf'.faults → Reaches plan shelf shelf' outcome
    → IsHeld plan files outcome ⊎ (outcome ≡ stopped memory_due)
reaches_left P (Makes due left) shelf shelf' outcome files fits told calm reached = inl (record { due_same = sym (due_is outcome (worked due left) reached.1); left_same = sym (left_is outcome (worked due left) reached.1) })
reaches_left P (Refuses line) shelf shelf' outcome files fits told calm reached = inl (record { due_same = sym (due_is outcome (stopped (refused_due line)) reached.1); left_same = sym (left_is outcome (stopped (refused_due line)) reached.1) })
reaches_left P (Asks name limit next) shelf shelf' outcome files fits told calm (inl u) = ungiven_left name limit next shelf shelf' outcome files u.fault told calm u.fetch u.outcome_is
reaches_left P (Asks name limit next) shelf shelf' outcome files fits told calm (inr on) =
    let later : IsCalm on.between.faults shelf'.faults = record { none = calm.none ∙ sym on.fetch.counts.faults; before_last = rw on.fetch.counts.faults calm.before_last } in
    let file = rw told at on.fetch.file in
    elim (reaches_left P (next on.bytes) on.between shelf' outcome files (fits.1 on.bytes) (on.fetch.kept ∙ told) later on.after) [
      | inl same ↦ inl (record {
        due_same = by_front limit name next files fits.0 (file_at files name) on.bytes file ∙ same.due_same;
        left_same = left_front limit next files fits.0 (file_at files name) on.bytes file ∙ same.left_same;
      })
      | inr wanting ↦ inr wanting
    ]

-- ---- the status due is never the sink's or memory's

abbrev IsWorks : Status → Type 0
IsWorks s = (origin_of s ≡ OfCommand) ⊎ (origin_of s ≡ OfFile)

file_works : (name : List ℕ) (next : List ℕ → Due) → ((bytes : List ℕ) → IsWorks (next bytes).status) → (file : Option (List ℕ)) → IsWorks (by_file name next file).status
file_works name next all None = inr refl
file_works name next all (Some bytes) = all bytes

due_works : {B : Type 0} (plan : Plan B) (files : List File) → Fits IsOfCommand plan → IsWorks (due_of plan files).status
due_works (Makes due left) files fits = inl fits
due_works (Refuses line) files fits = inr refl
due_works (Asks name limit next) files fits = file_works name (λ bytes. due_of (next bytes) files) (λ bytes. due_works (next bytes) files (fits.1 bytes)) (file_at files name)

not_memory : (s : Status) → IsWorks s → Memory ≡ s → ⊥
not_memory s (inl h) e = let bad : OfMemory ≡ OfCommand = ap origin_of e ∙ h in cc
not_memory s (inr h) e = let bad : OfMemory ≡ OfFile = ap origin_of e ∙ h in cc

not_sink : (s : Status) → IsWorks s → SinkFailed ≡ s → ⊥
not_sink s (inl h) e = let bad : OfSink ≡ OfCommand = ap origin_of e ∙ h in cc
not_sink s (inr h) e = let bad : OfSink ≡ OfFile = ap origin_of e ∙ h in cc

-- memory was wanting, and nothing is left
memory_left : {B : Type 0} (nothing : B) (status : Status) (sink sink' : SinkView) (bench : B) → EndsAs status sink sink' (stopped {B = B} memory_due) → Leaves nothing status (stopped {B = B} memory_due) bench → (bench ≡ nothing) × ((status ≡ Memory) ⊎ (status ≡ SinkFailed))
memory_left nothing status sink sink' bench (inl (inl h)) leaves = (leaves.where_due h.0, inl h.0)
memory_left nothing status sink sink' bench (inl (inr h)) leaves = (leaves.elsewhere (λ e. (let bad : SinkFailed ≡ Memory = sym h.0 ∙ e in cc)), inr h.0)
memory_left nothing status sink sink' bench (inr h) leaves = absurd (false≢true h.0)

nothing_left : {B : Type 0} (nothing : B) (status : Status) (plan : Plan B) (files : List File) (bench : B) → Fits IsOfCommand plan → bench ≡ nothing → (status ≡ Memory) ⊎ (status ≡ SinkFailed) → Leaves nothing status (outcome_of plan files) bench
nothing_left nothing status plan files bench fits none (inl e) = record { where_due = λ d. absurd (not_memory (due_of plan files).status (due_works plan files fits) (sym e ∙ d)); elsewhere = λ d. none }
nothing_left nothing status plan files bench fits none (inr e) = record { where_due = λ d. absurd (not_sink (due_of plan files).status (due_works plan files fits) (sym e ∙ d)); elsewhere = λ d. none }

held_left : {B : Type 0} (nothing : B) (files : List File) (status : Status) (plan : Plan B) (shelf shelf' : ShelfView) (sink sink' : SinkView) (bench : B) → Fits IsOfCommand plan → shelf.files ≡ Some files → FollowsWith nothing status plan shelf shelf' sink sink' bench
    → IsCalm shelf.faults shelf'.faults → Leaves nothing status (outcome_of plan files) bench
held_left {B} nothing files status plan shelf shelf' sink sink' bench fits told (inl does) calm =
    elim (reaches_left IsOfCommand plan shelf shelf' does.outcome files fits told calm does.reached) [
      | inl same ↦ record {
        where_due = λ e. does.leaves.where_due (e ∙ ap (λ (d : Due). d.status) same.due_same) ∙ ap (λ (l : Option B). unwrap_or l nothing) (sym same.left_same);
        elsewhere = λ n. does.leaves.elsewhere (λ e. n (e ∙ ap (λ (d : Due). d.status) (sym same.due_same)));
      }
      | inr none ↦
          let there = memory_left nothing status sink sink' bench (subst (λ (o : Outcome B). EndsAs status sink sink' o) none does.ends) (subst (λ (o : Outcome B). Leaves nothing status o bench) none does.leaves) in
          nothing_left nothing status plan files bench fits there.0 there.1
    ]
held_left nothing files status plan shelf shelf' sink sink' bench fits told (inr stops) calm = nothing_left nothing status plan files bench fits stops.none_left (inl stops.lacks.status_is)

by_files : {B : Type 0} (nothing : B) (files : Option (List File)) (status : Status) (plan : Plan B) (shelf shelf' : ShelfView) (sink sink' : SinkView) (bench : B) → Fits IsOfCommand plan → shelf.files ≡ files → FollowsWith nothing status plan shelf shelf' sink sink' bench
    → IsCalm shelf.faults shelf'.faults → IfSome files (λ held. Leaves nothing status (outcome_of plan held) bench)
by_files nothing None status plan shelf shelf' sink sink' bench fits told follows calm = tt
by_files nothing (Some files) status plan shelf shelf' sink sink' bench fits told follows calm = held_left nothing files status plan shelf shelf' sink sink' bench fits told follows calm

-- where no fault was counted at the shelf, what is left is what the files give that the shelf holds
pub calm_left : {B : Type 0} (nothing : B) (status : Status) (plan : Plan B) (shelf shelf' : ShelfView) (sink sink' : SinkView) (bench : B) → Fits IsOfCommand plan → FollowsWith nothing status plan shelf shelf' sink sink' bench
    → IsCalm shelf.faults shelf'.faults → IfSome shelf.files (λ files. Leaves nothing status (outcome_of plan files) bench)
calm_left nothing status plan shelf shelf' sink sink' bench fits = by_files nothing shelf.files status plan shelf shelf' sink sink' bench fits refl
