-- What a steady shelf holds is made, what fits the sink's room is written whole, and no count rises.
use Rattle.std.proofs.Common.{◌≡◌, ◌∙◌, ℕ, List, [], Bool, true, false, Some, None, Err, IsTrue, take, option_map, refl, sym, ap, subst, arith, inl, inr, ◌⊎◌, ◌+◌}
use Rattle.board_outside.specs.Shelf.{File, ShelfView, file_at, KeepsCounts}
use Rattle.board_outside.specs.Sink.{SinkView, Writes}
use Rattle.board_outside.specs.declared.shelf.ShelfFault.{ShelfFault}
use Rattle.board_outside.specs.declared.shelf.ShelfFault.TheVariants.{Absent as absent, Failed as failed, Memory as memory}
use Rattle.tool_frame.specs.Due.{Due, Outcome, memory_due}
use Rattle.tool_frame.specs.Plan.{Plan, Makes, Refuses, Asks, due_of, HoldsAll}
use Rattle.tool_frame.specs.Answers.{EndsOrWants, Wants, WritesPart, Fetches, Reaches, FollowsWith, IsCalm, HasRoom, IsReady, Succeeds}
use Rattle.tool_frame.specs.Causes.{NoneRose}
use Rattle.tool_frame.specs.declared.status.Status.{Status}
use Rattle.tool_frame.proofs.Fits.{Fits}
use Rattle.tool_frame.proofs.Ends.{ends_due}
use Rattle.tool_frame.proofs.Held.{reaches_held}

-- a steady shelf's faults stay
reaches_steady : {B : Type 0} (plan : Plan B) (shelf shelf' : ShelfView) (outcome : Outcome B) → IsTrue shelf.steady → Reaches plan shelf shelf' outcome → shelf'.faults ≡ shelf.faults
reaches_steady (Makes due left) shelf shelf' outcome steady reached = rw reached.0 refl
reaches_steady (Refuses line) shelf shelf' outcome steady reached = rw reached.0 refl
reaches_steady (Asks name limit next) shelf shelf' outcome steady (inl u) = (u.fetch.steady steady).faults
reaches_steady (Asks name limit next) shelf shelf' outcome steady (inr on) =
    let first = on.fetch.steady steady in
    reaches_steady (next on.bytes) on.between shelf' outcome first.steady on.after ∙ first.faults

-- what fits the room is written whole
fits_whole : (sink sink' : SinkView) (text : List ℕ) → HasRoom sink text → Writes false sink sink' text → ⊥
fits_whole sink sink' text room w =
    let taken = rw room.told at w.room in
    let bad : false ≡ true = (taken room.fits).0 in cc

whole : (status : Status) (sink sink' : SinkView) (due : Due) → HasRoom sink due.text → EndsOrWants status sink sink' due → ((status ≡ due.status) × Writes true sink sink' due.text) ⊎ Wants status sink sink' due
whole status sink sink' due room (inl (inl h)) = inl h
whole status sink sink' due room (inl (inr h)) = absurd (fits_whole sink sink' due.text room h.1)
whole status sink sink' due room (inr h) = inr h

-- nothing is a part of any text
nothing_written : (b : Bool) (sink sink' : SinkView) (text : List ℕ) → Writes true sink sink' [] → WritesPart b sink sink' text
nothing_written false sink sink' text w = w
nothing_written true sink sink' text w = (0, w)

-- where memory was wanting at a fetch
wanting : (status : Status) (sink sink' : SinkView) (due : Due) → ((status ≡ memory_due.status) × Writes true sink sink' memory_due.text) ⊎ Wants status sink sink' memory_due → Wants status sink sink' due
wanting status sink sink' due (inl h) = (h.0, nothing_written due.in_parts sink sink' due.text h.1)
wanting status sink sink' due (inr h) = (h.0, nothing_written due.in_parts sink sink' due.text h.1)

pub complete : {B : Type 0} (P : Due → Type 0) (nothing : B) (status : Status) (plan : Plan B) (shelf shelf' : ShelfView) (sink sink' : SinkView) (bench : B) → Fits P plan → FollowsWith nothing status plan shelf shelf' sink sink' bench
    → (ready : IsReady plan shelf sink) → Succeeds plan shelf sink sink' ready status
complete P nothing status plan shelf shelf' sink sink' bench fits (inl does) ready =
    let calm : IsCalm shelf.faults shelf'.faults = record { none = reaches_steady plan shelf shelf' does.outcome ready.steady does.reached; before_last = ready.before_last } in
    elim (reaches_held P plan shelf shelf' does.outcome ready.files fits ready.told calm does.reached) [
      | inl same ↦ whole status sink sink' (due_of plan ready.files) ready.room (subst (λ (d : Due). EndsOrWants status sink sink' d) (sym same) (ends_due status sink sink' does.outcome does.ends))
      | inr none ↦
          let room : HasRoom sink [] = record { room = ready.room.room; told = ready.room.told; fits = omega arith } in
          inr (wanting status sink sink' (due_of plan ready.files) (whole status sink sink' memory_due room (subst (λ (d : Due). EndsOrWants status sink sink' d) none (ends_due status sink sink' does.outcome does.ends))))
    ]
complete P nothing status plan shelf shelf' sink sink' bench fits (inr stops) ready =
    let due = due_of plan ready.files in
    inr (stops.lacks.status_is, nothing_written due.in_parts sink sink' due.text stops.lacks.silent)

-- ---- no count rises

-- of a file that is held and a shelf whose faults stay
ungiven_keeps : (name : List ℕ) (limit : ℕ) (shelf shelf' : ShelfView) (files : List File) (content : List ℕ) (fault : ShelfFault) → shelf.files ≡ Some files → file_at files name ≡ Some content
    → shelf'.faults ≡ shelf.faults → Fetches name limit shelf shelf' (Err fault) → KeepsCounts shelf shelf'
ungiven_keeps name limit shelf shelf' files content absent told held stays fetch = let none : file_at files name ≡ None = rw told at fetch.file in let bad : None ≡ Some content = sym none ∙ held in cc
ungiven_keeps name limit shelf shelf' files content failed told held stays fetch = record { absences = fetch.counts.absences; faults = stays }
ungiven_keeps name limit shelf shelf' files content memory told held stays fetch = fetch.counts

-- the bytes that were given are the front of those that are held
front_of : (n : ℕ) (files : List File) (name content bytes : List ℕ) → file_at files name ≡ Some content → option_map (take n) (file_at files name) ≡ Some bytes → take n content ≡ bytes
front_of n files name content bytes held gave = let both : Some (take n content) ≡ Some bytes = rw held at gave in cc

reaches_keeps : {B : Type 0} (P : Due → Type 0) (plan : Plan B) (shelf shelf' : ShelfView) (outcome : Outcome B) (files : List File) → Fits P plan → shelf.files ≡ Some files → IsTrue shelf.steady → HoldsAll plan files → Reaches plan shelf shelf' outcome → KeepsCounts shelf shelf'
reaches_keeps P (Makes due left) shelf shelf' outcome files fits told steady holds reached = rw reached.0 (record { absences = refl; faults = refl })
reaches_keeps P (Refuses line) shelf shelf' outcome files fits told steady holds reached = rw reached.0 (record { absences = refl; faults = refl })
reaches_keeps P (Asks name limit next) shelf shelf' outcome files fits told steady holds (inl u) =
    ungiven_keeps name limit shelf shelf' files holds.0 u.fault told holds.1.0 (u.fetch.steady steady).faults u.fetch
reaches_keeps {B} P (Asks name limit next) shelf shelf' outcome files fits told steady holds (inr on) =
    let gave : option_map (take (limit + 1)) (file_at files name) ≡ Some on.bytes = rw told at on.fetch.file in
    let front : take (limit + 1) holds.0 ≡ on.bytes = front_of (limit + 1) files name holds.0 on.bytes holds.1.0 gave in
    let same : next holds.0 ≡ next on.bytes = sym (fits.0 holds.0) ∙ ap next front in
    let later : HoldsAll (next on.bytes) files = subst (λ (p : Plan B). HoldsAll p files) same holds.1.1 in
    let rest = reaches_keeps P (next on.bytes) on.between shelf' outcome files (fits.1 on.bytes) (on.fetch.kept ∙ told) (on.fetch.steady steady).steady later on.after in
    record { absences = rest.absences ∙ on.fetch.counts.absences; faults = rest.faults ∙ on.fetch.counts.faults }

part_counts : (b : Bool) (sink sink' : SinkView) (text : List ℕ) → WritesPart b sink sink' text → sink'.faults ≡ sink.faults
part_counts false sink sink' text w = w.counts
part_counts true sink sink' text w = w.1.counts

succeeds_counts : (status : Status) (sink sink' : SinkView) (due : Due) → ((status ≡ due.status) × Writes true sink sink' due.text) ⊎ Wants status sink sink' due → sink'.faults ≡ sink.faults
succeeds_counts status sink sink' due (inl h) = h.1.counts
succeeds_counts status sink sink' due (inr h) = part_counts due.in_parts sink sink' due.text h.1

follows_keeps : {B : Type 0} (P : Due → Type 0) (nothing : B) (status : Status) (plan : Plan B) (shelf shelf' : ShelfView) (sink sink' : SinkView) (bench : B) (files : List File) → Fits P plan → shelf.files ≡ Some files → IsTrue shelf.steady → HoldsAll plan files
    → FollowsWith nothing status plan shelf shelf' sink sink' bench → KeepsCounts shelf shelf'
follows_keeps P nothing status plan shelf shelf' sink sink' bench files fits told steady holds (inl does) = reaches_keeps P plan shelf shelf' does.outcome files fits told steady holds does.reached
follows_keeps P nothing status plan shelf shelf' sink sink' bench files fits told steady holds (inr stops) = stops.lacks.counts

pub none_rose : {B : Type 0} (P : Due → Type 0) (nothing : B) (status : Status) (plan : Plan B) (shelf shelf' : ShelfView) (sink sink' : SinkView) (bench : B) → Fits P plan → FollowsWith nothing status plan shelf shelf' sink sink' bench
    → (ready : IsReady plan shelf sink) → HoldsAll plan ready.files → NoneRose shelf shelf' sink sink'
none_rose P nothing status plan shelf shelf' sink sink' bench fits follows ready holds = record {
  shelf_counts = follows_keeps P nothing status plan shelf shelf' sink sink' bench ready.files fits ready.told ready.steady holds follows;
  sink_faults = succeeds_counts status sink sink' (due_of plan ready.files) (complete P nothing status plan shelf shelf' sink sink' bench fits follows ready);
}
