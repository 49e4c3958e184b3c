-- What is due by the files that a shelf holds, by what its fetches gave.
use Rattle.std.proofs.Common.{◌≡◌, ◌∙◌, ℕ, ◌+◌, List, Option, Some, None, Err, take, option_map, sym, ap, arith, inl, inr, ◌⊎◌}
use Rattle.board_outside.specs.Counts.{Rose}
use Rattle.board_outside.specs.Shelf.{File, ShelfView, file_at}
use Rattle.board_outside.specs.declared.shelf.ShelfFault.{ShelfFault}
use Rattle.board_outside.specs.declared.shelf.ShelfFault.TheVariants.{Absent as absent, Failed as failed, Memory as memory}
use Rattle.tool_frame.specs.Due.{Due, Outcome, worked, stopped, memory_due, refused_due, fault_due}
use Rattle.tool_frame.specs.Plan.{Plan, Makes, Refuses, Asks, by_file, due_of}
use Rattle.tool_frame.specs.Answers.{Fetches, Reaches, IsCalm}
use Rattle.tool_frame.proofs.Fits.{Fits}

pub never_rose : {f f' : ℕ} → IsCalm f f' → Rose f f' → ⊥
never_rose calm rose = omega (arith, calm.none, calm.before_last, rose.risen)

pub due_is : {B : Type 0} (outcome o : Outcome B) → outcome ≡ o → outcome.due ≡ o.due
due_is {B} outcome o e = ap (λ (x : Outcome B). x.due) e

-- what is due of a file that isn't held, and of one that is
pub by_none : (name : List ℕ) (next : List ℕ → Due) (file : Option (List ℕ)) → file ≡ None → by_file name next file ≡ by_file name next None
by_none name next file e = ap (by_file name next) e

pub by_front : {B : Type 0} (limit : ℕ) (name : List ℕ) (next : List ℕ → Plan B) (files : List File) → ((content : List ℕ) → next (take (limit + 1) content) ≡ next content)
    → (file : Option (List ℕ)) (bytes : List ℕ) → option_map (take (limit + 1)) file ≡ Some bytes → by_file name (λ bytes. due_of (next bytes) files) file ≡ due_of (next bytes) files
by_front limit name next files same None bytes e = cc
by_front {B} limit name next files same (Some content) bytes e =
    let front : take (limit + 1) content ≡ bytes = cc in
    ap (λ (p : Plan B). due_of p files) (sym (same content) ∙ ap next front)

-- a file that wasn't given, where no fault was counted
ungiven_held : {B : Type 0} (name : List ℕ) (limit : ℕ) (next : List ℕ → Plan B) (shelf shelf' : ShelfView) (due : Due) (files : List File) (fault : ShelfFault) → shelf.files ≡ Some files
    → IsCalm shelf.faults shelf'.faults → Fetches name limit shelf shelf' (Err fault) → due ≡ fault_due name fault → (due_of (Asks name limit next) files ≡ due) ⊎ (due ≡ memory_due)
ungiven_held name limit next shelf shelf' due files absent told calm fetch e =
    let file = rw told at fetch.file in
    inl (by_none name (λ bytes. due_of (next bytes) files) (file_at files name) file ∙ sym e)
ungiven_held name limit next shelf shelf' due files failed told calm fetch e = absurd (never_rose calm fetch.counts.faults)
ungiven_held name limit next shelf shelf' due files memory told calm fetch e = inr e

-- where no fault was counted, what is due is what the files give that the shelf holds, or memory was wanting
pub reaches_held : {B : Type 0} (P : Due → Type 0) (plan : Plan B) (shelf shelf' : ShelfView) (outcome : Outcome B) (files : List File) → Fits P plan → shelf.files ≡ Some files → IsCalm shelf.faults shelf'.faults → Reaches plan shelf shelf' outcome
    → (due_of plan files ≡ outcome.due) ⊎ (outcome.due ≡ memory_due)
reaches_held P (Makes due left) shelf shelf' outcome files fits told calm reached = inl (sym (due_is outcome (worked due left) reached.1))
reaches_held P (Refuses line) shelf shelf' outcome files fits told calm reached = inl (sym (due_is outcome (stopped (refused_due line)) reached.1))
reaches_held P (Asks name limit next) shelf shelf' outcome files fits told calm (inl u) = ungiven_held name limit next shelf shelf' outcome.due files u.fault told calm u.fetch (due_is outcome (stopped (fault_due name u.fault)) u.outcome_is)
reaches_held P (Asks name limit next) shelf shelf' outcome files fits told calm (inr on) =
    let later : IsCalm on.between.faults shelf'.faults = record { none = calm.none ∙ sym on.fetch.counts.faults; before_last = rw on.fetch.counts.faults calm.before_last } in
    let file = rw told at on.fetch.file in
    let here = by_front limit name next files fits.0 (file_at files name) on.bytes file in
    elim (reaches_held P (next on.bytes) on.between shelf' outcome files (fits.1 on.bytes) (on.fetch.kept ∙ told) later on.after) [
      | inl same ↦ inl (here ∙ same)
      | inr wanting ↦ inr wanting
    ]
