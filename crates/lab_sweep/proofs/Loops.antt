-- Loops over what is left.
use Rattle.std.proofs.Common.{◌≡◌, ℕ, suc, ◌+◌, ◌-◌, ◌<◌, ◌≤◌, List, [], ◌∷◌, ◌++◌, map, Bool, true, false, Option, Some, refl, ap, ◌∙◌, arith}
use Rattle.std.specs.Prelude.{filter, nat_eq, if◌then◌else◌}
use Rattle.std.specs.Cmp.Lexicographic.{pointwise}
use Rattle.std.specs.Map.{lookup}
use Rattle.std.specs.declared.vec.Vec.{Vec}
use Rattle.indexmap.specs.IndexMap.{insert_entry}
use Rattle.hart_words.specs.Lines.{lines_of, lines_left}
use Rattle.lab_sweep.specs.Outcome.{outcome_from, is_end, timeless, word_of}
use Rattle.lab_sweep.specs.Sweep.{Row, with_outcome, counts_from, outcomes_from}
use Rattle.lab_sweep.specs.Rows.{row_of, raised}
use Rattle.lab_sweep.specs.declared.tally.Tally.{Tally}
use Rattle.board_outside.specs.Counts.{counted}

-- ---- lines

-- a line that is the end
pub ends_here : (words text line : List ℕ) (after : Option (List ℕ)) → lines_of text ≡ line ∷ lines_left after → is_end line ≡ true → outcome_from words (lines_of text) ≡ timeless line ++ words
ends_here words text line after cuts t = rw (cuts, t) refl

-- another line
pub goes_on : (words text line : List ℕ) (after : Option (List ℕ)) → lines_of text ≡ line ∷ lines_left after → is_end line ≡ false → outcome_from words (lines_of text) ≡ outcome_from (words ++ word_of line) (lines_left after)
goes_on words text line after cuts t = rw (cuts, t) refl

-- ---- the table

abbrev pub same : {A : Type 0} → Vec ℕ A → Vec ℕ A → Bool
same x y = pointwise nat_eq x.items y.items

put_by : {A : Type 0} (b : Bool) (count : ℕ) (k : Vec ℕ A) (e : Vec ℕ A × Tally) (es : List (Vec ℕ A × Tally))
    → map row_of (insert_entry same es k (raised count (lookup (same k) es))) ≡ with_outcome count k.items (map row_of es)
    → map row_of (if b then (e.0, raised count (if b then Some e.1 else lookup (same k) es)) ∷ es else e ∷ insert_entry same es k (raised count (if b then Some e.1 else lookup (same k) es)))
    ≡ (if b then record (row_of e) { counts = counted e.1.counts } ∷ map row_of es else row_of e ∷ with_outcome count k.items (map row_of es))
put_by true count k e es more = refl
put_by false count k e es more = ap (λ rs. row_of e ∷ rs) more

pub put_in_table : {A : Type 0} (count : ℕ) (k : Vec ℕ A) (es : List (Vec ℕ A × Tally)) → map row_of (insert_entry same es k (raised count (lookup (same k) es))) ≡ with_outcome count k.items (map row_of es)
put_in_table count k [] = refl
put_in_table count k (e ∷ es) = put_by (same k e.0) count k e es (put_in_table count k es)

-- ---- counts

more_counts : (p : ℕ → Bool) (f : ℕ → List ℕ) (rows : List Row) (n count : ℕ) → p count ≡ true → outcomes_from f (with_outcome count (f count) rows) (filter p (counts_from n (count + 1))) ≡ outcomes_from f rows (filter p (counts_from (suc n) count))
more_counts p f rows n count t = rw t refl

passed : (p : ℕ → Bool) (f : ℕ → List ℕ) (rows : List Row) (n count : ℕ) → p count ≡ false → outcomes_from f rows (filter p (counts_from n (count + 1))) ≡ outcomes_from f rows (filter p (counts_from (suc n) count))
passed p f rows n count t = rw t refl

-- a count that is the part's
pub count_taken : (p : ℕ → Bool) (f : ℕ → List ℕ) (rows : List Row) (end count : ℕ) → count < end → p count ≡ true
    → outcomes_from f (with_outcome count (f count) rows) (filter p (counts_from (end - (count + 1)) (count + 1))) ≡ outcomes_from f rows (filter p (counts_from (end - count) count))
count_taken p f rows end count h t = let e : suc (end - (count + 1)) ≡ end - count = omega (arith, h) in more_counts p f rows (end - (count + 1)) count t ∙ ap (λ n. outcomes_from f rows (filter p (counts_from n count))) e

-- one that isn't
pub count_passed : (p : ℕ → Bool) (f : ℕ → List ℕ) (rows : List Row) (end count : ℕ) → count < end → p count ≡ false
    → outcomes_from f rows (filter p (counts_from (end - (count + 1)) (count + 1))) ≡ outcomes_from f rows (filter p (counts_from (end - count) count))
count_passed p f rows end count h t = let e : suc (end - (count + 1)) ≡ end - count = omega (arith, h) in passed p f rows (end - (count + 1)) count t ∙ ap (λ n. outcomes_from f rows (filter p (counts_from n count))) e

-- none is left
pub counts_done : (p : ℕ → Bool) (f : ℕ → List ℕ) (rows : List Row) (end count : ℕ) → end ≤ count → outcomes_from f rows (filter p (counts_from (end - count) count)) ≡ rows
counts_done p f rows end count h = let e : end - count ≡ 0 = omega (arith, h) in rw e refl
