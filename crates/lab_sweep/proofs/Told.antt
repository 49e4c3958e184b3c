-- The lines of outcomes.
use Rattle.std.proofs.Common.{◌≡◌, ℕ, zero, suc, ◌+◌, ◌≤◌, List, [], ◌∷◌, ◌++◌, length, drop, Some, Bool, true, false, codes, refl, sym, ap, ◌∙◌, arith, add-one}
use Rattle.std.specs.Prelude.{slice_get}
use Rattle.board_outside.specs.Sink.{SinkView, Writes}
use Rattle.board_outside.proofs.Writing.{then_writes, stops_writing}
use Rattle.lab_sweep.specs.Sweep.{Row}
use Rattle.lab_sweep.specs.Texts.{tally_text, row_line, rows_text}

left : (r : Row) (i : ℕ) (rs : List Row) → slice_get rs i ≡ Some r → rows_text (drop i rs) ≡ row_line r ++ rows_text (drop (suc i) rs)
left r zero [] s = cc
left r (suc i) [] s = cc
left r zero (x ∷ xs) s = let same : x ≡ r = cc in rw same refl
left r (suc i) (x ∷ xs) s = left r i xs s

-- a row is first among those that are left
pub row_left : (r : Row) (i : ℕ) (rs : List Row) → slice_get rs i ≡ Some r → rows_text (drop i rs) ≡ row_line r ++ rows_text (drop (i + 1) rs)
row_left r i rs s = left r i rs s ∙ ap (λ n. row_line r ++ rows_text (drop n rs)) (sym (add-one i))

pub none_left : (i : ℕ) (rs : List Row) → length rs ≤ i → rows_text (drop i rs) ≡ []
none_left zero [] h = refl
none_left (suc i) [] h = refl
none_left zero (x ∷ xs) h = let no : ⊥ = omega (arith, h) in absurd no
none_left (suc i) (x ∷ xs) h = none_left i xs (omega (arith, h))

-- ---- one line

pub row_first : (r : Row) (o n : SinkView) → Writes false o n (tally_text r.counts r.first) → Writes false o n (row_line r)
unfolding row_line
row_first r o n h = stops_writing (codes "\n") (stops_writing r.outcome h)

pub row_second : (r : Row) (o m n : SinkView) → Writes true o m (tally_text r.counts r.first) → Writes false m n r.outcome → Writes false o n (row_line r)
unfolding row_line
row_second r o m n g h = stops_writing (codes "\n") (then_writes g h)

pub row_third : (b : Bool) (r : Row) (o m k n : SinkView) → Writes true o m (tally_text r.counts r.first) → Writes true m k r.outcome → Writes b k n (codes "\n") → Writes b o n (row_line r)
unfolding row_line
row_third b r o m k n f g h = then_writes (then_writes f g) h
