-- Texts that are written part by part.
use Rattle.std.proofs.Common.{◌≡◌, ℕ, zero, suc, ◌+◌, ◌<◌, ◌≤◌, List, [], ◌∷◌, ◌++◌, length, drop, true, false, Bool, refl, sym, ap, ◌∙◌, arith, add-one}
use Rattle.std.specs.Prelude.{slice_index}
use Rattle.board_outside.specs.Sink.{SinkView, Writes}
use Rattle.board_outside.proofs.Writing.{then_writes, stops_writing}
use Rattle.lab_trace.specs.Added.{spelled}
use Rattle.lab_trace.proofs.Back.{spelled_one}

left : (i : ℕ) (bs : List ℕ) → i < length bs → spelled (drop i bs) ≡ spelled (slice_index bs i ∷ []) ++ spelled (drop (suc i) bs)
left i [] h = let no : ⊥ = omega (arith, h) in absurd no
left zero (b ∷ bs) h = sym (spelled_one b bs)
left (suc i) (b ∷ bs) h = left i bs (omega (arith, h))

-- a byte is first among those that are left
pub byte_left : (i : ℕ) (bs : List ℕ) → i < length bs → spelled (drop i bs) ≡ spelled (slice_index bs i ∷ []) ++ spelled (drop (i + 1) bs)
byte_left i bs h = left i bs h ∙ ap (λ n. spelled (slice_index bs i ∷ []) ++ spelled (drop n bs)) (sym (add-one i))

pub none_left : (i : ℕ) (bs : List ℕ) → length bs ≤ i → spelled (drop i bs) ≡ []
none_left zero [] h = refl
none_left (suc i) [] h = refl
none_left zero (x ∷ xs) h = let no : ⊥ = omega (arith, h) in absurd no
none_left (suc i) (x ∷ xs) h = none_left i xs (omega (arith, h))

-- ---- four parts

pub first_fails : {o n : SinkView} (a b c d : List ℕ) → Writes false o n a → Writes false o n (a ++ b ++ c ++ d)
first_fails a b c d h = stops_writing d (stops_writing c (stops_writing b h))

pub second_fails : {o m n : SinkView} (a b c d : List ℕ) → Writes true o m a → Writes false m n b → Writes false o n (a ++ b ++ c ++ d)
second_fails a b c d g h = stops_writing d (stops_writing c (then_writes g h))

pub third_fails : {o m k n : SinkView} (a b c d : List ℕ) → Writes true o m a → Writes true m k b → Writes false k n c → Writes false o n (a ++ b ++ c ++ d)
third_fails a b c d f g h = stops_writing d (then_writes (then_writes f g) h)

pub fourth : {r : Bool} {o m k j n : SinkView} (a b c d : List ℕ) → Writes true o m a → Writes true m k b → Writes true k j c → Writes r j n d → Writes r o n (a ++ b ++ c ++ d)
fourth a b c d e f g h = then_writes (then_writes (then_writes e f) g) h
