-- Reading one byte after the other.
use Rattle.std.proofs.Common.{◌≡◌, ℕ, suc, ◌+◌, ◌<◌, List, [], ◌∷◌, ◌++◌, length, drop, get_or, Result, Ok, Err, refl, ap, ◌∙◌, arith, add_assoc}
use Rattle.std.proofs.lemmas.List.{drop_more}
use Rattle.mem_text.specs.Reading.{Fault, State, on_with, step, reads, whole, ended}
use Rattle.mem_text.specs.Standing.{Fails}
use Rattle.mem_text.specs.declared.mem_error.MemError.{MemError}
use Rattle.mem_text.specs.declared.mem_error.MemError.TheVariants.{Memory, Refused}

-- reading on from here gives what reading all gives
pub record ReadsOn (place : ℕ) (start : State) (bytes : List ℕ) (i : ℕ) (now : State) : Type 0 where
  pub same : reads place start bytes ≡ reads (place + i) now (drop i bytes)

next_byte : (bytes : List ℕ) (i : ℕ) → i < length bytes → drop i bytes ≡ get_or bytes i 0 ∷ drop (i + 1) bytes
next_byte bytes i h = drop_more bytes i 0 h

pub onward : (place : ℕ) (start now next : State) (bytes : List ℕ) (i : ℕ) → i < length bytes → ReadsOn place start bytes i now
    → step (place + i) now (get_or bytes i 0) ≡ Ok next → ReadsOn place start bytes (i + 1) next
onward place start now next bytes i lt h e = record {
  same = h.same ∙ (rw (next_byte bytes i lt, e) (ap (λ k. reads k next (drop (i + 1) bytes)) (add_assoc place i 1)));
}

pub fails : (e : MemError) (place : ℕ) (start now : State) (bytes : List ℕ) (i : ℕ) → i < length bytes → ReadsOn place start bytes i now
    → Fails e (step (place + i) now (get_or bytes i 0)) → Fails e (reads place start bytes)
fails Memory place start now bytes i lt h f = tt
fails (Refused at why) place start now bytes i lt h f = h.same ∙ (rw (next_byte bytes i lt, f) refl)

-- one piece after the other
append_step : (r : Result State Fault) (place : ℕ) (xs b : List ℕ)
    → ((t : State) → reads (place + 1) t (xs ++ b) ≡ on_with (reads (place + 1) t xs) (λ u. reads (place + 1 + length xs) u b))
    → on_with r (λ t. reads (place + 1) t (xs ++ b)) ≡ on_with (on_with r (λ t. reads (place + 1) t xs)) (λ u. reads (place + suc (length xs)) u b)
append_step (Err e) place xs b h = refl
append_step (Ok t) place xs b h =
    let k : place + 1 + length xs ≡ place + suc (length xs) = omega arith in
    h t ∙ ap (λ n. on_with (reads (place + 1) t xs) (λ u. reads n u b)) k

pub reads-append : (a b : List ℕ) (place : ℕ) (s : State) → reads place s (a ++ b) ≡ on_with (reads place s a) (λ t. reads (place + length a) t b)
reads-append [] b place s = let k : place ≡ place + 0 = omega arith in ap (λ n. reads n s b) k
reads-append (x ∷ xs) b place s = append_step (step place s x) place xs b (λ t. reads-append xs b (place + 1) t)

-- the bytes and then the end
whole_step : (r : Result State Fault) (place : ℕ) (xs : List ℕ)
    → ((t : State) → whole (place + 1) t xs ≡ on_with (reads (place + 1) t xs) (λ u. ended (place + 1 + length xs) u))
    → on_with r (λ t. whole (place + 1) t xs) ≡ on_with (on_with r (λ t. reads (place + 1) t xs)) (λ u. ended (place + suc (length xs)) u)
whole_step (Err e) place xs h = refl
whole_step (Ok t) place xs h =
    let k : place + 1 + length xs ≡ place + suc (length xs) = omega arith in
    h t ∙ ap (λ n. on_with (reads (place + 1) t xs) (λ u. ended n u)) k

pub whole-reads : (bytes : List ℕ) (place : ℕ) (s : State) → whole place s bytes ≡ on_with (reads place s bytes) (λ t. ended (place + length bytes) t)
whole-reads [] place s = let k : place ≡ place + 0 = omega arith in ap (λ n. ended n s) k
whole-reads (x ∷ xs) place s = whole_step (step place s x) place xs (λ t. whole-reads xs (place + 1) t)

more_step : (r : Result State Fault) (place : ℕ) (xs b : List ℕ)
    → ((t : State) → whole (place + 1) t (xs ++ b) ≡ on_with (reads (place + 1) t xs) (λ u. whole (place + 1 + length xs) u b))
    → on_with r (λ t. whole (place + 1) t (xs ++ b)) ≡ on_with (on_with r (λ t. reads (place + 1) t xs)) (λ u. whole (place + suc (length xs)) u b)
more_step (Err e) place xs b h = refl
more_step (Ok t) place xs b h =
    let k : place + 1 + length xs ≡ place + suc (length xs) = omega arith in
    h t ∙ ap (λ n. on_with (reads (place + 1) t xs) (λ u. whole n u b)) k

-- what is read so far, and then the rest
pub whole-append : (a b : List ℕ) (place : ℕ) (s : State) → whole place s (a ++ b) ≡ on_with (reads place s a) (λ t. whole (place + length a) t b)
whole-append [] b place s = let k : place ≡ place + 0 = omega arith in ap (λ n. whole n s b) k
whole-append (x ∷ xs) b place s = more_step (step place s x) place xs b (λ t. whole-append xs b (place + 1) t)
