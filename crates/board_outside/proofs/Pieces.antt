-- A text that a writer takes piece by piece.
use Rattle.std.proofs.Common.{◌≡◌, ℕ, ◌+◌, zero, suc, List, [], ◌∷◌, ◌++◌, take, drop, refl, ap, zero-add, suc-add, sym, Option, length, length-drop, arith, ◌-◌, ◌≤◌}
use Rattle.std.proofs.lemmas.List.{take_all}
use Rattle.std.specs.Io.KnownBytes.{Appends}
use Rattle.board_outside.proofs.Writing.{appends_both}

nothing_taken : (k : ℕ) → take {A = ℕ} k [] ≡ []
nothing_taken zero = refl
nothing_taken (suc k) = refl

take_on : (i k : ℕ) (xs : List ℕ) → take (i + k) xs ≡ take i xs ++ take k (drop i xs)
take_on zero k xs = rw zero-add refl
take_on (suc i) k [] = rw suc-add (sym (nothing_taken k))
take_on (suc i) k (x ∷ xs) = rw suc-add (ap (λ l. x ∷ l) (take_on i k xs))

rest_is_all : (i : ℕ) (xs : List ℕ) → take (length xs - i) (drop i xs) ≡ drop i xs
rest_is_all i xs = take_all (length xs - i) (drop i xs) (omega (arith, length-drop i xs))

-- the first bytes, and then some of the others
pub appends_more : (o m n : Option (List ℕ)) (i k : ℕ) (xs : List ℕ) → Appends o m (take i xs) → Appends m n (take k (take (length xs - i) (drop i xs))) → Appends o n (take (i + k) xs)
appends_more o m n i k xs p q =
    let rest : Appends m n (take k (drop i xs)) = rw (rest_is_all i xs) at q in
    rw (take_on i k xs) (appends_both o m n (take i xs) (take k (drop i xs)) p rest)

-- some of the others end within the text
pub within : (i k : ℕ) (xs : List ℕ) → i ≤ length xs → k ≤ length (take (length xs - i) (drop i xs)) → i + k ≤ length xs
within i k xs inside more = let rest : k ≤ length (drop i xs) = rw (rest_is_all i xs) at more in omega (arith, length-drop i xs, rest)
