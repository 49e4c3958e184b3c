-- Where no call that is still to come is to fail, this one isn't, and it stays so.
use Rattle.std.proofs.Common.{◌≡◌, ℕ, ◌≤◌, List, [], ◌∷◌, Bool, true, false, ◌&&◌, nat_eq, nat_lt, refl, arith}
use Rattle.std.specs.List.{list_any, list_all}
use Rattle.std.proofs.lemmas.Bool.Decides.{nat_tests}
use Rattle.board_outside.specs.Counts.{counted}

both_true : (a b : Bool) → (a && b) ≡ true → (a ≡ true) × (b ≡ true)
both_true true true p = (refl, refl)
both_true true false p = (refl, p)
both_true false b p = (p, cc)

pub not_among : (calls : List ℕ) (n : ℕ) → list_all (λ call. nat_lt call n) calls ≡ true → list_any (λ call. nat_eq call n) calls ≡ false
not_among [] n h = refl
not_among (x ∷ xs) n h =
    let parts = both_true (nat_lt x n) (list_all (λ call. nat_lt call n) xs) h in
    let here : nat_lt x n ≡ true = parts.0 in
    let other : nat_eq x n ≡ false = grind (arith, nat_tests) in
    rw other (not_among xs n parts.1)

pub all_below : (calls : List ℕ) (n m : ℕ) → n ≤ m → list_all (λ call. nat_lt call n) calls ≡ true → list_all (λ call. nat_lt call m) calls ≡ true
all_below [] n m le h = refl
all_below (x ∷ xs) n m le h =
    let parts = both_true (nat_lt x n) (list_all (λ call. nat_lt call n) xs) h in
    let here : nat_lt x n ≡ true = parts.0 in
    let below : nat_lt x m ≡ true = grind (arith, nat_tests) in
    rw below (all_below xs n m le parts.1)

-- at the next call
pub one_more : (failing : List ℕ) (made now : ℕ) → now ≡ counted made → list_all (λ call. nat_lt call (counted made)) failing ≡ true
    → (list_any (λ call. nat_eq call now) failing ≡ false) × (list_all (λ call. nat_lt call (counted now)) failing ≡ true)
one_more failing made now is none = rw is (not_among failing (counted made) none, all_below failing (counted made) (counted (counted made)) (omega arith) none)
