-- What two devices side by side show, by the states that are joined.
use Rattle.std.proofs.Common.{◌≡◌, ℕ, ◌+◌, ◌-◌, ◌^◌, ◌<◌, ◌≤◌, List, [], ◌∷◌, ◌++◌, length, take, min, zero, suc, arith, refl, ap, ◌∙◌}
use Rattle.std.proofs.lemmas.List.{length-append, length-take}
use Rattle.std.specs.List.{slice_get}
use Rattle.device_model.specs.Meanings.{Meanings}
use Rattle.device_model.specs.Both.{joined, side_by_side}
use Rattle.device_model.specs.Sound.Both.{first_joined, second_joined}

-- an element of two lists, one after the other
get_in_first : {A : Type 0} (xs ys : List A) (k : ℕ) → k < length xs → slice_get (xs ++ ys) k ≡ slice_get xs k
get_in_first [] ys k l = absurd (omega arith)
get_in_first (x ∷ xs) ys zero l = refl
get_in_first (x ∷ xs) ys (suc k) l = get_in_first xs ys k (omega arith)

get_in_second : {A : Type 0} (xs ys : List A) (k : ℕ) → length xs ≤ k → slice_get (xs ++ ys) k ≡ slice_get ys (k - length xs)
get_in_second [] ys k l = ap (slice_get ys) (omega arith)
get_in_second (x ∷ xs) ys zero l = absurd (omega arith)
get_in_second (x ∷ xs) ys (suc k) l = get_in_second xs ys k (omega arith) ∙ ap (slice_get ys) (omega arith)

get_in_taken : {A : Type 0} (n : ℕ) (xs : List A) (k : ℕ) → k < n → slice_get (take n xs) k ≡ slice_get xs k
get_in_taken zero xs k l = absurd (omega arith)
get_in_taken (suc n) [] k l = refl
get_in_taken (suc n) (x ∷ xs) zero l = refl
get_in_taken (suc n) (x ∷ xs) (suc k) l = get_in_taken n xs k (omega arith)

-- what two devices show, by the states that are joined
pub both_lines : (a b : Meanings) (x y : List ℕ) → (side_by_side a b).lines (joined x y) ≡ a.lines x ++ b.lines y
both_lines a b x y = rw (first_joined x y, second_joined x y) refl

pub both_output : (a b : Meanings) (x y : List ℕ) → (side_by_side a b).output_of (joined x y) ≡ take (2 ^ 32 - 1) (a.output_of x ++ b.output_of y)
both_output a b x y = rw (first_joined x y, second_joined x y) refl

pub both_line_count : (a b : Meanings) (x y : List ℕ) → length ((side_by_side a b).lines (joined x y)) ≡ length (a.lines x) + length (b.lines y)
both_line_count a b x y = ap length (both_lines a b x y) ∙ length-append (a.lines x) (b.lines y)

pub both_output_count : (a b : Meanings) (x y : List ℕ) → length ((side_by_side a b).output_of (joined x y)) ≡ min (2 ^ 32 - 1) (length (a.output_of x) + length (b.output_of y))
both_output_count a b x y = ap length (both_output a b x y) ∙ simp (length-take, length-append)

pub both_line_first : (a b : Meanings) (x y : List ℕ) (k : ℕ) → k < length (a.lines x) → slice_get ((side_by_side a b).lines (joined x y)) k ≡ slice_get (a.lines x) k
both_line_first a b x y k l = ap (λ zs. slice_get zs k) (both_lines a b x y) ∙ get_in_first (a.lines x) (b.lines y) k l

pub both_line_second : (a b : Meanings) (x y : List ℕ) (k : ℕ) → length (a.lines x) ≤ k → slice_get ((side_by_side a b).lines (joined x y)) k ≡ slice_get (b.lines y) (k - length (a.lines x))
both_line_second a b x y k l = ap (λ zs. slice_get zs k) (both_lines a b x y) ∙ get_in_second (a.lines x) (b.lines y) k l

pub both_output_first : (a b : Meanings) (x y : List ℕ) (k : ℕ) → k < 2 ^ 32 - 1 → k < length (a.output_of x) → slice_get ((side_by_side a b).output_of (joined x y)) k ≡ slice_get (a.output_of x) k
both_output_first a b x y k m l = ap (λ zs. slice_get zs k) (both_output a b x y) ∙ get_in_taken (2 ^ 32 - 1) (a.output_of x ++ b.output_of y) k m ∙ get_in_first (a.output_of x) (b.output_of y) k l

pub both_output_second : (a b : Meanings) (x y : List ℕ) (k : ℕ) → k < 2 ^ 32 - 1 → length (a.output_of x) ≤ k → slice_get ((side_by_side a b).output_of (joined x y)) k ≡ slice_get (b.output_of y) (k - length (a.output_of x))
both_output_second a b x y k m l = ap (λ zs. slice_get zs k) (both_output a b x y) ∙ get_in_taken (2 ^ 32 - 1) (a.output_of x ++ b.output_of y) k m ∙ get_in_second (a.output_of x) (b.output_of y) k l
