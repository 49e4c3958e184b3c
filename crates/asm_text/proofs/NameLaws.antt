-- A table of names holds each name once, and its names can be read.
use Rattle.std.proofs.Common.{◌≡◌, ℕ, zero, suc, ◌<◌, List, [], ◌∷◌, length, Option, Some, None, Bool, true, false, cond, refl, sym, ap, ◌∙◌, arith}
use Rattle.std.specs.Prelude.{◌&&◌, ◌==◌, ◌↔◌, Contains, slice_index_or}
use Rattle.std.specs.List.{list_all}
use Rattle.std.proofs.lemmas.Bool.Decides.{nat_tests}
use Rattle.asm_text.specs.Names.{is_same_text, Names, number_in, name_in, register_of, register_name, registers, csr_of, csr_name, csrs}
use Rattle.asm_text.specs.Pieces.{is_name}
use Rattle.asm_text.proofs.NameLemmas.{both}

is_same : (m n : ℕ) → (m == n) ≡ true → m ≡ n
is_same m n e = grind (arith, nat_tests)

abbrev pub is_number : Option ℕ → ℕ → Bool
is_number None n = false
is_number (Some m) n = m == n

pub meant : (o : Option ℕ) (n : ℕ) → is_number o n ≡ true → o ≡ Some n
meant None n e = cc
meant (Some m) n e = ap Some (is_same m n e)

same : (s t : List ℕ) → is_same_text s t ≡ true → s ≡ t
same [] [] e = refl
same [] (c ∷ cs) e = cc
same (b ∷ bs) [] e = cc
same (b ∷ bs) (c ∷ cs) e =
    let split = both (b == c) (is_same_text bs cs) e in
    ap (λ x. x ∷ bs) (is_same b c split.0) ∙ ap (λ xs. c ∷ xs) (same bs cs split.1)

pair_is : (row : List ℕ × ℕ) (t : List ℕ) (n : ℕ) → row.0 ≡ t → row.1 ≡ n → row ≡ (t, n)
pair_is row t n e f =
    let left : List ℕ → List ℕ × ℕ = λ x. (x, row.1) in
    let right : ℕ → List ℕ × ℕ = λ y. (t, y) in
    ap left e ∙ ap right f

later : (row : List ℕ × ℕ) (rows : Names) (x : List ℕ × ℕ) → Contains rows x → Contains (row ∷ rows) x
later row rows x h = (suc h.0, omega (arith, h.1), h.2)

found_by : (test : Bool) (row : List ℕ × ℕ) (rows : Names) (t : List ℕ) (n : ℕ) → (test ≡ true → row.0 ≡ t) → (number_in rows t ≡ Some n → Contains rows (t, n))
    → cond test (Some row.1) (number_in rows t) ≡ Some n → Contains (row ∷ rows) (t, n)
found_by true row rows t n f g e = let number : row.1 ≡ n = cc in (0, omega arith, pair_is row t n (f refl) number)
found_by false row rows t n f g e = later row rows (t, n) (g e)

-- a number that is answered stands beside the name
pub found : (rows : Names) (t : List ℕ) (n : ℕ) → number_in rows t ≡ Some n → Contains rows (t, n)
found [] t n e = cc
found (row ∷ rows) t n e = found_by (is_same_text row.0 t) row rows t n (same row.0 t) (found rows t n) e

passes : (test : List ℕ × ℕ → Bool) (rows : Names) (k : ℕ) (d : List ℕ × ℕ) → list_all test rows ≡ true → k < length rows → test (slice_index_or rows k d) ≡ true
passes test [] k d e h = absurd (omega arith)
passes test (row ∷ rows) zero d e h = (both (test row) (list_all test rows) e).0
passes test (row ∷ rows) (suc k) d e h = passes test rows k d (both (test row) (list_all test rows) e).1 (omega arith)

-- in a table that answers each row's number for its name, what stands beside a name is answered
abbrev pub is_told_apart : Names → Bool
is_told_apart rows = list_all (λ row. is_number (number_in rows row.0) row.1) rows

pub answered : (rows : Names) (t : List ℕ) (n : ℕ) → is_told_apart rows ≡ true → Contains rows (t, n) → number_in rows t ≡ Some n
answered rows t n all h =
    let test : List ℕ × ℕ → Bool = λ row. is_number (number_in rows row.0) row.1 in
    meant (number_in rows t) n (sym (ap test h.2) ∙ passes test rows h.0 (t, n) all h.1)

pub registers_are_told : (t : List ℕ) (r : ℕ) → (register_of t ≡ Some r) ↔ Contains registers (t, r)
unfolding register_of
registers_are_told t r = (found registers t r, answered registers t r refl)

pub csrs_are_told : (t : List ℕ) (n : ℕ) → (csr_of t ≡ Some n) ↔ Contains csrs (t, n)
unfolding csr_of
csrs_are_told t n = (found csrs t n, answered csrs t n refl)

shown_by : (test : List ℕ × ℕ → Bool) (b : Bool) (row : List ℕ × ℕ) (rest : Option (List ℕ)) (t : List ℕ) (n : ℕ) → test row ≡ true → (b ≡ true → n ≡ row.1) → (rest ≡ Some t → test (t, n) ≡ true)
    → cond b (Some row.0) rest ≡ Some t → test (t, n) ≡ true
shown_by test true row rest t n p f g e = let name : row.0 ≡ t = cc in sym (ap test (pair_is row t n name (sym (f refl)))) ∙ p
shown_by test false row rest t n p f g e = g e

-- what is printed for a number is a row
shown : (test : List ℕ × ℕ → Bool) (rows : Names) (t : List ℕ) (n : ℕ) → list_all test rows ≡ true → name_in rows n ≡ Some t → test (t, n) ≡ true
shown test [] t n all e = cc
shown test (row ∷ rows) t n all e =
    let split = both (test row) (list_all test rows) all in
    shown_by test (n == row.1) row (name_in rows n) t n split.0 (is_same n row.1) (shown test rows t n split.1) e

pub csr_again : (t : List ℕ) (n : ℕ) → csr_name n ≡ Some t → (csr_of t ≡ Some n) × (is_name t ≡ true)
unfolding csr_of csr_name
csr_again t n e =
    (meant (number_in csrs t) n (shown (λ row. is_number (number_in csrs row.0) row.1) csrs t n refl e), shown (λ row. is_name row.0) csrs t n refl e)

abbrev pub all_below : ℕ → (ℕ → Bool) → Bool
all_below zero test = true
all_below (suc n) test = test n && all_below n test

other : (bound n : ℕ) → n < suc bound → (n == bound) ≡ false → n < bound
other bound n h f = grind (arith, nat_tests)

at_or : (test : ℕ → Bool) (bound n : ℕ) (b : Bool) → test bound ≡ true → (b ≡ true → n ≡ bound) → (b ≡ false → test n ≡ true) → test n ≡ true
at_or test bound n true p f g = ap test (f refl) ∙ p
at_or test bound n false p f g = g refl

at_below : (bound : ℕ) (test : ℕ → Bool) (n : ℕ) → all_below bound test ≡ true → n < bound → test n ≡ true
at_below zero test n e h = absurd (omega arith)
at_below (suc bound) test n e h =
    let split = both (test bound) (all_below bound test) e in
    at_or test bound n (n == bound) split.0 (is_same n bound) (λ f. at_below bound test n split.1 (other bound n h f))

is_kept : ℕ → Bool
is_kept r = is_number (register_of (register_name r)) r && is_name (register_name r)

all_kept : all_below 32 is_kept ≡ true
unfolding is_kept register_of register_name
all_kept = refl

pub register_again : (r : ℕ) → r < 32 → (register_of (register_name r) ≡ Some r) × (is_name (register_name r) ≡ true)
unfolding is_kept
register_again r h =
    let split = both (is_number (register_of (register_name r)) r) (is_name (register_name r)) (at_below 32 is_kept r all_kept h) in
    (meant (register_of (register_name r)) r split.0, split.1)
