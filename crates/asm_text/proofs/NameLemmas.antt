-- Tables of names.
use Rattle.std.proofs.Common.{◌≡◌, ℕ, suc, ◌+◌, ◌<◌, List, [], ◌∷◌, drop, get_or, length, Option, Some, Bool, true, false, cond, refl, ap, ◌∙◌, arith, drop-cons}
use Rattle.std.specs.Prelude.{◌&&◌, ◌==◌, eqb, nat_lt, IfSome}
use Rattle.std.specs.List.{list_all}
use Rattle.std.proofs.lemmas.Bool.Decides.{nat_tests}
use lib.Pointwise.{pointwise}
use Rattle.asm_text.specs.declared.named.Named.{Named}
use Rattle.asm_text.specs.Names.{is_same_text, Names, number_in, register_of, registers, csr_of, csrs}
use Rattle.asm_text.specs.Tables.{rows_of}

pub both : (a b : Bool) → (a && b) ≡ true → (a ≡ true) × (b ≡ true)
both true b e = (refl, e)
both false b e = cc

-- what == answers of two slices
pub pointwise_same : (s t : List ℕ) → pointwise eqb s t ≡ is_same_text s t
pointwise_same [] [] = refl
pointwise_same [] (c ∷ cs) = refl
pointwise_same (b ∷ bs) [] = refl
pointwise_same (b ∷ bs) (c ∷ cs) = ap (λ x. (b == c) && x) (pointwise_same bs cs)

pub taken : (t : Bool) (x y : Option ℕ) → t ≡ true → cond t x y ≡ x
taken true x y e = refl
taken false x y e = cc

pub left : (t : Bool) (x y : Option ℕ) → t ≡ false → cond t x y ≡ y
left false x y e = refl
left true x y e = cc

-- a table from one of its rows on
pub unrolled : (table : List Named) (i : ℕ) (t : List ℕ) (d : Named) → i < length table
    → number_in (rows_of (drop i table)) t ≡ cond (is_same_text (get_or table i d).name.now t) (Some (get_or table i d).number) (number_in (rows_of (drop (i + 1) table)) t)
unrolled table i t d h =
    let one : suc i ≡ i + 1 = omega arith in
    ap (λ x. number_in (rows_of x) t) (drop-cons table i d h ∙ ap (λ k. get_or table i d ∷ drop k table) one)

-- where each number of a table is below a bound
below_by : (test : Bool) (n bound : ℕ) (rest : Option ℕ) → nat_lt n bound ≡ true → IfSome rest (λ m. m < bound) → IfSome (cond test (Some n) rest) (λ m. m < bound)
below_by true n bound rest h r = let small : n < bound = grind (arith, nat_tests) in small
below_by false n bound rest h r = r

pub numbers_below : (rows : Names) (bound : ℕ) (t : List ℕ) → list_all (λ row. nat_lt row.1 bound) rows ≡ true → IfSome (number_in rows t) (λ m. m < bound)
numbers_below [] bound t e = tt
numbers_below (row ∷ rows) bound t e =
    let split = both (nat_lt row.1 bound) (list_all (λ row. nat_lt row.1 bound) rows) e in
    below_by (is_same_text row.0 t) row.1 bound (number_in rows t) split.0 (numbers_below rows bound t split.1)

pub csrs_below : (t : List ℕ) → IfSome (csr_of t) (λ m. m < 4096)
unfolding csr_of
csrs_below t = numbers_below csrs 4096 t refl
