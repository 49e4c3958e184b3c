-- The sum over a table, row by row.
use Rattle.std.proofs.Common.{◌≡◌, ℕ, ◌+◌, ◌*◌, ◌^◌, ◌<◌, ◌≤◌, cond, List, [], ◌∷◌, length, get_or, drop, ap, ◌∙◌, arith}
use Rattle.std.specs.Prelude.{nat_le}
use Rattle.std.proofs.lemmas.Bool.{le-leb, lt-leb}
use Rattle.std.proofs.lemmas.List.{drop_more, drop_all}
use Rattle.chain_time.specs.Counts.{Timed, worth, time_of}

times_mono : (n k c : ℕ) → n ≤ k → n * c ≤ k * c
times_mono n k c l = grind arith

pub product_small : (c p : ℕ) → c < 2 ^ 16 → p ≤ 65536 → c * (14 + p + 16) ≤ 2 ^ 33
product_small c p l s = let a = times_mono c (2 ^ 16) (14 + p + 16) (omega arith) in omega arith

pub one_row : (r : Timed) (rs : List Timed) (level : ℕ) → time_of (r ∷ rs) level ≡ time_of (r ∷ []) level + time_of rs level
unfolding time_of
one_row r rs level = omega arith

pub row_on : (list : List Timed) (level i : ℕ) (d : Timed) → i < length list → time_of (drop i list) level ≡ time_of (get_or list i d ∷ []) level + time_of (drop (i + 1) list) level
row_on list level i d l = ap (λ rs. time_of rs level) (drop_more list i d l) ∙ one_row (get_or list i d) (drop (i + 1) list) level

pub row_end : (list : List Timed) (level i : ℕ) → length list ≤ i → time_of (drop i list) level ≡ 0
unfolding time_of
row_end list level i l = ap (λ rs. time_of rs level) (drop_all i list l)

pub next_sum : (list : List Timed) (level i sum x : ℕ) (d : Timed) → x ≡ time_of (get_or list i d ∷ []) level → i < length list → sum + time_of (drop i list) level ≡ time_of list level → sum + x + time_of (drop (i + 1) list) level ≡ time_of list level
next_sum list level i sum x d e l h = let o = row_on list level i d l in omega arith

pub row_counts : (r : Timed) (level : ℕ) → level ≤ r.level → time_of (r ∷ []) level ≡ r.count * worth r
unfolding time_of
row_counts r level l = let e : cond (nat_le level r.level) (r.count * worth r) 0 ≡ r.count * worth r = ap (λ b. cond b (r.count * worth r) 0) (le-leb level r.level l) in omega arith

pub row_less : (r : Timed) (level : ℕ) → r.level < level → time_of (r ∷ []) level ≡ 0
unfolding time_of
row_less r level l = let e : cond (nat_le level r.level) (r.count * worth r) 0 ≡ 0 = ap (λ b. cond b (r.count * worth r) 0) (lt-leb level r.level l) in omega arith
