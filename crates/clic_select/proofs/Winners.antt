-- The root of the tree is the top, and how nodes are mended.
use Rattle.std.proofs.Common.{◌≡◌, ◌≢◌, ℕ, zero, suc, ◌+◌, ◌-◌, ◌*◌, ◌/◌, ◌%◌, ◌<◌, ◌≤◌, ◌==◌, List, [], ◌∷◌, Bool, true, false, cond, nat_lt, length, get_or, set, get_or-set_other, Option, Some, None, refl, sym, ap, ◌∙◌, arith}
use Rattle.std.proofs.lemmas.Int.Digits.{length-digits_of_step}
use Rattle.std.proofs.lemmas.Bool.{false≢true}
use Rattle.std.proofs.lemmas.Bool.Decides.{nat_tests}
use Rattle.std.proofs.lemmas.Grind.{common_steps, get_or-set_at}
use Rattle.clic_regs.specs.ClicState.{ClicState}
use Rattle.clic_select.specs.declared.choice.Choice.{Choice}
use Rattle.clic_select.specs.Top.{is_waiting, choice_of, IsTop, top}
use Rattle.clic_select.specs.Tree.{beats, winner, node, waiting, IsWinner, IsTree, HasLeaves, binary_digits}
use Rattle.clic_select.proofs.Tops.{not_above_itself, not_both, not_above_the_greater, waits_inside, top_was, no_top}

-- ---- the order of winners

beats_not_itself : (a : Option Choice) → beats a a ≡ false
beats_not_itself None = refl
beats_not_itself (Some a) = not_above_itself a

beats_not_both : (a b : Option Choice) → beats b a ≡ true → beats a b ≡ false
beats_not_both None b h = refl
beats_not_both (Some a) None h = cc
beats_not_both (Some a) (Some b) h = not_both b a h

not_beats : (a b c : Option Choice) → beats a b ≡ false → beats b c ≡ false → beats a c ≡ false
not_beats None b c h k = refl
not_beats (Some a) None c h k = cc
not_beats (Some a) (Some b) None h k = cc
not_beats (Some a) (Some b) (Some c) h k = not_above_the_greater a b c h k

left_by : (a b : Option Choice) (second : Bool) → beats b a ≡ second → beats a (cond second b a) ≡ false
left_by a b true h = beats_not_both a b h
left_by a b false h = beats_not_itself a

right_by : (a b : Option Choice) (second : Bool) → beats b a ≡ second → beats b (cond second b a) ≡ false
right_by a b true h = beats_not_itself b
right_by a b false h = h

-- neither beats the winner
left_loses : (a b : Option Choice) → beats a (winner a b) ≡ false
unfolding winner
left_loses a b = left_by a b (beats b a) refl

right_loses : (a b : Option Choice) → beats b (winner a b) ≡ false
unfolding winner
right_loses a b = right_by a b (beats b a) refl

-- ---- nothing beats the root

child_by : (nodes : List (Option Choice)) (k : ℕ) (even : Bool) → (k % 2 == 0) ≡ even → IsWinner nodes (k / 2) → beats (node nodes k) (node nodes (k / 2)) ≡ false
child_by nodes k true e w =
    let same : k ≡ 2 * (k / 2) = grind (arith, nat_tests) in
    ap (λ j. beats (node nodes j) (node nodes (k / 2))) same ∙ ap (beats (node nodes (2 * (k / 2)))) w ∙ left_loses (node nodes (2 * (k / 2))) (node nodes (2 * (k / 2) + 1))
child_by nodes k false e w =
    let same : k ≡ 2 * (k / 2) + 1 = grind (arith, nat_tests) in
    ap (λ j. beats (node nodes j) (node nodes (k / 2))) same ∙ ap (beats (node nodes (2 * (k / 2) + 1))) w ∙ right_loses (node nodes (2 * (k / 2))) (node nodes (2 * (k / 2) + 1))

unbeaten_by : (n : ℕ) (nodes : List (Option Choice)) (k : ℕ) (one : Bool) → (k == 1) ≡ one → IsTree n nodes → 1 ≤ k → k < 2 * n
    → (1 < k → beats (node nodes (k / 2)) (node nodes 1) ≡ false) → beats (node nodes k) (node nodes 1) ≡ false
unbeaten_by n nodes k true e t l m up =
    let same : k ≡ 1 = grind (arith, nat_tests) in
    ap (λ j. beats (node nodes j) (node nodes 1)) same ∙ beats_not_itself (node nodes 1)
unbeaten_by n nodes k false e t l m up =
    let more : 1 < k = grind (arith, nat_tests) in
    not_beats (node nodes k) (node nodes (k / 2)) (node nodes 1) (child_by nodes k _ refl (t.inner (k / 2) (omega arith) (omega arith))) (up more)

root_unbeaten : (n : ℕ) (nodes : List (Option Choice)) (fuel k : ℕ) → IsTree n nodes → k ≤ fuel → 1 ≤ k → k < 2 * n → beats (node nodes k) (node nodes 1) ≡ false
root_unbeaten n nodes zero k t f l m = absurd (omega arith)
root_unbeaten n nodes (suc fuel) k t f l m = unbeaten_by n nodes k _ refl t l m (λ more. root_unbeaten n nodes fuel (k / 2) t (omega arith) (omega arith) (omega arith))

-- ---- the root is one of the leaves

record IsLeaf (n : ℕ) (nodes : List (Option Choice)) (x : Option Choice) : Type 0 where
  input : ℕ
  inside : input < n
  is : x ≡ node nodes (n + input)

leaf_of_two : (n : ℕ) (nodes : List (Option Choice)) (a b : Option Choice) (second : Bool) → IsLeaf n nodes a → IsLeaf n nodes b → IsLeaf n nodes (cond second b a)
leaf_of_two n nodes a b true p q = q
leaf_of_two n nodes a b false p q = p

leaf_of_winner : (n : ℕ) (nodes : List (Option Choice)) (a b : Option Choice) → IsLeaf n nodes a → IsLeaf n nodes b → IsLeaf n nodes (winner a b)
unfolding winner
leaf_of_winner n nodes a b p q = leaf_of_two n nodes a b (beats b a) p q

same_leaf : (n : ℕ) (nodes : List (Option Choice)) (x y : Option Choice) → x ≡ y → IsLeaf n nodes y → IsLeaf n nodes x
same_leaf n nodes x y e p = record { input = p.input; inside = p.inside; is = e ∙ p.is }

leaf_by : (n : ℕ) (nodes : List (Option Choice)) (k : ℕ) (low : Bool) → nat_lt k n ≡ low → IsTree n nodes → 1 ≤ k → k < 2 * n
    → (k < n → IsLeaf n nodes (node nodes (2 * k))) → (k < n → IsLeaf n nodes (node nodes (2 * k + 1))) → IsLeaf n nodes (node nodes k)
leaf_by n nodes k true e t l m left right =
    let below : k < n = grind (arith, nat_tests) in
    same_leaf n nodes (node nodes k) _ (t.inner k l below) (leaf_of_winner n nodes (node nodes (2 * k)) (node nodes (2 * k + 1)) (left below) (right below))
leaf_by n nodes k false e t l m left right =
    let not_below : n ≤ k = grind (arith, nat_tests) in
    record { input = k - n; inside = omega arith; is = ap (node nodes) (omega arith) }

comes_from : (n : ℕ) (nodes : List (Option Choice)) (fuel k : ℕ) → IsTree n nodes → 2 * n ≤ k + fuel → 1 ≤ k → k < 2 * n → IsLeaf n nodes (node nodes k)
comes_from n nodes zero k t f l m = absurd (omega arith)
comes_from n nodes (suc fuel) k t f l m =
    leaf_by n nodes k _ refl t l m
    (λ below. comes_from n nodes fuel (2 * k) t (omega arith) (omega arith) (omega arith))
    (λ below. comes_from n nodes fuel (2 * k + 1) t (omega arith) (omega arith) (omega arith))

-- ---- the root is the top

waits_is : (c : ClicState) (i : ℕ) → is_waiting c i ≡ true → waiting c i ≡ Some (choice_of c i)
waits_is c i w = rw w refl

-- an input that waits doesn't beat the root
loses : (c : ClicState) (n : ℕ) (nodes : List (Option Choice)) (i : ℕ) → IsTree n nodes → HasLeaves c n nodes → length c.pending ≡ n → is_waiting c i ≡ true → beats (Some (choice_of c i)) (node nodes 1) ≡ false
loses c n nodes i t leaves size w =
    let l : i < n = omega (arith, waits_inside c i w, size) in
    ap (λ x. beats x (node nodes 1)) (sym (leaves i l ∙ waits_is c i w)) ∙ root_unbeaten n nodes (n + i) (n + i) t (omega arith) (omega arith) (omega arith)

none_by_root : (c : ClicState) (n : ℕ) (nodes : List (Option Choice)) (i : ℕ) (w : Bool) → is_waiting c i ≡ w → IsTree n nodes → HasLeaves c n nodes → length c.pending ≡ n → node nodes 1 ≡ None → is_waiting c i ≡ false
none_by_root c n nodes i false e t leaves size root = e
none_by_root c n nodes i true e t leaves size root = absurd (false≢true (sym (ap (beats (Some (choice_of c i))) (sym root) ∙ loses c n nodes i t leaves size e)))

found_by : (c : ClicState) (t : Choice) (i : ℕ) (w : Bool) → is_waiting c i ≡ w → Some t ≡ waiting c i → (t ≡ choice_of c i) × (is_waiting c i ≡ true)
found_by c t i true w e = let same : Some t ≡ Some (choice_of c i) = e ∙ waits_is c i w in (cc same, w)
found_by c t i false w e = let none : waiting c i ≡ None = rw w refl in cc (e, none)

root_is_top : (c : ClicState) (n : ℕ) (nodes : List (Option Choice)) (s : Choice) → IsTree n nodes → HasLeaves c n nodes → length c.pending ≡ n → 1 ≤ n → node nodes 1 ≡ Some s → IsTop c s
root_is_top c n nodes s t leaves size some root =
    let leaf = comes_from n nodes (2 * n) 1 t (omega arith) (omega arith) (omega arith) in
    let found = found_by c s leaf.input _ refl (sym root ∙ leaf.is ∙ leaves leaf.input leaf.inside) in
    let id : s.id ≡ leaf.input = ap (λ x. x.id) found.0 in
    record {
      input = found.0 ∙ ap (choice_of c) (sym id);
      waiting = ap (is_waiting c) id ∙ found.1;
      greatest = λ j w. ap (beats (Some (choice_of c j))) (sym root) ∙ loses c n nodes j t leaves size w;
    }

root_by : (c : ClicState) (n : ℕ) (nodes : List (Option Choice)) (found : Option Choice) → IsTree n nodes → HasLeaves c n nodes → length c.pending ≡ n → 1 ≤ n → node nodes 1 ≡ found → found ≡ top c
root_by c n nodes None t leaves size some root = sym (no_top c (λ i. none_by_root c n nodes i _ refl t leaves size root))
root_by c n nodes (Some s) t leaves size some root = sym (top_was c s (root_is_top c n nodes s t leaves size some root))

pub root_top : (c : ClicState) (n : ℕ) (nodes : List (Option Choice)) → IsTree n nodes → HasLeaves c n nodes → length c.pending ≡ n → 1 ≤ n → node nodes 1 ≡ top c
root_top c n nodes t leaves size some = root_by c n nodes (node nodes 1) t leaves size some refl

-- ---- one node is written

pub kept : (nodes : List (Option Choice)) (k : ℕ) (v : Option Choice) (j : ℕ) → j ≢ k → node (set nodes k v) j ≡ node nodes j
kept nodes k v j other = rw get_or-set_other refl

written : (n : ℕ) (nodes : List (Option Choice)) (k : ℕ) (v : Option Choice) (j : ℕ) → k < n → length nodes ≡ 2 * n → (j ≢ k → IsWinner nodes j) → v ≡ winner (node nodes (2 * k)) (node nodes (2 * k + 1)) → node (set nodes k v) j ≡ winner (node nodes (2 * j)) (node nodes (2 * j + 1))
written n nodes k v j l size right is = grind (arith, common_steps, kept nodes k v j)

same_children : (nodes : List (Option Choice)) (k : ℕ) (v : Option Choice) (j : ℕ) → 2 * j ≢ k → 2 * j + 1 ≢ k → winner (node nodes (2 * j)) (node nodes (2 * j + 1)) ≡ winner (node (set nodes k v) (2 * j)) (node (set nodes k v) (2 * j + 1))
same_children nodes k v j a b = sym (ap (λ x. winner x (node (set nodes k v) (2 * j + 1))) (kept nodes k v (2 * j) a) ∙ ap (winner (node nodes (2 * j))) (kept nodes k v (2 * j + 1) b))

-- on the way from a leaf to the root
pub mend_step : (n : ℕ) (nodes : List (Option Choice)) (k : ℕ) (v : Option Choice) → k < n → length nodes ≡ 2 * n → ((j : ℕ) → 1 ≤ j → j < n → j ≢ k → IsWinner nodes j) → v ≡ winner (node nodes (2 * k)) (node nodes (2 * k + 1)) → (j : ℕ) → 1 ≤ j → j < n → j ≢ k / 2 → IsWinner (set nodes k v) j
mend_step n nodes k v l size right is j a b other = written n nodes k v j l size (right j a b) is ∙ same_children nodes k v j (omega arith) (omega arith)

-- ---- how many nodes stand above a leaf

pub digits_half : (k : ℕ) → 0 < k → binary_digits k ≡ binary_digits (k / 2) + 1
digits_half k some = length-digits_of_step 2 k (omega arith) some

digits_none : binary_digits 0 ≡ 0
digits_none = refl

digits_more_by : (fuel a b : ℕ) → a ≤ b → b ≤ fuel → (some : Bool) → nat_lt 0 a ≡ some → binary_digits a ≤ binary_digits b
digits_more_by fuel a b l m false t = let none : a ≡ 0 = grind (arith, nat_tests) in rw none (omega (arith, digits_none))
digits_more_by zero a b l m true t = let some : 0 < a = grind (arith, nat_tests) in absurd (omega arith)
digits_more_by (suc fuel) a b l m true t =
    let some : 0 < a = grind (arith, nat_tests) in
    let below = digits_more_by fuel (a / 2) (b / 2) (omega arith) (omega arith) _ refl in
    omega (arith, below, digits_half a some, digits_half b (omega arith))

-- a greater number has no fewer
pub digits_more : (a b : ℕ) → a ≤ b → binary_digits a ≤ binary_digits b
digits_more a b l = digits_more_by b a b l (omega arith) _ refl

-- any place that is read past the list's default
get_or_any : (xs : List (Option Choice)) (i : ℕ) (d e : Option Choice) → i < length xs → get_or xs i d ≡ get_or xs i e
get_or_any [] i d e l = absurd (omega arith)
get_or_any (x ∷ xs) zero d e l = refl
get_or_any (x ∷ xs) (suc i) d e l = get_or_any xs i d e (omega arith)

pub root_at : (c : ClicState) (n : ℕ) (nodes : List (Option Choice)) (d : Option Choice) → IsTree n nodes → HasLeaves c n nodes → length c.pending ≡ n → 1 ≤ n → get_or nodes 1 d ≡ top c
root_at c n nodes d t leaves size some = let inside : 1 < length nodes = omega (arith, t.size) in get_or_any nodes 1 d None inside ∙ root_top c n nodes t leaves size some

leaf_set_by : (c : ClicState) (n : ℕ) (nodes new : List (Option Choice)) (i j : ℕ) (v : Option Choice) (same : Bool) → (j == i) ≡ same → i < n → length nodes ≡ 2 * n → v ≡ waiting c i → (j ≢ i → node nodes (n + j) ≡ waiting c j) → node new (n + j) ≡ node (set nodes (i + n) v) (n + j) → node new (n + j) ≡ waiting c j
leaf_set_by c n nodes new i j v true e l size is others left =
    let here : j ≡ i = grind (arith, nat_tests) in
    left ∙ get_or-set_at nodes (i + n) (n + j) v None (omega (arith, here)) (omega (arith, size)) ∙ is ∙ ap (waiting c) (sym here)
leaf_set_by c n nodes new i j v false e l size is others left =
    let other : j ≢ i = grind (arith, nat_tests) in
    left ∙ kept nodes (i + n) v (n + j) (omega (arith, other)) ∙ others other

-- a leaf gets its input
pub leaf_set : (c : ClicState) (n : ℕ) (nodes new : List (Option Choice)) (i : ℕ) (v : Option Choice) → i < n → length nodes ≡ 2 * n → v ≡ waiting c i → ((j : ℕ) → j < n → j ≢ i → node nodes (n + j) ≡ waiting c j) → ((k : ℕ) → n ≤ k → node new k ≡ node (set nodes (i + n) v) k) → HasLeaves c n new
leaf_set c n nodes new i v l size is others left j m = leaf_set_by c n nodes new i j v _ refl l size is (others j m) (left (n + j) (omega arith))
