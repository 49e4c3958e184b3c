-- Loops over registers, values, stack words and nodes.
use Rattle.std.proofs.Common.{◌≡◌, ℕ, zero, suc, ◌+◌, ◌%◌, ◌<◌, ◌≤◌, ⊎_elim, Bool, true, false, max, List, [], ◌∷◌, length, get_or, drop, Option, Some, None, refl, sym, ap, ap₂, ◌∙◌, subst, arith}
use Rattle.std.specs.Prelude.{◌||◌, ◌&&◌, ◌==◌, not, nat_le}
use Rattle.std.proofs.lemmas.Bool.{cases_eq, and_left, and_right, and_from, and_parts, leb-true}
use Rattle.std.proofs.lemmas.List.{drop_more, drop_all}
use Rattle.chain_flow.specs.declared.region.Region.{Region}
use Rattle.chain_certify.specs.Flow.{Value, Entry, Const, Stack, Range, Unknown, value_of, depth, is_below, are_below, flow_at_start}
use Rattle.chain_certify.specs.Rules.{Next, is_free, is_entry, are_entries, is_bad_pointer, looked}
use Rattle.chain_certify.specs.Check.{Node, node_at, is_covering, are_covered, is_passed, is_good, are_good, depth_of, deepest, is_certificate}

-- ---- registers
pub entries_more : (values : List Value) (r : ℕ) → are_entries values r ≡ true → (is_free r || is_entry r (value_of values r)) ≡ true → are_entries values (r + 1) ≡ true
unfolding are_entries
entries_more values r h e = let next : r + 1 ≡ suc r = omega arith in ap (are_entries values) next ∙ and_from (is_free r || is_entry r (value_of values r)) (are_entries values r) e h

pub entries_fail : (values : List Value) (n r : ℕ) → r < n → (is_free r || is_entry r (value_of values r)) ≡ false → are_entries values n ≡ false
unfolding are_entries
entries_fail values zero r l e = absurd (omega arith)
entries_fail values (suc n) r l e =
    ⊎_elim
    (λ (q : r ≡ n). and_left (is_free n || is_entry n (value_of values n)) (are_entries values n) (subst (λ i. (is_free i || is_entry i (value_of values i)) ≡ false) q e))
    (λ (q : r ≡ n → ⊥). and_right (is_free n || is_entry n (value_of values n)) (are_entries values n) (entries_fail values n r (omega arith) e))
    (cases_eq r n)

-- ---- values
module _ (vs us : List Value) (i : ℕ) (d e : Value) where
  heads : i < length vs → i < length us → are_below (drop i vs) (drop i us) ≡ (is_below (get_or vs i d) (get_or us i e) && are_below (drop (i + 1) vs) (drop (i + 1) us))
  unfolding are_below
  heads l r = ap₂ (λ (xs ys : List Value). are_below xs ys) (drop_more vs i d l) (drop_more us i e r)

  pub below_more : i < length vs → i < length us → is_below (get_or vs i d) (get_or us i e) ≡ true → are_below (drop (i + 1) vs) (drop (i + 1) us) ≡ are_below (drop i vs) (drop i us)
  below_more l r h = sym (heads l r ∙ ap (λ b. b && are_below (drop (i + 1) vs) (drop (i + 1) us)) h)

  pub below_fails : i < length vs → i < length us → is_below (get_or vs i d) (get_or us i e) ≡ false → are_below (drop i vs) (drop i us) ≡ false
  below_fails l r h = heads l r ∙ ap (λ b. b && are_below (drop (i + 1) vs) (drop (i + 1) us)) h

pub below_all : (vs us : List Value) (i : ℕ) → length us ≤ i → are_below (drop i vs) (drop i us) ≡ true
unfolding are_below
below_all vs us i l = ap (λ (ys : List Value). are_below (drop i vs) ys) (drop_all i us l)

-- ---- nodes
pub node_is : (nodes : List Node) (i : ℕ) (d : Node) → i < length nodes → node_at nodes i ≡ Some (get_or nodes i d)
unfolding node_at
node_is [] i d l = absurd (omega arith)
node_is (n ∷ ns) zero d l = refl
node_is (n ∷ ns) (suc i) d l = node_is ns i d (omega arith)

pub no_node : (nodes : List Node) (i : ℕ) → length nodes ≤ i → node_at nodes i ≡ None
unfolding node_at
no_node [] i l = refl
no_node (n ∷ ns) zero l = absurd (omega arith)
no_node (n ∷ ns) (suc i) l = no_node ns i (omega arith)

-- ---- what is covered
abbrev pub no_next : Next
no_next = record { at = 0; flow = record { values = []; words = [] } }

module _ (nodes : List Node) (hints : List ℕ) (next : List Next) (i h : ℕ) (d : Next) where
  covers : i < length hints → i < length next → are_covered nodes (drop i hints) (drop i next) ≡ (is_covering (node_at nodes (get_or hints i h)) (get_or next i d) && are_covered nodes (drop (i + 1) hints) (drop (i + 1) next))
  unfolding are_covered
  covers l r = ap₂ (λ (xs : List ℕ) (ys : List Next). are_covered nodes xs ys) (drop_more hints i h l) (drop_more next i d r)

  pub covered_more : i < length hints → i < length next → is_covering (node_at nodes (get_or hints i h)) (get_or next i d) ≡ true → are_covered nodes (drop (i + 1) hints) (drop (i + 1) next) ≡ are_covered nodes (drop i hints) (drop i next)
  covered_more l r e = sym (covers l r ∙ ap (λ b. b && are_covered nodes (drop (i + 1) hints) (drop (i + 1) next)) e)

  pub covered_fails : i < length hints → i < length next → is_covering (node_at nodes (get_or hints i h)) (get_or next i d) ≡ false → are_covered nodes (drop i hints) (drop i next) ≡ false
  covered_fails l r e = covers l r ∙ ap (λ b. b && are_covered nodes (drop (i + 1) hints) (drop (i + 1) next)) e

  pub no_hint : length hints ≤ i → i < length next → are_covered nodes (drop i hints) (drop i next) ≡ false
  unfolding are_covered
  no_hint l r = ap₂ (λ (xs : List ℕ) (ys : List Next). are_covered nodes xs ys) (drop_all i hints l) (drop_more next i d r)

pub covered_all : (nodes : List Node) (hints : List ℕ) (next : List Next) (i : ℕ) → length next ≤ i → are_covered nodes (drop i hints) (drop i next) ≡ true
unfolding are_covered
covered_all nodes hints next i l = ap (λ (ys : List Next). are_covered nodes (drop i hints) ys) (drop_all i next l)

-- ---- what is good
module _ (code : List ℕ) (region : Region) (all nodes : List Node) (i : ℕ) (d : Node) (l : i < length nodes) where
  goods : are_good code region all (drop i nodes) ≡ (is_good code region all (get_or nodes i d) && are_good code region all (drop (i + 1) nodes))
  unfolding are_good
  goods = ap (λ (ns : List Node). are_good code region all ns) (drop_more nodes i d l)

  pub good_more : is_good code region all (get_or nodes i d) ≡ true → are_good code region all (drop (i + 1) nodes) ≡ are_good code region all (drop i nodes)
  good_more e = sym (goods ∙ ap (λ b. b && are_good code region all (drop (i + 1) nodes)) e)

  pub good_fails : is_good code region all (get_or nodes i d) ≡ false → are_good code region all (drop i nodes) ≡ false
  good_fails e = goods ∙ ap (λ b. b && are_good code region all (drop (i + 1) nodes)) e

pub good_all : (code : List ℕ) (region : Region) (all nodes : List Node) (i : ℕ) → length nodes ≤ i → are_good code region all (drop i nodes) ≡ true
unfolding are_good
good_all code region all nodes i l = ap (λ (ns : List Node). are_good code region all ns) (drop_all i nodes l)

-- ---- the greatest depth
max_moves : (a b c : ℕ) → max (max a b) c ≡ max a (max b c)
max_moves a b c = omega arith

max_last : (a : ℕ) → max a 0 ≡ a
max_last a = omega arith

pub deepest_more : (nodes : List Node) (i greatest : ℕ) (d : Node) → i < length nodes → max (max greatest (depth_of (value_of (get_or nodes i d).flow.values 2))) (deepest (drop (i + 1) nodes)) ≡ max greatest (deepest (drop i nodes))
unfolding deepest
deepest_more nodes i greatest d l =
    max_moves greatest (depth_of (value_of (get_or nodes i d).flow.values 2)) (deepest (drop (i + 1) nodes))
    ∙ sym (ap (λ (ns : List Node). max greatest (deepest ns)) (drop_more nodes i d l))

pub deepest_all : (nodes : List Node) (i greatest : ℕ) → length nodes ≤ i → max greatest (deepest (drop i nodes)) ≡ greatest
unfolding deepest
deepest_all nodes i greatest l = ap (λ (ns : List Node). max greatest (deepest ns)) (drop_all i nodes l) ∙ max_last greatest

-- ---- a pointer that is not bad is at most 4,096 bytes below the start
shallow_by : (a b : Bool) → not (not (a && b)) ≡ true → b ≡ true
shallow_by true true e = refl
shallow_by true false e = absurd cc
shallow_by false b e = absurd cc

shallow : (v : Value) → not (is_bad_pointer v) ≡ true → depth_of v ≤ 4096
shallow (Stack k) e = leb-true (depth k) 4096 (shallow_by (depth k % 4 == 0) (nat_le (depth k) 4096) e)
shallow (Entry r) e = absurd cc
shallow (Const c) e = absurd cc
shallow (Range l g) e = absurd cc
shallow Unknown e = absurd cc

both_small : (a b : ℕ) → a ≤ 4096 → b ≤ 4096 → max a b ≤ 4096
both_small a b l m = omega arith

pub deepest_small : (code : List ℕ) (region : Region) (all nodes : List Node) → are_good code region all nodes ≡ true → deepest nodes ≤ 4096
unfolding are_good deepest
deepest_small code region all [] e = omega arith
deepest_small code region all (n ∷ ns) e =
    let parts = and_parts (is_good code region all n) (are_good code region all ns) e in
    let good = and_parts (not (is_bad_pointer (value_of n.flow.values 2))) (is_passed all n.hints (looked code region n.at n.flow)) parts.0 in
    both_small (depth_of (value_of n.flow.values 2)) (deepest ns) (shallow (value_of n.flow.values 2) good.0) (deepest_small code region all ns parts.1)

pub certificate_small : (code : List ℕ) (handler : ℕ) (region : Region) (nodes : List Node) → is_certificate code handler region nodes ≡ true → deepest nodes ≤ 4096
certificate_small code handler region nodes e =
    deepest_small code region nodes nodes (and_parts (is_covering (node_at nodes 0) (record { at = handler; flow = flow_at_start })) (are_good code region nodes nodes) e).1

pub nothing_covers : (nodes : List Node) (i : ℕ) (next : Next) → length nodes ≤ i → false ≡ is_covering (node_at nodes i) next
nothing_covers nodes i next l = sym (ap (λ (o : Option Node). is_covering o next) (no_node nodes i l))

pub node_covers : (nodes : List Node) (i : ℕ) (d : Node) (next : Next) → i < length nodes → is_covering (Some (get_or nodes i d)) next ≡ is_covering (node_at nodes i) next
node_covers nodes i d next l = sym (ap (λ (o : Option Node). is_covering o next) (node_is nodes i d l))
