-- What an accepted certificate says of its nodes.
use Rattle.std.proofs.Common.{◌≡◌, ℕ, zero, suc, ◌≤◌, ⊎_elim, Bool, true, false, cond, max, List, [], ◌∷◌, Option, Some, None, refl, ◌∙◌, subst, arith}
use Rattle.std.specs.Prelude.{◌==◌, not}
use Rattle.std.proofs.lemmas.Bool.{and_parts, eqb-true, not-true, false≢true}
use Rattle.chain_flow.specs.declared.region.Region.{Region}
use Rattle.chain_certify.specs.Flow.{value_of, flow_below, flow_at_start}
use Rattle.chain_certify.specs.Rules.{Next, Looked, Refused, Passed, looked, is_bad_pointer}
use Rattle.chain_certify.specs.Check.{Node, node_at, is_covering, are_covered, is_passed, is_good, are_good, depth_of, deepest, is_certificate, checked}
use Rattle.chain_certify.proofs.Handlers.{Knows, knows_below, Lands}
use Rattle.chain_certify.proofs.Services.{IsInCode}

-- a node that is good: its pointer, and where its instruction goes on
pub record IsGood (code : List ℕ) (region : Region) (nodes : List Node) (n : Node) : Type 0 where
  pub pointer : is_bad_pointer (value_of n.flow.values 2) ≡ false
  pub next : List Next
  pub passes : looked code region n.at n.flow ≡ Passed next
  pub covered : are_covered nodes n.hints next ≡ true

good_by : (code : List ℕ) (region : Region) (nodes : List Node) (n : Node) (l : Looked) → is_bad_pointer (value_of n.flow.values 2) ≡ false → looked code region n.at n.flow ≡ l → is_passed nodes n.hints l ≡ true → IsGood code region nodes n
good_by code region nodes n (Refused why) p e c = absurd (false≢true c)
good_by code region nodes n (Passed next) p e c = record { pointer = p; next = next; passes = e; covered = c }

good_of : (code : List ℕ) (region : Region) (nodes : List Node) (n : Node) → is_good code region nodes n ≡ true → IsGood code region nodes n
good_of code region nodes n e =
    let parts = and_parts (not (is_bad_pointer (value_of n.flow.values 2))) (is_passed nodes n.hints (looked code region n.at n.flow)) e in
    good_by code region nodes n (looked code region n.at n.flow) (not-true (is_bad_pointer (value_of n.flow.values 2)) parts.0) refl parts.1

some_is : (a b : Node) → Some a ≡ Some b → a ≡ b
some_is a b e = cc

good_at : (code : List ℕ) (region : Region) (all nodes : List Node) (i : ℕ) (n : Node) → are_good code region all nodes ≡ true → node_at nodes i ≡ Some n → IsGood code region all n
unfolding are_good node_at
good_at code region all [] i n e h = absurd cc
good_at code region all (x ∷ xs) zero n e h = subst (λ (y : Node). IsGood code region all y) (some_is x n h) (good_of code region all x (and_parts (is_good code region all x) (are_good code region all xs) e).0)
good_at code region all (x ∷ xs) (suc i) n e h = good_at code region all xs i n (and_parts (is_good code region all x) (are_good code region all xs) e).1 h

deep_at : (nodes : List Node) (i : ℕ) (n : Node) → node_at nodes i ≡ Some n → depth_of (value_of n.flow.values 2) ≤ deepest nodes
unfolding node_at deepest
deep_at [] i n h = absurd cc
deep_at (x ∷ xs) zero n h = subst (λ (y : Node). depth_of (value_of y.flow.values 2) ≤ max (depth_of (value_of x.flow.values 2)) (deepest xs)) (some_is x n h) (omega arith)
deep_at (x ∷ xs) (suc i) n h = let j = deep_at xs i n h in omega arith

-- ---- an accepted certificate
pub record IsCertified (code : List ℕ) (handler : ℕ) (region : Region) (nodes : List Node) (uses : ℕ) : Type 0 where
  pub first : is_covering (node_at nodes 0) (record { at = handler; flow = flow_at_start }) ≡ true
  pub good : (i : ℕ) (n : Node) → node_at nodes i ≡ Some n → IsGood code region nodes n
  pub deep : (i : ℕ) (n : Node) → node_at nodes i ≡ Some n → depth_of (value_of n.flow.values 2) ≤ uses

certified_by : (code : List ℕ) (handler : ℕ) (region : Region) (nodes : List Node) (uses : ℕ) (b : Bool) → is_certificate code handler region nodes ≡ b → cond b (Some (deepest nodes)) None ≡ Some uses → IsCertified code handler region nodes uses
certified_by code handler region nodes uses false e c = absurd cc
certified_by code handler region nodes uses true e c =
    let parts = and_parts (is_covering (node_at nodes 0) (record { at = handler; flow = flow_at_start })) (are_good code region nodes nodes) e in
    let same : deepest nodes ≡ uses = cc in
    record { first = parts.0; good = λ i n h. good_at code region nodes nodes i n parts.1 h; deep = λ i n h. subst (λ u. depth_of (value_of n.flow.values 2) ≤ u) same (deep_at nodes i n h) }

pub certified : (code : List ℕ) (handler : ℕ) (region : Region) (nodes : List Node) (uses : ℕ) → checked code handler region nodes ≡ Some uses → IsCertified code handler region nodes uses
unfolding checked
certified code handler region nodes uses e = certified_by code handler region nodes uses (is_certificate code handler region nodes) refl e

-- ---- what is covered
covered_by : (nodes : List Node) (kept : List ℕ) (frame : ℕ) (registers ram : List ℕ) (dead : List Bool) (pc i : ℕ) (next : Next) (o : Option Node) → node_at nodes i ≡ o → is_covering o next ≡ true → next.at ≡ pc → Knows kept frame registers ram dead next.flow
    → IsInCode nodes kept frame registers pc ram dead
covered_by nodes kept frame registers ram dead pc i next None e c a k = absurd (false≢true c)
covered_by nodes kept frame registers ram dead pc i next (Some n) e c a k =
    let parts = and_parts (n.at == next.at) (flow_below next.flow n.flow) c in
    record { place = i; node = n; is_there = e; at = eqb-true n.at next.at parts.0 ∙ a; knows = knows_below kept frame registers ram dead next.flow n.flow parts.1 k }

pub starts_in : (nodes : List Node) (kept : List ℕ) (frame : ℕ) (registers ram : List ℕ) (dead : List Bool) (pc handler : ℕ) → is_covering (node_at nodes 0) (record { at = handler; flow = flow_at_start }) ≡ true → handler ≡ pc → Knows kept frame registers ram dead flow_at_start
    → IsInCode nodes kept frame registers pc ram dead
starts_in nodes kept frame registers ram dead pc handler c a k = covered_by nodes kept frame registers ram dead pc 0 (record { at = handler; flow = flow_at_start }) (node_at nodes 0) refl c a k

pub lands_in : (nodes : List Node) (kept : List ℕ) (frame : ℕ) (registers ram : List ℕ) (dead : List Bool) (pc : ℕ) (hints : List ℕ) (next : List Next) → are_covered nodes hints next ≡ true → Lands kept frame registers ram dead pc next
    → IsInCode nodes kept frame registers pc ram dead
unfolding are_covered
lands_in nodes kept frame registers ram dead pc hints [] c l = absurd l
lands_in nodes kept frame registers ram dead pc [] (n ∷ ns) c l = absurd (false≢true c)
lands_in nodes kept frame registers ram dead pc (h ∷ hs) (n ∷ ns) c l =
    let parts = and_parts (is_covering (node_at nodes h) n) (are_covered nodes hs ns) c in
    ⊎_elim
    (λ (here : (n.at ≡ pc) × Knows kept frame registers ram dead n.flow). covered_by nodes kept frame registers ram dead pc h n (node_at nodes h) refl parts.0 here.0 here.1)
    (λ (there : Lands kept frame registers ram dead pc ns). lands_in nodes kept frame registers ram dead pc hs ns parts.1 there)
    l
