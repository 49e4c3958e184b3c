-- The top is the greatest: by induction on how many inputs were looked at.
use Rattle.std.proofs.Common.{◌≡◌, ◌≢◌, ℕ, zero, suc, ◌<◌, ◌≤◌, ◌==◌, ◌↔◌, ◌&&◌, Bool, true, false, cond, List, [], ◌∷◌, length, get_or, set, Option, Some, None, IfSome, IsNone, refl, sym, ap, ◌∙◌, subst, rules, arith}
use Rattle.std.proofs.lemmas.Bool.{false≢true}
use Rattle.std.proofs.lemmas.Bool.Decides.{nat_tests}
use Rattle.clic_regs.specs.ClicState.{ClicState, is_pending, is_enabled, attribute_of, control_of}
use Rattle.clic_regs.specs.Attribute.{is_edge}
use Rattle.clic_regs.specs.LineChange.{claimed, pending_changed}
use Rattle.clic_regs.specs.Level.{level_of}
use Rattle.clic_regs.proofs.Levels.{level_of-lt}
use Rattle.clic_select.specs.declared.choice.Choice.{Choice}
use Rattle.clic_select.specs.Top.{is_waiting, choice_of, is_greater, IsTop, NoneWaits, greater, greatest_of, top}

-- the order of choices
pub not_above_itself : (a : Choice) → is_greater a a ≡ false
not_above_itself a = grind (arith, nat_tests)

pub not_both : (a b : Choice) → is_greater a b ≡ true → is_greater b a ≡ false
not_both a b h = grind (arith, nat_tests)

pub not_above_the_greater : (a b c : Choice) → is_greater a b ≡ false → is_greater b c ≡ false → is_greater a c ≡ false
not_above_the_greater a b c h k = grind (arith, nat_tests)

same_place : (a b : Choice) → is_greater a b ≡ false → is_greater b a ≡ false → a.id ≡ b.id
same_place a b h k = grind (arith, nat_tests)

-- a fact of each number below suc n
below_by : (P : ℕ → Type 0) (n i : ℕ) (same : Bool) → (i == n) ≡ same → ((k : ℕ) → k < n → P k) → P n → i < suc n → P i
below_by P n i true s below here l = let e : n ≡ i = grind (arith, nat_tests) in subst P e here
below_by P n i false s below here l = let other : i ≢ n = grind (arith, nat_tests) in below i (omega arith)

below_suc : (P : ℕ → Type 0) (n : ℕ) → ((k : ℕ) → k < n → P k) → P n → (i : ℕ) → i < suc n → P i
below_suc P n below here i l = below_by P n i _ refl below here l

-- a choice is the greatest of the first n inputs that wait
record BestOf (c : ClicState) (n : ℕ) (t : Choice) : Type 0 where
  input : t ≡ choice_of c t.id
  waiting : is_waiting c t.id ≡ true
  below : t.id < n
  greatest : (i : ℕ) → i < n → is_waiting c i ≡ true → is_greater (choice_of c i) t ≡ false

abbrev Best : ClicState → ℕ → Option Choice → Type 0
Best c n None = (i : ℕ) → i < n → is_waiting c i ≡ false
Best c n (Some t) = BestOf c n t

-- one more input
step_none : (c : ClicState) (n : ℕ) (waits : Bool) → is_waiting c n ≡ waits → Best c n None → Best c (suc n) (cond waits (Some (choice_of c n)) None)
step_none c n true w h = record {
  input = refl;
  waiting = w;
  below = omega arith;
  greatest = below_suc (λ i. is_waiting c i ≡ true → is_greater (choice_of c i) (choice_of c n) ≡ false) n (λ i l k. let e = h i l in cc) (λ k. not_above_itself (choice_of c n));
}
step_none c n false w h = below_suc (λ i. is_waiting c i ≡ false) n h w

step_some : (c : ClicState) (n : ℕ) (t : Choice) (waits above : Bool) → is_waiting c n ≡ waits → is_greater t (choice_of c n) ≡ above → BestOf c n t → Best c (suc n) (cond waits (Some (cond above t (choice_of c n))) (Some t))
step_some c n t false above w g b = record {
  input = b.input;
  waiting = b.waiting;
  below = omega arith;
  greatest = below_suc (λ i. is_waiting c i ≡ true → is_greater (choice_of c i) t ≡ false) n b.greatest (λ k. cc);
}
step_some c n t true true w g b = record {
  input = b.input;
  waiting = b.waiting;
  below = omega arith;
  greatest = below_suc (λ i. is_waiting c i ≡ true → is_greater (choice_of c i) t ≡ false) n b.greatest (λ k. not_both t (choice_of c n) g);
}
step_some c n t true false w g b = record {
  input = refl;
  waiting = w;
  below = omega arith;
  greatest = below_suc (λ i. is_waiting c i ≡ true → is_greater (choice_of c i) (choice_of c n) ≡ false) n (λ i l k. not_above_the_greater (choice_of c i) t (choice_of c n) (b.greatest i l k) g) (λ k. not_above_itself (choice_of c n));
}

step : (c : ClicState) (n : ℕ) (best : Option Choice) → Best c n best → Best c (suc n) (cond (is_waiting c n) (Some (greater best (choice_of c n))) best)
step c n None h = step_none c n _ refl h
step c n (Some t) b = step_some c n t _ _ refl refl b

best_of_first : (c : ClicState) (n : ℕ) → Best c n (greatest_of c n)
unfolding greatest_of
best_of_first c zero = λ i l. absurd (omega arith)
best_of_first c (suc n) = step c n (greatest_of c n) (best_of_first c n)

best_of_all : (c : ClicState) → Best c (length c.pending) (top c)
unfolding top
best_of_all c = best_of_first c (length c.pending)

-- an input that waits is one of those that there are
inside : (xs : List Bool) (i : ℕ) → get_or xs i false ≡ true → i < length xs
inside [] i h = absurd (false≢true h)
inside (x ∷ xs) zero h = omega arith
inside (x ∷ xs) (suc i) h = let l : i < length xs = inside xs i h in omega arith

both_left : (x y : Bool) → (x && y) ≡ true → x ≡ true
both_left true y h = refl
both_left false y h = h

pub waits_inside : (c : ClicState) (i : ℕ) → is_waiting c i ≡ true → i < length c.pending
waits_inside c i h = inside c.pending i (both_left (is_pending c i) (is_enabled c i) h)

-- two tops are one
pub one_top : (c : ClicState) (s t : Choice) → IsTop c s → IsTop c t → s ≡ t
one_top c s t a b =
    let st : is_greater s t ≡ false = ap (λ x. is_greater x t) a.input ∙ b.greatest s.id a.waiting in
    let ts : is_greater t s ≡ false = ap (λ x. is_greater x s) b.input ∙ a.greatest t.id b.waiting in
    a.input ∙ ap (choice_of c) (same_place s t st ts) ∙ sym b.input

-- the top is one, and below the number of inputs
best_is_top : (c : ClicState) (t : Choice) → BestOf c (length c.pending) t → IsTop c t
best_is_top c t b = record {
  input = b.input;
  waiting = b.waiting;
  greatest = λ i w. b.greatest i (waits_inside c i w) w;
}

pub top_is : (c : ClicState) (t : Choice) → top c ≡ Some t → IsTop c t
top_is c t e = best_is_top c t (subst (Best c (length c.pending)) e (best_of_all c))

pub top_id-lt : (c : ClicState) (t : Choice) → top c ≡ Some t → t.id < length c.pending
top_id-lt c t e = let b : BestOf c (length c.pending) t = subst (Best c (length c.pending)) e (best_of_all c) in b.below

waits_by : (c : ClicState) (i : ℕ) (waits : Bool) → is_waiting c i ≡ waits → Best c (length c.pending) None → is_waiting c i ≡ false
waits_by c i false w h = w
waits_by c i true w h = w ∙ sym w ∙ h i (waits_inside c i w)

pub none_waits : (c : ClicState) → top c ≡ None → NoneWaits c
none_waits c e i = waits_by c i _ refl (subst (Best c (length c.pending)) e (best_of_all c))

top_by : (c : ClicState) (t : Choice) (found : Option Choice) → top c ≡ found → IsTop c t → found ≡ Some t
top_by c t None e h = absurd (false≢true (sym (none_waits c e t.id) ∙ h.waiting))
top_by c t (Some s) e h = ap (λ x. Some x) (one_top c s t (top_is c s e) h)

pub top_was : (c : ClicState) (t : Choice) → IsTop c t → top c ≡ Some t
top_was c t h = top_by c t (top c) refl h

none_by : (c : ClicState) (found : Option Choice) → top c ≡ found → NoneWaits c → found ≡ None
none_by c None e h = refl
none_by c (Some t) e h = absurd (false≢true (sym (h t.id) ∙ (top_is c t e).waiting))

pub no_top : (c : ClicState) → NoneWaits c → top c ≡ None
no_top c h = none_by c (top c) refl h

-- a claim makes nothing wait
was_set : (xs : List Bool) (i j : ℕ) → get_or (set xs i false) j false ≡ true → get_or xs j false ≡ true
was_set [] i j h = h
was_set (x ∷ xs) zero zero h = absurd (false≢true h)
was_set (x ∷ xs) zero (suc j) h = h
was_set (x ∷ xs) (suc i) zero h = h
was_set (x ∷ xs) (suc i) (suc j) h = was_set xs i j h

both_before : (x y e : Bool) → (x ≡ true → y ≡ true) → (x && e) ≡ true → (y && e) ≡ true
both_before true y e h k = ap (λ b. b && e) (h refl) ∙ k
both_before false y e h k = absurd (false≢true k)

waits_by_edge : (c : ClicState) (i j : ℕ) (edge : Bool) → is_waiting (cond edge (record c { pending = set c.pending i false }) c) j ≡ true → is_waiting c j ≡ true
waits_by_edge c i j true h = both_before (get_or (set c.pending i false) j false) (is_pending c j) (is_enabled c j) (was_set c.pending i j) h
waits_by_edge c i j false h = h

waits_before : (c : ClicState) (i j : ℕ) → is_waiting (claimed c i) j ≡ true → is_waiting c j ≡ true
unfolding pending_changed
waits_before c i j h = waits_by_edge c i j (is_edge (attribute_of c i)) h

-- nor does it change a choice
choice_by_edge : (c : ClicState) (i j : ℕ) (edge : Bool) → choice_of (cond edge (record c { pending = set c.pending i false }) c) j ≡ choice_of c j
choice_by_edge c i j true = refl
choice_by_edge c i j false = refl

choice_of-claimed : (c : ClicState) (i j : ℕ) → choice_of (claimed c i) j ≡ choice_of c j
unfolding pending_changed
choice_of-claimed c i j = choice_by_edge c i j (is_edge (attribute_of c i))

-- once the top is claimed, nothing that waits is greater
pub claimed_order : (c : ClicState) (t u : Choice) → top c ≡ Some t → top (claimed c t.id) ≡ Some u → is_greater u t ≡ false
claimed_order c t u e f =
    let b = top_is (claimed c t.id) u f in
    ap (λ x. is_greater x t) (b.input ∙ choice_of-claimed c t.id u.id) ∙ (top_is c t e).greatest u.id (waits_before c t.id u.id b.waiting)

not_above : (a b : Choice) → is_greater a b ≡ false → a.level ≤ b.level
not_above a b h = grind (arith, nat_tests)

-- nor has a higher level
pub claimed_level : (c : ClicState) (t u : Choice) → top c ≡ Some t → top (claimed c t.id) ≡ Some u → u.level ≤ t.level
claimed_level c t u e f = not_above u t (claimed_order c t u e f)

-- the level of the top is a byte
pub top_level-lt : (c : ClicState) (t : Choice) → c.nlbits ≤ 8 → ((i : ℕ) → control_of c i < 256) → top c ≡ Some t → t.level < 256
top_level-lt c t few small e = let same : t.level ≡ level_of c t.id = ap (λ x. x.level) (top_is c t e).input in rw same (level_of-lt c t.id few (small t.id))

-- what is equal to the top, as an answer
pub found_top : (c : ClicState) (found : Option Choice) → found ≡ top c → IfSome found (IsTop c)
found_top c None e = tt
found_top c (Some t) e = top_is c t (sym e)

pub found_none : (c : ClicState) (found : Option Choice) → found ≡ top c → IsNone found ↔ NoneWaits c
found_none c None e = (λ h. none_waits c (sym e), λ h. search rules)
found_none c (Some t) e = (λ h. absurd (search rules), λ h. let none = no_top c h in cc)

pub found_below : (c : ClicState) (found : Option Choice) (n m : ℕ) → found ≡ top c → length c.pending ≡ n → n ≤ m → IfSome found (λ t. t.id < m)
found_below c None n m e l k = tt
found_below c (Some t) n m e l k = omega (arith, top_id-lt c t (sym e))
