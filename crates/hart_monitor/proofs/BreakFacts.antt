-- Breakpoints that are set.
use Rattle.std.proofs.Common.{◌≡◌, ℕ, ◌<◌, ◌≤◌, List, [], ◌∷◌, ◌++◌, length, length-append, Bool, true, false, refl, sym, ◌∙◌, arith, inl, inr}
use Rattle.std.specs.Prelude.{◌==◌, ◌||◌, ◌⊎◌, nat_le}
use Rattle.std.proofs.lemmas.Bool.{eq-eqb, ne_eqb, le-leb, lt-leb, leb-false, false≢true}
use Rattle.std.proofs.lemmas.List.Folds.{list_any-append}
use Rattle.hart_monitor.specs.Breaks.{is_break, with_break_by, with_break}
use Rattle.hart_monitor.specs.declared.breakpoints.TheConstants.{MAX_BREAKS}

or_true : (b : Bool) → (b || (true || false)) ≡ true
or_true true = refl
or_true false = refl

or_false : (b : Bool) → (b || (false || false)) ≡ b
or_false true = refl
or_false false = refl

pushed_stands : (at : ℕ) (breaks : List ℕ) → is_break at (breaks ++ at ∷ []) ≡ true
pushed_stands at breaks = list_any-append (λ b. b == at) breaks (at ∷ []) ∙ rw (eq-eqb at at refl) (or_true (is_break at breaks))

pushed_leaves : (b at : ℕ) (breaks : List ℕ) → ¬ (at ≡ b) → is_break b (breaks ++ at ∷ []) ≡ is_break b breaks
pushed_leaves b at breaks other = list_any-append (λ x. x == b) breaks (at ∷ []) ∙ rw (ne_eqb at b other) (or_false (is_break b breaks))

stands_by : (here full : Bool) (at : ℕ) (breaks : List ℕ) → is_break at breaks ≡ here → nat_le MAX_BREAKS (length breaks) ≡ full → (is_break at breaks ≡ true) ⊎ (length breaks < MAX_BREAKS)
    → is_break at (with_break_by here full at breaks) ≡ true
stands_by true full at breaks is f h = is
stands_by false false at breaks is f h = pushed_stands at breaks
stands_by false true at breaks is f h = elim h [
  | inl e ↦ absurd (false≢true (sym is ∙ e))
  | inr less ↦ absurd (false≢true (sym (lt-leb _ _ less) ∙ f))
]

pub break_stands : (at : ℕ) (breaks : List ℕ) → (is_break at breaks ≡ true) ⊎ (length breaks < MAX_BREAKS) → is_break at (with_break at breaks) ≡ true
unfolding with_break
break_stands at breaks h = stands_by (is_break at breaks) (nat_le MAX_BREAKS (length breaks)) at breaks refl refl h

pub full_stays : (at : ℕ) (breaks : List ℕ) → is_break at breaks ≡ false → MAX_BREAKS ≤ length breaks → with_break at breaks ≡ breaks
unfolding with_break
full_stays at breaks none full = rw (none, le-leb _ _ full) refl

others_by : (here full : Bool) (b at : ℕ) (breaks : List ℕ) → ¬ (at ≡ b) → is_break b (with_break_by here full at breaks) ≡ is_break b breaks
others_by true full b at breaks other = refl
others_by false true b at breaks other = refl
others_by false false b at breaks other = pushed_leaves b at breaks other

pub others_stay : (b at : ℕ) (breaks : List ℕ) → ¬ (at ≡ b) → is_break b (with_break at breaks) ≡ is_break b breaks
unfolding with_break
others_stay b at breaks other = others_by (is_break at breaks) (nat_le MAX_BREAKS (length breaks)) b at breaks other

few_by : (here full : Bool) (at : ℕ) (breaks : List ℕ) → nat_le MAX_BREAKS (length breaks) ≡ full → length breaks ≤ MAX_BREAKS → length (with_break_by here full at breaks) ≤ MAX_BREAKS
few_by true full at breaks f h = h
few_by false true at breaks f h = h
few_by false false at breaks f h = let less = leb-false _ _ f in omega (arith, less, length-append breaks (at ∷ []))

pub few_stand : (at : ℕ) (breaks : List ℕ) → length breaks ≤ MAX_BREAKS → length (with_break at breaks) ≤ MAX_BREAKS
unfolding with_break
few_stand at breaks h = few_by (is_break at breaks) (nat_le MAX_BREAKS (length breaks)) at breaks refl h
