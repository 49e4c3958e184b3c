-- A device of word registers meets what a device meets, where each row of its tables does.
use Rattle.std.proofs.Common.{◌≡◌, ◌≢◌, ℕ, ◌*◌, ◌^◌, ◌<◌, ◌⊎◌, List, [], ◌∷◌, Option, None, Some, Bool, true, false, cond, unwrap_or, arith, refl, ap, sym, subst, inl, inr}
use Rattle.std.specs.Prelude.{◌==◌}
use Rattle.std.proofs.lemmas.Bool.Decides.{nat_tests, eqb_tells}
use Rattle.device_model.specs.declared.stimulus.Stimulus.{Stimulus}
use Rattle.device_model.specs.Stimulus.{IsStimulus}
use Rattle.device_model.specs.Meanings.{Keeps, IsInside, IsSound}
use Rattle.device_model.specs.WordRegisters.{row_at, word_at, WordRegisters, word_device}
use Rattle.device_model.specs.Sound.Window.{keeps_same}

-- P holds of each row, its offset and what it holds
abbrev pub EachRow : {A : Type 0} → (ℕ → A → Type 0) → List (ℕ × A) → Type 0
EachRow P [] = Unit {0}
EachRow P (row ∷ rows) = P row.0 row.1 × EachRow P rows

-- what is shown of one row in two parts, and of the rows below it
pub row : {A B C : Type 0} → A → B → C → (A × B) × C
row a b below = ((a, b), below)

-- at a row, what is found is here where its test passed, and else later
at_row : {A : Type 0} (P : ℕ → A → Type 0) (test : Bool) (at offset : ℕ) (held found : A) (rest : Option A) → ((test ≡ true) × (at ≡ offset)) ⊎ ((test ≡ false) × (at ≢ offset)) → P offset held → (rest ≡ Some found → P at found) → cond test (Some held) rest ≡ Some found → P at found
at_row P true at offset held found rest tells here later e =
    let same : at ≡ offset = elim tells [ inl t ↦ t.1 | inr t ↦ absurd (cc) ] in
    let found_here : held ≡ found = cc in
    subst (λ x. P x found) (sym same) (subst (λ x. P offset x) found_here here)
at_row P false at offset held found rest tells here later e = later e

-- so it holds of the row that is found
pub row_holds : {A : Type 0} (P : ℕ → A → Type 0) (rows : List (ℕ × A)) (at : ℕ) (found : A) → EachRow P rows → row_at rows at ≡ Some found → P at found
row_holds P [] at found each e = absurd (cc)
row_holds P (row ∷ rows) at found each e = at_row P (at == row.0) at row.0 row.1 found (row_at rows at) (eqb_tells at row.0) each.0 (row_holds P rows at found each.1) e

-- the same of an access, which has width 4 where it finds a row
pub word_width : {A : Type 0} (rows : List (ℕ × A)) (at width : ℕ) (found : A) → word_at rows at width ≡ Some found → width ≡ 4
word_width rows at width found e = grind (arith, nat_tests)

pub word_holds : {A : Type 0} (P : ℕ → A → Type 0) (rows : List (ℕ × A)) (at width : ℕ) (found : A) → EachRow P rows → word_at rows at width ≡ Some found → P at found
word_holds P rows at width found each e =
    let row : row_at rows at ≡ Some found = grind (arith, nat_tests) in
    row_holds P rows at found each row

-- what is to be shown of each row, and of each stimulus
pub record AreSound (r : WordRegisters) : Type 0 where
  -- a load answers a word, and its register is inside
  pub loads_fit : (s : List ℕ) → r.IsState s → EachRow (λ at value. (at < r.end) × (value < 2 ^ 32)) (r.loads s)
  -- a load that changes the state answers something
  pub changes_loaded : (s : List ℕ) (at : ℕ)
      → r.IsState s → row_at (r.loads s) at ≡ None → row_at (r.load_changes s) at ≡ None
  pub loads_keep : (s : List ℕ) → r.IsState s → EachRow (λ at new. Keeps (word_device r) s new) (r.load_changes s)
  pub stores_keep : (s : List ℕ) (value : ℕ)
      → r.IsState s → value < 2 ^ 32 → EachRow (λ at new. (at < r.end) × Keeps (word_device r) s new) (r.stores s value)
  pub stimulus_keeps : (s : List ℕ) (what : Stimulus)
      → r.IsState s → IsStimulus what → Keeps (word_device r) s (r.after_stimulus s what)

-- a word fits width 4
fits_width : (value width : ℕ) → width ≡ 4 → value < 2 ^ 32 → value < 2 ^ (8 * width)
fits_width value width w f = rw w f

fits_word : (value width : ℕ) → width ≡ 4 → value < 2 ^ (8 * width) → value < 2 ^ 32
fits_word value width w f = rw w at f

inside : (r : WordRegisters) (s : List ℕ) (at : ℕ) → at < r.end → IsInside (word_device r) s at
inside r s at l = record { not_below = omega arith; below = l }

-- an access that finds no row in one table finds none in another
not_found : {A B : Type 0} (rows : List (ℕ × A)) (others : List (ℕ × B)) (at width : ℕ) → (row_at rows at ≡ None → row_at others at ≡ None) → word_at rows at width ≡ None → word_at others at width ≡ None
not_found rows others at width h e = grind (arith, nat_tests)

-- the state stays where nothing is found
kept : (r : WordRegisters) (s : List ℕ) (found : Option (List ℕ)) → r.IsState s → ((new : List ℕ) → found ≡ Some new → Keeps (word_device r) s new) → Keeps (word_device r) s (unwrap_or found s)
kept r s None st h = keeps_same (word_device r) s st
kept r s (Some new) st h = h new refl

pub word_device_is_sound : (r : WordRegisters) → AreSound r → IsSound (word_device r)
word_device_is_sound r h = record {
  in_order = λ s st. omega arith;
  loaded_fits = λ s at width value st e. fits_width value width (word_width (r.loads s) at width value e) (word_holds (λ at value. (at < r.end) × (value < 2 ^ 32)) (r.loads s) at width value (h.loads_fit s st) e).1;
  loaded_inside = λ s at width value st e. inside r s at (word_holds (λ at value. (at < r.end) × (value < 2 ^ 32)) (r.loads s) at width value (h.loads_fit s st) e).0;
  not_loaded = λ s at width st e. ap (λ found. unwrap_or found s) (not_found (r.loads s) (r.load_changes s) at width (h.changes_loaded s at st) e);
  load_keeps = λ s at width st. kept r s (word_at (r.load_changes s) at width) st (λ new e. word_holds (λ at new. Keeps (word_device r) s new) (r.load_changes s) at width new (h.loads_keep s st) e);
  stored_inside = λ s at width value new st f e. inside r s at (word_holds (λ at new. (at < r.end) × Keeps (word_device r) s new) (r.stores s value) at width new (h.stores_keep s value st (fits_word value width (word_width (r.stores s value) at width new e) f)) e).0;
  store_keeps = λ s at width value new st f e. (word_holds (λ at new. (at < r.end) × Keeps (word_device r) s new) (r.stores s value) at width new (h.stores_keep s value st (fits_word value width (word_width (r.stores s value) at width new e) f)) e).1;
  stimulus_keeps = h.stimulus_keeps;
}
