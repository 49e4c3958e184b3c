-- What clap's getters read.
use Rattle.std.proofs.Common.{◌≡◌, ◌^◌, ◌&&◌, ℕ, List, [], ◌∷◌, Bool, true, false, Option, Some, None, Result, Ok, Err, option_map, map, refl, sym, ap, cond, codes, length}
use Rattle.std.specs.Prelude.{unwrap_or, nat_lt, MatchResult}
use Rattle.std.specs.Char.{digit_value}
use Rattle.std.proofs.lemmas.Bool.{lt-ltb, ltb-true}
use Rattle.clap.proofs.WalkLemmas.{both}
use Rattle.std.specs.List.{list_all}
use Rattle.std.specs.Borrow.{Bor}
use Rattle.std.specs.Str.{bytes_eq}
use Rattle.std.proofs.lemmas.Slice.Eq.{bytes_eq-Decides}
use Rattle.std.specs.Str.Parse.{ParsesUnsigned, ParsesBool, AllDigits, digits_value, without_leading_plus}
use Rattle.clap.specs.ValueTests.{is_numeral}
use Rattle.clap.specs.Words.{App, Row, Text, ReadsOne, matches_of, takes}
use Rattle.clap.specs.Faults.{fault_of}
use Rattle.tool_frame.specs.Options.{IsPlainApp, rows_taken, number_in, number_of, is_flag_on}
use Rattle.tool_frame.proofs.NoFault.{no_fault_takes}

pub map_same : (xs : List Text) → map (λ x. x) xs ≡ xs
map_same [] = refl
map_same (x ∷ xs) = ap (λ (l : List Text). x ∷ l) (map_same xs)

-- a plain command takes the words at which nothing fails
plain_takes : (app : App) (words : List Text) → IsPlainApp app → fault_of app words ≡ [] → takes app words ≡ true
plain_takes app words plain e = no_fault_takes app words plain.simple plain.alone plain.defaults plain.rules e

digits_test : (ds : List ℕ) → AllDigits 10 ds → list_all (λ d. nat_lt (digit_value d) 10) ds ≡ true
digits_test [] h = refl
digits_test (d ∷ ds) h = rw (lt-ltb (digit_value d) 10 h.0) (digits_test ds h.1)

test_digits : (ds : List ℕ) → list_all (λ d. nat_lt (digit_value d) 10) ds ≡ true → AllDigits 10 ds
test_digits [] e = tt
test_digits (d ∷ ds) e = let parts = both (nat_lt (digit_value d) 10) (list_all (λ d. nat_lt (digit_value d) 10) ds) e in (ltb-true _ _ parts.0, test_digits ds parts.1)

-- a number that u64's reader reads is the one that the text spells
pub number_read : {E : Type 0} (t : Text) (r : Result ℕ E) → ParsesUnsigned 64 10 t r → MatchResult r (λ n. number_of t ≡ Some n) (λ e. number_of t ≡ None)
number_read t (Ok n) h =
    let ds = without_leading_plus t in
    rw (lt-ltb 0 (length ds) h.0.0.0, digits_test ds h.0.0.1, lt-ltb (digits_value 10 ds) (2 ^ 64) h.0.1) (ap (λ (k : ℕ). Some k) (sym h.1))
number_read t (Err e) h = go (is_numeral (without_leading_plus t) && nat_lt (digits_value 10 (without_leading_plus t)) (2 ^ 64)) refl
  where
    go : (b : Bool) → (is_numeral (without_leading_plus t) && nat_lt (digits_value 10 (without_leading_plus t)) (2 ^ 64)) ≡ b → cond b (Some (digits_value 10 (without_leading_plus t))) None ≡ None
    go false is = refl
    go true is =
        let parts = both (is_numeral (without_leading_plus t)) (nat_lt (digits_value 10 (without_leading_plus t)) (2 ^ 64)) is in
        let num = both (nat_lt 0 (length (without_leading_plus t))) (list_all (λ d. nat_lt (digit_value d) 10) (without_leading_plus t)) parts.0 in
        absurd (h ((ltb-true _ _ num.0, test_digits (without_leading_plus t) num.1), ltb-true _ _ parts.1))

-- `get_one` of a number
pub number_given : (E : Type 0) (G : List ℕ → Result ℕ E → Type 0) (o : Option Text) (r : Option ℕ) → ((u : List ℕ) (x : Result ℕ E) → G u x → ParsesUnsigned 64 10 u x)
    → (o ≡ None → r ≡ None) → ((t : Text) → o ≡ Some t → ReadsOne G t r) → r ≡ number_in o
number_given E G None r only none some = none refl
number_given E G (Some t) (Some n) only none some = sym (number_read {E = E} t (Ok n) (only t (Ok n) (some t refl)))
number_given E G (Some t) None only none some = let h = some t refl in sym (number_read {E = E} t (Err h.0) (only t (Err h.0) h.1))

-- a flag that is read
flag_here : (E : Type 0) (t : Text) (r : Option Bool) → ReadsOne {T = Bool} {E = E} ParsesBool t r → unwrap_or r false ≡ bytes_eq t (codes "true")
flag_here E t (Some true) h = sym ((bytes_eq-Decides t (codes "true")).1 h)
flag_here E t (Some false) h = rw h refl
flag_here E t None h = go (bytes_eq t (codes "true")) refl
  where
    go : (b : Bool) → bytes_eq t (codes "true") ≡ b → false ≡ b
    go true e = absurd (h.1.0 ((bytes_eq-Decides t (codes "true")).0 e))
    go false e = refl

pub flag_read : (E : Type 0) (o : Option Text) (r : Option Bool) → (o ≡ None → r ≡ None) → ((t : Text) → o ≡ Some t → ReadsOne {T = Bool} {E = E} ParsesBool t r) → unwrap_or r false ≡ is_flag_on o
flag_read E None r none some = ap (λ (x : Option Bool). unwrap_or x false) (none refl)
flag_read E (Some t) r none some = flag_here E t r (some t refl)

-- what is found where the words are taken, and nothing where they aren't
pub rows_found : (app : App) (words : List Text) (rows : List Row) → IsPlainApp app → fault_of app words ≡ [] → rows ≡ matches_of app words → Some rows ≡ rows_taken app words
unfolding rows_taken
rows_found app words rows plain none same = rw (plain_takes app words plain none, same) refl

pub rows_refused : (app : App) (words : List Text) → (takes app words ≡ true → ⊥) → None ≡ rows_taken app words
unfolding rows_taken
rows_refused app words h = go (takes app words) refl
  where
    go : (b : Bool) → takes app words ≡ b → None ≡ cond b (Some (matches_of app words)) None
    go false e = refl
    go true e = absurd (h e)

-- a text that is read, or none
pub text_or : (o : Option (Bor (List ℕ))) (other : Bor (List ℕ)) (text : Option Text) → option_map (λ s. s.now) o ≡ text → (unwrap_or o other).now ≡ unwrap_or text other.now
text_or None other text e = rw (← e) refl
text_or (Some s) other text e = rw (← e) refl
