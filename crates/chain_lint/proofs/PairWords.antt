-- Words of pairs: how they are read, and how they are spelled.
use Rattle.std.proofs.Common.{◌≡◌, ◌∙◌, ℕ, zero, suc, ◌<◌, ◌≤◌, ◌^◌, List, [], ◌∷◌, ◌++◌, length, decimal, cond, Bool, true, false, Option, Some, None, refl, sym, ap, subst, arith, lit<}
use Rattle.std.specs.Prelude.{◌==◌, not, nat_eq}
use Rattle.std.specs.List.{All}
use Rattle.std.specs.Char.{is_ascii_digit}
use Rattle.std.specs.Str.{all_ascii_digits}
use Rattle.std.proofs.lemmas.List.{append_assoc}
use Rattle.std.proofs.lemmas.List.Elements.{All-nil, All-cons}
use Rattle.std.proofs.lemmas.List.Folds.{list_all-append}
use Rattle.std.proofs.lemmas.Bool.{and_parts, ne_eqb, eqb-false}
use Rattle.hart_words.specs.Cuts.{cut, has_no}
use Rattle.hart_words.proofs.CutText.{cut_again, cut_none, cut_took, cut_whole}
use Rattle.board_inputs.specs.Numbers.{number_upto}
use Rattle.board_inputs.proofs.NumberText.{number_again, number_took, decimal_digits}
use Rattle.chain_lint.specs.Pairs.{IsInRange, most_pairs, pair_text, pairs_text, SpellsPairs, pair_from, pair_parts, pair_of, with_pair, pairs_from, pairs_of}
use Rattle.chain_lint.specs.declared.pair.Pair.{Pair}

abbrev Cut : Type 0
Cut = List ℕ × Option (List ℕ)

-- ---- one round of the reader

module _ (n k : ℕ) (before : List Pair) (text : List ℕ) (c : Cut) (is : c ≡ cut 44 text) (more : n ≡ suc k) where
  by_cut : (o : Option Pair) → o ≡ pair_of c.0 → pairs_from n before text ≡ with_pair (λ ps rest. pairs_from k ps rest) before o c.1
  unfolding pairs_from
  by_cut o e =
      ap (λ m. pairs_from m before text) more
      ∙ (ap (λ (d : Cut). with_pair (λ ps rest. pairs_from k ps rest) before (pair_of d.0) d.1) (sym is)
      ∙ ap (λ (p : Option Pair). with_pair (λ ps rest. pairs_from k ps rest) before p c.1) (sym e))

  pub no_pair : (o : Option Pair) → o ≡ pair_of c.0 → o ≡ None → pairs_from n before text ≡ None
  no_pair o e none = by_cut o e ∙ ap (λ (p : Option Pair). with_pair (λ ps rest. pairs_from k ps rest) before p c.1) none

  pub last_pair : (p : Pair) (o : Option Pair) → o ≡ pair_of c.0 → o ≡ Some p → c.1 ≡ None → pairs_from n before text ≡ Some (before ++ p ∷ [])
  last_pair p o e some end =
      by_cut o e
      ∙ (ap (λ (q : Option Pair). with_pair (λ ps rest. pairs_from k ps rest) before q c.1) some
      ∙ ap (with_pair (λ ps rest. pairs_from k ps rest) before (Some p)) end)

  pub next_pair : (p : Pair) (rest : List ℕ) (o : Option Pair) → o ≡ pair_of c.0 → o ≡ Some p → c.1 ≡ Some rest → pairs_from n before text ≡ pairs_from k (before ++ p ∷ []) rest
  next_pair p rest o e some end =
      by_cut o e
      ∙ (ap (λ (q : Option Pair). with_pair (λ ps rest. pairs_from k ps rest) before q c.1) some
      ∙ ap (with_pair (λ ps rest. pairs_from k ps rest) before (Some p)) end)

pub too_many : (n : ℕ) (before : List Pair) (text : List ℕ) → n ≡ 0 → pairs_from n before text ≡ None
unfolding pairs_from
too_many n before text e = ap (λ m. pairs_from m before text) e

-- ---- the text of a pair

digit_off : (separator c : ℕ) → is_ascii_digit separator ≡ false → is_ascii_digit c ≡ true → not (c == separator) ≡ true
digit_off separator c off e = ap not (ne_eqb c separator (λ is. digit_is (ap is_ascii_digit is)))
  where
    digit_is : is_ascii_digit c ≡ is_ascii_digit separator → ⊥
    digit_is same = let bad : true ≡ false = sym e ∙ (same ∙ off) in cc

digits_only : (separator : ℕ) (ds : List ℕ) → is_ascii_digit separator ≡ false → all_ascii_digits ds ≡ true → has_no separator ds ≡ true
digits_only separator [] off e = refl
digits_only separator (c ∷ cs) off e =
    let parts = and_parts (is_ascii_digit c) (all_ascii_digits cs) e in
    rw (digit_off separator c off parts.0) (digits_only separator cs off parts.1)

decimal_only : (separator n : ℕ) → is_ascii_digit separator ≡ false → n < 2 ^ 64 → has_no separator (decimal n) ≡ true
decimal_only separator n off small = digits_only separator (decimal n) off (decimal_digits n small)

pair_only : (p : Pair) → IsInRange p → has_no 44 (pair_text p) ≡ true
pair_only p range =
    let input = decimal_only 44 p.input refl (omega (arith, range.input)) in
    let level = decimal_only 44 p.level refl (omega (arith, range.level)) in
    list_all-append (λ b. not (b == 44)) (decimal p.input) (58 ∷ decimal p.level) ∙ rw (input, level) refl

-- a pair is read of its text
pair_again : (p : Pair) → IsInRange p → pair_of (pair_text p) ≡ Some p
unfolding pair_of
pair_again p range =
    let input : number_upto 1023 (decimal p.input) ≡ Some p.input = number_again 1023 p.input range.input (omega (arith, range.input)) in
    let level : number_upto 255 (decimal p.level) ≡ Some p.level = number_again 255 p.level range.level (omega (arith, range.level)) in
    let some : nat_eq p.level 0 ≡ false = ne_eqb p.level 0 (λ e. omega (arith, range.some)) in
    ap pair_parts (cut_again 58 (decimal p.input) (decimal p.level) (decimal_only 58 p.input refl (omega (arith, range.input))))
    ∙ rw (input, level, some) refl

-- and a text of which a pair is read is its text
record TellsPair (text : List ℕ) (p : Pair) : Type 0 where
  range : IsInRange p
  text_is : text ≡ pair_text p

some_pair : (p q : Pair) → Some p ≡ Some q → p ≡ q
some_pair p q e = cc

pair_there : (input level : ℕ) (b : Bool) (p : Pair) → nat_eq level 0 ≡ b → cond b None (Some (record { input = input; level = level })) ≡ Some p → (level ≡ 0 → ⊥) × (record { input = input; level = level } ≡ p)
pair_there input level true p is e = absurd cc
pair_there input level false p is e = (eqb-false level 0 is, some_pair _ p e)

numbers_took : (first second : List ℕ) (i l : Option ℕ) (p : Pair) → number_upto 1023 first ≡ i → number_upto 255 second ≡ l → pair_from i l ≡ Some p → TellsPair (first ++ 58 ∷ second) p
numbers_took first second None None p a b e = absurd cc
numbers_took first second None (Some level) p a b e = absurd cc
numbers_took first second (Some input) None p a b e = absurd cc
numbers_took first second (Some input) (Some level) p a b e =
    let m = number_took 1023 input first (lit< tt) a in
    let n = number_took 255 level second (lit< tt) b in
    let there = pair_there input level (nat_eq level 0) p refl e in
    subst (TellsPair (first ++ 58 ∷ second)) there.1
    (record { range = record { input = m.1; some = omega (arith, there.0); level = n.1 }; text_is = ap (λ (x : List ℕ). x ++ 58 ∷ second) m.0 ∙ ap (λ (x : List ℕ). decimal input ++ 58 ∷ x) n.0 })

parts_took : (text : List ℕ) (c : Cut) (p : Pair) → cut 58 text ≡ c → pair_parts c ≡ Some p → TellsPair text p
parts_took text (first, None) p is e = absurd cc
parts_took text (first, Some second) p is e =
    let told = numbers_took first second (number_upto 1023 first) (number_upto 255 second) p refl refl e in
    record { range = told.range; text_is = cut_took 58 text first second is ∙ told.text_is }

pair_took : (text : List ℕ) (p : Pair) → pair_of text ≡ Some p → TellsPair text p
unfolding pair_of
pair_took text p e = parts_took text (cut 58 text) p refl e

-- ---- the text of all

pairs_more : (p : Pair) (ps : List Pair) → 0 < length ps → pairs_text (p ∷ ps) ≡ pair_text p ++ 44 ∷ pairs_text ps
unfolding pairs_text
pairs_more p [] some = absurd (omega arith)
pairs_more p (q ∷ qs) some = refl

-- pairs are read of their text, where as many may stand
pairs_again : (n : ℕ) (before ps : List Pair) → 0 < length ps → length ps ≤ n → All IsInRange ps → pairs_from n before (pairs_text ps) ≡ Some (before ++ ps)
unfolding pairs_text
pairs_again zero before [] some few range = absurd (omega arith)
pairs_again zero before (p ∷ ps) some few range = absurd (omega arith)
pairs_again (suc n) before [] some few range = absurd (omega arith)
pairs_again (suc n) before (p ∷ []) some few range =
    let first : IsInRange p = range 0 p (omega arith) in
    last_pair (suc n) n before (pair_text p) (pair_text p, None) (sym (cut_none 44 (pair_text p) (pair_only p first))) refl p (Some p) (sym (pair_again p first)) refl refl
pairs_again (suc n) before (p ∷ (q ∷ qs)) some few range =
    let first : IsInRange p = range 0 p (omega arith) in
    let rest : All IsInRange (q ∷ qs) = λ k d l. range (suc k) d (omega arith) in
    let all : List Pair = q ∷ qs in
    next_pair (suc n) n before (pair_text p ++ 44 ∷ pairs_text all) (pair_text p, Some (pairs_text all)) (sym (cut_again 44 (pair_text p) (pairs_text all) (pair_only p first))) refl p (pairs_text all) (Some p) (sym (pair_again p first)) refl refl
    ∙ (pairs_again n (before ++ p ∷ []) (q ∷ qs) (omega arith) (omega arith) rest
    ∙ ap (λ (x : List Pair). Some x) (append_assoc before (p ∷ []) (q ∷ qs)))

-- and a text of which they are read is their text
record TellsPairs (n : ℕ) (before : List Pair) (text : List ℕ) (all : List Pair) : Type 0 where
  ps : List Pair
  all_are : all ≡ before ++ ps
  some : 0 < length ps
  few : length ps ≤ n
  range : All IsInRange ps
  text_is : text ≡ pairs_text ps

some_list : (ps qs : List Pair) → Some ps ≡ Some qs → ps ≡ qs
some_list ps qs e = cc

one_told : (n : ℕ) (before all : List Pair) (text : List ℕ) (p : Pair) → text ≡ pair_text p → IsInRange p → before ++ p ∷ [] ≡ all → TellsPairs (suc n) before text all
unfolding pairs_text
one_told n before all text p is range e = record {
  ps = p ∷ [];
  all_are = sym e;
  some = omega arith;
  few = omega arith;
  range = All-cons IsInRange p [] range (All-nil IsInRange);
  text_is = is;
}

more_told : (n : ℕ) (before all : List Pair) (text rest : List ℕ) (p : Pair) → text ≡ pair_text p ++ 44 ∷ rest → IsInRange p → TellsPairs n (before ++ p ∷ []) rest all → TellsPairs (suc n) before text all
more_told n before all text rest p is range told = record {
  ps = p ∷ told.ps;
  all_are = told.all_are ∙ append_assoc before (p ∷ []) told.ps;
  some = omega arith;
  few = omega (arith, told.few);
  range = All-cons IsInRange p told.ps range told.range;
  text_is = is ∙ (ap (λ (x : List ℕ). pair_text p ++ 44 ∷ x) told.text_is ∙ sym (pairs_more p told.ps told.some));
}

cut_told : (n : ℕ) (before all : List Pair) (text : List ℕ) (c : Cut) (o : Option Pair) → ((b : List Pair) (t : List ℕ) → pairs_from n b t ≡ Some all → TellsPairs n b t all)
    → cut 44 text ≡ c → pair_of c.0 ≡ o → with_pair (λ ps rest. pairs_from n ps rest) before o c.1 ≡ Some all → TellsPairs (suc n) before text all
cut_told n before all text (first, rest) None later is pair e = absurd cc
cut_told n before all text (first, None) (Some p) later is pair e =
    let told = pair_took first p pair in
    one_told n before all text p (cut_whole 44 text first is ∙ told.text_is) told.range (some_list _ all e)
cut_told n before all text (first, Some rest) (Some p) later is pair e =
    let told = pair_took first p pair in
    more_told n before all text rest p (cut_took 44 text first rest is ∙ ap (λ (x : List ℕ). x ++ 44 ∷ rest) told.text_is) told.range (later (before ++ p ∷ []) rest e)

pairs_told : (n : ℕ) (before : List Pair) (text : List ℕ) (all : List Pair) → pairs_from n before text ≡ Some all → TellsPairs n before text all
unfolding pairs_from
pairs_told zero before text all e = absurd cc
pairs_told (suc n) before text all e = cut_told n before all text (cut 44 text) (pair_of (cut 44 text).0) (λ b t h. pairs_told n b t all h) refl refl e

-- ---- a word

spelled_by : (word : List ℕ) (all : List Pair) → TellsPairs most_pairs [] word all → SpellsPairs word all
spelled_by word all told = subst (SpellsPairs word) (sym told.all_are) (record { some = told.some; few = told.few; range = told.range; text = told.text_is })

pub word_told : (word : List ℕ) (ps : List Pair) → pairs_of word ≡ Some ps → SpellsPairs word ps
unfolding pairs_of
word_told word ps e = spelled_by word ps (pairs_told most_pairs [] word ps e)

pub word_again : (word : List ℕ) (ps : List Pair) → SpellsPairs word ps → pairs_of word ≡ Some ps
unfolding pairs_of
word_again word ps h = ap (λ (w : List ℕ). pairs_from most_pairs [] w) h.text ∙ pairs_again most_pairs [] ps h.some h.few h.range
