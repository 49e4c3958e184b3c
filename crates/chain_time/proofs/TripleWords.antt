-- Words of triples: how they are read, and how they are spelled.
use Rattle.std.proofs.Common.{◌≡◌, ◌∙◌, ℕ, zero, suc, ◌<◌, ◌≤◌, ◌^◌, List, [], ◌∷◌, ◌++◌, length, decimal, cond, Bool, true, false, Option, Some, None, refl, sym, ap, subst, arith, lit<}
use Rattle.std.specs.Prelude.{◌==◌, not, nat_eq}
use Rattle.std.specs.List.{All}
use Rattle.std.specs.Char.{is_ascii_digit}
use Rattle.std.specs.Str.{all_ascii_digits}
use Rattle.std.proofs.lemmas.List.{append_assoc}
use Rattle.std.proofs.lemmas.List.Elements.{All-nil, All-cons}
use Rattle.std.proofs.lemmas.List.Folds.{list_all-append}
use Rattle.std.proofs.lemmas.Bool.{and_parts, ne_eqb, eqb-false}
use Rattle.hart_words.specs.Cuts.{cut, has_no}
use Rattle.hart_words.proofs.CutText.{cut_again, cut_none, cut_took, cut_whole}
use Rattle.board_inputs.specs.Numbers.{number_upto}
use Rattle.board_inputs.proofs.NumberText.{number_again, number_took, decimal_digits}
use Rattle.chain_time.specs.Triples.{IsInRange, most_triples, triple_text, triples_text, SpellsTriples, triple_from, triple_behind, triple_parts, triple_of, with_triple, triples_from, triples_of}
use Rattle.chain_time.specs.declared.triple.Triple.{Triple}

abbrev Cut : Type 0
Cut = List ℕ × Option (List ℕ)

-- ---- one round of the reader

module _ (n k : ℕ) (before : List Triple) (text : List ℕ) (c : Cut) (is : c ≡ cut 44 text) (more : n ≡ suc k) where
  by_cut : (o : Option Triple) → o ≡ triple_of c.0 → triples_from n before text ≡ with_triple (λ ps rest. triples_from k ps rest) before o c.1
  unfolding triples_from
  by_cut o e =
      ap (λ m. triples_from m before text) more
      ∙ (ap (λ (d : Cut). with_triple (λ ps rest. triples_from k ps rest) before (triple_of d.0) d.1) (sym is)
      ∙ ap (λ (p : Option Triple). with_triple (λ ps rest. triples_from k ps rest) before p c.1) (sym e))

  pub no_triple : (o : Option Triple) → o ≡ triple_of c.0 → o ≡ None → triples_from n before text ≡ None
  no_triple o e none = by_cut o e ∙ ap (λ (p : Option Triple). with_triple (λ ps rest. triples_from k ps rest) before p c.1) none

  pub last_triple : (p : Triple) (o : Option Triple) → o ≡ triple_of c.0 → o ≡ Some p → c.1 ≡ None → triples_from n before text ≡ Some (before ++ p ∷ [])
  last_triple p o e some end =
      by_cut o e
      ∙ (ap (λ (q : Option Triple). with_triple (λ ps rest. triples_from k ps rest) before q c.1) some
      ∙ ap (with_triple (λ ps rest. triples_from k ps rest) before (Some p)) end)

  pub next_triple : (p : Triple) (rest : List ℕ) (o : Option Triple) → o ≡ triple_of c.0 → o ≡ Some p → c.1 ≡ Some rest → triples_from n before text ≡ triples_from k (before ++ p ∷ []) rest
  next_triple p rest o e some end =
      by_cut o e
      ∙ (ap (λ (q : Option Triple). with_triple (λ ps rest. triples_from k ps rest) before q c.1) some
      ∙ ap (with_triple (λ ps rest. triples_from k ps rest) before (Some p)) end)

pub too_many : (n : ℕ) (before : List Triple) (text : List ℕ) → n ≡ 0 → triples_from n before text ≡ None
unfolding triples_from
too_many n before text e = ap (λ m. triples_from m before text) e

-- ---- the text of a triple

digit_off : (separator c : ℕ) → is_ascii_digit separator ≡ false → is_ascii_digit c ≡ true → not (c == separator) ≡ true
digit_off separator c off e = ap not (ne_eqb c separator (λ is. digit_is (ap is_ascii_digit is)))
  where
    digit_is : is_ascii_digit c ≡ is_ascii_digit separator → ⊥
    digit_is same = let bad : true ≡ false = sym e ∙ (same ∙ off) in cc

digits_only : (separator : ℕ) (ds : List ℕ) → is_ascii_digit separator ≡ false → all_ascii_digits ds ≡ true → has_no separator ds ≡ true
digits_only separator [] off e = refl
digits_only separator (c ∷ cs) off e =
    let parts = and_parts (is_ascii_digit c) (all_ascii_digits cs) e in
    rw (digit_off separator c off parts.0) (digits_only separator cs off parts.1)

decimal_only : (separator n : ℕ) → is_ascii_digit separator ≡ false → n < 2 ^ 64 → has_no separator (decimal n) ≡ true
decimal_only separator n off small = digits_only separator (decimal n) off (decimal_digits n small)

triple_only : (p : Triple) → IsInRange p → has_no 44 (triple_text p) ≡ true
triple_only p range =
    let input = decimal_only 44 p.input refl (omega (arith, range.input)) in
    let level = decimal_only 44 p.level refl (omega (arith, range.level)) in
    let count = decimal_only 44 p.count refl (omega (arith, range.count)) in
    let behind = list_all-append (λ b. not (b == 44)) (decimal p.level) (58 ∷ decimal p.count) in
    list_all-append (λ b. not (b == 44)) (decimal p.input) (58 ∷ (decimal p.level ++ 58 ∷ decimal p.count)) ∙ rw (input, behind, level, count) refl

-- a triple is read of its text
triple_again : (p : Triple) → IsInRange p → triple_of (triple_text p) ≡ Some p
unfolding triple_of
triple_again p range =
    let input : number_upto 1023 (decimal p.input) ≡ Some p.input = number_again 1023 p.input range.input (omega (arith, range.input)) in
    let level : number_upto 255 (decimal p.level) ≡ Some p.level = number_again 255 p.level range.level (omega (arith, range.level)) in
    let count : number_upto 65535 (decimal p.count) ≡ Some p.count = number_again 65535 p.count range.count (omega (arith, range.count)) in
    let some : nat_eq p.level 0 ≡ false = ne_eqb p.level 0 (λ e. omega (arith, range.some)) in
    let once : nat_eq p.count 0 ≡ false = ne_eqb p.count 0 (λ e. omega (arith, range.once)) in
    ap triple_parts (cut_again 58 (decimal p.input) (decimal p.level ++ 58 ∷ decimal p.count) (decimal_only 58 p.input refl (omega (arith, range.input))))
    ∙ (ap (λ (c : Cut). triple_behind (decimal p.input) c) (cut_again 58 (decimal p.level) (decimal p.count) (decimal_only 58 p.level refl (omega (arith, range.level))))
    ∙ rw (input, level, count, some, once) refl)

-- and a text of which a triple is read is its text
record TellsTriple (text : List ℕ) (p : Triple) : Type 0 where
  range : IsInRange p
  text_is : text ≡ triple_text p

some_triple : (p q : Triple) → Some p ≡ Some q → p ≡ q
some_triple p q e = cc

-- the triple that numbers make
abbrev made : ℕ → ℕ → ℕ → Triple
made input level count = record { input = input; level = level; count = count }

record Made (input level count : ℕ) (p : Triple) : Type 0 where
  some : level ≡ 0 → ⊥
  once : count ≡ 0 → ⊥
  is : made input level count ≡ p

triple_there : (input level count : ℕ) (b c : Bool) (p : Triple) → nat_eq level 0 ≡ b → nat_eq count 0 ≡ c → cond b None (cond c None (Some (made input level count))) ≡ Some p → Made input level count p
triple_there input level count true c p none never e = absurd cc
triple_there input level count false true p none never e = absurd cc
triple_there input level count false false p none never e = record { some = eqb-false level 0 none; once = eqb-false count 0 never; is = some_triple _ p e }

numbers_took : (first second third : List ℕ) (i l n : Option ℕ) (p : Triple) → number_upto 1023 first ≡ i → number_upto 255 second ≡ l → number_upto 65535 third ≡ n → triple_from i l n ≡ Some p → TellsTriple (first ++ 58 ∷ (second ++ 58 ∷ third)) p
numbers_took first second third None l n p a b c e = absurd cc
numbers_took first second third (Some input) None n p a b c e = absurd cc
numbers_took first second third (Some input) (Some level) None p a b c e = absurd cc
numbers_took first second third (Some input) (Some level) (Some count) p a b c e =
    let m = number_took 1023 input first (lit< tt) a in
    let n = number_took 255 level second (lit< tt) b in
    let o = number_took 65535 count third (lit< tt) c in
    let there = triple_there input level count (nat_eq level 0) (nat_eq count 0) p refl refl e in
    subst (TellsTriple (first ++ 58 ∷ (second ++ 58 ∷ third))) there.is
    (record {
      range = record { input = m.1; some = omega (arith, there.some); level = n.1; once = omega (arith, there.once); count = o.1 };
      text_is = rw (m.0, n.0, o.0) refl;
    })

behind_took : (first rest : List ℕ) (c : Cut) (p : Triple) → cut 58 rest ≡ c → triple_behind first c ≡ Some p → TellsTriple (first ++ 58 ∷ rest) p
behind_took first rest (second, None) p is e = absurd cc
behind_took first rest (second, Some third) p is e =
    let told = numbers_took first second third (number_upto 1023 first) (number_upto 255 second) (number_upto 65535 third) p refl refl refl e in
    record { range = told.range; text_is = ap (λ (x : List ℕ). first ++ 58 ∷ x) (cut_took 58 rest second third is) ∙ told.text_is }

parts_took : (text : List ℕ) (c : Cut) (p : Triple) → cut 58 text ≡ c → triple_parts c ≡ Some p → TellsTriple text p
parts_took text (first, None) p is e = absurd cc
parts_took text (first, Some rest) p is e =
    let told = behind_took first rest (cut 58 rest) p refl e in
    record { range = told.range; text_is = cut_took 58 text first rest is ∙ told.text_is }

triple_took : (text : List ℕ) (p : Triple) → triple_of text ≡ Some p → TellsTriple text p
unfolding triple_of
triple_took text p e = parts_took text (cut 58 text) p refl e

-- ---- the text of all

triples_more : (p : Triple) (ps : List Triple) → 0 < length ps → triples_text (p ∷ ps) ≡ triple_text p ++ 44 ∷ triples_text ps
unfolding triples_text
triples_more p [] some = absurd (omega arith)
triples_more p (q ∷ qs) some = refl

-- triples are read of their text, where as many may stand
triples_again : (n : ℕ) (before ps : List Triple) → 0 < length ps → length ps ≤ n → All IsInRange ps → triples_from n before (triples_text ps) ≡ Some (before ++ ps)
unfolding triples_text
triples_again zero before [] some few range = absurd (omega arith)
triples_again zero before (p ∷ ps) some few range = absurd (omega arith)
triples_again (suc n) before [] some few range = absurd (omega arith)
triples_again (suc n) before (p ∷ []) some few range =
    let first : IsInRange p = range 0 p (omega arith) in
    last_triple (suc n) n before (triple_text p) (triple_text p, None) (sym (cut_none 44 (triple_text p) (triple_only p first))) refl p (Some p) (sym (triple_again p first)) refl refl
triples_again (suc n) before (p ∷ (q ∷ qs)) some few range =
    let first : IsInRange p = range 0 p (omega arith) in
    let rest : All IsInRange (q ∷ qs) = λ k d l. range (suc k) d (omega arith) in
    let all : List Triple = q ∷ qs in
    next_triple (suc n) n before (triple_text p ++ 44 ∷ triples_text all) (triple_text p, Some (triples_text all)) (sym (cut_again 44 (triple_text p) (triples_text all) (triple_only p first))) refl p (triples_text all) (Some p) (sym (triple_again p first)) refl refl
    ∙ (triples_again n (before ++ p ∷ []) (q ∷ qs) (omega arith) (omega arith) rest
    ∙ ap (λ (x : List Triple). Some x) (append_assoc before (p ∷ []) (q ∷ qs)))

-- and a text of which they are read is their text
record TellsTriples (n : ℕ) (before : List Triple) (text : List ℕ) (all : List Triple) : Type 0 where
  ps : List Triple
  all_are : all ≡ before ++ ps
  some : 0 < length ps
  few : length ps ≤ n
  range : All IsInRange ps
  text_is : text ≡ triples_text ps

some_list : (ps qs : List Triple) → Some ps ≡ Some qs → ps ≡ qs
some_list ps qs e = cc

one_told : (n : ℕ) (before all : List Triple) (text : List ℕ) (p : Triple) → text ≡ triple_text p → IsInRange p → before ++ p ∷ [] ≡ all → TellsTriples (suc n) before text all
unfolding triples_text
one_told n before all text p is range e = record {
  ps = p ∷ [];
  all_are = sym e;
  some = omega arith;
  few = omega arith;
  range = All-cons IsInRange p [] range (All-nil IsInRange);
  text_is = is;
}

more_told : (n : ℕ) (before all : List Triple) (text rest : List ℕ) (p : Triple) → text ≡ triple_text p ++ 44 ∷ rest → IsInRange p → TellsTriples n (before ++ p ∷ []) rest all → TellsTriples (suc n) before text all
more_told n before all text rest p is range told = record {
  ps = p ∷ told.ps;
  all_are = told.all_are ∙ append_assoc before (p ∷ []) told.ps;
  some = omega arith;
  few = omega (arith, told.few);
  range = All-cons IsInRange p told.ps range told.range;
  text_is = is ∙ (ap (λ (x : List ℕ). triple_text p ++ 44 ∷ x) told.text_is ∙ sym (triples_more p told.ps told.some));
}

cut_told : (n : ℕ) (before all : List Triple) (text : List ℕ) (c : Cut) (o : Option Triple) → ((b : List Triple) (t : List ℕ) → triples_from n b t ≡ Some all → TellsTriples n b t all)
    → cut 44 text ≡ c → triple_of c.0 ≡ o → with_triple (λ ps rest. triples_from n ps rest) before o c.1 ≡ Some all → TellsTriples (suc n) before text all
cut_told n before all text (first, rest) None later is pair e = absurd cc
cut_told n before all text (first, None) (Some p) later is pair e =
    let told = triple_took first p pair in
    one_told n before all text p (cut_whole 44 text first is ∙ told.text_is) told.range (some_list _ all e)
cut_told n before all text (first, Some rest) (Some p) later is pair e =
    let told = triple_took first p pair in
    more_told n before all text rest p (cut_took 44 text first rest is ∙ ap (λ (x : List ℕ). x ++ 44 ∷ rest) told.text_is) told.range (later (before ++ p ∷ []) rest e)

triples_told : (n : ℕ) (before : List Triple) (text : List ℕ) (all : List Triple) → triples_from n before text ≡ Some all → TellsTriples n before text all
unfolding triples_from
triples_told zero before text all e = absurd cc
triples_told (suc n) before text all e = cut_told n before all text (cut 44 text) (triple_of (cut 44 text).0) (λ b t h. triples_told n b t all h) refl refl e

-- ---- a word

spelled_by : (word : List ℕ) (all : List Triple) → TellsTriples most_triples [] word all → SpellsTriples word all
spelled_by word all told = subst (SpellsTriples word) (sym told.all_are) (record { some = told.some; few = told.few; range = told.range; text = told.text_is })

pub word_told : (word : List ℕ) (ps : List Triple) → triples_of word ≡ Some ps → SpellsTriples word ps
unfolding triples_of
word_told word ps e = spelled_by word ps (triples_told most_triples [] word ps e)

pub word_again : (word : List ℕ) (ps : List Triple) → SpellsTriples word ps → triples_of word ≡ Some ps
unfolding triples_of
word_again word ps h = ap (λ (w : List ℕ). triples_from most_triples [] w) h.text ∙ triples_again most_triples [] ps h.some h.few h.range
