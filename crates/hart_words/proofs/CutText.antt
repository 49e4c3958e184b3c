-- Texts that are cut, and joined again.
use Rattle.std.proofs.Common.{◌≡◌, ℕ, suc, ◌+◌, List, [], ◌∷◌, ◌++◌, length, length-append, take, drop, get_or, true, false, Option, Some, None, refl, sym, ap, ◌∙◌, arith}
use Rattle.std.specs.Prelude.{◌==◌, nat_lt, not, position}
use Rattle.std.specs.List.{position_or_len}
use Rattle.std.proofs.lemmas.Bool.{lt-ltb, le-ltb, eq-eqb, eqb-true, and_parts}
use Rattle.std.proofs.lemmas.List.{take_at, drop_at, drop-drop, take-append-drop, drop_more}
use Rattle.std.proofs.lemmas.List.Quantifiers.{position-Some}
use Rattle.hart_words.specs.Cuts.{cut, cut_there, has_no}

abbrev pub pairing : List ℕ → List ℕ → List ℕ × Option (List ℕ)
pairing a b = (a, Some b)

abbrev pub alone : List ℕ → List ℕ × Option (List ℕ)
alone a = (a, None)

one_more : (m n : ℕ) → m ≡ n → 1 + m ≡ suc n
one_more m n e = omega arith

pair_is : {a b : List ℕ} {c d : List ℕ} → a ≡ b → c ≡ d → pairing a c ≡ pairing b d
pair_is p q = rw (p, q) refl

place_after : (separator : ℕ) (a b : List ℕ) → has_no separator a ≡ true → position_or_len (λ c. c == separator) (a ++ separator ∷ b) ≡ length a
place_after separator [] b e = rw (eq-eqb separator separator refl) refl
place_after separator (x ∷ xs) b e =
    let parts = and_parts (not (x == separator)) (has_no separator xs) e in
    rw parts.0 (one_more (position_or_len (λ c. c == separator) (xs ++ separator ∷ b)) (length xs) (place_after separator xs b parts.1))

place_none : (separator : ℕ) (a : List ℕ) → has_no separator a ≡ true → position_or_len (λ c. c == separator) a ≡ length a
place_none separator [] e = refl
place_none separator (x ∷ xs) e =
    let parts = and_parts (not (x == separator)) (has_no separator xs) e in
    rw parts.0 (one_more (position_or_len (λ c. c == separator) xs) (length xs) (place_none separator xs parts.1))

-- two texts joined by a separator are cut into these two
pub cut_again : (separator : ℕ) (a b : List ℕ) → has_no separator a ≡ true → cut separator (a ++ separator ∷ b) ≡ (a, Some b)
unfolding cut
cut_again separator a b e =
    let place = place_after separator a b e in
    let inside : nat_lt (length a) (length (a ++ separator ∷ b)) ≡ true = lt-ltb _ _ (omega (arith, length-append a (separator ∷ b))) in
    let there : position (λ c. c == separator) (a ++ separator ∷ b) ≡ Some (length a) = rw (place, inside) refl in
    let rest : drop (length a + 1) (a ++ separator ∷ b) ≡ b = sym (drop-drop 1 (length a) (a ++ separator ∷ b)) ∙ ap (drop 1) (drop_at a (separator ∷ b) (length a) refl) in
    ap (λ (o : Option ℕ). cut_there o (a ++ separator ∷ b)) there ∙ pair_is (take_at a (separator ∷ b) (length a) refl) rest

-- a text without the separator isn't cut
pub cut_none : (separator : ℕ) (a : List ℕ) → has_no separator a ≡ true → cut separator a ≡ (a, None)
unfolding cut
cut_none separator a e =
    let past : nat_lt (length a) (length a) ≡ false = le-ltb _ _ (omega arith) in
    let there : position (λ c. c == separator) a ≡ None = rw (place_none separator a e, past) refl in
    ap (λ (o : Option ℕ). cut_there o a) there

abbrev nothing : Option (List ℕ)
nothing = None

abbrev found : List ℕ → Option (List ℕ)
found a = Some a

some_is : (a b : List ℕ) → found a ≡ found b → a ≡ b
some_is a b e = cc

none_some : {b : List ℕ} → nothing ≡ found b → ⊥
none_some e = cc

some_none : {b : List ℕ} → found b ≡ nothing → ⊥
some_none e = cc

place_cut : (separator : ℕ) (text : List ℕ) (i : ℕ) → position (λ c. c == separator) text ≡ Some i → text ≡ take i text ++ separator ∷ drop (i + 1) text
place_cut separator text i e =
    let there = position-Some (λ c. c == separator) text i 0 e in
    let is : get_or text i 0 ≡ separator = eqb-true _ _ there.1 in
    sym (take-append-drop i text) ∙ ap (λ (x : List ℕ). take i text ++ x) (drop_more text i 0 there.0 ∙ ap (λ (c : ℕ). c ∷ drop (i + 1) text) is)

cut_there_took : (separator : ℕ) (o : Option ℕ) (text a b : List ℕ) → position (λ c. c == separator) text ≡ o → cut_there o text ≡ pairing a b → text ≡ a ++ separator ∷ b
cut_there_took separator None text a b is e = absurd (none_some (ap (λ (p : List ℕ × Option (List ℕ)). p.1) e))
cut_there_took separator (Some i) text a b is e =
    let front : take i text ≡ a = ap (λ (p : List ℕ × Option (List ℕ)). p.0) e in
    let back : drop (i + 1) text ≡ b = some_is _ _ (ap (λ (p : List ℕ × Option (List ℕ)). p.1) e) in
    place_cut separator text i is ∙ ap (λ (x : List ℕ). x ++ separator ∷ drop (i + 1) text) front ∙ ap (λ (x : List ℕ). a ++ separator ∷ x) back

-- a text that is cut in two is these two joined
pub cut_took : (separator : ℕ) (text a b : List ℕ) → cut separator text ≡ pairing a b → text ≡ a ++ separator ∷ b
unfolding cut
cut_took separator text a b e = cut_there_took separator (position (λ c. c == separator) text) text a b refl e

cut_whole_there : (o : Option ℕ) (text a : List ℕ) → cut_there o text ≡ alone a → text ≡ a
cut_whole_there None text a e = ap (λ (p : List ℕ × Option (List ℕ)). p.0) e
cut_whole_there (Some i) text a e = absurd (some_none (ap (λ (p : List ℕ × Option (List ℕ)). p.1) e))

-- a text that isn't cut is whole
pub cut_whole : (separator : ℕ) (text a : List ℕ) → cut separator text ≡ alone a → text ≡ a
unfolding cut
cut_whole separator text a e = cut_whole_there (position (λ c. c == separator) text) text a e
