-- Items and words, one by one.
use Rattle.std.proofs.Common.{◌≡◌, ℕ, zero, suc, ◌+◌, ◌-◌, ◌<◌, ◌≤◌, List, [], ◌∷◌, drop, take, get_or, map, subst, length, Some, None, option_and_then, Bool, true, false, refl, sym, ap, ◌∙◌, arith, drop-cons, length-drop}
use Rattle.std.specs.Prelude.{◌==◌}
use Rattle.std.proofs.lemmas.Bool.Decides.{nat_tests}
use Rattle.std.proofs.lemmas.List.Elements.{All-get_or}
use Rattle.std.specs.List.{slice_get, All}
use Rattle.std.proofs.lemmas.List.{length-map}
use Rattle.std.proofs.lemmas.Option.{slice_get_within, unwrap_or-slice_get}
use Rattle.std.specs.Option.{unwrap_or}
use Rattle.asm_text.specs.Words.{Word, word_at}
use Rattle.asm_text.specs.declared.token.Token.{Token}
use Rattle.asm_fields.specs.Operands.{Operands}
use Rattle.asm_fields.specs.Fields.{read_items, read_item}
use Rattle.asm_fields.specs.declared.item.Item.{Item}

-- a list from one of its places on
pub drop_at : {A : Type 0} (xs : List A) (i : ℕ) (x : A) → slice_get xs i ≡ Some x → drop i xs ≡ x ∷ drop (i + 1) xs
drop_at xs i x e =
    let one : suc i ≡ i + 1 = omega arith in
    let is : get_or xs i x ≡ x = sym (unwrap_or-slice_get xs i x) ∙ ap (λ o. unwrap_or o x) e in
    drop-cons xs i x (slice_get_within xs i x e) ∙ ap (λ k. get_or xs i x ∷ drop k xs) one ∙ ap (λ y. y ∷ drop (i + 1) xs) is

pub length_words : (line : List ℕ) (ts : List Token) (at : ℕ) → length (map (word_at line) (drop at ts)) ≡ length ts - at
length_words line ts at = length-map (drop at ts) (word_at line) ∙ length-drop at ts

pub none_left : (is : List Item) (ws : List Word) (o : Operands) → length is ≡ 0 → 0 < length ws → None ≡ read_items is ws o
none_left [] [] o e h = absurd (omega arith)
none_left [] (w ∷ ws) o e h = refl
none_left (i ∷ is) ws o e h = absurd (omega arith)

pub none_more : (is : List Item) (ws : List Word) (o : Operands) → 0 < length is → length ws ≡ 0 → None ≡ read_items is ws o
none_more [] ws o h e = absurd (omega arith)
none_more (i ∷ is) [] o h e = refl
none_more (i ∷ is) (w ∷ ws) o h e = absurd (omega arith)

pub read_on : (is : List Item) (d : Item) (line : List ℕ) (ts : List Token) (at : ℕ) (t : Token) (o : Operands) → 0 < length is → slice_get ts at ≡ Some t
    → read_items is (map (word_at line) (drop at ts)) o ≡ option_and_then (read_items (drop 1 is) (map (word_at line) (drop (at + 1) ts))) (read_item (get_or is 0 d) (word_at line t) o)
read_on [] d line ts at t o h e = absurd (omega arith)
read_on (i ∷ is) d line ts at t o h e = ap (λ xs. read_items (i ∷ is) (map (word_at line) xs) o) (drop_at ts at t e)

pub is_zero : (n : ℕ) (b : Bool) → b ≡ (n == 0) → b ≡ true → n ≡ 0
is_zero n b e t = grind (arith, nat_tests)

pub is_more : (n : ℕ) (b : Bool) → b ≡ (n == 0) → b ≡ false → 0 < n
is_more n b e t = grind (arith, nat_tests)

take_all : {A : Type 0} (xs : List A) (n : ℕ) → length xs ≤ n → take n xs ≡ xs
take_all [] zero h = refl
take_all [] (suc n) h = refl
take_all (x ∷ xs) zero h = absurd (omega arith)
take_all (x ∷ xs) (suc n) h = ap (λ ys. x ∷ ys) (take_all xs n (omega arith))

-- all but the first
pub tail_is : {A : Type 0} (xs : List A) → take (length xs - 1) (drop 1 xs) ≡ drop 1 xs
tail_is xs = take_all (drop 1 xs) (length xs - 1) (omega (arith, length-drop 1 xs))

pub all_at : (P : Token → Type 0) (ts : List Token) (i : ℕ) (t : Token) → All P ts → slice_get ts i ≡ Some t → P t
all_at P ts i t h e =
    let is : get_or ts i t ≡ t = sym (unwrap_or-slice_get ts i t) ∙ ap (λ o. unwrap_or o t) e in
    subst P is (All-get_or P ts i t (slice_get_within ts i t e) h)
