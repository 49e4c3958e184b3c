-- Stack words that stand among others.
use Rattle.std.proofs.Common.{◌≡◌, ℕ, zero, suc, ◌+◌, ◌<◌, ◌≤◌, Bool, true, false, cond, List, [], ◌∷◌, ◌++◌, length, get_or, set, take, drop, Option, Some, None, refl, sym, ap, ap₂, ◌∙◌, subst, arith}
use Rattle.std.specs.Prelude.{◌||◌}
use Rattle.std.proofs.lemmas.List.{take_more_set, drop-set-lt, drop_more, drop_all, append_assoc}
use Rattle.chain_flow.specs.Flow.{StackWord, is_pair, stands_in, joined_words, IsPlace}

pub stands_at : (w : StackWord) (us : List StackWord) (k : ℕ) (d : StackWord) → k < length us → is_pair (get_or us k d) w ≡ true → stands_in w us ≡ true
unfolding stands_in
stands_at w [] k d l e = absurd (omega arith)
stands_at w (u ∷ us) zero d l e = ap (λ b. b || stands_in w us) e
stands_at w (u ∷ us) (suc k) d l e = or_true (is_pair u w) (stands_in w us) (stands_at w us k d (omega arith) e)
  where
    or_true : (a b : Bool) → b ≡ true → (a || b) ≡ true
    or_true true b h = refl
    or_true false b h = h

-- the place isn't the next one
pub stands_later : (w : StackWord) (us : List StackWord) (i : ℕ) (d : StackWord) → i < length us → is_pair (get_or us i d) w ≡ false → stands_in w (drop (i + 1) us) ≡ stands_in w (drop i us)
unfolding stands_in
stands_later w us i d l e = sym (ap (stands_in w) (drop_more us i d l) ∙ ap (λ b. b || stands_in w (drop (i + 1) us)) e)

pub stands_nowhere : (w : StackWord) (us : List StackWord) (i : ℕ) → length us ≤ i → stands_in w (drop i us) ≡ false
unfolding stands_in
stands_nowhere w us i l = ap (stands_in w) (drop_all i us l)

-- ---- what is kept so far, and what is left to be joined
abbrev pub joined_so : List StackWord → List StackWord → ℕ → ℕ → List StackWord
joined_so ws us kept i = take kept ws ++ joined_words (drop i ws) us

pub join_keeps : (ws us : List StackWord) (kept i : ℕ) (d : StackWord) → kept ≤ i → i < length ws → stands_in (get_or ws i d) us ≡ true → joined_so (set ws kept (get_or ws i d)) us (kept + 1) (i + 1) ≡ joined_so ws us kept i
unfolding joined_words
join_keeps ws us kept i d k l e =
    let w = get_or ws i d in
    let rest = drop (i + 1) ws in
    ap₂ (λ (a b : List StackWord). a ++ joined_words b us) (take_more_set ws kept w (omega arith)) (drop-set-lt (i + 1) ws kept w (omega arith))
    ∙ (append_assoc (take kept ws) (w ∷ []) (joined_words rest us)
    ∙ sym (ap (λ (b : List StackWord). take kept ws ++ b) (ap (λ (b : List StackWord). joined_words b us) (drop_more ws i d l) ∙ one_kept w rest e)))
  where
    one_kept : (w : StackWord) (rest : List StackWord) → stands_in w us ≡ true → joined_words (w ∷ rest) us ≡ w ∷ joined_words rest us
    one_kept w rest q = ap (λ b. cond b (w ∷ joined_words rest us) (joined_words rest us)) q

pub join_drops : (ws us : List StackWord) (kept i : ℕ) (d : StackWord) → i < length ws → stands_in (get_or ws i d) us ≡ false → joined_so ws us kept (i + 1) ≡ joined_so ws us kept i
unfolding joined_words
join_drops ws us kept i d l e = sym (ap (λ (b : List StackWord). take kept ws ++ b) (ap (λ (b : List StackWord). joined_words b us) (drop_more ws i d l) ∙ one_dropped (get_or ws i d) (drop (i + 1) ws) e))
  where
    one_dropped : (w : StackWord) (rest : List StackWord) → stands_in w us ≡ false → joined_words (w ∷ rest) us ≡ joined_words rest us
    one_dropped w rest q = ap (λ b. cond b (w ∷ joined_words rest us) (joined_words rest us)) q

pub join_ends : (ws us : List StackWord) (kept i : ℕ) → length ws ≤ i → joined_so ws us kept i ≡ take kept ws ++ []
unfolding joined_words
join_ends ws us kept i l = ap (λ (b : List StackWord). take kept ws ++ joined_words b us) (drop_all i ws l)

-- the same, as the code has it
pub is_there : (w : StackWord) (us : List StackWord) (o : Option ℕ) (k : ℕ) → IsPlace w us o → o ≡ Some k → stands_in w us ≡ true
is_there w us None k h e = absurd cc
is_there w us (Some j) k h e = h.0

pub is_nowhere : (w : StackWord) (us : List StackWord) (o : Option ℕ) → IsPlace w us o → o ≡ None → stands_in w us ≡ false
is_nowhere w us None h e = h
is_nowhere w us (Some j) h e = absurd cc

pub code_keeps : (ws new us : List StackWord) (kept i : ℕ) (w : StackWord) → kept ≤ i → i < length ws → w ≡ get_or ws i w → stands_in w us ≡ true → new ≡ set ws kept w → joined_so new us (kept + 1) (i + 1) ≡ joined_so ws us kept i
code_keeps ws new us kept i w k l e s n =
    ap (λ (x : List StackWord). joined_so x us (kept + 1) (i + 1)) (n ∙ ap (set ws kept) e)
    ∙ join_keeps ws us kept i w k l (subst (λ (x : StackWord). stands_in x us ≡ true) e s)

pub code_drops : (ws us : List StackWord) (kept i : ℕ) (w : StackWord) → i < length ws → w ≡ get_or ws i w → stands_in w us ≡ false → joined_so ws us kept (i + 1) ≡ joined_so ws us kept i
code_drops ws us kept i w l e s = join_drops ws us kept i w l (subst (λ (x : StackWord). stands_in x us ≡ false) e s)
