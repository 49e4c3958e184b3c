-- The first line of a text, and the lines that follow it.
use Rattle.std.proofs.Common.{◌≡◌, ℕ, ◌+◌, ◌≤◌, List, ◌∷◌, length, length-take, length-drop, cond, Bool, true, false, Option, Some, None, refl, sym, subst, arith}
use Rattle.std.specs.Prelude.{nat_lt}
use Rattle.std.specs.List.{position_or_len}
use Rattle.std.proofs.lemmas.Bool.{ltb-true, ltb-false}
use Rattle.std.proofs.lemmas.List.Splits.{slice_split_first, slice_split_none}
use Rattle.std.proofs.lemmas.List.Sums.{fails_before_first}
use Rattle.hart_words.specs.Cuts.{cut, cut_there}
use Rattle.hart_words.specs.Lines.{is_feed, lines_of, lines_left, left}

-- the first line and those that are left
abbrev Begins : List ℕ → List ℕ × Option (List ℕ) → Type 0
Begins text p = lines_of text ≡ p.0 ∷ lines_left p.1

begins_there : (text : List ℕ) (b : Bool) → nat_lt (position_or_len is_feed text) (length text) ≡ b → Begins text (cut_there (cond b (Some (position_or_len is_feed text)) None) text)
begins_there text true e = slice_split_first is_feed text 0 (ltb-true _ _ e)
begins_there text false e =
    let past = ltb-false _ _ e in
    slice_split_none is_feed text (λ k d lt. fails_before_first is_feed text k d (omega arith))

begins_by : (text : List ℕ) → Begins text (cut 10 text)
unfolding cut
begins_by text = begins_there text (nat_lt (position_or_len is_feed text) (length text)) refl

-- neither part is longer than the text
abbrev IsLess : List ℕ → List ℕ × Option (List ℕ) → Type 0
IsLess text p = (length p.0 ≤ length text) × (left p.1 ≤ length text)

less_there : (text : List ℕ) (b : Bool) → nat_lt (position_or_len is_feed text) (length text) ≡ b → IsLess text (cut_there (cond b (Some (position_or_len is_feed text)) None) text)
less_there text true e =
    let i = position_or_len is_feed text in
    let lt = ltb-true _ _ e in
    (omega (arith, length-take i text), omega (arith, length-drop (i + 1) text))
less_there text false e = (omega arith, omega arith)

less_by : (text : List ℕ) → IsLess text (cut 10 text)
unfolding cut
less_by text = less_there text (nat_lt (position_or_len is_feed text) (length text)) refl

-- the lines of a text are its first, and those of what follows it
pub first_and_rest : (text line : List ℕ) (rest : Option (List ℕ)) → (line, rest) ≡ cut 10 text → lines_of text ≡ line ∷ lines_left rest
first_and_rest text line rest is = subst (Begins text) (sym is) (begins_by text)

pub line_fits : (text line : List ℕ) (rest : Option (List ℕ)) → (line, rest) ≡ cut 10 text → length line ≤ length text
line_fits text line rest is = (subst (IsLess text) (sym is) (less_by text)).0

pub less_is_left : (text line : List ℕ) (rest : Option (List ℕ)) → (line, rest) ≡ cut 10 text → left rest ≤ length text
less_is_left text line rest is = (subst (IsLess text) (sym is) (less_by text)).1
