-- The lines of a text that was printed line by line.
use Rattle.std.proofs.Common.{◌≡◌, ℕ, zero, suc, ◌-◌, ◌<◌, List, [], ◌∷◌, ◌++◌, length, map, get_or, take, true, false, refl, ap, ◌∙◌, append_assoc, arith}
use Rattle.std.specs.Prelude.{◌==◌, not, nat_lt, All}
use Rattle.std.specs.List.{flat_map, AllByRecursion, slice_split}
use Rattle.std.proofs.lemmas.List.Splits.{slice_split_at}
use Rattle.std.proofs.lemmas.Bool.{and_parts, not-true, and_right, cond-false}
use Rattle.asm_text.specs.Pieces.{Piece, printed, AreReadable, all_pass, is_inline}
use Rattle.asm_text.proofs.Inline.{one_line}
use Rattle.hart_words.specs.Lines.{is_feed}
use Rattle.rv_assembler.specs.Lines.{ends_in_return, without_return, lines_of}
use Rattle.rv_disasm.specs.Listing.{line_text}

inline_at : (t : List ℕ) (k : ℕ) → all_pass is_inline t ≡ true → k < length t → is_inline (get_or t k 0) ≡ true
inline_at [] k e h = absurd (omega arith)
inline_at (b ∷ bs) zero e h = (and_parts (is_inline b) (all_pass is_inline bs) e).0
inline_at (b ∷ bs) (suc k) e h = inline_at bs k (and_parts (is_inline b) (all_pass is_inline bs) e).1 (omega arith)

feeds_none : (t : List ℕ) → all_pass is_inline t ≡ true → All (λ b. is_feed b ≡ false) t
feeds_none t e = λ k d h. not-true (get_or t k d == 10) (and_parts (not (get_or t k d == 10)) (not (get_or t k d == 13)) (inline_with t k d e h)).0
  where
    inline_with : (t : List ℕ) (k d : ℕ) → all_pass is_inline t ≡ true → k < length t → is_inline (get_or t k d) ≡ true
    inline_with [] k d e h = absurd (omega arith)
    inline_with (b ∷ bs) zero d e h = (and_parts (is_inline b) (all_pass is_inline bs) e).0
    inline_with (b ∷ bs) (suc k) d e h = inline_with bs k d (and_parts (is_inline b) (all_pass is_inline bs) e).1 (omega arith)

last_is_no_return : (t : List ℕ) → all_pass is_inline t ≡ true → ends_in_return t ≡ false
last_is_no_return [] e = refl
last_is_no_return (b ∷ bs) e =
    let h = inline_at (b ∷ bs) (length (b ∷ bs) - 1) e (omega arith) in
    and_right (nat_lt 0 (length (b ∷ bs))) (get_or (b ∷ bs) (length (b ∷ bs) - 1) 0 == 13) (not-true (get_or (b ∷ bs) (length (b ∷ bs) - 1) 0 == 13) (and_parts (not (get_or (b ∷ bs) (length (b ∷ bs) - 1) 0 == 10)) _ h).1)

no_return : (t : List ℕ) → all_pass is_inline t ≡ true → without_return t ≡ t
unfolding without_return
no_return t e = cond-false (ends_in_return t) (take (length t - 1) t) t (last_is_no_return t e)

abbrev pub AllReadable : List (List Piece) → Type 0
AllReadable pss = AllByRecursion AreReadable pss

empty_line : without_return [] ≡ []
unfolding without_return
empty_line = refl

pub lines_again : (pss : List (List Piece)) → AllReadable pss → lines_of (flat_map line_text pss) ≡ map printed pss ++ [] ∷ []
unfolding lines_of
lines_again [] r = ap (λ l. l ∷ []) empty_line
lines_again (ps ∷ pss) r =
    let inline = one_line ps r.0 in
    let rest = flat_map line_text pss in
    ap (λ t. map without_return (slice_split is_feed t)) (append_assoc (printed ps) (10 ∷ []) rest)
    ∙ ap (map without_return) (slice_split_at is_feed (printed ps) 10 rest (feeds_none (printed ps) inline) refl)
    ∙ ap (λ l. l ∷ map without_return (slice_split is_feed rest)) (no_return (printed ps) inline)
    ∙ ap (λ ls. printed ps ∷ ls) (lines_again pss r.1)
