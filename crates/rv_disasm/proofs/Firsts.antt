-- What stands first in a listing, by how many bytes there are.
use Rattle.std.proofs.Common.{◌≡◌, ℕ, zero, suc, ◌+◌, ◌*◌, ◌%◌, ◌<◌, ◌≤◌, List, [], ◌∷◌, ◌++◌, length, get_or, drop, Option, Some, None, Bool, true, false, cond, refl, sym, ap, ◌∙◌, arith, drop-cons, length-drop}
use Rattle.std.specs.Prelude.{◌==◌}
use Rattle.std.proofs.lemmas.Bool.Decides.{nat_tests}
use Rattle.std.proofs.lemmas.Bool.{cond-true, cond-false, eq-eqb, ne_eqb}
use Rattle.asm_text.proofs.Scanning.{drop_all, drop_on}
use Rattle.rv_encoding.specs.declared.instruction.Ins.{Ins}
use Rattle.rv_encoding.specs.Rows.{spelled, canonical}
use Rattle.rvc_encoding.specs.declared.compressed.Cins.{Cins}
use Rattle.rvc_encoding.specs.Rows.{spelled16}
use Rattle.rv_disasm.specs.Printing.{line_pieces}
use Rattle.rv_disasm.specs.Listing.{short_or, long_or, word_statement, long_first, half_first, first_statement, size_of, further, listed, behind, text_from, line_text}
use Rattle.rv_disasm.specs.declared.statement.Statement.{Statement}
use Rattle.rv_disasm.specs.declared.statement.Statement.TheVariants.{Byte, Half}

abbrev pub at_place : List ℕ → ℕ → Statement
at_place bs at = first_statement (get_or bs at 0) (drop (at + 1) bs)

pub front_one : (bs : List ℕ) (at : ℕ) → at + 1 ≡ length bs → at_place bs at ≡ Byte (get_or bs at 0)
unfolding first_statement
front_one bs at h = ap (first_statement (get_or bs at 0)) (drop_all bs (at + 1) (omega arith))

-- two bytes at least
two : (bs : List ℕ) (at h : ℕ) → at + 1 < length bs → h ≡ get_or bs at 0 + 256 * get_or bs (at + 1) 0 → at_place bs at ≡ half_first h (drop (suc (at + 1)) bs)
unfolding first_statement
two bs at h l e = ap (first_statement (get_or bs at 0)) (drop-cons bs (at + 1) 0 l) ∙ ap (λ x. half_first x (drop (suc (at + 1)) bs)) (sym e)

pub front_short : (bs : List ℕ) (at h : ℕ) → at + 1 < length bs → h ≡ get_or bs at 0 + 256 * get_or bs (at + 1) 0 → (h % 4 ≡ 3 → ⊥) → at_place bs at ≡ short_or (spelled16 h) h
front_short bs at h l e n = two bs at h l e ∙ cond-false (h % 4 == 3) _ _ (ne_eqb (h % 4) 3 n)

long_few : (h : ℕ) (bs : List ℕ) → length bs < 2 → long_first h bs ≡ Half h
long_few h [] l = refl
long_few h (c ∷ []) l = refl
long_few h (c ∷ d ∷ bs) l = absurd (omega arith)

pub front_half : (bs : List ℕ) (at h : ℕ) → at + 1 < length bs → length bs < at + 4 → h ≡ get_or bs at 0 + 256 * get_or bs (at + 1) 0 → h % 4 ≡ 3 → at_place bs at ≡ Half h
front_half bs at h l m e n = two bs at h l e ∙ cond-true (h % 4 == 3) _ _ (eq-eqb (h % 4) 3 n) ∙ long_few h (drop (suc (at + 1)) bs) (omega (arith, length-drop (suc (at + 1)) bs))

pub front_long : (bs : List ℕ) (at w : ℕ) → at + 3 < length bs → w ≡ get_or bs at 0 + 256 * get_or bs (at + 1) 0 + 65536 * (get_or bs (at + 2) 0 + 256 * get_or bs (at + 3) 0) → (get_or bs at 0 + 256 * get_or bs (at + 1) 0) % 4 ≡ 3 → at_place bs at ≡ word_statement w
front_long bs at w l e n =
    let h = get_or bs at 0 + 256 * get_or bs (at + 1) 0 in
    let k : suc (at + 1) ≡ at + 2 = omega arith in
    let m : suc (at + 2) ≡ at + 3 = omega arith in
    let third : drop (suc (at + 1)) bs ≡ get_or bs (at + 2) 0 ∷ drop (suc (at + 2)) bs = ap (λ i. drop i bs) k ∙ drop-cons bs (at + 2) 0 (omega arith) in
    let fourth : drop (suc (at + 2)) bs ≡ get_or bs (at + 3) 0 ∷ drop (suc (at + 3)) bs = ap (λ i. drop i bs) m ∙ drop-cons bs (at + 3) 0 l in
    two bs at h (omega arith) refl
    ∙ cond-true (h % 4 == 3) _ _ (eq-eqb (h % 4) 3 n)
    ∙ ap (long_first h) (third ∙ ap (λ r. get_or bs (at + 2) 0 ∷ r) fourth)
    ∙ ap word_statement (sym e)

pub ruleset firsts = (nat_tests, front_one, front_short, front_half, front_long)

-- ---- the place behind the first

abbrev pub Steps : Statement → Type 0
Steps s = (p : ℕ) → (behind s p ≡ p + size_of s) × (size_of s ≡ 1 + further s)

short_steps : (o : Option Cins) (h : ℕ) → Steps (short_or o h)
short_steps None h p = (refl, refl)
short_steps (Some c) h p = (refl, refl)

long_steps : (t : Bool) (o : Option Ins) (w : ℕ) → Steps (long_or t o w)
long_steps false o w p = (refl, refl)
long_steps true None w p = (refl, refl)
long_steps true (Some i) w p = (refl, refl)

word_steps : (w : ℕ) → Steps (word_statement w)
unfolding word_statement
word_steps w p = long_steps (canonical w) (spelled w) w p

long_first_steps : (h : ℕ) (bs : List ℕ) → Steps (long_first h bs)
long_first_steps h [] p = (refl, refl)
long_first_steps h (c ∷ []) p = (refl, refl)
long_first_steps h (c ∷ d ∷ bs) p = word_steps (h + 65536 * (c + 256 * d)) p

half_steps : (h : ℕ) (bs : List ℕ) (t : Bool) → Steps (cond t (long_first h bs) (short_or (spelled16 h) h))
half_steps h bs true p = long_first_steps h bs p
half_steps h bs false p = short_steps (spelled16 h) h p

pub first_steps : (a : ℕ) (bs : List ℕ) → Steps (first_statement a bs)
unfolding first_statement
first_steps a [] p = (refl, refl)
first_steps a (b ∷ bs) p = half_steps (a + 256 * b) bs ((a + 256 * b) % 4 == 3) p

listed_skip : (k : ℕ) (bs : List ℕ) → listed k bs ≡ listed 0 (drop k bs)
listed_skip zero bs = refl
listed_skip (suc k) [] = refl
listed_skip (suc k) (b ∷ bs) = listed_skip k bs

-- one line, and the listing behind it
pub next_line : (bs : List ℕ) (at p : ℕ) (s : Statement) → at < length bs → s ≡ at_place bs at
    → text_from p (listed 0 (drop at bs)) ≡ line_text (line_pieces p s) ++ text_from (p + size_of s) (listed 0 (drop (at + size_of s) bs))
next_line bs at p s l e =
    let f = at_place bs at in
    let k = further f in
    let one : suc at ≡ at + 1 = omega arith in
    let steps = first_steps (get_or bs at 0) (drop (at + 1) bs) p in
    let on : at + 1 + k ≡ at + size_of f = omega (arith, steps.1) in
    ap (λ x. text_from p (listed 0 x)) (drop-cons bs at 0 l ∙ ap (λ i. get_or bs at 0 ∷ drop i bs) one)
    ∙ ap (λ q. line_text (line_pieces p f) ++ text_from q (listed k (drop (at + 1) bs))) steps.0
    ∙ ap (λ ss. line_text (line_pieces p f) ++ text_from (p + size_of f) ss) (listed_skip k (drop (at + 1) bs) ∙ ap (listed 0) (drop_on bs k (at + 1)) ∙ ap (λ n. listed 0 (drop n bs)) on)
    ∙ ap (λ (x : Statement). line_text (line_pieces p x) ++ text_from (p + size_of x) (listed 0 (drop (at + size_of x) bs))) (sym e)

pub at_end : (bs : List ℕ) (at p : ℕ) → length bs ≤ at → text_from p (listed 0 (drop at bs)) ≡ []
at_end bs at p l = ap (λ x. text_from p (listed 0 x)) (drop_all bs at l)
