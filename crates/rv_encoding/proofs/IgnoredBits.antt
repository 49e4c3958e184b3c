-- Ignored bits, which FENCE alone has, and the one canonical word of each instruction.
use Rattle.std.proofs.Common.{◌≡◌, ℕ, ◌+◌, ◌*◌, ◌/◌, ◌%◌, ◌^◌, ◌<◌, arith, Bool, true, false, nat_lt, ◌==◌, ◌&&◌, ap, ◌∙◌, sym, refl, bit_and, Some, None, Option, length, slice_index_or, subst, ◌↔◌}
use Rattle.std.specs.List.{list_all}
use Rattle.std.proofs.lemmas.Bool.{and_parts, and_from, eq-eqb, eqb-true, ltb-true}
use Rattle.std.proofs.lemmas.List.Folds.{Any-from_list_any, list_any-from_Any}
use Rattle.std.proofs.lemmas.Bool.Decides.{nat_tests}
use Rattle.hart_words.specs.Bits.{bits}
use Rattle.hart_words.specs.Sign.{sign_extended}
use Rattle.rv_encoding.proofs.Apart.{every, spelled_only, spelled_spells}
use Rattle.rv_encoding.proofs.Masks.{opcode, function, functions, whole_word, no_bits, ignored_bits}
use Rattle.rv_encoding.specs.Fields.{rd_of, rs1_of, rs2_of, csr_of, i_immediate, s_immediate, b_immediate, u_immediate, j_immediate, gathered, spread, i_pieces, s_pieces, b_pieces, j_pieces}
use Rattle.rv_encoding.specs.Parts.{ignored_of}
use Rattle.rv_encoding.specs.Rows.{Row, rows, IsOf, Spells, spelled, IsCanonical, canonical}
use Rattle.rv_encoding.specs.Words.{r_word, i_word, s_word, b_word, u_word, j_word, csr_word, word_of}
use Rattle.rv_encoding.specs.declared.instruction.Ins.{Ins}
use Rattle.rv_encoding.specs.declared.instruction.Ins.TheVariants.{Fence}
use Rattle.rv_encoding.specs.Fits.{can_be_spelled}
use Rattle.rv_encoding.proofs.Spelled.{word_spells}

-- ---- the ignored bits of a row

rows_ignore : (w : ℕ) → list_all (λ r. r.ignored == ignored_of (r.makes w)) rows ≡ true
unfolding rows
rows_ignore w = refl

row_ignores : (w : ℕ) (k : ℕ) (r : Row) → k < length rows → slice_index_or rows k r ≡ r → r.ignored ≡ ignored_of (r.makes w)
row_ignores w k r below at =
    eqb-true _ _ (subst (λ (s : Row). (s.ignored == ignored_of (s.makes w)) ≡ true) at (every (λ s. s.ignored == ignored_of (s.makes w)) rows k r (rows_ignore w) below))

-- the row that a word is of makes what the word spells
row_makes : (w : ℕ) (i : Ins) (k : ℕ) (r : Row) → k < length rows → slice_index_or rows k r ≡ r → IsOf r w → Spells w i → r.makes w ≡ i
unfolding Spells
row_makes w i k r below at of_r spells =
    let this : spelled w ≡ Some (r.makes w) = spelled_only w (r.makes w) (k, r, below, at, (of_r, refl)) in
    let that : spelled w ≡ Some i = spelled_only w i spells in cc

-- a canonical word has 0 in the ignored bits of its instruction
pub canonical_ignores : (w : ℕ) (i : Ins) → IsCanonical w → Spells w i → bit_and w (ignored_of i) ≡ 0
unfolding IsCanonical
canonical_ignores w i (k, r, below, at, here) spells =
    let same : r.makes w ≡ i = row_makes w i k r below at here.0 spells in
    ap (λ j. bit_and w (ignored_of j)) (sym same) ∙ ap (bit_and w) (sym (row_ignores w k r below at)) ∙ here.1

pub ignores_canonical : (w : ℕ) (i : Ins) → Spells w i → bit_and w (ignored_of i) ≡ 0 → IsCanonical w
unfolding IsCanonical Spells
ignores_canonical w i (k, r, below, at, here) zero_bits =
    (k, r, below, at, (here.0, ap (bit_and w) (row_ignores w k r below at) ∙ ap (λ j. bit_and w (ignored_of j)) (sym here.1) ∙ zero_bits))

-- a canonical word spells something
pub canonical_spells : (w : ℕ) → IsCanonical w → (i : Ins) × Spells w i
unfolding IsCanonical Spells
canonical_spells w (k, r, below, at, here) = (r.makes w, (k, r, below, at, (here.0, refl)))

-- ---- the test

abbrev pub zero_where_ignored : Option Ins → ℕ → Bool
zero_where_ignored None w = false
zero_where_ignored (Some i) w = bit_and w (ignored_of i) == 0

false_unless : (b : Bool) → (b ≡ true → ⊥) → b ≡ false
false_unless true never = absurd (never refl)
false_unless false never = refl

same_tests : (a b : Bool) → (a ≡ true → b ≡ true) → (b ≡ true → a ≡ true) → a ≡ b
same_tests true b to from = sym (to refl)
same_tests false true to from = from refl
same_tests false false to from = refl

pub canonical_true : (w : ℕ) → IsCanonical w → canonical w ≡ true
unfolding IsCanonical canonical
canonical_true w (k, r, below, at, here) =
    list_any-from_Any (λ s. (bit_and w s.mask == s.match) && (bit_and w s.ignored == 0)) rows (k, r, below, at, and_from _ _ (eq-eqb _ _ here.0) (eq-eqb _ _ here.1))

pub true_canonical : (w : ℕ) → canonical w ≡ true → IsCanonical w
unfolding IsCanonical canonical
true_canonical w here =
    let some = Any-from_list_any (λ s. (bit_and w s.mask == s.match) && (bit_and w s.ignored == 0)) rows here in
    let both = and_parts _ _ some.4 in
    (some.0, some.1, some.2, some.3, (eqb-true _ _ both.0, eqb-true _ _ both.1))

pub canonical_test : (w : ℕ) (o : Option Ins) → o ≡ spelled w → canonical w ≡ zero_where_ignored o w
canonical_test w None found =
    false_unless (canonical w) (λ here.
    let some = canonical_spells w (true_canonical w here) in
    let spells : spelled w ≡ Some some.0 = spelled_only w some.0 some.1 in
    let clash : None ≡ Some some.0 = found ∙ spells in cc)
canonical_test w (Some i) found =
    let spells : Spells w i = spelled_spells w i (sym found) in
    same_tests (canonical w) (bit_and w (ignored_of i) == 0)
    (λ here. eq-eqb _ _ (canonical_ignores w i (true_canonical w here) spells))
    (λ here. canonical_true w (ignores_canonical w i spells (eqb-true _ _ here)))

-- what the test says of a word, whichever way it was answered
pub tells_canonical : (b : Bool) (w : ℕ) → b ≡ canonical w → (b ≡ true) ↔ IsCanonical w
tells_canonical b w same = (λ here. true_canonical w (sym same ∙ here), λ here. same ∙ canonical_true w here)

-- ---- the one canonical word

-- the fields of a word without its match and its ignored bits are what its instruction's fields give
r_fields : (m w : ℕ) → w < 2 ^ 32 → (r_word m (rd_of w) (rs1_of w) (rs2_of w) + bit_and w 0xFE00707F + bit_and w 0 == m + w) ≡ true
r_fields m w small = eq-eqb _ _ (omega (arith, functions w, no_bits w))

-- what an extended number has in its low bits
low_12 : (v : ℕ) → v < 4096 → sign_extended v 12 % 4096 ≡ v
low_12 v small = grind (arith, nat_tests)

low_13 : (v : ℕ) → v < 8192 → sign_extended v 13 % 8192 ≡ v
low_13 v small = grind (arith, nat_tests)

low_21 : (v : ℕ) → v < 2097152 → sign_extended v 21 % 2097152 ≡ v
low_21 v small = grind (arith, nat_tests)

shift_fields : (m w : ℕ) → w < 2 ^ 32 → (i_word m (rd_of w) (rs1_of w) (rs2_of w) + bit_and w 0xFE00707F + bit_and w 0 == m + w) ≡ true
shift_fields m w small = eq-eqb _ _ (omega (arith, functions w, no_bits w))

i_fields : (m w : ℕ) → w < 2 ^ 32 → (i_word m (rd_of w) (rs1_of w) (i_immediate w) + bit_and w 0x707F + bit_and w 0 == m + w) ≡ true
i_fields m w small =
    let again : i_immediate w % 4096 ≡ gathered i_pieces w = low_12 (gathered i_pieces w) (omega arith) in
    let parts : spread i_pieces (i_immediate w) ≡ bits w 20 12 * 2 ^ 20 = omega arith in
    eq-eqb _ _ (omega (arith, parts, function w, no_bits w))

s_fields : (m w : ℕ) → w < 2 ^ 32 → (s_word m (rs1_of w) (rs2_of w) (s_immediate w) + bit_and w 0x707F + bit_and w 0 == m + w) ≡ true
s_fields m w small =
    let again : s_immediate w % 4096 ≡ gathered s_pieces w = low_12 (gathered s_pieces w) (omega arith) in
    let parts : spread s_pieces (s_immediate w) ≡ bits w 25 7 * 2 ^ 25 + bits w 7 5 * 2 ^ 7 = omega arith in
    eq-eqb _ _ (omega (arith, parts, function w, no_bits w))

b_fields : (m w : ℕ) → w < 2 ^ 32 → (b_word m (rs1_of w) (rs2_of w) (b_immediate w) + bit_and w 0x707F + bit_and w 0 == m + w) ≡ true
b_fields m w small =
    let again : b_immediate w % 8192 ≡ gathered b_pieces w * 2 = low_13 (gathered b_pieces w * 2) (omega arith) in
    let parts : spread b_pieces (b_immediate w / 2) ≡ bits w 31 1 * 2 ^ 31 + bits w 25 6 * 2 ^ 25 + bits w 8 4 * 2 ^ 8 + bits w 7 1 * 2 ^ 7 = omega arith in
    eq-eqb _ _ (omega (arith, parts, function w, no_bits w))

u_fields : (m w : ℕ) → w < 2 ^ 32 → (u_word m (rd_of w) (u_immediate w) + bit_and w 0x7F + bit_and w 0 == m + w) ≡ true
u_fields m w small = eq-eqb _ _ (omega (arith, opcode w, no_bits w))

j_fields : (m w : ℕ) → w < 2 ^ 32 → (j_word m (rd_of w) (j_immediate w) + bit_and w 0x7F + bit_and w 0 == m + w) ≡ true
j_fields m w small =
    let again : j_immediate w % 2097152 ≡ gathered j_pieces w * 2 = low_21 (gathered j_pieces w * 2) (omega arith) in
    let parts : spread j_pieces (j_immediate w / 2) ≡ bits w 31 1 * 2 ^ 31 + bits w 21 10 * 2 ^ 21 + bits w 20 1 * 2 ^ 20 + bits w 12 8 * 2 ^ 12 = omega arith in
    eq-eqb _ _ (omega (arith, parts, opcode w, no_bits w))

csr_fields : (m w : ℕ) → w < 2 ^ 32 → (csr_word m (rd_of w) (rs1_of w) (csr_of w) + bit_and w 0x707F + bit_and w 0 == m + w) ≡ true
csr_fields m w small = eq-eqb _ _ (omega (arith, function w, no_bits w))

fence_fields : (m w : ℕ) → w < 2 ^ 32 → (m + (bits w 24 4 * 2 ^ 24 + bits w 20 4 * 2 ^ 20) + bit_and w 0x707F + bit_and w 0xF00F8F80 == m + w) ≡ true
fence_fields m w small = eq-eqb _ _ (omega (arith, function w, ignored_bits w))

plain_fields : (m w : ℕ) → w < 2 ^ 32 → (m + bit_and w 0xFFFFFFFF + bit_and w 0 == m + w) ≡ true
plain_fields m w small = eq-eqb _ _ (omega (arith, whole_word w, no_bits w))

rows_words : (w : ℕ) → w < 2 ^ 32 → list_all (λ r. word_of (r.makes w) + bit_and w r.mask + bit_and w r.ignored == r.match + w) rows ≡ true
unfolding rows word_of
rows_words w small = simp (r_fields, shift_fields, i_fields, s_fields, b_fields, u_fields, j_fields, csr_fields, fence_fields, plain_fields)

-- a canonical word is the word of its instruction
pub canonical_word : (w : ℕ) (i : Ins) → w < 2 ^ 32 → Spells w i → IsCanonical w → w ≡ word_of i
unfolding IsCanonical
canonical_word w i small spells (k, r, below, at, here) =
    let same : r.makes w ≡ i = row_makes w i k r below at here.0 spells in
    let test : (word_of (r.makes w) + bit_and w r.mask + bit_and w r.ignored == r.match + w) ≡ true =
    subst (λ (s : Row). (word_of (s.makes w) + bit_and w s.mask + bit_and w s.ignored == s.match + w) ≡ true) at
    (every (λ s. word_of (s.makes w) + bit_and w s.mask + bit_and w s.ignored == s.match + w) rows k r (rows_words w small) below) in
    let of_r : bit_and w r.mask ≡ r.match = here.0 in
    let none : bit_and w r.ignored ≡ 0 = here.1 in
    let sums = eqb-true _ _ test in
    let word : word_of (r.makes w) ≡ w = omega (arith, sums, of_r, none) in
    sym word ∙ ap word_of same

word_ignores : (i : Ins) → can_be_spelled i ≡ true → bit_and (word_of i) (ignored_of i) ≡ 0
unfolding word_of
word_ignores (Fence pred succ) fit =
    let both = and_parts (nat_lt pred 16) (nat_lt succ 16) fit in
    let p : pred < 16 = ltb-true _ _ both.0 in
    let s : succ < 16 = ltb-true _ _ both.1 in
    omega (arith, ignored_bits (0x0000000F + (pred * 2 ^ 24 + succ * 2 ^ 20)))
word_ignores i fit = no_bits (word_of i)

pub word_canonical : (i : Ins) → can_be_spelled i ≡ true → IsCanonical (word_of i)
word_canonical i fit = ignores_canonical (word_of i) i (word_spells i fit).1 (word_ignores i fit)
