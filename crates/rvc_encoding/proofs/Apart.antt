-- A half-word is of at most one row, so the first row that it is of is the only one.
use Rattle.std.proofs.Common.{◌≡◌, ℕ, zero, suc, ◌<◌, List, [], ◌∷◌, length, get_or, drop, Bool, true, false, bit_and, Some, None, ◌⊎◌, inl, inr, refl, sym, ap, ◌∙◌, arith, cond, ◌==◌, not, eq-eqb, Option, ◌↔◌, IsNone, IfSome}
use Rattle.std.specs.List.{list_all}
use Rattle.std.proofs.lemmas.Nat.{and_assoc, and_comm}
use Rattle.std.proofs.lemmas.Bool.{and_parts, eqb-true}
use Rattle.hart_words.specs.Bits.{bits}
use Rattle.rvc_encoding.specs.declared.compressed.Cins.{Cins}
use Rattle.rvc_encoding.specs.declared.row.CRow.{CRow}
use Rattle.rvc_encoding.specs.declared.row.CRow.TheVariants.{Addi4spn as CAddi4spn, Lw as CLw, Sw as CSw, Nop as CNop, Addi as CAddi, Jal as CJal, Li as CLi, Addi16sp as CAddi16sp, Lui as CLui, Srli as CSrli, Srai as CSrai, Andi as CAndi, Sub as CSub, Xor as CXor, Or as COr, And as CAnd, J as CJ, Beqz as CBeqz, Bnez as CBnez, Slli as CSlli, Lwsp as CLwsp, Jr as CJr, Mv as CMv, Ebreak as CEbreak, Jalr as CJalr, Add as CAdd, Swsp as CSwsp}
use Rattle.rvc_encoding.specs.Rows.{row_of, all_rows, made, allowed, is_of, Spells16, spelled16, first_of}
use Rattle.rvc_encoding.proofs.Masks.{group_second, group_first, whole}

-- ---- rows whose matches differ in a bit that both masks have

abbrev differ : CRow → CRow → Bool
differ n m = not (bit_and (row_of n).match (row_of m).mask == bit_and (row_of m).match (row_of n).mask)

same_common_bits : (h m n : ℕ) → bit_and (bit_and h m) n ≡ bit_and (bit_and h n) m
same_common_bits h m n = and_assoc n h m ∙ ap (bit_and h) (and_comm m n) ∙ sym (and_assoc m h n)

common_bits : (r s p q h : ℕ) → bit_and h p ≡ r → bit_and h q ≡ s → bit_and r q ≡ bit_and s p
common_bits r s p q h e f = ap (λ x. bit_and x q) (sym e) ∙ same_common_bits h p q ∙ ap (λ x. bit_and x p) f

pub matched : (n : CRow) (h : ℕ) → is_of n h ≡ true → bit_and h (row_of n).mask ≡ (row_of n).match
matched n h e = eqb-true _ _ (and_parts (bit_and h (row_of n).mask == (row_of n).match) (allowed (made n h)) e).0

fields_allowed : (n : CRow) (h : ℕ) → is_of n h ≡ true → allowed (made n h) ≡ true
fields_allowed n h e = (and_parts (bit_and h (row_of n).mask == (row_of n).match) (allowed (made n h)) e).1

apart_by_bits : (n m : CRow) → differ n m ≡ true → (h : ℕ) → is_of n h ≡ true → is_of m h ≡ true → ⊥
apart_by_bits n m d h e f =
    let yes : (bit_and (row_of n).match (row_of m).mask == bit_and (row_of m).match (row_of n).mask) ≡ true = eq-eqb _ _ (common_bits _ _ (row_of n).mask (row_of m).mask h (matched n h e) (matched m h f)) in
    let clash : not true ≡ true = rw yes at d in cc

-- ---- rows that differ by what they allow

nop_addi : (h : ℕ) → is_of CNop h ≡ true → is_of CAddi h ≡ true → ⊥
nop_addi h e f =
    let first : bits h 7 5 ≡ 0 = omega (arith, group_first h, matched CNop h e) in
    let some : not (bits h 7 5 == 0) ≡ true = fields_allowed CAddi h f in
    let clash : not (0 == 0) ≡ true = rw first at some in cc

addi16sp_lui : (h : ℕ) → is_of CAddi16sp h ≡ true → is_of CLui h ≡ true → ⊥
addi16sp_lui h e f =
    let first : bits h 7 5 ≡ 2 = omega (arith, group_first h, matched CAddi16sp h e) in
    let other : not (bits h 7 5 == 2) ≡ true = (and_parts _ _ (fields_allowed CLui h f)).0 in
    let clash : not (2 == 2) ≡ true = rw first at other in cc

jr_mv : (h : ℕ) → is_of CJr h ≡ true → is_of CMv h ≡ true → ⊥
jr_mv h e f =
    let second : bits h 2 5 ≡ 0 = omega (arith, group_second h, matched CJr h e) in
    let some : not (bits h 2 5 == 0) ≡ true = fields_allowed CMv h f in
    let clash : not (0 == 0) ≡ true = rw second at some in cc

ebreak_jalr : (h : ℕ) → is_of CEbreak h ≡ true → is_of CJalr h ≡ true → ⊥
ebreak_jalr h e f =
    let first : bits h 7 5 ≡ 0 = omega (arith, whole h, matched CEbreak h e) in
    let some : not (bits h 7 5 == 0) ≡ true = fields_allowed CJalr h f in
    let clash : not (0 == 0) ≡ true = rw first at some in cc

ebreak_add : (h : ℕ) → is_of CEbreak h ≡ true → is_of CAdd h ≡ true → ⊥
ebreak_add h e f =
    let second : bits h 2 5 ≡ 0 = omega (arith, whole h, matched CEbreak h e) in
    let some : not (bits h 2 5 == 0) ≡ true = fields_allowed CAdd h f in
    let clash : not (0 == 0) ≡ true = rw second at some in cc

jalr_add : (h : ℕ) → is_of CJalr h ≡ true → is_of CAdd h ≡ true → ⊥
jalr_add h e f =
    let second : bits h 2 5 ≡ 0 = omega (arith, group_second h, matched CJalr h e) in
    let some : not (bits h 2 5 == 0) ≡ true = fields_allowed CAdd h f in
    let clash : not (0 == 0) ≡ true = rw second at some in cc

-- ---- every row is apart from each later one

-- a row is apart from each of these
Each : CRow → List CRow → Type 0
Each n [] = Unit {0}
Each n (m ∷ ms) = ((h : ℕ) → is_of n h ≡ true → is_of m h ≡ true → ⊥) × Each n ms

All : List CRow → Type 0
All [] = Unit {0}
All (n ∷ ns) = Each n ns × All ns

each_differs : (n : CRow) (ms : List CRow) → list_all (differ n) ms ≡ true → Each n ms
unfolding Each
each_differs n [] all = tt
each_differs n (m ∷ ms) all = let both = and_parts (differ n m) (list_all (differ n) ms) all in (apart_by_bits n m both.0, each_differs n ms both.1)

pub unless : {A : Type 0} (b : Bool) (x y : A) → (b ≡ true → ⊥) → cond b x y ≡ y
unless true x y never = absurd (never refl)
unless false x y never = refl

each_at : (n : CRow) (ms : List CRow) (k : ℕ) (d : CRow) (h : ℕ) → k < length ms → Each n ms → is_of n h ≡ true → is_of (get_or ms k d) h ≡ true → ⊥
unfolding Each
each_at n [] k d h below apart e f = absurd (omega arith)
each_at n (m ∷ ms) zero d h below apart e f = apart.0 h e f
each_at n (m ∷ ms) (suc k) d h below apart e f = each_at n ms k d h (omega arith) apart.1 e f

yes_first : {A : Type 0} (b : Bool) (x y : A) → b ≡ true → cond b x y ≡ x
yes_first true x y e = refl
yes_first false x y e = cc

first_is_only : (ns : List CRow) (k : ℕ) (d : CRow) (h : ℕ) → k < length ns → All ns → is_of (get_or ns k d) h ≡ true → first_of ns h ≡ Some (made (get_or ns k d) h)
unfolding All
first_is_only [] k d h below apart e = absurd (omega arith)
first_is_only (n ∷ ns) zero d h below apart e = yes_first (is_of n h) (Some (made n h)) (first_of ns h) e
first_is_only (n ∷ ns) (suc k) d h below apart e =
    unless (is_of n h) (Some (made n h)) (first_of ns h) (λ of_n. each_at n ns k d h (omega arith) apart.0 of_n e)
    ∙ first_is_only ns k d h (omega arith) apart.1 e

rows_apart : All all_rows
unfolding Each All
rows_apart = (
  each_differs CAddi4spn (drop 1 all_rows) refl,
  (
    each_differs CLw (drop 2 all_rows) refl,
    (
      each_differs CSw (drop 3 all_rows) refl,
      (
        (nop_addi, each_differs CNop (drop 5 all_rows) refl),
        (
          each_differs CAddi (drop 5 all_rows) refl,
          (
            each_differs CJal (drop 6 all_rows) refl,
            (
              each_differs CLi (drop 7 all_rows) refl,
              (
                (addi16sp_lui, each_differs CAddi16sp (drop 9 all_rows) refl),
                (
                  each_differs CLui (drop 9 all_rows) refl,
                  (
                    each_differs CSrli (drop 10 all_rows) refl,
                    (
                      each_differs CSrai (drop 11 all_rows) refl,
                      (
                        each_differs CAndi (drop 12 all_rows) refl,
                        (
                          each_differs CSub (drop 13 all_rows) refl,
                          (
                            each_differs CXor (drop 14 all_rows) refl,
                            (
                              each_differs COr (drop 15 all_rows) refl,
                              (
                                each_differs CAnd (drop 16 all_rows) refl,
                                (
                                  each_differs CJ (drop 17 all_rows) refl,
                                  (
                                    each_differs CBeqz (drop 18 all_rows) refl,
                                    (
                                      each_differs CBnez (drop 19 all_rows) refl,
                                      (
                                        each_differs CSlli (drop 20 all_rows) refl,
                                        (
                                          each_differs CLwsp (drop 21 all_rows) refl,
                                          (
                                            (jr_mv, each_differs CJr (drop 23 all_rows) refl),
                                            (
                                              each_differs CMv (drop 23 all_rows) refl,
                                              (
                                                (ebreak_jalr, (ebreak_add, each_differs CEbreak (drop 26 all_rows) refl)),
                                                (
                                                  (jalr_add, each_differs CJalr (drop 26 all_rows) refl),
                                                  (
                                                    each_differs CAdd (drop 26 all_rows) refl,
                                                    (
                                                      each_differs CSwsp (drop 27 all_rows) refl,
                                                      tt,
                                                    ),
                                                  ),
                                                ),
                                              ),
                                            ),
                                          ),
                                        ),
                                      ),
                                    ),
                                  ),
                                ),
                              ),
                            ),
                          ),
                        ),
                      ),
                    ),
                  ),
                ),
              ),
            ),
          ),
        ),
      ),
    ),
  ),
)

at_position : (n : CRow) → (k : ℕ) × (k < length all_rows) × (get_or all_rows k n ≡ n)
at_position CAddi4spn = (0, omega arith, refl)
at_position CLw = (1, omega arith, refl)
at_position CSw = (2, omega arith, refl)
at_position CNop = (3, omega arith, refl)
at_position CAddi = (4, omega arith, refl)
at_position CJal = (5, omega arith, refl)
at_position CLi = (6, omega arith, refl)
at_position CAddi16sp = (7, omega arith, refl)
at_position CLui = (8, omega arith, refl)
at_position CSrli = (9, omega arith, refl)
at_position CSrai = (10, omega arith, refl)
at_position CAndi = (11, omega arith, refl)
at_position CSub = (12, omega arith, refl)
at_position CXor = (13, omega arith, refl)
at_position COr = (14, omega arith, refl)
at_position CAnd = (15, omega arith, refl)
at_position CJ = (16, omega arith, refl)
at_position CBeqz = (17, omega arith, refl)
at_position CBnez = (18, omega arith, refl)
at_position CSlli = (19, omega arith, refl)
at_position CLwsp = (20, omega arith, refl)
at_position CJr = (21, omega arith, refl)
at_position CMv = (22, omega arith, refl)
at_position CEbreak = (23, omega arith, refl)
at_position CJalr = (24, omega arith, refl)
at_position CAdd = (25, omega arith, refl)
at_position CSwsp = (26, omega arith, refl)

-- ---- the table, which a half-word spells one instruction by

-- by which way the test of the first row went
split : (b : Bool) (c d : Cins) (rest : Option Cins) → cond b (Some d) rest ≡ Some c → ((b ≡ true) × (c ≡ d)) ⊎ (rest ≡ Some c)
split true c d rest found = inl (refl, cc)
split false c d rest found = inr found

first_spells : (ns : List CRow) (h : ℕ) (c : Cins) → first_of ns h ≡ Some c → Spells16 h c
unfolding Spells16
first_spells [] h c found = cc
first_spells (n ∷ ns) h c found = elim (split (is_of n h) c (made n h) (first_of ns h) found) [
  | inl here ↦
      let same : c.row ≡ n = ap (λ (d : Cins). d.row) here.1 in
      (ap (λ m. is_of m h) same ∙ here.0, here.1 ∙ ap (λ m. made m h) (sym same))
  | inr later ↦ first_spells ns h c later
]

-- the table's instruction is the only one that the half-word spells
pub spelled_only : (h : ℕ) (c : Cins) → Spells16 h c → spelled16 h ≡ Some c
unfolding Spells16 spelled16
spelled_only h c here =
    let at = at_position c.row in
    first_is_only all_rows at.0 c.row h at.1 rows_apart (ap (λ n. is_of n h) at.2 ∙ here.0) ∙ ap (λ n. Some (made n h)) at.2 ∙ ap Some (sym here.1)

pub spelled_spells : (h : ℕ) (c : Cins) → spelled16 h ≡ Some c → Spells16 h c
unfolding spelled16
spelled_spells h c found = first_spells all_rows h c found

-- no two rows spell one half-word
pub spells_one : (h : ℕ) (c d : Cins) → Spells16 h c → Spells16 h d → c ≡ d
spells_one h c d p q = let a = spelled_only h c p in let b = spelled_only h d q in cc

pub none_spelled : (o : Option Cins) (P : Cins → Type 0) → ((c : Cins) → o ≡ Some c → P c) → ((c : Cins) → P c → o ≡ Some c) → IsNone o ↔ ((c : Cins) → ¬ P c)
none_spelled None P found only = (λ _ c here. let found : None ≡ Some c = only c here in cc, λ _. refl)
none_spelled (Some d) P found only = (λ none c here. cc, λ never. absurd (never d (found d refl)))

pub if_some : (o : Option Cins) (P : Cins → Type 0) → ((c : Cins) → o ≡ Some c → P c) → IfSome o P
if_some None P found = tt
if_some (Some c) P found = found c refl
