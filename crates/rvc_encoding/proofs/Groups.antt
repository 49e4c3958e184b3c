-- The decoder reads the rows of the half-word's quadrant and function alone.
use Rattle.std.proofs.Common.{◌≡◌, ◌≢◌, ℕ, zero, suc, ◌+◌, ◌*◌, ◌<◌, List, [], ◌∷◌, Bool, true, false, bit_and, Some, None, refl, sym, ap, ◌∙◌, arith, cond, ◌==◌, eq-eqb, filter}
use Rattle.std.specs.List.{list_all}
use Rattle.std.proofs.lemmas.Nat.{and_assoc}
use Rattle.std.proofs.lemmas.Bool.{and_parts, eqb-true, false≢true}
use Rattle.hart_words.specs.Bits.{bits}
use Rattle.rvc_encoding.specs.declared.row.CRow.{CRow}
use Rattle.rvc_encoding.specs.Rows.{row_of, all_rows, made, is_of, spelled16, first_of}
use Rattle.rvc_encoding.specs.Parts.{part}
use Rattle.rvc_encoding.proofs.Apart.{matched, unless}
use Rattle.rvc_encoding.proofs.Masks.{group}

narrow_step : (t : Bool) (n : CRow) (h : ℕ) (ns kept : List CRow) → (is_of n h ≡ true → t ≡ true) → first_of ns h ≡ first_of kept h → first_of (n ∷ ns) h ≡ first_of (cond t (n ∷ kept) kept) h
narrow_step true n h ns kept stays rest = ap (λ x. cond (is_of n h) (Some (made n h)) x) rest
narrow_step false n h ns kept stays rest = unless (is_of n h) (Some (made n h)) (first_of ns h) (λ e. false≢true (stays e)) ∙ rest

narrowed : (ns : List CRow) (h : ℕ) → list_all (λ n. bit_and (row_of n).mask 0xE003 == 0xE003) ns ≡ true → first_of ns h ≡ first_of (filter (λ n. bit_and (row_of n).match 0xE003 == bit_and h 0xE003) ns) h
narrowed [] h all = refl
narrowed (n ∷ ns) h all =
    let both = and_parts (bit_and (row_of n).mask 0xE003 == 0xE003) (list_all (λ m. bit_and (row_of m).mask 0xE003 == 0xE003) ns) all in
    narrow_step (bit_and (row_of n).match 0xE003 == bit_and h 0xE003) n h ns (filter (λ m. bit_and (row_of m).match 0xE003 == bit_and h 0xE003) ns)
    (λ of_n. eq-eqb _ _ (ap (λ x. bit_and x 0xE003) (sym (matched n h of_n)) ∙ and_assoc 0xE003 h (row_of n).mask ∙ ap (bit_and h) (eqb-true _ _ both.0)))
    (narrowed ns h both.1)

pub by_group : (h : ℕ) → spelled16 h ≡ part (bits h 13 3 * 0x2000 + bits h 0 2) h
unfolding spelled16 part
by_group h = narrowed all_rows h refl ∙ ap (λ g. first_of (filter (λ n. bit_and (row_of n).match 0xE003 == g) all_rows) h) (group h)

-- ---- groups without a row

none_0 : (f h : ℕ) → f < 8 → f ≢ 0 → f ≢ 2 → f ≢ 6 → part (f * 0x2000) h ≡ None
unfolding part
none_0 zero h l a b d = absurd (a refl)
none_0 (suc zero) h l a b d = refl
none_0 (suc (suc zero)) h l a b d = absurd (b refl)
none_0 (suc (suc (suc zero))) h l a b d = refl
none_0 (suc (suc (suc (suc zero)))) h l a b d = refl
none_0 (suc (suc (suc (suc (suc zero))))) h l a b d = refl
none_0 (suc (suc (suc (suc (suc (suc zero)))))) h l a b d = absurd (d refl)
none_0 (suc (suc (suc (suc (suc (suc (suc zero))))))) h l a b d = refl
none_0 (suc (suc (suc (suc (suc (suc (suc (suc f)))))))) h l a b d = absurd (omega arith)

none_2 : (f h : ℕ) → f < 8 → f ≢ 0 → f ≢ 2 → f ≢ 4 → f ≢ 6 → part (f * 0x2000 + 2) h ≡ None
unfolding part
none_2 zero h l a b d e = absurd (a refl)
none_2 (suc zero) h l a b d e = refl
none_2 (suc (suc zero)) h l a b d e = absurd (b refl)
none_2 (suc (suc (suc zero))) h l a b d e = refl
none_2 (suc (suc (suc (suc zero)))) h l a b d e = absurd (d refl)
none_2 (suc (suc (suc (suc (suc zero))))) h l a b d e = refl
none_2 (suc (suc (suc (suc (suc (suc zero)))))) h l a b d e = absurd (e refl)
none_2 (suc (suc (suc (suc (suc (suc (suc zero))))))) h l a b d e = refl
none_2 (suc (suc (suc (suc (suc (suc (suc (suc f)))))))) h l a b d e = absurd (omega arith)

none_3 : (f h : ℕ) → f < 8 → part (f * 0x2000 + 3) h ≡ None
unfolding part
none_3 zero h l = refl
none_3 (suc zero) h l = refl
none_3 (suc (suc zero)) h l = refl
none_3 (suc (suc (suc zero))) h l = refl
none_3 (suc (suc (suc (suc zero)))) h l = refl
none_3 (suc (suc (suc (suc (suc zero))))) h l = refl
none_3 (suc (suc (suc (suc (suc (suc zero)))))) h l = refl
none_3 (suc (suc (suc (suc (suc (suc (suc zero))))))) h l = refl
none_3 (suc (suc (suc (suc (suc (suc (suc (suc f)))))))) h l = absurd (omega arith)

in_group : (f q h : ℕ) → bits h 13 3 ≡ f → bits h 0 2 ≡ q → spelled16 h ≡ part (f * 0x2000 + q) h
in_group f q h e g = by_group h ∙ ap (λ x. part (x * 0x2000 + bits h 0 2) h) e ∙ ap (λ x. part (f * 0x2000 + x) h) g

pub spelled-none_0 : (h : ℕ) → bits h 0 2 ≡ 0 → bits h 13 3 ≢ 0 → bits h 13 3 ≢ 2 → bits h 13 3 ≢ 6 → spelled16 h ≡ None
spelled-none_0 h q a b d =
    let e : bits h 13 3 * 0x2000 + 0 ≡ bits h 13 3 * 0x2000 = omega arith in
    in_group (bits h 13 3) 0 h refl q ∙ ap (λ x. part x h) e ∙ none_0 (bits h 13 3) h (omega arith) a b d

pub spelled-none_2 : (h : ℕ) → bits h 0 2 ≡ 2 → bits h 13 3 ≢ 0 → bits h 13 3 ≢ 2 → bits h 13 3 ≢ 4 → bits h 13 3 ≢ 6 → spelled16 h ≡ None
spelled-none_2 h q a b d e = in_group (bits h 13 3) 2 h refl q ∙ none_2 (bits h 13 3) h (omega arith) a b d e

pub spelled-none_3 : (h : ℕ) → bits h 0 2 ≡ 3 → spelled16 h ≡ None
spelled-none_3 h q = in_group (bits h 13 3) 3 h refl q ∙ none_3 (bits h 13 3) h (omega arith)

pub spelled-0_0 : (h : ℕ) → bits h 13 3 ≡ 0 → bits h 0 2 ≡ 0 → spelled16 h ≡ part 0x0000 h
spelled-0_0 h f q = in_group 0 0 h f q

pub spelled-2_0 : (h : ℕ) → bits h 13 3 ≡ 2 → bits h 0 2 ≡ 0 → spelled16 h ≡ part 0x4000 h
spelled-2_0 h f q = in_group 2 0 h f q

pub spelled-6_0 : (h : ℕ) → bits h 13 3 ≡ 6 → bits h 0 2 ≡ 0 → spelled16 h ≡ part 0xC000 h
spelled-6_0 h f q = in_group 6 0 h f q

pub spelled-0_1 : (h : ℕ) → bits h 13 3 ≡ 0 → bits h 0 2 ≡ 1 → spelled16 h ≡ part 0x0001 h
spelled-0_1 h f q = in_group 0 1 h f q

pub spelled-1_1 : (h : ℕ) → bits h 13 3 ≡ 1 → bits h 0 2 ≡ 1 → spelled16 h ≡ part 0x2001 h
spelled-1_1 h f q = in_group 1 1 h f q

pub spelled-2_1 : (h : ℕ) → bits h 13 3 ≡ 2 → bits h 0 2 ≡ 1 → spelled16 h ≡ part 0x4001 h
spelled-2_1 h f q = in_group 2 1 h f q

pub spelled-3_1 : (h : ℕ) → bits h 13 3 ≡ 3 → bits h 0 2 ≡ 1 → spelled16 h ≡ part 0x6001 h
spelled-3_1 h f q = in_group 3 1 h f q

pub spelled-4_1 : (h : ℕ) → bits h 13 3 ≡ 4 → bits h 0 2 ≡ 1 → spelled16 h ≡ part 0x8001 h
spelled-4_1 h f q = in_group 4 1 h f q

pub spelled-5_1 : (h : ℕ) → bits h 13 3 ≡ 5 → bits h 0 2 ≡ 1 → spelled16 h ≡ part 0xA001 h
spelled-5_1 h f q = in_group 5 1 h f q

pub spelled-6_1 : (h : ℕ) → bits h 13 3 ≡ 6 → bits h 0 2 ≡ 1 → spelled16 h ≡ part 0xC001 h
spelled-6_1 h f q = in_group 6 1 h f q

pub spelled-7_1 : (h : ℕ) → bits h 13 3 ≡ 7 → bits h 0 2 ≡ 1 → spelled16 h ≡ part 0xE001 h
spelled-7_1 h f q = in_group 7 1 h f q

pub spelled-0_2 : (h : ℕ) → bits h 13 3 ≡ 0 → bits h 0 2 ≡ 2 → spelled16 h ≡ part 0x0002 h
spelled-0_2 h f q = in_group 0 2 h f q

pub spelled-2_2 : (h : ℕ) → bits h 13 3 ≡ 2 → bits h 0 2 ≡ 2 → spelled16 h ≡ part 0x4002 h
spelled-2_2 h f q = in_group 2 2 h f q

pub spelled-4_2 : (h : ℕ) → bits h 13 3 ≡ 4 → bits h 0 2 ≡ 2 → spelled16 h ≡ part 0x8002 h
spelled-4_2 h f q = in_group 4 2 h f q

pub spelled-6_2 : (h : ℕ) → bits h 13 3 ≡ 6 → bits h 0 2 ≡ 2 → spelled16 h ≡ part 0xC002 h
spelled-6_2 h f q = in_group 6 2 h f q

pub ruleset groups = (spelled-none_0, spelled-none_2, spelled-none_3, spelled-0_0, spelled-2_0, spelled-6_0, spelled-0_1, spelled-1_1, spelled-2_1, spelled-3_1, spelled-4_1, spelled-5_1, spelled-6_1, spelled-7_1, spelled-0_2, spelled-2_2, spelled-4_2, spelled-6_2)
