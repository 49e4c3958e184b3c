-- The word of an instruction is read as that instruction.
use Rattle.std.proofs.Common.{◌≡◌, ℕ, ◌*◌, ◌/◌, ◌%◌, ◌^◌, ◌<◌, arith, Bool, true, nat_lt, ◌==◌, ◌&&◌, ap, ◌∙◌, sym, bit_and, Some, None, Option, List, [], ◌∷◌, cond, subst, Any, inl, inr}
use Rattle.std.proofs.lemmas.Bool.{and_parts, eqb-true, ltb-true}
use Rattle.hart_words.specs.Sign.{sign_extended}
use Rattle.rv_encoding.proofs.Apart.{split, some_first, some_later}
use Rattle.rv_encoding.proofs.Masks.{opcode, function, functions}
use Rattle.rv_encoding.specs.Fields.{rd_of, rs1_of, rs2_of, csr_of, i_immediate, s_immediate, b_immediate, u_immediate, j_immediate, gathered, i_pieces, s_pieces, b_pieces, j_pieces}
use Rattle.rv_encoding.specs.Fits.{is_register, is_signed, is_upper, is_offset}
use Rattle.rv_encoding.specs.Formats.{r_type, i_type, s_type, b_type, u_type, j_type, csr_type}
use Rattle.rv_encoding.specs.Rows.{Row, rows, IsOf, Spells}
use Rattle.rv_encoding.specs.Words.{r_word, i_word, s_word, b_word, u_word, j_word, csr_word}
use Rattle.rv_encoding.specs.declared.instruction.Ins.{Ins}

ap2 : (f : ℕ → ℕ → Ins) {a a' b b' : ℕ} → a ≡ a' → b ≡ b' → f a b ≡ f a' b'
ap2 f p q = cc

ap3 : (f : ℕ → ℕ → ℕ → Ins) {a a' b b' d d' : ℕ} → a ≡ a' → b ≡ b' → d ≡ d' → f a b d ≡ f a' b' d'
ap3 f p q r = cc

-- ---- a row by its mask and match

abbrev pub row_at : ℕ → ℕ → List Row → ℕ → Option Ins
row_at mask match [] w = None
row_at mask match (r ∷ rs) w = cond ((r.mask == mask) && (r.match == match)) (Some (r.makes w)) (row_at mask match rs w)

in_table : (mask match : ℕ) (rs : List Row) (w : ℕ) (i : Ins) → row_at mask match rs w ≡ Some i → bit_and w mask ≡ match → Any (λ r. IsOf r w × (i ≡ r.makes w)) rs
in_table mask match [] w i found here = cc
in_table mask match (r ∷ rs) w i found here = elim (split ((r.mask == mask) && (r.match == match)) i (r.makes w) (row_at mask match rs w) found) [
  | inl at ↦
      let both = and_parts _ _ at.0 in
      let of_r : IsOf r w = ap (bit_and w) (eqb-true _ _ both.0) ∙ here ∙ sym (eqb-true _ _ both.1) in
      some_first _ r rs (of_r, at.1)
  | inr later ↦ some_later _ r rs (in_table mask match rs w i later here)
]

pub spells_at : (mask match : ℕ) (w : ℕ) (i made : Ins) → row_at mask match rows w ≡ Some made → bit_and w mask ≡ match → made ≡ i → Spells w i
unfolding Spells
spells_at mask match w i made found here same = in_table mask match rows w i (found ∙ ap Some same) here

-- the match has an opcode and a function field alone
abbrev pub is_function : ℕ → Bool
is_function m = nat_lt (m % 4096) 128 && nat_lt m 32768

abbrev pub are_functions : ℕ → Bool
are_functions m = nat_lt (m % 4096) 128 && nat_lt (m / 4096 % 8192) 8 && nat_lt m (2 ^ 32)

-- ---- R

pub r_spells : (m : ℕ) (name : ℕ → ℕ → ℕ → Ins) → ((w : ℕ) → row_at 0xFE00707F m rows w ≡ Some (r_type name w)) → are_functions m ≡ true → (rd rs1 rs2 : ℕ) → (is_register rd && is_register rs1 && is_register rs2) ≡ true → ((r_word m rd rs1 rs2) < 2 ^ 32) × Spells (r_word m rd rs1 rs2) (name rd rs1 rs2)
r_spells m name found functional rd rs1 rs2 fit =
    let registers = and_parts (is_register rd && is_register rs1) (is_register rs2) fit in
    let pair = and_parts (is_register rd) (is_register rs1) registers.0 in
    let a : rd < 32 = ltb-true _ _ pair.0 in
    let b : rs1 < 32 = ltb-true _ _ pair.1 in
    let c : rs2 < 32 = ltb-true _ _ registers.1 in
    let fields = and_parts (nat_lt (m % 4096) 128 && nat_lt (m / 4096 % 8192) 8) (nat_lt m (2 ^ 32)) functional in
    let low = and_parts (nat_lt (m % 4096) 128) (nat_lt (m / 4096 % 8192) 8) fields.0 in
    let o : m % 4096 < 128 = ltb-true _ _ low.0 in
    let f : m / 4096 % 8192 < 8 = ltb-true _ _ low.1 in
    let s : m < 2 ^ 32 = ltb-true _ _ fields.1 in
    let here : bit_and (r_word m rd rs1 rs2) 0xFE00707F ≡ m = omega (arith, functions (r_word m rd rs1 rs2)) in
    let e1 : rd_of (r_word m rd rs1 rs2) ≡ rd = omega arith in
    let e2 : rs1_of (r_word m rd rs1 rs2) ≡ rs1 = omega arith in
    let e3 : rs2_of (r_word m rd rs1 rs2) ≡ rs2 = omega arith in
    (omega arith, spells_at 0xFE00707F m _ _ _ (found (r_word m rd rs1 rs2)) here (ap3 name e1 e2 e3))

-- the amount of a shift stands where rs2 does
pub shift_spells : (m : ℕ) (name : ℕ → ℕ → ℕ → Ins) → ((w : ℕ) → row_at 0xFE00707F m rows w ≡ Some (r_type name w)) → are_functions m ≡ true → (rd rs1 amount : ℕ) → (is_register rd && is_register rs1 && nat_lt amount 32) ≡ true → ((i_word m rd rs1 amount) < 2 ^ 32) × Spells (i_word m rd rs1 amount) (name rd rs1 amount)
shift_spells m name found functional rd rs1 amount fit =
    let small : amount < 32 = ltb-true _ _ (and_parts (is_register rd && is_register rs1) (nat_lt amount 32) fit).1 in
    let same : r_word m rd rs1 amount ≡ i_word m rd rs1 amount = omega arith in
    subst (λ (w : ℕ). (w < 2 ^ 32) × Spells w (name rd rs1 amount)) same (r_spells m name found functional rd rs1 amount fit)

-- ---- I

pub i_spells : (m : ℕ) (name : ℕ → ℕ → ℕ → Ins) → ((w : ℕ) → row_at 0x707F m rows w ≡ Some (i_type name w)) → is_function m ≡ true → (rd rs1 imm : ℕ) → (is_register rd && is_register rs1 && is_signed imm 12) ≡ true → ((i_word m rd rs1 imm) < 2 ^ 32) × Spells (i_word m rd rs1 imm) (name rd rs1 imm)
i_spells m name found functional rd rs1 imm fit =
    let all = and_parts (is_register rd && is_register rs1) (is_signed imm 12) fit in
    let pair = and_parts (is_register rd) (is_register rs1) all.0 in
    let a : rd < 32 = ltb-true _ _ pair.0 in
    let b : rs1 < 32 = ltb-true _ _ pair.1 in
    let low = and_parts (nat_lt (m % 4096) 128) (nat_lt m 32768) functional in
    let o : m % 4096 < 128 = ltb-true _ _ low.0 in
    let s : m < 32768 = ltb-true _ _ low.1 in
    let here : bit_and (i_word m rd rs1 imm) 0x707F ≡ m = omega (arith, function (i_word m rd rs1 imm)) in
    let e1 : rd_of (i_word m rd rs1 imm) ≡ rd = omega arith in
    let e2 : rs1_of (i_word m rd rs1 imm) ≡ rs1 = omega arith in
    let again : gathered i_pieces (i_word m rd rs1 imm) ≡ imm % 2 ^ 12 = omega arith in
    let e3 : i_immediate (i_word m rd rs1 imm) ≡ imm = ap (λ v. sign_extended v 12) again ∙ eqb-true _ _ all.1 in
    (omega arith, spells_at 0x707F m _ _ _ (found (i_word m rd rs1 imm)) here (ap3 name e1 e2 e3))

-- ---- S

pub s_spells : (m : ℕ) (name : ℕ → ℕ → ℕ → Ins) → ((w : ℕ) → row_at 0x707F m rows w ≡ Some (s_type name w)) → is_function m ≡ true → (rs1 rs2 imm : ℕ) → (is_register rs1 && is_register rs2 && is_signed imm 12) ≡ true → ((s_word m rs1 rs2 imm) < 2 ^ 32) × Spells (s_word m rs1 rs2 imm) (name rs1 rs2 imm)
s_spells m name found functional rs1 rs2 imm fit =
    let all = and_parts (is_register rs1 && is_register rs2) (is_signed imm 12) fit in
    let pair = and_parts (is_register rs1) (is_register rs2) all.0 in
    let a : rs1 < 32 = ltb-true _ _ pair.0 in
    let b : rs2 < 32 = ltb-true _ _ pair.1 in
    let low = and_parts (nat_lt (m % 4096) 128) (nat_lt m 32768) functional in
    let o : m % 4096 < 128 = ltb-true _ _ low.0 in
    let s : m < 32768 = ltb-true _ _ low.1 in
    let here : bit_and (s_word m rs1 rs2 imm) 0x707F ≡ m = omega (arith, function (s_word m rs1 rs2 imm)) in
    let e1 : rs1_of (s_word m rs1 rs2 imm) ≡ rs1 = omega arith in
    let e2 : rs2_of (s_word m rs1 rs2 imm) ≡ rs2 = omega arith in
    let again : gathered s_pieces (s_word m rs1 rs2 imm) ≡ imm % 2 ^ 12 = omega arith in
    let e3 : s_immediate (s_word m rs1 rs2 imm) ≡ imm = ap (λ v. sign_extended v 12) again ∙ eqb-true _ _ all.1 in
    (omega arith, spells_at 0x707F m _ _ _ (found (s_word m rs1 rs2 imm)) here (ap3 name e1 e2 e3))

-- ---- B

pub b_spells : (m : ℕ) (name : ℕ → ℕ → ℕ → Ins) → ((w : ℕ) → row_at 0x707F m rows w ≡ Some (b_type name w)) → is_function m ≡ true → (rs1 rs2 offset : ℕ) → (is_register rs1 && is_register rs2 && is_offset offset 13) ≡ true → ((b_word m rs1 rs2 offset) < 2 ^ 32) × Spells (b_word m rs1 rs2 offset) (name rs1 rs2 offset)
b_spells m name found functional rs1 rs2 offset fit =
    let all = and_parts (is_register rs1 && is_register rs2) (is_offset offset 13) fit in
    let pair = and_parts (is_register rs1) (is_register rs2) all.0 in
    let reach = and_parts (is_signed offset 13) (offset % 2 == 0) all.1 in
    let even : offset % 2 ≡ 0 = eqb-true _ _ reach.1 in
    let a : rs1 < 32 = ltb-true _ _ pair.0 in
    let b : rs2 < 32 = ltb-true _ _ pair.1 in
    let low = and_parts (nat_lt (m % 4096) 128) (nat_lt m 32768) functional in
    let o : m % 4096 < 128 = ltb-true _ _ low.0 in
    let s : m < 32768 = ltb-true _ _ low.1 in
    let here : bit_and (b_word m rs1 rs2 offset) 0x707F ≡ m = omega (arith, function (b_word m rs1 rs2 offset)) in
    let e1 : rs1_of (b_word m rs1 rs2 offset) ≡ rs1 = omega arith in
    let e2 : rs2_of (b_word m rs1 rs2 offset) ≡ rs2 = omega arith in
    let again : gathered b_pieces (b_word m rs1 rs2 offset) * 2 ≡ offset % 2 ^ 13 = omega arith in
    let e3 : b_immediate (b_word m rs1 rs2 offset) ≡ offset = ap (λ v. sign_extended v 13) again ∙ eqb-true _ _ reach.0 in
    (omega arith, spells_at 0x707F m _ _ _ (found (b_word m rs1 rs2 offset)) here (ap3 name e1 e2 e3))

-- ---- U and J

pub u_spells : (m : ℕ) (name : ℕ → ℕ → Ins) → ((w : ℕ) → row_at 0x7F m rows w ≡ Some (u_type name w)) → m < 128 → (rd imm : ℕ) → (is_register rd && is_upper imm) ≡ true → ((u_word m rd imm) < 2 ^ 32) × Spells (u_word m rd imm) (name rd imm)
u_spells m name found s rd imm fit =
    let all = and_parts (is_register rd) (is_upper imm) fit in
    let upper = and_parts (nat_lt imm (2 ^ 32)) (imm % 2 ^ 12 == 0) all.1 in
    let a : rd < 32 = ltb-true _ _ all.0 in
    let small : imm < 2 ^ 32 = ltb-true _ _ upper.0 in
    let whole : imm % 2 ^ 12 ≡ 0 = eqb-true _ _ upper.1 in
    let here : bit_and (u_word m rd imm) 0x7F ≡ m = omega (arith, opcode (u_word m rd imm)) in
    let e1 : rd_of (u_word m rd imm) ≡ rd = omega arith in
    let e2 : u_immediate (u_word m rd imm) ≡ imm = omega arith in
    (omega arith, spells_at 0x7F m _ _ _ (found (u_word m rd imm)) here (ap2 name e1 e2))

pub j_spells : (m : ℕ) (name : ℕ → ℕ → Ins) → ((w : ℕ) → row_at 0x7F m rows w ≡ Some (j_type name w)) → m < 128 → (rd offset : ℕ) → (is_register rd && is_offset offset 21) ≡ true → ((j_word m rd offset) < 2 ^ 32) × Spells (j_word m rd offset) (name rd offset)
j_spells m name found s rd offset fit =
    let all = and_parts (is_register rd) (is_offset offset 21) fit in
    let reach = and_parts (is_signed offset 21) (offset % 2 == 0) all.1 in
    let even : offset % 2 ≡ 0 = eqb-true _ _ reach.1 in
    let a : rd < 32 = ltb-true _ _ all.0 in
    let here : bit_and (j_word m rd offset) 0x7F ≡ m = omega (arith, opcode (j_word m rd offset)) in
    let e1 : rd_of (j_word m rd offset) ≡ rd = omega arith in
    let again : gathered j_pieces (j_word m rd offset) * 2 ≡ offset % 2 ^ 21 = omega arith in
    let e2 : j_immediate (j_word m rd offset) ≡ offset = ap (λ v. sign_extended v 21) again ∙ eqb-true _ _ reach.0 in
    (omega arith, spells_at 0x7F m _ _ _ (found (j_word m rd offset)) here (ap2 name e1 e2))

-- ---- CSR

pub csr_spells : (m : ℕ) (name : ℕ → ℕ → ℕ → Ins) → ((w : ℕ) → row_at 0x707F m rows w ≡ Some (csr_type name w)) → is_function m ≡ true → (rd source csr : ℕ) → (is_register rd && nat_lt source 32 && nat_lt csr 4096) ≡ true → ((csr_word m rd source csr) < 2 ^ 32) × Spells (csr_word m rd source csr) (name rd source csr)
csr_spells m name found functional rd source csr fit =
    let all = and_parts (is_register rd && nat_lt source 32) (nat_lt csr 4096) fit in
    let pair = and_parts (is_register rd) (nat_lt source 32) all.0 in
    let a : rd < 32 = ltb-true _ _ pair.0 in
    let b : source < 32 = ltb-true _ _ pair.1 in
    let c : csr < 4096 = ltb-true _ _ all.1 in
    let low = and_parts (nat_lt (m % 4096) 128) (nat_lt m 32768) functional in
    let o : m % 4096 < 128 = ltb-true _ _ low.0 in
    let s : m < 32768 = ltb-true _ _ low.1 in
    let here : bit_and (csr_word m rd source csr) 0x707F ≡ m = omega (arith, function (csr_word m rd source csr)) in
    let e1 : rd_of (csr_word m rd source csr) ≡ rd = omega arith in
    let e2 : rs1_of (csr_word m rd source csr) ≡ source = omega arith in
    let e3 : csr_of (csr_word m rd source csr) ≡ csr = omega arith in
    (omega arith, spells_at 0x707F m _ _ _ (found (csr_word m rd source csr)) here (ap3 name e1 e2 e3))
