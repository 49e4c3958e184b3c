-- The half-word of what a half-word spells is that half-word, by trying each that a row has.
use Rattle.std.proofs.Common.{◌≡◌, ℕ, ◌+◌, ◌*◌, ◌/◌, ◌%◌, ◌<◌, Bool, true, refl, sym, ap, subst, ◌∙◌, arith, bit_and, ◌==◌, ◌&&◌}
use Rattle.std.proofs.lemmas.Nat.{and_assoc}
use Rattle.std.proofs.lemmas.Bool.{and_parts, eqb-true}
use Rattle.hart_words.specs.Bits.{bits}
use Rattle.rvc_encoding.specs.declared.compressed.Cins.{Cins}
use Rattle.rvc_encoding.specs.declared.row.CRow.{CRow}
use Rattle.rvc_encoding.specs.declared.row.CRow.TheVariants.{Addi4spn as CAddi4spn, Lw as CLw, Sw as CSw, Nop as CNop, Addi as CAddi, Jal as CJal, Li as CLi, Addi16sp as CAddi16sp, Lui as CLui, Srli as CSrli, Srai as CSrai, Andi as CAndi, Sub as CSub, Xor as CXor, Or as COr, And as CAnd, J as CJ, Beqz as CBeqz, Bnez as CBnez, Slli as CSlli, Lwsp as CLwsp, Jr as CJr, Mv as CMv, Ebreak as CEbreak, Jalr as CJalr, Add as CAdd, Swsp as CSwsp}
use Rattle.rvc_encoding.specs.Rows.{row_of, made, is_of, Spells16}
use Rattle.rvc_encoding.specs.Fits.{fits_row}
use Rattle.rvc_encoding.specs.Halves.{half_of}
use Rattle.rvc_encoding.proofs.Apart.{matched}
use Rattle.rvc_encoding.proofs.Masks.{group}
use Rattle.rvc_encoding.proofs.Counting.{all_below, below, where_true, holds_where}

-- a half-word of the row is spelled again by what it spells, which fits
abbrev is_again : CRow → ℕ → Bool
is_again n h = where_true (is_of n h) (λ _. (half_of (made n h) == h) && fits_row (made n h))

-- a half-word with the row's quadrant and function, by its other bits
abbrev half_at : CRow → ℕ → ℕ
half_at n x = bit_and (row_of n).match 0xE003 + 4 * x

all_again : (n : CRow) → all_below (λ x. is_again n (half_at n x)) 2048 ≡ true
unfolding half_of
all_again CAddi4spn = refl
all_again CLw = refl
all_again CSw = refl
all_again CNop = refl
all_again CAddi = refl
all_again CJal = refl
all_again CLi = refl
all_again CAddi16sp = refl
all_again CLui = refl
all_again CSrli = refl
all_again CSrai = refl
all_again CAndi = refl
all_again CSub = refl
all_again CXor = refl
all_again COr = refl
all_again CAnd = refl
all_again CJ = refl
all_again CBeqz = refl
all_again CBnez = refl
all_again CSlli = refl
all_again CLwsp = refl
all_again CJr = refl
all_again CMv = refl
all_again CEbreak = refl
all_again CJalr = refl
all_again CAdd = refl
all_again CSwsp = refl

masked : (n : CRow) → bit_and (row_of n).mask 0xE003 ≡ 0xE003
masked CAddi4spn = refl
masked CLw = refl
masked CSw = refl
masked CNop = refl
masked CAddi = refl
masked CJal = refl
masked CLi = refl
masked CAddi16sp = refl
masked CLui = refl
masked CSrli = refl
masked CSrai = refl
masked CAndi = refl
masked CSub = refl
masked CXor = refl
masked COr = refl
masked CAnd = refl
masked CJ = refl
masked CBeqz = refl
masked CBnez = refl
masked CSlli = refl
masked CLwsp = refl
masked CJr = refl
masked CMv = refl
masked CEbreak = refl
masked CJalr = refl
masked CAdd = refl
masked CSwsp = refl

-- each half-word of the row is at its other bits
half-half_at : (n : CRow) (h : ℕ) → h < 65536 → is_of n h ≡ true → half_at n (h / 4 % 2048) ≡ h
half-half_at n h small e =
    let same : bit_and (row_of n).match 0xE003 ≡ bits h 13 3 * 0x2000 + bits h 0 2 = ap (λ x. bit_and x 0xE003) (sym (matched n h e)) ∙ and_assoc 0xE003 h (row_of n).mask ∙ ap (bit_and h) (masked n) ∙ group h in
    omega arith

again : (n : CRow) (h : ℕ) → h < 65536 → is_of n h ≡ true → (half_of (made n h) ≡ h) × (fits_row (made n h) ≡ true)
again n h small e =
    let tried : is_again n (half_at n (h / 4 % 2048)) ≡ true = below (λ x. is_again n (half_at n x)) 2048 (h / 4 % 2048) (all_again n) (omega arith) in
    let here : is_again n h ≡ true = subst (λ (x : ℕ). is_again n x ≡ true) (half-half_at n h small e) tried in
    let both = and_parts (half_of (made n h) == h) (fits_row (made n h)) (holds_where (is_of n h) (λ _. (half_of (made n h) == h) && fits_row (made n h)) e here) in
    (eqb-true _ _ both.0, both.1)

-- a half-word that spells an instruction is that instruction's
pub half-spells : (h : ℕ) (c : Cins) → h < 65536 → Spells16 h c → half_of c ≡ h
unfolding Spells16
half-spells h c small here = ap half_of here.1 ∙ (again c.row h small here.0).0

-- what a half-word spells fits
pub fits-spells : (h : ℕ) (c : Cins) → h < 65536 → Spells16 h c → fits_row c ≡ true
unfolding Spells16
fits-spells h c small here = ap fits_row here.1 ∙ (again c.row h small here.0).1
