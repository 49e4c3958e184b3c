-- The half-word of an instruction that fits spells it, by trying each that a row has.
use Rattle.std.proofs.Common.{◌≡◌, ℕ, ◌+◌, ◌-◌, ◌*◌, ◌/◌, ◌%◌, ◌^◌, ◌<◌, Bool, true, Some, refl, sym, ap, subst, ◌∙◌, arith, add-zero, ◌==◌, ◌&&◌, nat_lt}
use Rattle.std.proofs.lemmas.Bool.{and_parts, eqb-true, ltb-true}
use Rattle.std.proofs.lemmas.Bool.Decides.{nat_tests}
use Rattle.std.proofs.Math.Nat.{mod-lt, one-le-pow}
use Rattle.std.proofs.lemmas.Nat.{mod-pow-add}
use Rattle.rv_encoding.specs.Fields.{width}
use Rattle.rv_encoding.specs.Fits.{can_be_spelled}
use Rattle.rvc_encoding.specs.declared.compressed.Cins.{Cins}
use Rattle.rvc_encoding.specs.declared.row.CRow.{CRow}
use Rattle.rvc_encoding.specs.declared.row.CRow.TheVariants.{Addi4spn as CAddi4spn, Lw as CLw, Sw as CSw, Nop as CNop, Addi as CAddi, Jal as CJal, Li as CLi, Addi16sp as CAddi16sp, Lui as CLui, Srli as CSrli, Srai as CSrai, Andi as CAndi, Sub as CSub, Xor as CXor, Or as COr, And as CAnd, J as CJ, Beqz as CBeqz, Bnez as CBnez, Slli as CSlli, Lwsp as CLwsp, Jr as CJr, Mv as CMv, Ebreak as CEbreak, Jalr as CJalr, Add as CAdd, Swsp as CSwsp}
use Rattle.rvc_encoding.specs.Fields.{Register, Full, Short, Always, register_in, names, Immediate, immediate_in, immediate_width, extended, spells_value}
use Rattle.rvc_encoding.specs.Rows.{row_of, allowed, is_of, Spells16, spelled16}
use Rattle.rvc_encoding.specs.Fits.{fits_row}
use Rattle.rvc_encoding.specs.Halves.{half_of}
use Rattle.rvc_encoding.specs.Expansion.{expansion}
use Rattle.rvc_encoding.proofs.Apart.{spelled_spells}
use Rattle.rvc_encoding.proofs.Again.{fits-spells}
use Rattle.rvc_encoding.proofs.Counting.{all_below, below, where_true, holds_where}

-- ---- the values of a field, in order

abbrev count : Register → ℕ
count (Full low) = 32
count (Short low) = 8
count (Always number) = 1

abbrev number_at : Register → ℕ → ℕ
number_at (Full low) i = i
number_at (Short low) i = 8 + i
number_at (Always number) i = number

abbrev index : Register → ℕ → ℕ
index (Full low) number = number
index (Short low) number = number - 8
index (Always number) r = 0

at_index : (r : Register) (number : ℕ) → names r number ≡ true → (index r number < count r) × (number_at r (index r number) ≡ number)
at_index (Full low) number e = (ltb-true _ _ e, refl)
at_index (Short low) number e = (grind (arith, nat_tests), grind (arith, nat_tests))
at_index (Always k) number e = (omega arith, sym (eqb-true _ _ e))

abbrev value_at : Immediate → ℕ → ℕ
value_at m v = extended m.signed (v * 2 ^ m.zeros) (immediate_width m)

abbrev value_index : Immediate → ℕ → ℕ
value_index m value = value / 2 ^ m.zeros % 2 ^ width m.pieces

at_value : (m : Immediate) (value : ℕ) → spells_value m value ≡ true → (value_index m value < 2 ^ width m.pieces) × (value_at m (value_index m value) ≡ value)
at_value m value e =
    let both = and_parts (value % 2 ^ m.zeros == 0) (extended m.signed (value % 2 ^ immediate_width m) (immediate_width m) == value) e in
    let low : value % 2 ^ m.zeros ≡ 0 = eqb-true _ _ both.0 in
    let high = value_index m value * 2 ^ m.zeros in
    let whole : value % 2 ^ immediate_width m ≡ high = mod-pow-add value (width m.pieces) m.zeros ∙ ap (λ x. high + x) low ∙ add-zero high in
    let some = one-le-pow (width m.pieces) 2 (omega arith) in
    (mod-lt (value / 2 ^ m.zeros) {m = 2 ^ width m.pieces} (omega arith), ap (λ x. extended m.signed x (immediate_width m)) (sym whole) ∙ eqb-true _ _ both.1)

-- ---- each instruction of a row

abbrev instruction_at : CRow → ℕ → ℕ → ℕ → Cins
instruction_at n i j v = record { row = n; a = number_at (row_of n).first i; b = number_at (row_of n).second j; imm = value_at (row_of n).immediate v }

-- a half-word is of the row of an instruction, and has its fields; the instruction's expansion can be spelled
abbrev reads_back_from : Cins → ℕ → Bool
reads_back_from c h =
    nat_lt h 65536 && (is_of c.row h && ((register_in (row_of c.row).first h == c.a) && ((register_in (row_of c.row).second h == c.b) && (immediate_in (row_of c.row).immediate h == c.imm))))

abbrev reads_back : Cins → Bool
reads_back c = where_true (allowed c) (λ _. reads_back_from c (half_of c) && can_be_spelled (expansion c))

all_read_back : (n : CRow) → all_below (λ i. all_below (λ j. all_below (λ v. reads_back (instruction_at n i j v)) (2 ^ width (row_of n).immediate.pieces)) (count (row_of n).second)) (count (row_of n).first) ≡ true
unfolding half_of expansion
all_read_back CAddi4spn = refl
all_read_back CLw = refl
all_read_back CSw = refl
all_read_back CNop = refl
all_read_back CAddi = refl
all_read_back CJal = refl
all_read_back CLi = refl
all_read_back CAddi16sp = refl
all_read_back CLui = refl
all_read_back CSrli = refl
all_read_back CSrai = refl
all_read_back CAndi = refl
all_read_back CSub = refl
all_read_back CXor = refl
all_read_back COr = refl
all_read_back CAnd = refl
all_read_back CJ = refl
all_read_back CBeqz = refl
all_read_back CBnez = refl
all_read_back CSlli = refl
all_read_back CLwsp = refl
all_read_back CJr = refl
all_read_back CMv = refl
all_read_back CEbreak = refl
all_read_back CJalr = refl
all_read_back CAdd = refl
all_read_back CSwsp = refl

same_fields : (n : CRow) (a b imm a' b' imm' : ℕ) → a ≡ a' → b ≡ b' → imm ≡ imm' → ◌≡◌ {A = Cins} (record { row = n; a = a; b = b; imm = imm }) (record { row = n; a = a'; b = b'; imm = imm' })
same_fields n a b imm a' b' imm' p q r = cc

reads_back_where_fits : (c : Cins) → fits_row c ≡ true → (reads_back_from c (half_of c) && can_be_spelled (expansion c)) ≡ true
reads_back_where_fits c fit =
    let r = row_of c.row in
    let most = and_parts (names r.first c.a && names r.second c.b && spells_value r.immediate c.imm) (allowed c) fit in
    let some = and_parts (names r.first c.a && names r.second c.b) (spells_value r.immediate c.imm) most.0 in
    let pair = and_parts (names r.first c.a) (names r.second c.b) some.0 in
    let first = at_index r.first c.a pair.0 in
    let second = at_index r.second c.b pair.1 in
    let immediate = at_value r.immediate c.imm some.1 in
    let i = index r.first c.a in
    let j = index r.second c.b in
    let v = value_index r.immediate c.imm in
    let same : instruction_at c.row i j v ≡ c = same_fields c.row _ _ _ c.a c.b c.imm first.1 second.1 immediate.1 in
    let rows = below (λ i. all_below (λ j. all_below (λ v. reads_back (instruction_at c.row i j v)) (2 ^ width r.immediate.pieces)) (count r.second)) (count r.first) i (all_read_back c.row) first.0 in
    let columns = below (λ j. all_below (λ v. reads_back (instruction_at c.row i j v)) (2 ^ width r.immediate.pieces)) (count r.second) j rows second.0 in
    let tried : reads_back (instruction_at c.row i j v) ≡ true = below (λ v. reads_back (instruction_at c.row i j v)) (2 ^ width r.immediate.pieces) v columns immediate.0 in
    let here : reads_back c ≡ true = subst (λ (d : Cins). reads_back d ≡ true) same tried in
    holds_where (allowed c) (λ _. reads_back_from c (half_of c) && can_be_spelled (expansion c)) most.1 here

-- what fits is spelled by its half-word
pub half_of-spells : (c : Cins) → fits_row c ≡ true → (half_of c < 2 ^ 16) × Spells16 (half_of c) c
unfolding Spells16
half_of-spells c fit =
    let h = half_of c in
    let r = row_of c.row in
    let all = (and_parts (reads_back_from c h) (can_be_spelled (expansion c)) (reads_back_where_fits c fit)).0 in
    let small = and_parts (nat_lt h 65536) (is_of c.row h && ((register_in r.first h == c.a) && ((register_in r.second h == c.b) && (immediate_in r.immediate h == c.imm)))) all in
    let here = and_parts (is_of c.row h) ((register_in r.first h == c.a) && ((register_in r.second h == c.b) && (immediate_in r.immediate h == c.imm))) small.1 in
    let first = and_parts (register_in r.first h == c.a) ((register_in r.second h == c.b) && (immediate_in r.immediate h == c.imm)) here.1 in
    let second = and_parts (register_in r.second h == c.b) (immediate_in r.immediate h == c.imm) first.1 in
    (ltb-true _ _ small.0, (here.0, sym (same_fields c.row _ _ _ c.a c.b c.imm (eqb-true _ _ first.0) (eqb-true _ _ second.0) (eqb-true _ _ second.1))))

-- what fits expands to an instruction that can be spelled
pub expansion-can_be_spelled : (c : Cins) → fits_row c ≡ true → can_be_spelled (expansion c) ≡ true
expansion-can_be_spelled c fit = (and_parts (reads_back_from c (half_of c)) (can_be_spelled (expansion c)) (reads_back_where_fits c fit)).1

-- so does what a half-word spells
pub spelled16-can_be_spelled : (h : ℕ) (c : Cins) → h < 2 ^ 16 → spelled16 h ≡ Some c → can_be_spelled (expansion c) ≡ true
spelled16-can_be_spelled h c small found = expansion-can_be_spelled c (fits-spells h c small (spelled_spells h c found))
