-- What the decoder's first match needs: each opcode's part of the table.
use Rattle.std.proofs.Common.{◌≡◌, ◌≢◌, ℕ, Some, None, refl, ap, ◌∙◌, List, [], ◌∷◌, ◌==◌, not, bit_and, true, false, cond, sym}
use Rattle.std.specs.List.{list_all, filter}
use Rattle.std.proofs.lemmas.Bool.{and_parts, ne_eqb, not-true}
use Rattle.hart_words.specs.Bits.{bits}
use Rattle.rv_encoding.proofs.Apart.{narrowed}
use Rattle.rv_encoding.proofs.Masks.{opcode}
use Rattle.rv_encoding.specs.Formats.{u_type, j_type}
use Rattle.rv_encoding.specs.Parts.{part}
use Rattle.rv_encoding.specs.Rows.{Row, rows, spelled, first_of}
use Rattle.rv_encoding.specs.declared.instruction.Ins.TheVariants.{Lui, Auipc, Jal}

-- every mask has the opcode
rows_have_opcodes : list_all (λ r. bit_and r.mask 0x7F == 0x7F) rows ≡ true
unfolding rows
rows_have_opcodes = refl

-- the decoder reads the rows of the word's opcode alone
pub by_opcode : (w : ℕ) → spelled w ≡ part (bits w 0 7) w
unfolding spelled part
by_opcode w = narrowed 0x7F rows w rows_have_opcodes ∙ ap (λ o. first_of (filter (λ r. bit_and r.match 0x7F == o) rows) w) (opcode w)

-- no row has another opcode
kept_none : (opcode : ℕ) (rs : List Row) (w : ℕ) → list_all (λ r. not (bit_and r.match 0x7F == opcode)) rs ≡ true → first_of (filter (λ r. bit_and r.match 0x7F == opcode) rs) w ≡ None
kept_none opcode [] w all = refl
kept_none opcode (r ∷ rs) w all =
    let both = and_parts (not (bit_and r.match 0x7F == opcode)) (list_all (λ s. not (bit_and s.match 0x7F == opcode)) rs) all in
    let other : (bit_and r.match 0x7F == opcode) ≡ false = not-true _ both.0 in
    rw other (kept_none opcode rs w both.1)

pub other_opcode : (o w : ℕ) → o ≢ 0x37 → o ≢ 0x17 → o ≢ 0x6F → o ≢ 0x67 → o ≢ 0x63 → o ≢ 0x03 → o ≢ 0x23 → o ≢ 0x13 → o ≢ 0x33 → o ≢ 0x0F → o ≢ 0x73 → part o w ≡ None
unfolding part rows
other_opcode o w lui auipc jal jalr branch load store imm reg fence system =
    let n : (m : ℕ) → o ≢ m → (m == o) ≡ false = λ m h. ne_eqb m o (λ e. h (sym e)) in
    let e1 : (0x37 == o) ≡ false = n _ lui in
    let e2 : (0x17 == o) ≡ false = n _ auipc in
    let e3 : (0x6F == o) ≡ false = n _ jal in
    let e4 : (0x67 == o) ≡ false = n _ jalr in
    let e5 : (0x63 == o) ≡ false = n _ branch in
    let e6 : (0x03 == o) ≡ false = n _ load in
    let e7 : (0x23 == o) ≡ false = n _ store in
    let e8 : (0x13 == o) ≡ false = n _ imm in
    let e9 : (0x33 == o) ≡ false = n _ reg in
    let e10 : (0x0F == o) ≡ false = n _ fence in
    let e11 : (0x73 == o) ≡ false = n _ system in
    kept_none o rows w (simp (e1, e2, e3, e4, e5, e6, e7, e8, e9, e10, e11))

pub lui : (w : ℕ) → bits w 0 7 ≡ 0x37 → part 0x37 w ≡ Some (u_type Lui w)
unfolding part rows
lui w here = ap (λ x. cond (x == 0x37) (Some (u_type Lui w)) None) (opcode w ∙ here)

pub auipc : (w : ℕ) → bits w 0 7 ≡ 0x17 → part 0x17 w ≡ Some (u_type Auipc w)
unfolding part rows
auipc w here = ap (λ x. cond (x == 0x17) (Some (u_type Auipc w)) None) (opcode w ∙ here)

pub jal : (w : ℕ) → bits w 0 7 ≡ 0x6F → part 0x6F w ≡ Some (j_type Jal w)
unfolding part rows
jal w here = ap (λ x. cond (x == 0x6F) (Some (j_type Jal w)) None) (opcode w ∙ here)

pub ruleset tops = (by_opcode, lui, auipc, jal, other_opcode)
