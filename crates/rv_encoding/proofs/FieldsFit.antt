-- Each field that a word is read by holds its value.
use Rattle.std.proofs.Common.{◌≡◌, ℕ, ◌*◌, ◌<◌, arith, true, nat_lt, Some, ap, ◌∙◌}
use Rattle.std.specs.List.{list_all}
use Rattle.std.proofs.lemmas.Bool.{lt-ltb}
use Rattle.std.proofs.lemmas.Bool.Decides.{nat_tests}
use Rattle.hart_words.specs.Bits.{bits}
use Rattle.hart_words.specs.Sign.{sign_extended}
use Rattle.rv_encoding.specs.Fields.{rd_of, rs1_of, rs2_of, csr_of, i_immediate, s_immediate, b_immediate, u_immediate, j_immediate, gathered, i_pieces, s_pieces, b_pieces, j_pieces}
use Rattle.rv_encoding.specs.Fits.{is_register, is_signed, is_upper, is_offset, can_be_spelled}
use Rattle.rv_encoding.specs.Rows.{rows, IsOf, Spells, spelled}
use Rattle.rv_encoding.specs.declared.instruction.Ins.{Ins}
use Rattle.rv_encoding.proofs.Apart.{some_passes, spelled_spells}

signed_12 : (v : ℕ) → v < 4096 → is_signed (sign_extended v 12) 12 ≡ true
signed_12 v small = grind (arith, nat_tests)

offset_13 : (v : ℕ) → v < 4096 → is_offset (sign_extended (v * 2) 13) 13 ≡ true
offset_13 v small = grind (arith, nat_tests)

offset_21 : (v : ℕ) → v < 1048576 → is_offset (sign_extended (v * 2) 21) 21 ≡ true
offset_21 v small = grind (arith, nat_tests)

pub rows_fit : (w : ℕ) → list_all (λ r. can_be_spelled (r.makes w)) rows ≡ true
unfolding rows
rows_fit w =
    let rd : is_register (rd_of w) ≡ true = lt-ltb _ _ (omega arith) in
    let rs1 : is_register (rs1_of w) ≡ true = lt-ltb _ _ (omega arith) in
    let rs2 : is_register (rs2_of w) ≡ true = lt-ltb _ _ (omega arith) in
    let csr : nat_lt (csr_of w) 4096 ≡ true = lt-ltb _ _ (omega arith) in
    let pred : nat_lt (bits w 24 4) 16 ≡ true = lt-ltb _ _ (omega arith) in
    let succ : nat_lt (bits w 20 4) 16 ≡ true = lt-ltb _ _ (omega arith) in
    let i : is_signed (i_immediate w) 12 ≡ true = signed_12 (gathered i_pieces w) (omega arith) in
    let s : is_signed (s_immediate w) 12 ≡ true = signed_12 (gathered s_pieces w) (omega arith) in
    let b : is_offset (b_immediate w) 13 ≡ true = offset_13 (gathered b_pieces w) (omega arith) in
    let j : is_offset (j_immediate w) 21 ≡ true = offset_21 (gathered j_pieces w) (omega arith) in
    let u : is_upper (u_immediate w) ≡ true = grind (arith, nat_tests) in
    simp (rd, rs1, rs2, csr, pred, succ, i, s, b, j, u)

-- what a word spells can be spelled
pub spelled_fits : (w : ℕ) (i : Ins) → Spells w i → can_be_spelled i ≡ true
unfolding Spells
spelled_fits w i here =
    some_passes (λ r. can_be_spelled (r.makes w)) (λ r. IsOf r w × (i ≡ r.makes w)) (can_be_spelled i ≡ true)
    (λ r passes at. ap can_be_spelled at.1 ∙ passes) rows (rows_fit w) here

-- the same of the function
pub spelled-can_be_spelled : (w : ℕ) (i : Ins) → spelled w ≡ Some i → can_be_spelled i ≡ true
spelled-can_be_spelled w i found = spelled_fits w i (spelled_spells w i found)
