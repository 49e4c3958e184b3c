-- Where the controller's bytes of an input stand.
use Rattle.std.proofs.Common.{◌≡◌, ℕ, ◌+◌, ◌-◌, ◌*◌, ◌/◌, ◌%◌, ◌<◌, Some, true, false, refl, arith}
use Rattle.std.specs.Prelude.{◌==◌, nat_lt}
use Rattle.std.proofs.lemmas.Bool.{ne_eqb, le-ltb, lt-ltb}
use Rattle.clic_regs.specs.ClicState.{ClicState, input_count}
use Rattle.clic_regs.specs.Bytes.{input_byte, value_of, byte_read}

pub input_byte_read : (c : ClicState) (i k : ℕ) → i < input_count c → k < 4 → byte_read c (0x1000 + 4 * i + k) ≡ Some (value_of c (input_byte i k))
unfolding byte_read
input_byte_read c i k h l =
    let o = 0x1000 + 4 * i + k in
    let some : (o == 0) ≡ false = ne_eqb o 0 (λ e. omega (arith, e)) in
    let past : nat_lt o 4 ≡ false = le-ltb _ _ (omega arith) in
    let inputs : nat_lt o 0x1000 ≡ false = le-ltb _ _ (omega arith) in
    let within : nat_lt o (0x1000 + 4 * input_count c) ≡ true = lt-ltb _ _ (omega arith) in
    let number : (o - 0x1000) / 4 ≡ i = omega arith in
    let byte : o % 4 ≡ k = omega arith in
    rw (some, past, inputs, within, number, byte) refl
