-- What a load from ROM gives, and the number that a shift multiplies by.
use Rattle.std.proofs.Common.{◌≡◌, ℕ, ◌+◌, ◌*◌, ◌^◌, ◌<◌, true, cond, List, [], Some, sym, ap, ap₂, ◌∙◌, arith}
use Rattle.std.proofs.lemmas.Bool.{leb-true}
use Rattle.std.proofs.lemmas.Nat.{pow_below}
use Rattle.hart_words.specs.TwosComplement.{word}
use Rattle.hart_exec.specs.Access.{load_width, extends_sign, extended}
use Rattle.hart_memory.specs.Memory.{Memory}
use Rattle.hart_memory.specs.Bytes.{number_at}
use Rattle.hart_memory.specs.Place.{holds, is_in_memory, is_in_rom}
use Rattle.hart_memory.specs.Access.{loaded, loaded_by}
use Rattle.hart_memory.specs.declared.address_map.TheConstants.{BANK_LEN}
use Rattle.hart_memory.proofs.PlaceLemmas.{place_rom}
use Rattle.rv_encoding.specs.declared.operations.LoadOp.{LoadOp}
use Rattle.chain_certify.specs.Flow.{Value, Const, Unknown}
use Rattle.chain_certify.specs.Transfer.{loaded_value, is_memory, by_width}

pub word_power : (n : ℕ) → n < 32 → word (1 * 2 ^ n) ≡ 2 ^ n
word_power n l = let below = pow_below n 32 l in omega arith

pub rom_held : (at width : ℕ) → is_in_rom at width ≡ true → holds at width ≡ true
rom_held at width e = ap (λ p. is_in_memory p) (place_rom at width (leb-true (at + width) BANK_LEN e))

pub rom_value : (m : Memory) (at width v : ℕ) → is_in_rom at width ≡ true → loaded m at width ≡ Some v → v ≡ number_at m.rom at width
rom_value m at width v e l =
    let here = ap (λ p. loaded_by p m width) (place_rom at width (leb-true (at + width) BANK_LEN e)) in
    cc

pub rom_loaded : (code : List ℕ) (at width v x : ℕ) (op : LoadOp) → width ≡ load_width op → is_in_rom at width ≡ true → v ≡ number_at code at width → x ≡ extended v width (extends_sign op) → Const x ≡ loaded_value code [] op (Const at)
rom_loaded code at width v x op w r n e =
    let inside : is_in_rom at (load_width op) ≡ true = ap (λ i. is_in_rom at i) (sym w) ∙ r in
    let value : v ≡ number_at code at (load_width op) = n ∙ ap (λ i. number_at code at i) w in
    let is : x ≡ extended (number_at code at (load_width op)) (load_width op) (extends_sign op) = e ∙ ap₂ (λ i j. extended i j (extends_sign op)) value w in
    ap Const is ∙ sym (ap (λ b. cond b (Const (extended (number_at code at (load_width op)) (load_width op) (extends_sign op))) (cond (is_memory at at (load_width op)) (by_width op) Unknown)) inside)
