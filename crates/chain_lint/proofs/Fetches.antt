-- A board's fetch, where ROM is the code outside the slot.
use Rattle.std.proofs.Common.{◌≡◌, ℕ, ◌+◌, Bool, true, false, List, [], Some, refl, sym, ap, ◌∙◌}
use Rattle.std.specs.Prelude.{◌&&◌}
use Rattle.std.proofs.lemmas.Bool.{or_parts, true≢false}
use Rattle.hart_words.specs.TwosComplement.{word}
use Rattle.hart_memory.specs.Memory.{Memory}
use Rattle.hart_memory.specs.Bytes.{number_at}
use Rattle.hart_memory.specs.Access.{loaded}
use Rattle.hart_memory.specs.Fetch.{fetched, fetched_first, fetched_length, fetched_second, is_long}
use Rattle.hart_memory.proofs.NumberLemmas.{number_same}
use Rattle.chain_moves.specs.Slot.{in_slot, back}
use Rattle.chain_moves.specs.Bytes.{some_byte}
use Rattle.chain_flow.specs.Rules.{is_outside, is_bad_half}
use Rattle.chain_flow.proofs.Looks.{half_in, loaded_half}
use Rattle.chain_lint.specs.Soundness.{HasCode}
use Rattle.chain_lint.proofs.Marking.{none_of}

-- a half-word of the code is the board's
pub loaded_code : (code : List ℕ) (m : Memory) (at : ℕ) → HasCode code m.rom → is_bad_half at ≡ false → loaded m at 2 ≡ Some (number_at code at 2)
loaded_code code m at has e = loaded_half m at e ∙ ap Some (number_same m.rom code at 2 (λ j l r. has j (none_of in_slot at 2 (half_in at e).1 j l r)))

fetched_by : (b : Bool) (code : List ℕ) (m : Memory) (at : ℕ) → HasCode code m.rom → is_long (number_at code at 2) ≡ b → (b && is_bad_half (word (at + 2))) ≡ false
    → fetched_length b m (number_at code at 2) at ≡ fetched_length b (record { rom = code; ram = [] }) (number_at code at 2) at
fetched_by false code m at has l e = refl
fetched_by true code m at has l e =
    ap (λ o. fetched_second o (number_at code at 2) (word (at + 2))) (loaded_code code m (word (at + 2)) has e ∙ sym (loaded_half (record { rom = code; ram = [] }) (word (at + 2)) e))

pub same_fetch : (code : List ℕ) (m : Memory) (at : ℕ) → HasCode code m.rom → is_outside code at ≡ false → fetched m at ≡ fetched (record { rom = code; ram = [] }) at
unfolding fetched
same_fetch code m at has e =
    let parts = or_parts (is_bad_half at) (is_long (number_at code at 2) && is_bad_half (word (at + 2))) e in
    ap (λ o. fetched_first o m at) (loaded_code code m at has parts.0)
    ∙ fetched_by (is_long (number_at code at 2)) code m at has refl parts.1
    ∙ sym (ap (λ o. fetched_first o (record { rom = code; ram = [] }) at) (loaded_half (record { rom = code; ram = [] }) at parts.0))

-- the address where handlers return is no code
pub back_outside : (code : List ℕ) → is_outside code back ≡ false → ⊥
unfolding some_byte
back_outside code e = true≢false (sym (ap (λ b. b) refl) ∙ e)
