-- The instruction at an address of the code, as it is read half-word by half-word.
use Rattle.std.proofs.Common.{◌≡◌, ℕ, ◌+◌, ◌*◌, true, false, List, [], Some, sym, ap, ap₂, ◌∙◌}
use Rattle.std.specs.Prelude.{◌&&◌, ◌||◌}
use Rattle.hart_words.specs.TwosComplement.{word}
use Rattle.hart_memory.specs.Memory.{Memory}
use Rattle.hart_memory.specs.Bytes.{number_at}
use Rattle.hart_memory.specs.Place.{holds, is_in_memory}
use Rattle.hart_memory.specs.Access.{loaded}
use Rattle.hart_memory.specs.Fetch.{fetched, fetched_first, fetched_length, fetched_second, is_long}
use Rattle.hart_memory.proofs.PlaceLemmas.{place_rom}
use Rattle.chain_flow.specs.Rules.{is_bad_half, is_outside}
use Rattle.chain_flow.specs.Look.{IsCodeAt}
use Rattle.chain_flow.proofs.Looks.{half_in, loaded_half}

-- it can be loaded
pub half_held : (at : ℕ) → is_bad_half at ≡ false → holds at 2 ≡ true
half_held at e = ap (λ p. is_in_memory p) (place_rom at 2 (half_in at e).0)

-- and is what ROM has
pub half_is : (m : Memory) (at value : ℕ) → is_bad_half at ≡ false → loaded m at 2 ≡ Some value → value ≡ number_at m.rom at 2
half_is m at value e l =
    let same = loaded_half m at e in
    cc

module _ (m : Memory) (at low : ℕ) (first : is_bad_half at ≡ false) (is : loaded m at 2 ≡ Some low) where
  abbrev code : List ℕ
  code = m.rom

  outside_by : is_outside code at ≡ (is_long low && is_bad_half (word (at + 2)))
  outside_by = ap₂ (λ a b. a || (is_long b && is_bad_half (word (at + 2)))) first (sym (half_is m at low first is))

  fetched_by : fetched (record { rom = code; ram = [] }) at ≡ fetched_length (is_long low) (record { rom = code; ram = [] }) low at
  unfolding fetched
  fetched_by = ap (λ o. fetched_first o (record { rom = code; ram = [] }) at) (loaded_half (record { rom = code; ram = [] }) at first ∙ ap Some (sym (half_is m at low first is)))

  pub short : is_long low ≡ false → IsCodeAt code at (Some (low, 2))
  short s = (outside_by ∙ ap (λ b. b && is_bad_half (word (at + 2))) s, fetched_by ∙ ap (λ b. fetched_length b (record { rom = code; ram = [] }) low at) s)

  pub bad_second : is_long low ≡ true → is_bad_half (word (at + 2)) ≡ true → is_outside code at ≡ true
  bad_second l b = outside_by ∙ ap₂ (λ x y. x && y) l b

  pub long : (high : ℕ) → is_long low ≡ true → is_bad_half (word (at + 2)) ≡ false → loaded m (word (at + 2)) 2 ≡ Some high → IsCodeAt code at (Some (low + 0x1_0000 * high, 4))
  long high l b h = (
    outside_by ∙ ap₂ (λ x y. x && y) l b,
    fetched_by
        ∙ (ap (λ b. fetched_length b (record { rom = code; ram = [] }) low at) l
        ∙ ap (λ o. fetched_second o low (word (at + 2))) (loaded_half (record { rom = code; ram = [] }) (word (at + 2)) b ∙ ap Some (sym (half_is m (word (at + 2)) high b h)))),
  )
