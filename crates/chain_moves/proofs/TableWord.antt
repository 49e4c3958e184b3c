-- The word of the table that an Enter reads: the board has the one that the servicing machine has.
use Rattle.std.proofs.Common.{◌≡◌, ℕ, ◌+◌, ◌-◌, ◌<◌, ◌≤◌, ◌⊎◌, Bool, true, false, ◌&&◌, List, Some, refl, sym, ap, ap₂, ◌∙◌, slice_index, arith}
use Rattle.std.specs.Prelude.{slice_index_or, nat_le}
use Rattle.std.proofs.lemmas.Bool.{or_parts}
use Rattle.std.proofs.lemmas.Bool.Decides.{nat_tests}
use Rattle.hart_memory.specs.Memory.{Memory}
use Rattle.hart_memory.specs.Place.{place, holds, is_in_memory}
use Rattle.hart_memory.specs.Access.{loaded, loaded_by}
use Rattle.hart_memory.specs.declared.place.Place.{Place}
use Rattle.hart_memory.specs.declared.place.Place.TheVariants.{InRom, InRam, Elsewhere}
use Rattle.hart_memory.specs.declared.address_map.TheConstants.{RAM_BASE}
use Rattle.hart_memory.proofs.PlaceLemmas.{in_rom, in_ram}
use Rattle.hart_memory.proofs.NumberLemmas.{number_same}
use Rattle.chain_moves.specs.Slot.{in_slot, frame_size}
use Rattle.chain_moves.specs.Bytes.{is_hidden, is_dead, in_frame}
use Rattle.chain_moves.specs.Enter.{table_word, word_or_zero}
use Rattle.chain_moves.specs.Agreement.{AgreeRom}

hidden_parts : (dead : List Bool) (j : ℕ) → is_hidden dead j ≡ false → (in_slot j ≡ false) × (is_dead dead j ≡ false)
hidden_parts dead j e = or_parts (in_slot j) (is_dead dead j) e

not_dead : (dead : List Bool) (j : ℕ) → is_dead dead (RAM_BASE + j) ≡ false → slice_index_or dead j false ≡ false
not_dead dead j e =
    let up : nat_le RAM_BASE (RAM_BASE + j) ≡ true = grind (arith, nat_tests) in
    let back : RAM_BASE + j - RAM_BASE ≡ j = omega arith in
    sym (ap₂ (λ b k. b && slice_index_or dead k false) up back) ∙ e

pub outside_frame : (a j : ℕ) → in_frame a j ≡ false → (j < a) ⊎ (a + frame_size ≤ j)
outside_frame a j e = grind (arith, nat_tests)

module _ (memory : Memory) (rom ram : List ℕ) (dead : List Bool) (at : ℕ) where
  -- the word's bytes in RAM
  abbrev pub SameWord : Type 0
  SameWord = (j : ℕ) → at ≤ RAM_BASE + j → RAM_BASE + j < at + 4 → slice_index_or dead j false ≡ false → slice_index ram j ≡ slice_index memory.ram j

  reads_by : (p : Place) → AgreeRom rom memory.rom → SameWord → ((j : ℕ) → at ≤ j → j < at + 4 → is_hidden dead j ≡ false) → place at 4 ≡ p → is_in_memory p ≡ true
      → loaded_by p (record { rom = rom; ram = ram }) 4 ≡ Some (word_or_zero (loaded_by p memory 4))
  reads_by (InRom k) agree same seen is held =
      let lie = in_rom at 4 k is in
      ap (λ n. Some n) (number_same rom memory.rom k 4 (λ j l r. agree.at j (hidden_parts dead j (seen j (omega (arith, lie.is)) (omega (arith, lie.is)))).0))
  reads_by (InRam k) agree same seen is held =
      let lie = in_ram at 4 k is in
      ap (λ n. Some n) (number_same ram memory.ram k 4 (λ j l r. let low : at ≤ RAM_BASE + j = omega (arith, lie.is) in let high : RAM_BASE + j < at + 4 = omega (arith, lie.is) in same j low high (not_dead dead j (hidden_parts dead (RAM_BASE + j) (seen (RAM_BASE + j) low high)).1)))
  reads_by Elsewhere agree same seen is held = absurd cc

  pub table_reads : AgreeRom rom memory.rom → SameWord → ((j : ℕ) → at ≤ j → j < at + 4 → is_hidden dead j ≡ false) → holds at 4 ≡ true → loaded (record { rom = rom; ram = ram }) at 4 ≡ Some (table_word memory at)
  unfolding table_word
  table_reads agree same seen held = reads_by (place at 4) agree same seen refl held
