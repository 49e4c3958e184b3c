-- What the board's memory has in common with that of the servicing machine.
use Rattle.std.specs.Prelude.{◌≡◌, ◌^◌, ℕ, ◌+◌, ◌-◌, ◌%◌, ◌<◌, ◌≤◌, Bool, true, false, List, [], ◌∷◌, length, slice_index, slice_index_or}
use Rattle.hart_words.specs.Bits.{bits}
use Rattle.csr_file.specs.Views.{is_set}
use Rattle.hart_memory.specs.Bytes.{number_at, with_number}
use Rattle.hart_memory.specs.declared.address_map.TheConstants.{RAM_BASE, BANK_LEN}
use Rattle.chain_moves.specs.Slot.{in_slot, frame_size}
use Rattle.chain_moves.specs.Servicing.{Live, marks, innermost_level}

-- the bytes of ROM outside the slot are the same
pub record AgreeRom (rom other : List ℕ) : Type 0 where
  pub at : (j : ℕ) → in_slot j ≡ false → slice_index rom j ≡ slice_index other j

-- the bytes of RAM that aren't dead are the same
pub record Agree (ram other : List ℕ) (dead : List Bool) : Type 0 where
  pub long : length ram ≡ BANK_LEN
  pub other_long : length other ≡ BANK_LEN
  pub marks : length dead ≡ BANK_LEN
  pub at : (j : ℕ) → slice_index_or dead j false ≡ false → slice_index ram j ≡ slice_index other j

-- where a service's frame begins in RAM
abbrev pub place_of : Live → ℕ
place_of v = v.mark.frame - RAM_BASE

-- a live frame in the board's RAM: dead bytes, the suspended registers and pc, and an mcause with MPIE 1 and the level outside
pub record Frame (ram : List ℕ) (dead : List Bool) (v : Live) (outer : ℕ) : Type 0 where
  pub low : RAM_BASE ≤ v.mark.frame
  pub high : v.mark.frame + frame_size ≤ RAM_BASE + BANK_LEN
  pub aligned : v.mark.frame % 4 ≡ 0
  pub hidden : (j : ℕ) → place_of v ≤ j → j < place_of v + frame_size → slice_index_or dead j false ≡ true
  pub ra : number_at ram (place_of v) 4 ≡ v.ra
  pub a0 : number_at ram (place_of v + 4) 4 ≡ v.a0
  pub a1 : number_at ram (place_of v + 8) 4 ≡ v.a1
  pub cause : number_at ram (place_of v + 12) 4 < 256 ^ 4
  pub enabled : is_set (number_at ram (place_of v + 12) 4) 27 ≡ true
  pub level : bits (number_at ram (place_of v + 12) 4) 16 8 ≡ outer
  pub pc : number_at ram (place_of v + 16) 4 ≡ v.pc

abbrev pub Frames : List ℕ → List Bool → List Live → Type 0
Frames ram dead [] = Unit {0}
Frames ram dead (v ∷ vs) = Frame ram dead v (innermost_level (marks vs)) × Frames ram dead vs

-- RAM with a frame made at a place: ra, a0, a1, mcause and pc
unfoldable pub framed : List ℕ → ℕ → (ra a0 a1 cause pc : ℕ) → List ℕ
framed ram k ra a0 a1 cause pc = with_number (with_number (with_number (with_number (with_number ram k 4 ra) (k + 4) 4 a0) (k + 8) 4 a1) (k + 12) 4 cause) (k + 16) 4 pc
