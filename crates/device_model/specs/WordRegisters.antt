-- A device whose registers have four bytes each and are accessed with width 4 alone: tables by offset.
use Rattle.std.specs.Prelude.{ℕ, ◌==◌, List, [], ◌∷◌, Option, None, Some, Bool, if◌then◌else◌, unwrap_or}
use Rattle.device_model.specs.declared.stimulus.Stimulus.{Stimulus}
use Rattle.device_model.specs.Meanings.{Meanings}

-- the row of the table at the offset
abbrev pub row_at : {A : Type 0} → List (ℕ × A) → ℕ → Option A
row_at [] at = None
row_at (row ∷ rows) at = if at == row.0 then Some row.1 else row_at rows at

-- what an access finds in the table
abbrev pub word_at : {A : Type 0} → List (ℕ × A) → ℕ → ℕ → Option A
word_at rows at width = if width == 4 then row_at rows at else None

pub record WordRegisters : Type 1 where
  pub IsState : List ℕ → Type 0
  -- the offset of the last register, plus 4
  pub end : ℕ
  -- what a load answers
  pub loads : List ℕ → List (ℕ × ℕ)
  -- the state after a load, for the registers whose load changes it
  pub load_changes : List ℕ → List (ℕ × List ℕ)
  -- the state after a store of the value
  pub stores : List ℕ → ℕ → List (ℕ × List ℕ)
  pub after_stimulus : List ℕ → Stimulus → List ℕ
  pub lines : List ℕ → List Bool
  pub halted : List ℕ → Option ℕ
  pub output_of : List ℕ → List ℕ

-- the device with these registers, from offset 0 on
abbrev pub word_device : WordRegisters → Meanings
word_device r = record {
  IsState = r.IsState;
  low = λ s. 0;
  high = λ s. r.end;
  loaded = λ s at width. word_at (r.loads s) at width;
  after_load = λ s at width. unwrap_or (word_at (r.load_changes s) at width) s;
  after_store = λ s at width value. word_at (r.stores s value) at width;
  after_stimulus = r.after_stimulus;
  lines = r.lines;
  halted = r.halted;
  output_of = r.output_of;
}
