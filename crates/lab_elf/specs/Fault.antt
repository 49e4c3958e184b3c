-- What is wrong with a file, and what a function answers that reads one.
use Rattle.std.specs.Prelude.{◌≡◌, ℕ, Bool, List, [], ◌∷◌, if◌then◌else◌, Result, Ok, Err}
use Rattle.lab_elf.specs.declared.elf_why.ElfWhy.{ElfWhy}
use Rattle.lab_elf.specs.declared.elf_error.ElfError.{ElfError}
use Rattle.lab_elf.specs.declared.elf_error.ElfError.TheVariants.{Memory, Refused}

-- what is wrong, and where
pub record Fault : Type 0 where
  pub place : ℕ
  pub why : ElfWhy

abbrev pub at_place : {A : Type 0} → ℕ → ElfWhy → Result A Fault
at_place place why = Err (record { place = place; why = why })

-- ---- tests in their order

-- something that may be wrong, and what it is then
pub record Test : Type 0 where
  pub holds : Bool
  pub why : ElfWhy
  pub place : ℕ

abbrev pub test : Bool → ElfWhy → ℕ → Test
test holds why place = record { holds = holds; why = why; place = place }

-- the first that holds is what is wrong
abbrev pub first_of : List Test → Result (Unit {0}) Fault
first_of [] = Ok tt
first_of (t ∷ ts) = if t.holds then at_place t.place t.why else first_of ts

-- ---- what a function answers

-- it refused what reading refuses, or memory was wanting
abbrev pub Fails : {A : Type 0} → ElfError → Result A Fault → Type 0
Fails Memory read = Unit {0}
Fails (Refused place why) read = read ≡ at_place place why

-- it answered what reading gives, unless memory was wanting
abbrev pub Gives : {X Y : Type 0} → (X → Y) → Result X ElfError → Result Y Fault → Type 0
Gives view (Ok x) read = read ≡ Ok (view x)
Gives view (Err e) read = Fails e read

-- it made a list what reading gives; after an Err it may be anything
abbrev pub Becomes : {X : Type 0} → List X → Result (Unit {0}) ElfError → Result (List X) Fault → Type 0
Becomes new (Ok done) read = read ≡ Ok new
Becomes new (Err e) read = Fails e read
