-- The operands of a line.
use Rattle.std.specs.Prelude.{ℕ, List}

-- a number as it stands, a label's address, or the distance to an address or to a label
pub data Number : Type 0 where
  Given : ℕ → Number
  Absolute : List ℕ → Number
  Near : ℕ → Number
  NearLabel : List ℕ → Number

-- registers, sets and numbers by the field that they become
pub record Operands : Type 0 where
  pub rd : ℕ
  pub rs1 : ℕ
  pub rs2 : ℕ
  pub csr : ℕ
  pub amount : ℕ
  pub number : Number

-- what a line doesn't give is 0
abbrev pub no_operands : Operands
no_operands = record { rd = 0; rs1 = 0; rs2 = 0; csr = 0; amount = 0; number = Given 0 }
