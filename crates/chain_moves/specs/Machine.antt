-- Machines that make moves. What a run of moves is, what it costs, how it ends and which services it has is told for every such machine.
use Rattle.std.specs.Prelude.{ℕ, Bool, List, Option, Some, None}
use Rattle.chain_moves.specs.declared.broken.Broken.{Broken}
use Rattle.chain_moves.specs.declared.moves.Move.{Move}

-- when a test is made: before a step of the board, by whether that step raises, or after it
pub data When : Type 0 where
  Before : When
  Within : When
  After : When

-- what becomes of a move: one of a kind is made, and leads to a state; or a test holds, when so many bodies were made; or none is made, since the board has halted
pub data Moved (K S : Type 0) : Type 0 where
  Makes : K → S → Moved K S
  Breaks : When → Broken → ℕ → Moved K S
  Ends : Moved K S

-- a machine with moves of the kinds K, states S and services E
pub record Machine (K S E : Type 0) : Type 0 where
  -- the move that is due
  pub move : S → Moved K S
  -- which of Enter, Leave and Body a kind costs as much as
  pub costs_as : K → Move
  -- whether an Enter of an input that is not hardware-vectored is due
  pub claims : S → Bool
  -- how many bodies were made, and the services so far
  pub bodies : S → ℕ
  pub services : S → List E

-- the move is made where no test holds
abbrev pub unless_broken : {K S : Type 0} → When → Option Broken → ℕ → Moved K S → Moved K S
unless_broken when None bodies moved = moved
unless_broken when (Some kind) bodies moved = Breaks when kind bodies
