-- The state of the servicing machine.
use Rattle.std.specs.Prelude.{ℕ, Bool, true, false, List, [], ◌∷◌}
use Rattle.hart_memory.specs.Memory.{Memory}
use Rattle.hart_board.specs.State.{Outside}
use Rattle.chain_moves.specs.declared.mark.Mark.{Mark}

-- a service that is live: the number of its input, its mark (its level, its frame's address, and the registers as its handler began), and the pc, ra, a0 and a1 that it suspended
pub record Live : Type 0 where
  pub number : ℕ
  pub mark : Mark
  pub pc : ℕ
  pub ra : ℕ
  pub a0 : ℕ
  pub a1 : ℕ

-- a service that was entered; the depth counts the live services, itself among them
pub record Service : Type 0 where
  pub number : ℕ
  pub level : ℕ
  pub depth : ℕ

pub record Servicing : Type 0 where
  pub registers : List ℕ
  pub pc : ℕ
  -- whether the foreground takes interrupts, and whether interrupts were on before the last trap
  pub on : Bool
  pub was : Bool
  pub threshold : ℕ
  -- where the table of handlers begins, and where interrupts go
  pub table : ℕ
  pub vector : ℕ
  -- the stack pointer that the other side has: of the interrupt stack while the foreground runs, of the foreground while a service is live
  pub scratch : ℕ
  pub memory : Memory
  pub outside : Outside
  -- the live services, innermost first
  pub live : List Live
  -- for each byte of RAM whether it is dead
  pub dead : List Bool
  -- how many bodies were made, and the services so far
  pub bodies : ℕ
  pub services : List Service

-- the marks of the live services, innermost first
unfoldable pub marks : List Live → List Mark
marks [] = []
marks (v ∷ vs) = v.mark ∷ marks vs

-- no service is live
abbrev pub is_foreground : List Mark → Bool
is_foreground [] = true
is_foreground (v ∷ vs) = false

-- the level of the innermost service, or 0
abbrev pub innermost_level : List Mark → ℕ
innermost_level [] = 0
innermost_level (v ∷ vs) = v.level
