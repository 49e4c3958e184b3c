-- The state of the servicing machine beside which a hardware-vectored input may have a service of its own.
use Rattle.std.specs.Prelude.{ℕ, suc, Bool, true, false, List, [], ◌∷◌, ◌++◌, length, Option, Some, None}
use Rattle.chain_moves.specs.Servicing.{Live, Service, Servicing}
use Rattle.chain_moves.specs.declared.moves.Move.{Move}
use Rattle.chain_moves.specs.declared.moves.Move.TheVariants.{Enter, Leave, Body}

-- a direct service that is live: its number and level, the pc that it suspended, and the registers as it began
pub record Direct : Type 0 where
  pub number : ℕ
  pub level : ℕ
  pub pc : ℕ
  pub kept : List ℕ

-- a service that was entered, and whether directly
pub record Listed : Type 0 where
  pub direct : Bool
  pub service : Service

pub record Directed : Type 0 where
  -- the servicing machine's state, whose list has its own services alone
  pub chained : Servicing
  -- the direct service that is live, where one is
  pub direct : Option Direct
  -- all services so far
  pub services : List Listed

-- no direct service is live
abbrev pub is_alone : Option Direct → Bool
is_alone None = true
is_alone (Some v) = false

-- ---- services of the servicing machine

abbrev pub as_chained : Service → Listed
as_chained e = record { direct = false; service = e }

unfoldable pub all_chained : List Service → List Listed
all_chained [] = []
all_chained (e ∷ es) = as_chained e ∷ all_chained es

-- the innermost live service, as it was listed when it began
abbrev pub newest : List Live → List Listed
newest [] = []
newest (v ∷ vs) = as_chained (record { number = v.number; level = v.mark.level; depth = suc (length vs) }) ∷ []

-- after a move of the servicing machine that leaves these live
abbrev pub listed_after : Move → List Listed → List Live → List Listed
listed_after Enter services live = services ++ newest live
listed_after Leave services live = services
listed_after Body services live = services

-- a state of the servicing machine with no direct service, none before it either
abbrev pub beside_none : Servicing → Directed
beside_none s = record { chained = s; direct = None; services = all_chained s.services }
