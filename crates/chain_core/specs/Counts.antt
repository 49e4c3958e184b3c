-- How many moves of each kind a run has made.
use Rattle.std.specs.Prelude.{ℕ, ◌+◌, List, [], ◌∷◌}
use Rattle.chain_moves.specs.Run.{Made}
use Rattle.chain_moves.specs.declared.moves.Move.{Move}
use Rattle.chain_moves.specs.declared.moves.Move.TheVariants.{Enter, Leave, Body}

-- so many Enters, Leaves and Bodies, and so many Enters straight after a Leave
pub record Counts : Type 0 where
  pub enters : ℕ
  pub leaves : ℕ
  pub bodies : ℕ
  pub pairs : ℕ

abbrev pub one_leave : Move → ℕ
one_leave Leave = 1
one_leave Enter = 0
one_leave Body = 0

-- 1 where the latest move is a Leave
abbrev pub after_leave : List (Made Move) → ℕ
after_leave [] = 0
after_leave (m ∷ made) = one_leave m.kind

-- one move more, after these
abbrev pub counted : Counts → List (Made Move) → Move → Counts
counted n made Enter = record n { enters = n.enters + 1; pairs = n.pairs + after_leave made }
counted n made Leave = record n { leaves = n.leaves + 1 }
counted n made Body = record n { bodies = n.bodies + 1 }

unfoldable pub counts : List (Made Move) → Counts
counts [] = record { enters = 0; leaves = 0; bodies = 0; pairs = 0 }
counts (m ∷ made) = counted (counts made) made m.kind
