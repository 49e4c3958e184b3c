-- The four moves: those of the servicing machine, and that a direct service begins.
use Rattle.chain_moves.specs.declared.moves.Move.{Move}
use Rattle.chain_moves.specs.declared.moves.Move.TheVariants.{Body}

pub data Kind : Type 0 where
  Begin : Kind
  Plain : Move → Kind

-- that a direct service begins costs as much as a Body: one step of the board
abbrev pub costs_as : Kind → Move
costs_as Begin = Body
costs_as (Plain kind) = kind
