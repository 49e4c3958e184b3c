-- How many moves of each of the four kinds a run has made.
use Rattle.std.specs.Prelude.{ℕ, ◌+◌, List, [], ◌∷◌}
use Rattle.chain_moves.specs.Run.{Made}
use Rattle.chain_moves.specs.declared.moves.Move.{Move}
use Rattle.chain_direct.specs.Kind.{Kind, Begin, Plain, costs_as}

-- the moves that cost as much
unfoldable pub as_moves : List (Made Kind) → List (Made Move)
as_moves [] = []
as_moves (m ∷ made) = record { kind = costs_as m.kind; claims = m.claims } ∷ as_moves made

abbrev pub one_begin : Kind → ℕ
one_begin Begin = 1
one_begin (Plain kind) = 0

-- the direct services that began
unfoldable pub begins_in : List (Made Kind) → ℕ
begins_in [] = 0
begins_in (m ∷ made) = begins_in made + one_begin m.kind
