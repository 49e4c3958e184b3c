-- What a run costs in steps of the board, under either dispatcher.
use Rattle.std.specs.Prelude.{ℕ, ◌+◌, Bool, true, false, List, [], ◌∷◌}
use Rattle.chain_moves.specs.Machine.{Machine}
use Rattle.chain_moves.specs.Run.{Made}
use Rattle.chain_moves.specs.declared.dispatcher.Dispatcher.{Dispatcher}
use Rattle.chain_moves.specs.declared.dispatcher.Dispatcher.TheVariants.{Looping, Returning}
use Rattle.chain_moves.specs.declared.moves.Move.{Move}
use Rattle.chain_moves.specs.declared.moves.Move.TheVariants.{Enter, Leave, Body}

abbrev pub body_cost : ℕ
body_cost = 1

abbrev pub enter_cost : ℕ
enter_cost = 14

abbrev pub leave_cost : ℕ
leave_cost = 16

-- a Leave that is fused with the Enter after it, and that Enter
abbrev pub fused_leave_cost : ℕ
fused_leave_cost = 5

abbrev pub fused_enter_cost : ℕ
fused_enter_cost = 2

-- a move is followed by the Enter that is due without going back between them: after a Leave, where the dispatcher loops
abbrev pub is_fused : Dispatcher → Move → Bool → Bool
is_fused Looping Leave claims = claims
is_fused Looping Enter claims = false
is_fused Looping Body claims = false
is_fused Returning kind claims = false

-- the board stands between a Leave and the Enter that it is fused with
abbrev pub is_halfway : {K S E : Type 0} → Machine K S E → Dispatcher → List (Made K) → Bool
is_halfway x d [] = false
is_halfway x d (m ∷ made) = is_fused d (x.costs_as m.kind) m.claims

-- the cost of a move, by whether it begins halfway, and whether it ends halfway
abbrev pub price : Move → Bool → Bool → ℕ
price Body begins ends = body_cost
price Enter false ends = enter_cost
price Enter true ends = fused_enter_cost
price Leave begins false = leave_cost
price Leave begins true = fused_leave_cost

-- the sum over the moves, the latest first
unfoldable pub cost : {K S E : Type 0} → Machine K S E → Dispatcher → List (Made K) → ℕ
cost x d [] = 0
cost x d (m ∷ made) = cost x d made + price (x.costs_as m.kind) (is_halfway x d made) (is_halfway x d (m ∷ made))
