-- Certificates: nodes with what is known there, and where each goes on.
use Rattle.std.specs.Prelude.{ℕ, zero, suc, ◌==◌, Bool, true, false, not, ◌&&◌, max, List, [], ◌∷◌, Option, Some, None, if◌then◌else◌}
use Rattle.chain_flow.specs.declared.region.Region.{Region}
use Rattle.chain_certify.specs.Flow.{Value, Stack, depth, Flow, value_of, flow_below, flow_at_start}
use Rattle.chain_certify.specs.Rules.{Next, Looked, Refused, Passed, looked, is_bad_pointer}

-- what is known at an address, and the places in the list where it goes on
pub record Node : Type 0 where
  pub at : ℕ
  pub flow : Flow
  pub hints : List ℕ

-- the node at a place of the list
unfoldable pub node_at : List Node → ℕ → Option Node
node_at [] i = None
node_at (n ∷ ns) zero = Some n
node_at (n ∷ ns) (suc i) = node_at ns i

-- a node says no more than is known where it goes on
abbrev pub is_covering : Option Node → Next → Bool
is_covering None next = false
is_covering (Some n) next = n.at == next.at && flow_below next.flow n.flow

-- each of these is covered by the node that its hint names
unfoldable pub are_covered : List Node → List ℕ → List Next → Bool
are_covered nodes hints [] = true
are_covered nodes [] (next ∷ rest) = false
are_covered nodes (h ∷ hs) (next ∷ rest) = is_covering (node_at nodes h) next && are_covered nodes hs rest

abbrev pub is_passed : List Node → List ℕ → Looked → Bool
is_passed nodes hints (Refused why) = false
is_passed nodes hints (Passed next) = are_covered nodes hints next

-- its stack pointer is known, its instruction passes, and where it goes on is covered
abbrev pub is_good : List ℕ → Region → List Node → Node → Bool
is_good code region nodes n = not (is_bad_pointer (value_of n.flow.values 2)) && is_passed nodes n.hints (looked code region n.at n.flow)

unfoldable pub are_good : List ℕ → Region → List Node → List Node → Bool
are_good code region nodes [] = true
are_good code region nodes (n ∷ ns) = is_good code region nodes n && are_good code region nodes ns

abbrev pub depth_of : Value → ℕ
depth_of (Stack k) = depth k
depth_of _ = 0

-- the greatest depth of the stack pointer
unfoldable pub deepest : List Node → ℕ
deepest [] = 0
deepest (n ∷ ns) = max (depth_of (value_of n.flow.values 2)) (deepest ns)

-- the first node is the handler's first address with what is known at the start, and all are good
abbrev pub is_certificate : List ℕ → ℕ → Region → List Node → Bool
is_certificate code handler region nodes = is_covering (node_at nodes 0) (record { at = handler; flow = flow_at_start }) && are_good code region nodes nodes

-- the bytes that the handler uses below its frame, where the certificate is accepted
unfoldable pub checked : List ℕ → ℕ → Region → List Node → Option ℕ
checked code handler region nodes = if is_certificate code handler region nodes then Some (deepest nodes) else None
