-- The tree of winners that a selector keeps. Node 1 is the root, the children of node k are 2 k and 2 k + 1, and
-- input i has the leaf n + i, where there are n inputs: any number of them.
use Rattle.std.specs.Prelude.{◌≡◌, ℕ, ◌+◌, ◌*◌, ◌<◌, ◌≤◌, List, Bool, true, false, Option, Some, None, length, get_or, if◌then◌else◌}
use Rattle.std.specs.Int.Digits.{digits_of}
use Rattle.clic_regs.specs.ClicState.{ClicState, IsClicState, input_count}
use Rattle.clic_select.specs.Top.{is_waiting, choice_of, is_greater}
use Rattle.clic_select.specs.declared.choice.Choice.{Choice}

-- a is there and b is not, or a is greater
abbrev pub beats : Option Choice → Option Choice → Bool
beats None b = false
beats (Some a) None = true
beats (Some a) (Some b) = is_greater a b

-- the one of two that the other doesn't beat
unfoldable pub winner : Option Choice → Option Choice → Option Choice
winner a b = if beats b a then b else a

abbrev pub node : List (Option Choice) → ℕ → Option Choice
node nodes k = get_or nodes k None

-- a node is the winner of its children
abbrev pub IsWinner : List (Option Choice) → ℕ → Type 0
IsWinner nodes k = node nodes k ≡ winner (node nodes (2 * k)) (node nodes (2 * k + 1))

-- each node above the n leaves is the winner of its children
pub record IsTree (n : ℕ) (nodes : List (Option Choice)) : Type 0 where
  pub size : length nodes ≡ 2 * n
  pub inner : (k : ℕ) → 1 ≤ k → k < n → IsWinner nodes k

-- an input as a choice, where it is pending and enabled
abbrev pub waiting : ClicState → ℕ → Option Choice
waiting c i = if is_waiting c i then Some (choice_of c i) else None

-- each leaf has its input
abbrev pub HasLeaves : ClicState → ℕ → List (Option Choice) → Type 0
HasLeaves c n nodes = (i : ℕ) → i < n → node nodes (n + i) ≡ waiting c i

-- the nodes are those of the controller
pub record Selects (c : ClicState) (nodes : List (Option Choice)) : Type 0 where
  pub state : IsClicState c
  pub tree : IsTree (input_count c) nodes
  pub leaves : HasLeaves c (input_count c) nodes

-- how many binary digits a number has: none for 0
abbrev pub binary_digits : ℕ → ℕ
binary_digits n = length (digits_of 2 n)
