-- What the pending bit is after a line change, case by case.
use Rattle.std.proofs.Common.{ℕ, Bool, not, ◌&&◌, ◌||◌, cond, arith}
use Rattle.clic_regs.specs.Attribute.{is_edge, is_negative}
use Rattle.clic_regs.specs.LineChange.{pending_after, SeesLine}

-- the pending bit by trigger and polarity
abbrev after : Bool → Bool → Bool → Bool → Bool → Bool
after edge negative was pending high =
    cond edge (pending || (not (cond negative (not was) was) && cond negative (not high) high)) (cond negative (not high) high)

by_cases : (edge negative was pending high : Bool) → SeesLine edge negative was pending high (after edge negative was pending high)
by_cases edge negative was pending high = record {
  high_level = λ e n. grind arith;
  low_level = λ e n. grind arith;
  rising = λ e n w h. grind arith;
  falling = λ e n w h. grind arith;
  other_edge = λ e n. grind arith;
  no_edge = λ e w. grind arith;
}

pub sees_line : (attribute : ℕ) (was pending high : Bool) → SeesLine (is_edge attribute) (is_negative attribute) was pending high (pending_after attribute was pending high)
sees_line attribute was pending high = by_cases (is_edge attribute) (is_negative attribute) was pending high
