-- What is known on either side of a branch.
use Rattle.std.specs.Prelude.{ℕ, ◌+◌, ◌-◌, ◌^◌, ◌==◌, Bool, true, false, not, min, max, nat_le, nat_lt, Option, Some, None, if◌then◌else◌}
use Rattle.hart_exec.specs.Branches.{branch_taken}
use Rattle.rv_encoding.specs.declared.operations.BranchOp.{BranchOp}
use Rattle.rv_encoding.specs.declared.operations.BranchOp.TheVariants.{Beq, Bne, Bltu, Bgeu}
use Rattle.chain_certify.specs.Flow.{Value, Const, Range, Unknown, low, high, ranged}

-- a number that is known to be from one to another
abbrev pub clipped : Value → ℕ → ℕ → Value
clipped (Range l g) least greatest = ranged least greatest
clipped Unknown least greatest = ranged least greatest
clipped v least greatest = v

-- both values on that side, or none where the side is never taken
abbrev pub when_less : Value → Value → Option (Value × Value)
when_less v u =
    if nat_lt (low v) (high u) then Some (clipped v (low v) (min (high v) (high u - 1)), clipped u (max (low u) (low v + 1)) (high u)) else None

abbrev pub when_not_less : Value → Value → Option (Value × Value)
when_not_less v u =
    if nat_le (low u) (high v) then Some (clipped v (max (low v) (low u)) (high v), clipped u (low u) (min (high u) (high v))) else None

abbrev pub when_equal : Value → Value → Option (Value × Value)
when_equal v u =
    if nat_le (max (low v) (low u)) (min (high v) (high u))
    then Some (clipped v (max (low v) (low u)) (min (high v) (high u)), clipped u (max (low v) (low u)) (min (high v) (high u))) else None

-- not the number c
abbrev pub trimmed : Value → Value → Value
trimmed v (Const c) = if low v == c then clipped v (min (c + 1) (2 ^ 32 - 1)) (high v) else if high v == c then clipped v (low v) (c - 1) else v
trimmed v u = v

abbrev pub when_other : Value → Value → Option (Value × Value)
when_other v u = Some (trimmed v u, trimmed u v)

-- by the branch, and whether it is taken
abbrev pub by_kind : BranchOp → Bool → Value → Value → Option (Value × Value)
by_kind Beq true v u = when_equal v u
by_kind Beq false v u = when_other v u
by_kind Bne true v u = when_other v u
by_kind Bne false v u = when_equal v u
by_kind Bltu true v u = when_less v u
by_kind Bltu false v u = when_not_less v u
by_kind Bgeu true v u = when_not_less v u
by_kind Bgeu false v u = when_less v u
by_kind _ taken v u = Some (v, u)

abbrev pub is_so : Bool → Bool → Bool
is_so true b = b
is_so false b = not b

-- of two numbers the branch itself tells
abbrev pub side : BranchOp → Bool → Value → Value → Option (Value × Value)
side op taken (Const c) (Const d) = if is_so taken (branch_taken op c d) then Some (Const c, Const d) else None
side op taken v u = by_kind op taken v u
