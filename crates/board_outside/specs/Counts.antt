-- Counts of what was done and of what went wrong outside. They are kept in 64 bits, never fall, and stop at their last value.
use Rattle.std.specs.Prelude.{ℕ, zero, suc, ◌+◌, ◌-◌, ◌^◌, ◌≤◌, min}

-- the last value of a count
abbrev pub last_count : ℕ
last_count = 2 ^ 64 - 1

-- the count after so many more
abbrev pub added : ℕ → ℕ → ℕ
added n zero = n
added n (suc more) = min (n + suc more) last_count

-- the count after one more
abbrev pub counted : ℕ → ℕ
counted n = min (n + 1) last_count

-- the count has risen, or stands at its last value
pub record Rose (before now : ℕ) : Type 0 where
  pub later : before ≤ now
  pub risen : counted before ≤ now
