-- The conditions of branches (Unprivileged ISA, "Conditional Branches").
use Rattle.std.specs.Prelude.{ℕ, ◌==◌, Bool, not, nat_lt, int_lt}
use Rattle.hart_words.specs.TwosComplement.{signed_value}
use Rattle.rv_encoding.specs.declared.operations.BranchOp.{BranchOp}
use Rattle.rv_encoding.specs.declared.operations.BranchOp.TheVariants.{Beq, Bne, Blt, Bge, Bltu, Bgeu}

-- whether the branch is taken for the words x of rs1 and y of rs2
abbrev pub branch_taken : BranchOp → ℕ → ℕ → Bool
branch_taken Beq x y = x == y
branch_taken Bne x y = not (x == y)
branch_taken Blt x y = int_lt (signed_value x) (signed_value y)
branch_taken Bge x y = not (int_lt (signed_value x) (signed_value y))
branch_taken Bltu x y = nat_lt x y
branch_taken Bgeu x y = not (nat_lt x y)
