-- The widths of loads and stores, in bytes (Unprivileged ISA, "Load and Store Instructions").
pub use Rattle.hart_words.specs.Width.{IsWidth}
use Rattle.std.specs.Prelude.{ℕ, ◌*◌, Bool, true, false, if◌then◌else◌}
use Rattle.hart_words.specs.Sign.{sign_extended}
use Rattle.rv_encoding.specs.declared.operations.LoadOp.{LoadOp}
use Rattle.rv_encoding.specs.declared.operations.LoadOp.TheVariants.{Lb, Lh, Lw, Lbu, Lhu}
use Rattle.rv_encoding.specs.declared.operations.StoreOp.{StoreOp}
use Rattle.rv_encoding.specs.declared.operations.StoreOp.TheVariants.{Sb, Sh, Sw}

-- how many bytes the load reads
abbrev pub load_width : LoadOp → ℕ
load_width Lb = 1
load_width Lh = 2
load_width Lw = 4
load_width Lbu = 1
load_width Lhu = 2

-- whether the load extends what it read by its sign
abbrev pub extends_sign : LoadOp → Bool
extends_sign Lb = true
extends_sign Lh = true
extends_sign Lw = false
extends_sign Lbu = false
extends_sign Lhu = false

-- how many bytes the store writes
abbrev pub store_width : StoreOp → ℕ
store_width Sb = 1
store_width Sh = 2
store_width Sw = 4

-- what a load of that width puts into its register
abbrev pub extended : ℕ → ℕ → Bool → ℕ
extended value width signed = if signed then sign_extended value (8 * width) else value
