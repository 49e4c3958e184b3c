-- What holds of the effect of every instruction that some word spells, and of which instructions are left to the system.
pub use Rattle.rv_encoding.specs.System.{is_system}
use Rattle.std.specs.Prelude.{◌≡◌, ℕ, ◌<◌, ◌^◌, ◌*◌, ◌%◌, ⊤, List}
use Rattle.hart_words.specs.Registers.{register}
use Rattle.hart_exec.specs.Access.{IsWidth}
use Rattle.hart_exec.specs.declared.effect.Effect.{Effect}
use Rattle.hart_exec.specs.declared.effect.Effect.TheVariants.{Go, Load, Store, System}

-- registers, addresses, widths and stored values are within their bounds
abbrev pub IsInBounds : Effect → Type 0
IsInBounds (Go rd value next) = (rd < 32) × (next < 2 ^ 32)
IsInBounds (Load rd at width signed) = (rd < 32) × (at < 2 ^ 32) × IsWidth width
IsInBounds (Store at width value) = (at < 2 ^ 32) × IsWidth width × (value < 2 ^ (8 * width))
IsInBounds System = ⊤

-- an access has one of the widths
abbrev pub HasWidth : Effect → Type 0
HasWidth (Go rd value next) = ⊤
HasWidth (Load rd at width signed) = IsWidth width
HasWidth (Store at width value) = IsWidth width
HasWidth System = ⊤

-- each register holds a word
abbrev pub AreWords : List ℕ → Type 0
AreWords registers = (r : ℕ) → register registers r < 2 ^ 32

-- what goes into a register is a word
abbrev pub HasWord : Effect → Type 0
HasWord (Go rd value next) = value < 2 ^ 32
HasWord (Load rd at width signed) = ⊤
HasWord (Store at width value) = ⊤
HasWord System = ⊤

-- pc stays even
abbrev pub StaysEven : Effect → Type 0
StaysEven (Go rd value next) = next % 2 ≡ 0
StaysEven (Load rd at width signed) = ⊤
StaysEven (Store at width value) = ⊤
StaysEven System = ⊤
