-- The boards that a caller may look at after a command.
use Rattle.std.specs.Prelude.{None}
pub use Rattle.tool_work.specs.declared.bench.Bench.{Bench}

-- no board is left
abbrev pub empty_bench : Bench
empty_bench = record { first = None; second = None }
