-- Decimal without leading zeros, which is std's.
pub use Rattle.std.specs.Fmt.{decimal}
