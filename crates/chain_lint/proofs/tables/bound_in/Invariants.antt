use Rattle.std.proofs.Common.{◌≡◌, [], drop}
use Rattle.std.specs.List.{All}
use Rattle.chain_lint.specs.Bound.{IsUse}
use Rattle.chain_lint.specs.Tables.{table_bound, WasAccepted}
use Rattle.chain_lint.proofs.tables.bound_in.Given as goal

-- the pairs that are left, after these uses, give what all give, and each handler that was accepted is so by its verdict
abbrev pub invariant-loop-i : goal.invariant-loop-i
invariant-loop-i l = (table_bound l.code.present.rom l.region l.table (drop l.i l.pairs) l.list.items ≡ table_bound l.code.present.rom l.region l.table l.pairs []) × All IsUse l.list.items × All (WasAccepted l.code.present.rom l.region) l.accepted.items
