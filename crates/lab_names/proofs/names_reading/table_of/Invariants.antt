use Rattle.std.proofs.Common.{◌≡◌, drop}
use Rattle.lab_names.specs.Table.{with_names, table_of}
use Rattle.lab_names.proofs.names_reading.table_of.Given as goal

-- the names that are left make the whole table of the one so far
abbrev pub invariant-loop-name : goal.invariant-loop-name
invariant-loop-name l = with_names (drop l.name-index l.names) l.table ≡ table_of l.names
