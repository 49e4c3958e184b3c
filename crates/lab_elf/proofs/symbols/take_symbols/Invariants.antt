use Rattle.std.proofs.Common.{◌≡◌, ◌+◌, ◌*◌, ◌-◌, ◌/◌, []}
use Rattle.lab_elf.specs.Symbols.{strings_of, symbols_from, with_symbols}
use Rattle.lab_elf.proofs.symbols.take_symbols.Given as goal

-- going on with the symbols that are left gives what all give
abbrev pub invariant-loop-k : goal.invariant-loop-k
invariant-loop-k l = with_symbols l.wanted (strings_of l.tables.strings l.bytes) l.bytes (symbols_from (l.tables.table.size / 16 - l.k) (l.tables.table.offset + 16 * l.k) l.bytes) l.names.items
    ≡ with_symbols l.wanted (strings_of l.tables.strings l.bytes) l.bytes (symbols_from (l.tables.table.size / 16) l.tables.table.offset l.bytes) []
