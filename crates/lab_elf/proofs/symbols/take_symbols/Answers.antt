use Rattle.std.proofs.Common.{◌+◌, ◌*◌, ◌/◌, ◌∙◌, sym, subst}
use Rattle.std.proofs.lemmas.Result.{err_from_is_err_and}
use Rattle.lab_elf.specs.Fault.{Fails}
use Rattle.lab_elf.specs.Symbols.{strings_of, symbol_at, with_symbol}
use Rattle.lab_elf.proofs.Loops.{symbol_taken, symbol_fails, no_symbol_left, same_symbol}
use Rattle.lab_elf.proofs.symbols.take_symbols.Goals as goal

pub returns-in_err-take_symbol : goal.returns-in_err-take_symbol
returns-in_err-take_symbol c =
    let bytes = c.args.bytes.now in
    let t = c.args.tables.now in
    let k = c.loop-k.k in
    let e = c.in_err-take_symbol.field-0.0 in
    let here : Fails e (with_symbol c.args.wanted (strings_of t.strings bytes) bytes (symbol_at (t.table.offset + 16 * k) bytes) c.loop-k.names.items) = subst (λ read. Fails e read) (same_symbol c.args.wanted t.strings bytes _ _ c.loop-k.names.items c.symbol_at-symbol.ensures) c.in_err-take_symbol.ensures in
    let p = err_from_is_err_and c.from_residual.result c.from_residual.ensures.1 in
    rw (p.1, p.2) (subst (λ read. Fails e read) c.loop-k.invariant (symbol_fails e c.args.wanted (strings_of t.strings bytes) (t.table.size / 16) t.table.offset k bytes c.loop-k.names.items c.loop-k-test.true here))

pub loop-k-preserved : goal.loop-k-preserved
loop-k-preserved c =
    let bytes = c.args.bytes.now in
    let t = c.args.tables.now in
    let k = c.loop-k.k in
    let here = sym (same_symbol c.args.wanted t.strings bytes _ _ c.loop-k.names.items c.symbol_at-symbol.ensures) ∙ c.in_ok-take_symbol.ensures in
    sym (symbol_taken c.args.wanted (strings_of t.strings bytes) (t.table.size / 16) t.table.offset k bytes c.loop-k.names.items c.take_symbol.new.names.items c.loop-k-test.true here) ∙ c.loop-k.invariant

pub returns : goal.returns
returns c =
    let bytes = c.args.bytes.now in
    let t = c.args.tables.now in
    sym c.loop-k.invariant ∙ no_symbol_left c.args.wanted (strings_of t.strings bytes) (t.table.size / 16) c.loop-k.k (t.table.offset + 16 * c.loop-k.k) bytes c.loop-k.names.items c.loop-k-test.false
