use Rattle.std.proofs.Common.{◌≡◌, ◌∷◌, ◌+◌, ◌∙◌, drop, append_assoc}
use Rattle.rv_assembler.specs.Symbols.{Symbol}
use Rattle.tool_work.specs.Assemble.{symbol_line, symbols_text}
use Rattle.tool_work.proofs.Labels.{next_label}
use Rattle.tool_work.proofs.assembling.text_of_symbols.Goals as goal

pub loop-i-preserved : goal.loop-i-preserved
loop-i-preserved c =
    let s : Symbol = record { name = c.name.result.now; address = c.address.result } in
    let next : drop c.loop-i.i c.args.symbols.now ≡ s ∷ drop (c.loop-i.i + 1) c.args.symbols.now = next_label c.args.symbols.now c.loop-i.i c.name.result.now c.address.result c.name.ensures c.address.ensures in
    rw c.in_ok-put_symbol.ensures (append_assoc c.loop-i.text (symbol_line s) (symbols_text (drop (c.loop-i.i + 1) c.args.symbols.now)) ∙ (rw next at c.loop-i.invariant))
