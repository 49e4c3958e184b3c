use Rattle.std.proofs.Common.{◌∙◌, ◌++◌, ap}
use Rattle.rv_disasm.proofs.Lengths.{text_returns}
use Rattle.rv_disasm.specs.Listing.{listing}
use Rattle.rv_disasm.proofs.disassembly.disassemble.Goals as goal

pub returns-clause-again : goal.returns-clause-again
returns-clause-again c = text_returns c.args.base c.args.bytes.now c.push_listing.new.text c.type_inv.bytes (c.in_ok-push_listing.ensures.text ∙ ap (λ t. t ++ listing c.args.base c.args.bytes.now) c.new-text.ensures)
