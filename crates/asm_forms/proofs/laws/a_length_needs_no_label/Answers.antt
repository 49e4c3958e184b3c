use Rattle.asm_forms.proofs.Fitting.{bytes_taken}
use Rattle.asm_forms.proofs.laws.a_length_needs_no_label.Goals as goal

pub returns : goal.returns
returns c = bytes_taken c.args.kind
