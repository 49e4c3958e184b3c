use Rattle.asm_forms.proofs.Fitting.{reading_fits}
use Rattle.asm_forms.proofs.laws.what_is_read_fits.Goals as goal

pub returns : goal.returns
returns c = reading_fits
