-- The code's rows, as the definitions see them.
use Rattle.std.specs.Prelude.{Option, Some, None}
use Rattle.asm_forms.specs.Forms.{Row}
use Rattle.asm_forms.specs.Seen.{row_of}
use Rattle.asm_forms.specs.declared.form.Form.{Form}

abbrev pub row_option : Option Form → Option Row
row_option None = None
row_option (Some f) = Some (row_of f)
