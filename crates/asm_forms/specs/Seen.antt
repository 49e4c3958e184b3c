-- What the code reads of a line, as the definitions see it.
use Rattle.std.specs.Prelude.{List, map, Option, Some, None, option_map}
use Rattle.std.specs.declared.result.Result.{Result}
use Rattle.std.specs.declared.result.Result.TheVariants.{Ok, Err}
use Rattle.asm_forms.specs.declared.asm_why.AsmWhy.{AsmWhy}
use Rattle.asm_forms.specs.declared.form.Form.{Form}
use Rattle.asm_forms.specs.declared.task.Task.{Task as CodeTask}
use Rattle.asm_forms.specs.declared.read.Read.{Read as CodeRead}
use Rattle.asm_forms.specs.Forms.{Row}
use Rattle.asm_forms.specs.Statements.{Task, Reading}
use Rattle.asm_fields.specs.Seen.{seen}

abbrev pub seen_task : CodeTask → Task
seen_task k = record { kind = k.kind; operands = seen k.operands }

abbrev pub seen_task_option : Option CodeTask → Option Task
seen_task_option None = None
seen_task_option (Some k) = Some (seen_task k)

abbrev pub seen_chosen : Result CodeTask AsmWhy → Result Task AsmWhy
seen_chosen (Ok k) = Ok (seen_task k)
seen_chosen (Err e) = Err e

abbrev pub seen_statement : Result (Option CodeTask) AsmWhy → Result (Option Task) AsmWhy
seen_statement (Ok k) = Ok (seen_task_option k)
seen_statement (Err e) = Err e

abbrev pub seen_read : CodeRead → Reading
seen_read r = record { label = option_map (λ t. t.now) r.label; statement = seen_statement r.statement }

abbrev pub seen_reading : Result CodeRead AsmWhy → Result Reading AsmWhy
seen_reading (Ok r) = Ok (seen_read r)
seen_reading (Err e) = Err e

abbrev pub row_of : Form → Row
row_of f = record { name = f.name.now; items = f.items.now; kind = f.kind }

abbrev pub form_rows : List Form → List Row
form_rows table = map row_of table
