use Rattle.std.proofs.Common.{subst}
use Rattle.lab_names.specs.NamesReading.{Gives}
use Rattle.lab_names.proofs.Told.{table_again, is_found}
use Rattle.lab_names.proofs.Wrong.{first_is_refused}
use Rattle.lab_names.proofs.names_reading.read_names.Goals as goal

pub returns-clause-found : goal.returns-clause-found
returns-clause-found c = is_found c.args.bytes.now c.names_in_file.result c.names_in_file.ensures

pub returns-clause-only : goal.returns-clause-only
returns-clause-only c = λ ns h. subst (λ read. Gives (λ table. table) c.names_in_file.result read) (table_again c.args.bytes.now ns h) c.names_in_file.ensures

pub returns-clause-first : goal.returns-clause-first
returns-clause-first c = first_is_refused c.args.bytes.now c.names_in_file.result c.names_in_file.ensures
