use Rattle.lab_names.proofs.Lookups.{last_counts, nearest_given}
use Rattle.lab_names.proofs.laws.tables_are_of_names_as_they_are_given.Goals as goal

pub returns-clause-last : goal.returns-clause-last
returns-clause-last c = λ ns at. last_counts ns at

pub returns-clause-nearest : goal.returns-clause-nearest
returns-clause-nearest c = λ ns at. nearest_given ns at
