use Rattle.clic_select.proofs.tests.the_last_of_equal_inputs.Given as goal

abbrev pub ghosts-claim_counted : goal.ghosts-claim_counted
ghosts-claim_counted a args = record { name = args.blank.name; parts = args.blank.parts }
