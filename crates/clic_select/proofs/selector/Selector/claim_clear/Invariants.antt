use Rattle.clic_select.proofs.selector.Selector.claim_clear.Given as goal

abbrev pub ghosts-claim_clear_from : goal.ghosts-claim_clear_from
ghosts-claim_clear_from a = record { name = a.blank.name; parts = a.blank.parts }
