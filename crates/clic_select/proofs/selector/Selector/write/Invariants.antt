use Rattle.clic_select.proofs.selector.Selector.write.Given as goal

abbrev pub ghosts-write_from : goal.ghosts-write_from
ghosts-write_from a = record { name = a.blank.name; parts = a.blank.parts }
