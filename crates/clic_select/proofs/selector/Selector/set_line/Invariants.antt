use Rattle.clic_select.proofs.selector.Selector.set_line.Given as goal

abbrev pub ghosts-set_line_from : goal.ghosts-set_line_from
ghosts-set_line_from a = record { name = a.blank.name; parts = a.blank.parts }
