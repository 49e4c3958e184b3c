use Rattle.clic_select.proofs.selector.Selector.new.Given as goal

abbrev pub ghosts-of : goal.ghosts-of
ghosts-of a = record { name = a.blank.name; parts = a.blank.parts }
