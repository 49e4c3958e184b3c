use Rattle.std.proofs.Common.{◌≡◌, ◌++◌, drop}
use Rattle.lab_names.specs.Name.{names_text}
use Rattle.lab_names.proofs.name_text.text_of_names.Given as goal

-- the text so far and that of the names that are left make the whole text
abbrev pub invariant-loop-name : goal.invariant-loop-name
invariant-loop-name l = l.text ++ names_text (drop l.name-index l.names) ≡ names_text l.names
