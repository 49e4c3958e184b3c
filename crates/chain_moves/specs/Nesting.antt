-- How live services stand in each other.
use Rattle.std.specs.Prelude.{◌≡◌, ℕ, ◌<◌, true, false, List, [], ◌∷◌}
use Rattle.chain_moves.specs.Servicing.{innermost_level}
use Rattle.chain_moves.specs.Bytes.{in_frame, in_live_frame}
use Rattle.chain_moves.specs.declared.mark.Mark.{Mark}

-- each level is above that of the service outside it, and the outermost one above 0
abbrev pub AreRising : List Mark → Type 0
AreRising [] = Unit {0}
AreRising (v ∷ vs) = (innermost_level vs < v.level) × AreRising vs

-- no frame has a byte in common with one outside it
abbrev pub AreApart : List Mark → Type 0
AreApart [] = Unit {0}
AreApart (v ∷ vs) = ((at : ℕ) → in_frame v.frame at ≡ true → in_live_frame vs at ≡ false) × AreApart vs
