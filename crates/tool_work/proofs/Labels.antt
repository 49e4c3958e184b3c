-- Labels, one by one.
use Rattle.std.proofs.Common.{◌≡◌, ℕ, zero, suc, ◌+◌, List, [], ◌∷◌, drop, Some, option_map, slice_get, refl, add-one}
use Rattle.rv_assembler.specs.Symbols.{Symbol}

-- the label at a place in the list, and those after it
pub next_label : (ss : List Symbol) (i : ℕ) (name : List ℕ) (address : ℕ) → option_map (λ s. s.name) (slice_get ss i) ≡ Some name → option_map (λ s. s.address) (slice_get ss i) ≡ Some address
    → drop i ss ≡ record { name = name; address = address } ∷ drop (i + 1) ss
next_label [] i name address a b = absurd cc
next_label (s ∷ ss) zero name address a b =
    let a' : s.name ≡ name = cc in
    let b' : s.address ≡ address = cc in
    rw (← a', ← b') refl
next_label (s ∷ ss) (suc i) name address a b = rw add-one (rw add-one at (next_label ss i name address a b))
