-- Names by their addresses.
use Rattle.std.specs.Prelude.{◌≡◌, ℕ, ◌-◌, ◌<◌, ◌≤◌, List, [], ◌∷◌, nat_lt, not, ◌==◌, if◌then◌else◌, filter, Option, Some, None}
use Rattle.std.specs.declared.vec.Vec.{Vec}
use Rattle.lab_names.specs.Name.{NameView}

-- an entry of a map from addresses to the bytes of names
abbrev pub name_of_entry : {A : Type 0} → ℕ × Vec ℕ A → NameView
name_of_entry e = record { address = e.0; name = e.1.items }

-- ---- a table: names in rising order, one at each address

-- a table with one name more; a name that its address had is gone
abbrev pub with_name : NameView → List NameView → List NameView
with_name n [] = n ∷ []
with_name n (m ∷ ms) = if nat_lt n.address m.address then n ∷ m ∷ ms else (if n.address == m.address then n ∷ ms else m ∷ with_name n ms)

-- a table with names that are given one after the other
abbrev pub with_names : List NameView → List NameView → List NameView
with_names [] table = table
with_names (n ∷ ns) table = with_names ns (with_name n table)

-- the table of names, in whatever order they are given: the last one at an address counts
abbrev pub table_of : List NameView → List NameView
table_of names = with_names names []

-- ---- looking up

-- the name of an address
abbrev pub name_at : ℕ → List NameView → Option (List ℕ)
name_at at [] = None
name_at at (n ∷ ns) = if at == n.address then Some n.name else name_at at ns

-- a name of a table, and how far below an address it stands
abbrev pub beside : ℕ → Option NameView → Option (List ℕ × ℕ)
beside at None = None
beside at (Some n) = Some (n.name, at - n.address)

-- the last of a list
abbrev pub last_of : List NameView → Option NameView
last_of [] = None
last_of (n ∷ []) = Some n
last_of (n ∷ m ∷ ms) = last_of (m ∷ ms)

-- of the names that aren't above an address the last one, with the distance
abbrev pub at_or_below : ℕ → List NameView → Option (List ℕ × ℕ)
at_or_below at table = beside at (last_of (filter (λ n. not (nat_lt at n.address)) table))

-- ---- the same of names as they are given

abbrev pub or_else : Option (List ℕ) → Option (List ℕ) → Option (List ℕ)
or_else None other = other
or_else (Some name) other = Some name

-- the name that an address is given last
abbrev pub last_given : List NameView → ℕ → Option (List ℕ)
last_given [] at = None
last_given (n ∷ ns) at = or_else (last_given ns at) (if at == n.address then Some n.name else None)

-- the name of the greatest address at or below this one that has a name, and how far below it stands
abbrev pub IsNearest : (ℕ → Option (List ℕ)) → ℕ → Option (List ℕ × ℕ) → Type 0
IsNearest name_of at None = (b : ℕ) → b ≤ at → name_of b ≡ None
IsNearest name_of at (Some found) = (found.1 ≤ at) × (name_of (at - found.1) ≡ Some found.0) × ((b : ℕ) → at - found.1 < b → b ≤ at → name_of b ≡ None)
