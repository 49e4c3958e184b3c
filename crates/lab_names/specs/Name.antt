-- A name with its address, and its line.
use Rattle.std.specs.Prelude.{ℕ, List, [], ◌∷◌, ◌++◌, length, codes, nat_lt, not, ◌==◌, Bool, ◌&&◌}
use Rattle.std.specs.List.{list_all}
use Rattle.hart_words.specs.Hexadecimal.{hex8}

-- an address and what it is called
pub record NameView : Type 0 where
  pub address : ℕ
  pub name : List ℕ

-- a byte of a name: all above the space but DEL
abbrev pub is_name_byte : ℕ → Bool
is_name_byte byte = nat_lt 32 byte && not (byte == 127)

-- one byte or more, and each may stand in a name
abbrev pub is_name : List ℕ → Bool
is_name text = nat_lt 0 (length text) && list_all is_name_byte text

-- the line of a name: eight upper-case digits, a space, the name
unfoldable pub name_line : ℕ → List ℕ → List ℕ
name_line address name = hex8 address ++ codes " " ++ name ++ codes "\n"

-- the lines of names, one after the other
abbrev pub names_text : List NameView → List ℕ
names_text [] = []
names_text (n ∷ ns) = name_line n.address n.name ++ names_text ns
