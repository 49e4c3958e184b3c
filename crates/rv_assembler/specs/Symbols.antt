-- Labels with their addresses.
use Rattle.std.specs.Prelude.{ℕ, List, [], ◌∷◌, ◌++◌, Option, Some, None, cond, string_bytes}
use Rattle.std.specs.declared.string.String.{String}
use Rattle.std.specs.declared.result.Result.{Result}
use Rattle.std.specs.declared.result.Result.TheVariants.{Ok, Err}
use Rattle.asm_text.specs.Names.{is_same_text}
use Rattle.asm_forms.specs.declared.asm_why.AsmWhy.{AsmWhy}
use Rattle.asm_forms.specs.declared.asm_why.AsmWhy.TheVariants.{DoubleLabel}

-- a label with the place of its line
pub record Symbol : Type 0 where
  pub name : List ℕ
  pub address : ℕ

abbrev pub symbol_of : {A : Type 0} → String A × ℕ → Symbol
symbol_of p = record { name = string_bytes p.0; address = p.1 }

-- the address of a label, or None where no line defines it
abbrev pub address_of : List Symbol → List ℕ → Option ℕ
address_of [] t = None
address_of (s ∷ ss) t = cond (is_same_text t s.name) (Some s.address) (address_of ss t)

abbrev pub defined_by : Option ℕ → List ℕ → ℕ → List Symbol → Result (List Symbol) AsmWhy
defined_by None t p ss = Ok (ss ++ record { name = t; address = p } ∷ [])
defined_by (Some a) t p ss = Err DoubleLabel

-- the symbols with the label of a line at this place
abbrev pub with_label : Option (List ℕ) → ℕ → List Symbol → Result (List Symbol) AsmWhy
with_label None p ss = Ok ss
with_label (Some t) p ss = defined_by (address_of ss t) t p ss
