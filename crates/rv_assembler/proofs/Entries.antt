-- The map's entries as symbols.
use Rattle.std.proofs.Common.{◌≡◌, ℕ, List, [], ◌∷◌, ◌++◌, map, Option, Some, None, Bool, true, false, cond, refl, ap, ◌∙◌}
use Rattle.std.specs.Prelude.{string_bytes, eqb}
use lib.Pointwise.{pointwise}
use Rattle.std.specs.declared.string.String.{String}
use Rattle.std.specs.String.{string_eq}
use Rattle.std.specs.Str.{bytes_eq}
use Rattle.std.specs.Map.{lookup}
use Rattle.indexmap.specs.IndexMap.{insert_entry}
use Rattle.asm_text.specs.Names.{is_same_text}
use Rattle.asm_text.proofs.NameLemmas.{pointwise_same}
use Rattle.rv_assembler.specs.Symbols.{symbol_of, address_of}

pub looked : {A : Type 0} (es : List (String A × ℕ)) (t : List ℕ) → lookup (λ (k : String A). bytes_eq t (string_bytes k)) es ≡ address_of (map symbol_of es) t
looked [] t = refl
looked (e ∷ es) t =
    ap (λ r. cond (pointwise eqb t (string_bytes e.0)) (Some e.1) r) (looked es t)
    ∙ ap (λ b. cond b (Some e.1) (address_of (map symbol_of es) t)) (pointwise_same t (string_bytes e.0))

absent : {A : Type 0} (b : Bool) (x : A) (r : Option A) → cond b (Some x) r ≡ None → (b ≡ false) × (r ≡ None)
absent true x r e = cc
absent false x r e = (refl, e)

pub inserted : {A : Type 0} (es : List (String A × ℕ)) (k : String A) (v : ℕ) → address_of (map symbol_of es) (string_bytes k) ≡ None
    → map symbol_of (insert_entry string_eq es k v) ≡ map symbol_of es ++ record { name = string_bytes k; address = v } ∷ []
inserted [] k v e = refl
inserted (x ∷ es) k v e =
    let parts = absent (is_same_text (string_bytes k) (string_bytes x.0)) x.1 (address_of (map symbol_of es) (string_bytes k)) e in
    ap (λ b. map symbol_of (cond b ((x.0, v) ∷ es) (x ∷ insert_entry string_eq es k v))) (pointwise_same (string_bytes k) (string_bytes x.0) ∙ parts.0) ∙ ap (λ r. symbol_of x ∷ r) (inserted es k v parts.1)
