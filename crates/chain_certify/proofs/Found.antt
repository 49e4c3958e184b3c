-- What is found at one node, rule by rule.
use Rattle.std.proofs.Common.{◌≡◌, ℕ, Bool, true, false, List, [], ◌∷◌, ◌++◌, Option, Some, None, refl, ap, ◌∙◌}
use Rattle.rv_encoding.specs.declared.instruction.Ins.{Ins}
use Rattle.rvc_encoding.specs.Decoding.{decoded}
use Rattle.chain_flow.specs.Look.{IsCodeAt}
use Rattle.chain_flow.specs.declared.region.Region.{Region}
use Rattle.chain_flow.specs.declared.lint_why.LintWhy.{LintWhy}
use Rattle.chain_flow.specs.declared.lint_why.LintWhy.TheVariants.{CodeOutside, StackPointer, RegisterChanged}
use Rattle.chain_certify.specs.Flow.{Flow, Value, value_of}
use Rattle.chain_certify.specs.Rules.{Next, first_why, rules_before, rules_after, broken_rule, or_why, is_bad_pointer, is_changed, Looked, Refused, Passed, looked, looked_code, looked_fetched, looked_ins, looked_by, sided}

module _ (region : Region) (f after : Flow) (ins : Ins) (next : List Next) where
  abbrev found : Looked
  found = looked_by (broken_rule region f after ins) next

  pub refused_before : (why : LintWhy) → first_why (rules_before region f ins) ≡ Some why → found ≡ Refused why
  unfolding broken_rule
  refused_before why e = ap (λ o. looked_by (or_why o (first_why (rules_after f after ins))) next) e

  module _ (none : first_why (rules_before region f ins) ≡ None) where
    by_rows : (p c : Bool) → is_bad_pointer (value_of after.values 2) ≡ p → is_changed f ins ≡ c → found ≡ looked_by (first_why ((p, StackPointer) ∷ (c, RegisterChanged) ∷ [])) next
    unfolding broken_rule
    by_rows p c a b =
        ap (λ o. looked_by (or_why o (first_why (rules_after f after ins))) next) none
        ∙ (ap (λ x. looked_by (first_why ((x, StackPointer) ∷ (is_changed f ins, RegisterChanged) ∷ [])) next) a
        ∙ ap (λ x. looked_by (first_why ((p, StackPointer) ∷ (x, RegisterChanged) ∷ [])) next) b)

    pub refused_pointer : is_bad_pointer (value_of after.values 2) ≡ true → found ≡ Refused StackPointer
    unfolding first_why
    refused_pointer a = by_rows true (is_changed f ins) a refl

    pub refused_changed : is_bad_pointer (value_of after.values 2) ≡ false → is_changed f ins ≡ true → found ≡ Refused RegisterChanged
    unfolding first_why
    refused_changed a b = by_rows false true a b

    pub passed_all : is_bad_pointer (value_of after.values 2) ≡ false → is_changed f ins ≡ false → found ≡ Passed next
    unfolding first_why
    passed_all a b = by_rows false false a b

module _ (code : List ℕ) (region : Region) (at : ℕ) (f : Flow) where
  pub looked_outside : (o : Option (ℕ × ℕ)) → IsCodeAt code at o → o ≡ None → looked code region at f ≡ Refused CodeOutside
  unfolding looked
  looked_outside None h e = ap (looked_code code region at f) h
  looked_outside (Some found) h e = absurd cc

  pub looked_bits : (o : Option (ℕ × ℕ)) (bits length : ℕ) → IsCodeAt code at o → o ≡ Some (bits, length) → looked code region at f ≡ looked_ins code region at f length (decoded bits length)
  unfolding looked
  looked_bits None bits length h e = absurd cc
  looked_bits (Some found) bits length h e =
      let first : found.0 ≡ bits = cc in
      let second : found.1 ≡ length = cc in
      ap (looked_code code region at f) h.0
      ∙ (ap (looked_fetched code region at f) h.1
      ∙ (ap (λ b. looked_ins code region at f found.1 (decoded b found.1)) first
      ∙ ap (λ l. looked_ins code region at f l (decoded bits l)) second))
