-- What is known of an address that passed.
use Rattle.std.proofs.Common.{◌≡◌, ℕ, Bool, true, false, List, [], ◌∷◌, Option, Some, None, refl}
use Rattle.rv_encoding.specs.declared.instruction.Ins.{Ins}
use Rattle.hart_memory.specs.Fetch.{fetched}
use Rattle.hart_memory.specs.declared.fetched.Fetched.{Fetched}
use Rattle.hart_memory.specs.declared.fetched.Fetched.TheVariants.{Bits, Missing}
use Rattle.rvc_encoding.specs.Decoding.{decoded}
use Rattle.chain_certify.specs.Flow.{Flow, value_of}
use Rattle.chain_certify.specs.Transfer.{flow_after}
use Rattle.chain_certify.specs.Rules.{Next, goes_to, first_why, or_why, Passed, looked, looked_code, looked_fetched, looked_ins, looked_by, broken_rule, is_outside, is_other_system, is_unknown_target, access_rules, is_bad_pointer, is_changed}
use Rattle.chain_flow.specs.declared.region.Region.{Region}
use Rattle.chain_flow.specs.declared.lint_why.LintWhy.{LintWhy}

-- the instruction at an address, which passed
pub record Looks (code : List ℕ) (region : Region) (at : ℕ) (f : Flow) (next : List Next) : Type 0 where
  pub inside : is_outside code at ≡ false
  pub bits : ℕ
  pub length : ℕ
  pub ins : Ins
  pub fetches : fetched (record { rom = code; ram = [] }) at ≡ Bits bits length
  pub decodes : decoded bits length ≡ Some ins
  pub passes : broken_rule region f (flow_after code at length f ins) ins ≡ None
  pub is_next : next ≡ goes_to at length f (flow_after code at length f ins) ins

module _ (code : List ℕ) (region : Region) (at : ℕ) (f : Flow) (next : List Next) where
  looks_by : (bits length : ℕ) (ins : Ins) (o : Option LintWhy) → is_outside code at ≡ false → fetched (record { rom = code; ram = [] }) at ≡ Bits bits length → decoded bits length ≡ Some ins
      → broken_rule region f (flow_after code at length f ins) ins ≡ o → looked_by o (goes_to at length f (flow_after code at length f ins) ins) ≡ Passed next → Looks code region at f next
  looks_by bits length ins (Some why) i e d b p = absurd cc
  looks_by bits length ins None i e d b p = record { inside = i; bits = bits; length = length; ins = ins; fetches = e; decodes = d; passes = b; is_next = cc }

  looks_ins : (bits length : ℕ) (o : Option Ins) → is_outside code at ≡ false → fetched (record { rom = code; ram = [] }) at ≡ Bits bits length → decoded bits length ≡ o
      → looked_ins code region at f length o ≡ Passed next → Looks code region at f next
  looks_ins bits length None i e d p = absurd cc
  looks_ins bits length (Some ins) i e d p = looks_by bits length ins (broken_rule region f (flow_after code at length f ins) ins) i e d refl p

  looks_fetched : (o : Fetched) → is_outside code at ≡ false → fetched (record { rom = code; ram = [] }) at ≡ o → looked_fetched code region at f o ≡ Passed next → Looks code region at f next
  looks_fetched (Missing a) i e p = absurd cc
  looks_fetched (Bits bits length) i e p = looks_ins bits length (decoded bits length) i e refl p

  looks_code : (b : Bool) → is_outside code at ≡ b → looked_code code region at f b ≡ Passed next → Looks code region at f next
  looks_code true i p = absurd cc
  looks_code false i p = looks_fetched (fetched (record { rom = code; ram = [] }) at) i refl p

  pub looks : looked code region at f ≡ Passed next → Looks code region at f next
  unfolding looked
  looks p = looks_code (is_outside code at) refl p

-- ---- the rules that do not hold
pub record Keeps (region : Region) (f after : Flow) (ins : Ins) : Type 0 where
  pub system : is_other_system ins ≡ false
  pub target : is_unknown_target f ins ≡ false
  pub access : first_why (access_rules region f ins) ≡ None
  pub pointer : is_bad_pointer (value_of after.values 2) ≡ false
  pub changed : is_changed f ins ≡ false

none_or : (a b : Option LintWhy) → or_why a b ≡ None → (a ≡ None) × (b ≡ None)
none_or (Some why) b e = absurd cc
none_or None b e = (refl, e)

pub none_first : (b : Bool) (why : LintWhy) (rows : List (Bool × LintWhy)) → first_why ((b, why) ∷ rows) ≡ None → (b ≡ false) × (first_why rows ≡ None)
unfolding first_why
none_first true why rows e = absurd cc
none_first false why rows e = (refl, e)

pub keeps : (region : Region) (f after : Flow) (ins : Ins) → broken_rule region f after ins ≡ None → Keeps region f after ins
unfolding broken_rule
keeps region f after ins e =
    let a = none_or _ _ e in
    let s = none_first _ _ _ a.0 in
    let t = none_first _ _ _ s.1 in
    let p = none_first _ _ _ a.1 in
    let c = none_first _ _ _ p.1 in
    record { system = s.0; target = t.0; access = t.1; pointer = p.0; changed = c.0 }
