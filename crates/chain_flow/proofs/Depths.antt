-- A handler that is accepted uses at most 4,096 bytes.
use Rattle.std.proofs.Common.{◌≡◌, ℕ, zero, suc, ◌%◌, ◌≤◌, max, false, List, [], ◌∷◌, refl, sym, subst, arith}
use Rattle.std.specs.Prelude.{◌==◌, nat_le, Result, Ok, Err, IfOk}
use Rattle.std.proofs.lemmas.Bool.{leb-true, and_parts, not-false, true≢false}
use Rattle.chain_flow.specs.Flow.{Value, Entry, Const, Stack, Unknown, Flow, value_of, depth}
use Rattle.chain_flow.specs.Transfer.{flow_after}
use Rattle.chain_flow.specs.Rules.{Looked, Refused, Passed, looked, is_bad_pointer}
use Rattle.chain_flow.specs.Walk.{Reached, all_arrived, depth_of, walk_on, walk, verdict, UsesLittle}
use Rattle.chain_flow.specs.declared.region.Region.{Region}
use Rattle.chain_flow.specs.declared.verdict.Verdict.{Verdict}
use Rattle.chain_flow.proofs.Looks.{looks, keeps}

small_depth : (v : Value) → is_bad_pointer v ≡ false → depth_of v ≤ 4096
small_depth (Stack k) e = leb-true (depth k) 4096 (and_parts (depth k % 4 == 0) (nat_le (depth k) 4096) (not-false _ e)).1
small_depth (Entry r) e = absurd (true≢false e)
small_depth (Const c) e = absurd (true≢false e)
small_depth Unknown e = absurd (true≢false e)

module _ (code : List ℕ) (region : Region) where
  passed_small : (at : ℕ) (f after : Flow) (ts : List ℕ) → looked code region at f ≡ Passed after ts → depth_of (value_of after.values 2) ≤ 4096
  passed_small at f after ts e =
      let l = looks code region at f after ts e in
      let rules = keeps region at f (flow_after at l.length f l.ins) l.ins l.passes in
      subst (λ (x : Flow). depth_of (value_of x.values 2) ≤ 4096) (sym l.is_after) (small_depth (value_of (flow_after at l.length f l.ins).values 2) rules.pointer)

  looked_small : (n at : ℕ) (f : Flow) (ps : List Reached) (uses : ℕ) (l : Looked) → looked code region at f ≡ l → uses ≤ 4096
      → ((qs : List Reached) (u : ℕ) → u ≤ 4096 → UsesLittle (walk code region n qs u)) → UsesLittle (walk_on (λ qs u. walk code region n qs u) at ps uses l)
  looked_small n at f ps uses (Refused why) e h next = tt
  looked_small n at f ps uses (Passed after ts) e h next =
      let d = passed_small at f after ts e in
      next (all_arrived ts after ps) (max uses (depth_of (value_of after.values 2))) (omega arith)

  walk_small : (n : ℕ) (ps : List Reached) (uses : ℕ) → uses ≤ 4096 → UsesLittle (walk code region n ps uses)
  unfolding walk
  walk_small zero [] uses h = h
  walk_small zero (p ∷ ps) uses h = tt
  walk_small (suc n) [] uses h = h
  walk_small (suc n) (p ∷ ps) uses h = looked_small n p.at p.flow ps uses (looked code region p.at p.flow) refl h (λ qs u k. walk_small n qs u k)

  pub verdict_small : (handler : ℕ) → UsesLittle (verdict code handler region)
  unfolding verdict
  verdict_small handler = walk_small 1024 _ 0 (omega arith)

pub ok_small : {E : Type 0} (code : List ℕ) (region : Region) (handler : ℕ) (r : Result Verdict E) → IfOk r (λ v. v ≡ verdict code handler region) → IfOk r (λ v. UsesLittle v)
ok_small code region handler (Ok v) h = subst (λ (x : Verdict). UsesLittle x) (sym h) (verdict_small code region handler)
ok_small code region handler (Err e) h = tt
