-- A table whose bound is told: each word is good, and the times are those of its inputs.
use Rattle.std.proofs.Common.{◌≡◌, ℕ, Bool, true, false, List, [], ◌∷◌, ◌++◌, map, Ok, Err, refl, sym, ap, ◌∙◌}
use Rattle.std.specs.List.{All}
use Rattle.std.proofs.lemmas.List.Elements.{All-nil, All-cons}
use Rattle.hart_exec.specs.Effect.{even}
use Rattle.hart_memory.specs.Bytes.{number_at}
use Rattle.chain_flow.specs.Walk.{verdict}
use Rattle.chain_flow.specs.declared.region.Region.{Region}
use Rattle.chain_flow.specs.declared.lint_why.LintWhy.{LintWhy}
use Rattle.chain_flow.specs.declared.verdict.Verdict.{Verdict}
use Rattle.chain_flow.specs.declared.verdict.Verdict.TheVariants.{Yes, No}
use Rattle.chain_lint.specs.declared.uses.Use.{Use}
use Rattle.chain_lint.specs.Tables.{word_place, is_bad_word, by_word, by_verdict, table_bound}
use Rattle.chain_lint.specs.declared.pair.Pair.{Pair}
use Rattle.chain_lint.specs.declared.table_bound.TableBound.{TableBound}
use Rattle.chain_lint.specs.declared.table_bound.TableBound.TheVariants.{Bound, BadTable, Refused}
use Rattle.chain_time.specs.Counts.{Timed, IsTimed}
use Rattle.chain_time.specs.Table.{pair_of, handler_in, timed, times_by, table_times, HasGoodWord}
use Rattle.chain_time.specs.declared.triple.Triple.{Triple}
use Rattle.chain_time.specs.declared.table_fault.TableFault.TheVariants.{BadTable as BadWord, Refused as RefusedTimes}
use Rattle.chain_time.proofs.Paths.{path_small}

module _ (code : List ℕ) (region : Region) (table : ℕ) where
  by_word_good : (b : Bool) (at : ℕ) (next : TableBound) (bytes : ℕ) → by_word b at next ≡ Bound bytes → (b ≡ false) × (next ≡ Bound bytes)
  by_word_good true at next bytes e = absurd cc
  by_word_good false at next bytes e = (refl, e)

  by_verdict_yes : (next : List Use → TableBound) (level : ℕ) (us : List Use) (v : Verdict) (bytes : ℕ) → by_verdict next level us v ≡ Bound bytes → (vs : List Use) × (next vs ≡ Bound bytes)
  by_verdict_yes next level us (Yes uses) bytes e = (us ++ record { level = level; uses = uses } ∷ [], e)
  by_verdict_yes next level us (No why at) bytes e = absurd cc

  pub words_good : (qs : List Triple) (us : List Use) (bytes : ℕ) → table_bound code region table (map (λ q. pair_of q) qs) us ≡ Bound bytes → All (HasGoodWord table) qs
  unfolding table_bound
  words_good [] us bytes e = All-nil (HasGoodWord table)
  words_good (q ∷ qs) us bytes e =
      let here = by_word_good (is_bad_word (word_place table (pair_of q))) (word_place table (pair_of q)) _ bytes e in
      let more = by_verdict_yes (λ vs. table_bound code region table (map (λ r. pair_of r) qs) vs) q.level us (verdict code (even (number_at code (word_place table (pair_of q)) 4)) region) bytes here.1 in
      All-cons (HasGoodWord table) q qs here.0 (words_good qs more.0 bytes more.1)

  -- ---- by what the bound is
  pub times_is : (qs : List Triple) (ps : List Pair) (answer : TableBound) → ps ≡ map (λ q. pair_of q) qs → answer ≡ table_bound code region table ps [] → table_times code region table qs ≡ times_by code table qs answer
  unfolding table_times
  times_is qs ps answer e is = ap (times_by code table qs) (sym (is ∙ ap (λ x. table_bound code region table x []) e))

  pub good_of : (qs : List Triple) (ps : List Pair) (answer : TableBound) (bytes : ℕ) → ps ≡ map (λ q. pair_of q) qs → answer ≡ table_bound code region table ps [] → answer ≡ Bound bytes → All (HasGoodWord table) qs
  good_of qs ps answer bytes e is bound = words_good qs [] bytes (ap (λ x. table_bound code region table x []) (sym e) ∙ (sym is ∙ bound))

  pub times_bound : (qs : List Triple) (ps : List Pair) (answer : TableBound) (bytes : ℕ) (times : List Timed) → ps ≡ map (λ q. pair_of q) qs → answer ≡ table_bound code region table ps [] → answer ≡ Bound bytes
      → times ≡ map (λ q. timed code table q) qs → Ok times ≡ table_times code region table qs
  times_bound qs ps answer bytes times e is bound t = ap (λ (x : List Timed). Ok x) t ∙ sym (times_is qs ps answer e is ∙ ap (times_by code table qs) bound)

  pub times_bad : (qs : List Triple) (ps : List Pair) (answer : TableBound) (at : ℕ) → ps ≡ map (λ q. pair_of q) qs → answer ≡ table_bound code region table ps [] → answer ≡ BadTable at → Err (BadWord at) ≡ table_times code region table qs
  times_bad qs ps answer at e is bad = sym (times_is qs ps answer e is ∙ ap (times_by code table qs) bad)

  pub times_refused : (qs : List Triple) (ps : List Pair) (answer : TableBound) (why : LintWhy) (at : ℕ) → ps ≡ map (λ q. pair_of q) qs → answer ≡ table_bound code region table ps [] → answer ≡ Refused why at → Err (RefusedTimes why at) ≡ table_times code region table qs
  times_refused qs ps answer why at e is refuses = sym (times_is qs ps answer e is ∙ ap (times_by code table qs) refuses)

pub timed_small : (code : List ℕ) (table : ℕ) (q : Triple) → IsTimed (timed code table q)
timed_small code table q = record { path = path_small code (handler_in code table q) }
