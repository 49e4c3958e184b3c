use Rattle.std.proofs.Common.{◌≡◌, ◌∙◌, ◌+◌, ◌≤◌, ◌<◌, ◌++◌, ◌∷◌, [], length, get_or, drop, rules, arith, sym, ap, subst, List}
use Rattle.std.specs.Prelude.{Some, None, option_map}
use Rattle.std.specs.List.{All}
use Rattle.std.proofs.lemmas.List.Elements.{All-push}
use Rattle.chain_lint.specs.Bound.{IsUse, bound}
use Rattle.chain_lint.specs.declared.uses.Use.{Use}
use Rattle.chain_lint.specs.declared.pair.Pair.{Pair}
use Rattle.chain_search.specs.declared.pair_answer.PairAnswer.TheVariants.{BadTable}
use Rattle.chain_search.specs.Tables.{uses_from, uses_told}
use Rattle.chain_search.proofs.Bounded.{uses_short, uses_none, uses_more, uses_all, uses_small}
use Rattle.chain_search.proofs.bounding.bound_told.Goals as goal

pub returns-then-i-answers : goal.returns-then-i-answers
returns-then-i-answers c =
    sym (ap (option_map (λ us. bound us)) (sym c.loop-i.invariant.0 ∙ uses_short c.args.pairs.now c.args.answers.now c.loop-i.i c.loop-i.list.items (record { input = 0; level = 0 }) c.loop-i-test.true (search (rules, arith))))

pub returns-in_default : goal.returns-in_default
returns-in_default c =
    let none : uses_told (get_or c.args.answers.now c.loop-i.i (BadTable 0)) ≡ None = search rules in
    sym (ap (option_map (λ us. bound us)) (sym c.loop-i.invariant.0 ∙ uses_none c.args.pairs.now c.args.answers.now c.loop-i.i c.loop-i.list.items (record { input = 0; level = 0 }) (BadTable 0) c.loop-i-test.true (search (rules, arith)) none))

pub loop-i-preserved : goal.loop-i-preserved
loop-i-preserved c =
    let d : Pair = record { input = 0; level = 0 } in
    let some : uses_told (get_or c.args.answers.now c.loop-i.i (BadTable 0)) ≡ Some c.in-Some.uses = search rules in
    let u : Use = record { level = (get_or c.args.pairs.now c.loop-i.i d).level; uses = c.in-Some.uses } in
    let items : c.push.new.self.items ≡ c.loop-i.list.items ++ u ∷ [] = search rules in
    let there : c.loop-i.i < length c.args.answers.now = search (rules, arith) in
    let level = c.requires.levels c.loop-i.i d c.loop-i-test.true in
    let little = uses_small (get_or c.args.answers.now c.loop-i.i (BadTable 0)) c.in-Some.uses (c.requires.little c.loop-i.i (BadTable 0) there) some in (
      ap (λ (us : List Use). uses_from us (drop (c.loop-i.i + 1) c.args.pairs.now) (drop (c.loop-i.i + 1) c.args.answers.now)) items
          ∙ (uses_more c.args.pairs.now c.args.answers.now c.loop-i.i c.loop-i.list.items d (BadTable 0) c.loop-i-test.true there c.in-Some.uses some
          ∙ c.loop-i.invariant.0),
      subst (All IsUse) (sym items) (All-push IsUse c.loop-i.list.items u c.loop-i.invariant.1 (record { level = level; uses = little })),
    )

pub returns : goal.returns
returns c =
    let past : length c.args.pairs.now ≤ c.loop-i.i = search (rules, arith) in
    let is : c.stack_bound.result ≡ bound c.loop-i.list.items = search rules in
    ap Some is ∙ ap (option_map (λ us. bound us)) (sym (uses_all c.args.pairs.now c.args.answers.now c.loop-i.i c.loop-i.list.items past) ∙ c.loop-i.invariant.0)
