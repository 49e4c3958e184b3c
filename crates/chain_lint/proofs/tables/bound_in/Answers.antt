use Rattle.std.proofs.Common.{◌≡◌, ◌∙◌, ◌+◌, ◌≤◌, ◌++◌, ◌∷◌, [], length, get_or, drop, rules, arith, sym, ap, subst, List}
use Rattle.std.specs.Prelude.{Some}
use Rattle.std.specs.List.{All}
use Rattle.std.proofs.lemmas.List.Elements.{All-push}
use Rattle.hart_exec.specs.Effect.{even}
use Rattle.chain_lint.specs.Bound.{Use, IsUse}
use Rattle.chain_flow.specs.Walk.{verdict}
use Rattle.chain_lint.specs.Tables.{table_bound}
use Rattle.chain_lint.specs.declared.pair.Pair.{Pair}
use Rattle.chain_flow.specs.declared.verdict.Verdict.TheVariants.{Yes, No}
use Rattle.chain_lint.specs.declared.table_bound.TableBound.TheVariants.{Bound}
use Rattle.chain_lint.proofs.Tabled.{bad_table, refused, accepted, all_taken}
use Rattle.chain_lint.proofs.tables.bound_in.Goals as goal

pub returns-in_default : goal.returns-in_default
returns-in_default c =
    let d : Pair = record { input = 0; level = 0 } in
    let input : c.from.result ≡ (get_or c.args.pairs.now c.loop-i.i d).input = search rules in
    bad_table c.args.code.now.present.rom c.args.region.now c.args.table c.args.pairs.now c.loop-i.i c.from.result d c.loop-i-test.true input c.loop-i.list.items c.word_at.result c.word_at.ensures (search rules)
    ∙ c.loop-i.invariant.0

pub returns-in-No : goal.returns-in-No
returns-in-No c =
    let d : Pair = record { input = 0; level = 0 } in
    let input : c.from.result ≡ (get_or c.args.pairs.now c.loop-i.i d).input = search rules in
    let some : c.word_at.result ≡ Some c.in-Some.word = search rules in
    let is : c.in_ok-uses.field-0 ≡ verdict c.args.code.now.present.rom (even c.in-Some.word) c.args.region.now = search rules in
    let refuses : c.in_ok-uses.field-0 ≡ No c.in-No.why c.in-No.at = search rules in
    refused c.args.code.now.present.rom c.args.region.now c.args.table c.args.pairs.now c.loop-i.i c.from.result d c.loop-i-test.true input c.loop-i.list.items c.in-Some.word c.in_ok-uses.field-0 is c.word_at.result c.word_at.ensures some c.in-No.why c.in-No.at refuses
    ∙ c.loop-i.invariant.0

pub loop-i-preserved : goal.loop-i-preserved
loop-i-preserved c =
    let d : Pair = record { input = 0; level = 0 } in
    let input : c.from.result ≡ (get_or c.args.pairs.now c.loop-i.i d).input = search rules in
    let some : c.word_at.result ≡ Some c.in-Some.word = search rules in
    let is : c.in_ok-uses.field-0 ≡ verdict c.args.code.now.present.rom (even c.in-Some.word) c.args.region.now = search rules in
    let yes : c.in_ok-uses.field-0 ≡ Yes c.in-Yes.uses = search rules in
    let u : Use = record { level = (get_or c.args.pairs.now c.loop-i.i d).level; uses = c.in-Yes.uses } in
    let items : c.push.new.self.items ≡ c.loop-i.list.items ++ u ∷ [] = search rules in
    let level = c.requires.levels c.loop-i.i d c.loop-i-test.true in
    let little : c.in-Yes.uses ≤ 4096 = search rules in (
      ap (λ (us : List Use). table_bound c.args.code.now.present.rom c.args.region.now c.args.table (drop (c.loop-i.i + 1) c.args.pairs.now) us) items
          ∙ (accepted c.args.code.now.present.rom c.args.region.now c.args.table c.args.pairs.now c.loop-i.i c.from.result d c.loop-i-test.true input c.loop-i.list.items c.in-Some.word c.in_ok-uses.field-0 is c.word_at.result c.word_at.ensures some c.in-Yes.uses yes
          ∙ c.loop-i.invariant.0),
      subst (All IsUse) (sym items) (All-push IsUse c.loop-i.list.items u c.loop-i.invariant.1 (record { level = level; uses = little })),
      search rules,
    )

pub returns : goal.returns
returns c =
    let past : length c.args.pairs.now ≤ c.loop-i.i = search (rules, arith) in
    let is : c.stack_bound.result ≡ Rattle.chain_lint.specs.Bound.bound c.loop-i.list.items = search rules in
    ap Bound is ∙ (sym (all_taken c.args.code.now.present.rom c.args.region.now c.args.table c.args.pairs.now c.loop-i.i c.loop-i.list.items past) ∙ c.loop-i.invariant.0)
