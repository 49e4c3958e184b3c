use Rattle.std.proofs.Common.{◌≡◌, ◌+◌, ◌*◌, ◌≤◌, ◌++◌, ◌∷◌, [], length, get_or, take, rules, arith, sym, subst, List}
use Rattle.std.proofs.lemmas.List.{take_more, take_all}
use Rattle.chain_lint.specs.declared.pair.Pair.{Pair}
use Rattle.chain_search.specs.declared.pair_answer.PairAnswer.{PairAnswer}
use Rattle.chain_search.specs.Tables.{IsAnswerBy, AreAnswersBy}
use Rattle.chain_search.proofs.Told.{answers_more, answers_push, told, are_little}
use Rattle.chain_search.proofs.telling.certify_table.Goals as goal

pub loop-i-preserved : goal.loop-i-preserved
loop-i-preserved c =
    let d : Pair = record { input = 0; level = 0 } in
    let input : c.from.result ≡ (get_or c.args.pairs.now c.loop-i.i d).input = search rules in
    let code = c.args.code.now.present.rom in
    let region = c.args.region.now in
    let more = c.answer_at.new.accepted.items in
    let answers = c.loop-i.answers.items in
    let a = c.in_ok-answer.answer in
    let items : c.push.new.self.items ≡ answers ++ a ∷ [] = search rules in
    let here = subst (λ n. IsAnswerBy code region more (c.args.table + 4 * n) a) input c.in_ok-answer.ensures.answer in
    let before = answers_more code region c.loop-i.accepted.items more c.args.table (take c.loop-i.i c.args.pairs.now) answers c.in_ok-answer.ensures.more c.loop-i.invariant.0 in (
      subst (λ (bs : List PairAnswer). AreAnswersBy code region more c.args.table (take (c.loop-i.i + 1) c.args.pairs.now) bs) (sym items)
          (subst (λ (ps : List Pair). AreAnswersBy code region more c.args.table ps (answers ++ a ∷ [])) (sym (take_more c.args.pairs.now c.loop-i.i d c.loop-i-test.true))
          (answers_push code region more c.args.table (take c.loop-i.i c.args.pairs.now) answers (get_or c.args.pairs.now c.loop-i.i d) a before here)),
      c.in_ok-answer.ensures.certified,
    )

pub returns : goal.returns
returns c =
    let past : length c.args.pairs.now ≤ c.loop-i.i = search (rules, arith) in
    let all = told c.args.code.now.present.rom c.args.region.now c.loop-i.accepted.items c.args.table c.args.pairs.now c.loop-i.answers.items c.loop-i.invariant.1
    (subst (λ (ps : List Pair). AreAnswersBy c.args.code.now.present.rom c.args.region.now c.loop-i.accepted.items c.args.table ps c.loop-i.answers.items) (take_all c.loop-i.i c.args.pairs.now past) c.loop-i.invariant.0) in
    record { told = all; little = are_little c.args.code.now.present.rom c.args.region.now c.args.table c.args.pairs.now c.loop-i.answers.items all }
