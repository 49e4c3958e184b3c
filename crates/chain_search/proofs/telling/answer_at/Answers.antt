use Rattle.std.proofs.Common.{◌≡◌, ◌∙◌, ◌++◌, ◌∷◌, [], rules, sym, ap, subst, None, Some, List}
use Rattle.hart_exec.specs.Effect.{even}
use Rattle.chain_flow.specs.declared.verdict.Verdict.TheVariants.{Yes}
use Rattle.chain_search.specs.declared.accepted.Accepted.{Accepted}
use Rattle.chain_search.specs.Tables.{uses_in, named_at, WereCertified}
use Rattle.chain_search.proofs.Told.{good_word, tells_more, tells_last, certified_more, yes_has}
use Rattle.chain_search.proofs.telling.answer_at.Goals as goal

pub returns-in_ok-push-in-Yes-clause-answer : goal.returns-in_ok-push-in-Yes-clause-answer
returns-in_ok-push-in-Yes-clause-answer c =
    let h : Accepted = record { at = c.even-at.result; uses = c.in-Yes.uses } in
    let good = good_word c.args.code.now.present.rom c.args.place c.in-Some.word c.word_at.result c.word_at.ensures (search rules) in
    let at : c.even-at.result ≡ even c.in-Some.word = search rules in
    let items : c.push.new.self.items ≡ c.args.accepted.now.items ++ h ∷ [] = search rules in
    let none : uses_in c.args.accepted.now.items c.even-at.result ≡ None = search rules in
    let named : named_at c.args.code.now.present.rom c.args.place ≡ c.even-at.result = sym good.1 ∙ sym at in (
      good.0,
      subst (λ a. uses_in c.push.new.self.items a ≡ Some c.in-Yes.uses) (sym named) (ap (λ (hs : List Accepted). uses_in hs c.even-at.result) items ∙ tells_last c.args.accepted.now.items h none),
    )

pub returns-in_ok-push-in-Yes-clause-more : goal.returns-in_ok-push-in-Yes-clause-more
returns-in_ok-push-in-Yes-clause-more c =
    let h : Accepted = record { at = c.even-at.result; uses = c.in-Yes.uses } in
    let items : c.push.new.self.items ≡ c.args.accepted.now.items ++ h ∷ [] = search rules in
    λ at uses e. ap (λ (hs : List Accepted). uses_in hs at) items ∙ tells_more c.args.accepted.now.items h at uses e

pub returns-in_ok-push-in-Yes-clause-certified : goal.returns-in_ok-push-in-Yes-clause-certified
returns-in_ok-push-in-Yes-clause-certified c =
    let h : Accepted = record { at = c.even-at.result; uses = c.in-Yes.uses } in
    let items : c.push.new.self.items ≡ c.args.accepted.now.items ++ h ∷ [] = search rules in
    let yes : c.in_ok-uses.field-0 ≡ Yes c.in-Yes.uses = search rules in
    subst (λ (hs : List Accepted). WereCertified c.args.code.now.present.rom c.args.region.now hs) (sym items)
    (certified_more c.args.code.now.present.rom c.args.region.now c.args.accepted.now.items h c.requires (yes_has c.args.code.now.present.rom c.even-at.result c.args.region.now c.in_ok-uses.field-0 c.in-Yes.uses c.in_ok-uses.ensures.exact yes))
