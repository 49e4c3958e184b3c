use Rattle.std.proofs.Common.{◌≡◌, ◌<◌, ◌≤◌, ◌+◌, ◌∙◌, length, set, take, true, false, rules, sym, ap, ap₂, arith, List, ℕ, length-set, append-nil}
use Rattle.chain_flow.specs.Flow.{StackWord, stands_in}
use Rattle.chain_flow.proofs.Standing.{joined_so, is_there, is_nowhere, code_keeps, code_drops, join_ends}
use Rattle.chain_flow.proofs.stack_words.join.Goals.{in-Some, in_default}
use Rattle.chain_flow.proofs.stack_words.join.Goals as goal

pub loop-i-preserved : goal.loop-i-preserved
loop-i-preserved c =
    let ws = c.loop-i.words.items in
    let us = c.args.others.now in
    let w = c.index.result.now in
    let within : c.loop-i.i < length ws = search (rules, arith) in
    elim c.match-place_in.branch [
      | in-Some v ↦
          let items : c.match-place_in.words.items ≡ set ws c.loop-i.kept w = search rules in
          let there : stands_in w us ≡ true = is_there w us c.place_in.result v.in-Some.place c.place_in.ensures (search rules) in
          let next : c.match-place_in.kept ≡ c.loop-i.kept + 1 = search rules in
          let low = c.loop-i.invariant.0 in (
            omega arith,
            ap length items ∙ (length-set ws c.loop-i.kept w ∙ c.loop-i.invariant.1),
            ap (λ (k : ℕ). joined_so c.match-place_in.words.items us k (c.loop-i.i + 1)) next ∙ (code_keeps ws c.match-place_in.words.items us c.loop-i.kept c.loop-i.i w low within c.index.ensures there items ∙ c.loop-i.invariant.2),
          )
      | in_default v ↦
          let items : c.match-place_in.words.items ≡ ws = search rules in
          let nowhere : stands_in w us ≡ false = is_nowhere w us c.place_in.result c.place_in.ensures (search rules) in
          let same : c.match-place_in.kept ≡ c.loop-i.kept = search rules in
          let low = c.loop-i.invariant.0 in (
            omega arith,
            ap length items ∙ c.loop-i.invariant.1,
            ap₂ (λ (x : List StackWord) (k : ℕ). joined_so x us k (c.loop-i.i + 1)) items same ∙ (code_drops ws us c.loop-i.kept c.loop-i.i w within c.index.ensures nowhere ∙ c.loop-i.invariant.2),
          )
    ]

pub returns : goal.returns
returns c =
    let past : length c.loop-i.words.items ≤ c.loop-i.i = search (rules, arith) in
    let cut : c.truncate.new.self.items ≡ take c.loop-i.kept c.loop-i.words.items = search rules in
    cut ∙ (sym (append-nil (take c.loop-i.kept c.loop-i.words.items)) ∙ (sym (join_ends c.loop-i.words.items c.args.others.now c.loop-i.kept c.loop-i.i past) ∙ c.loop-i.invariant.2))
