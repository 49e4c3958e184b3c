use Rattle.std.proofs.Common.{◌≡◌, ◌∙◌, get_or, true, false, rules, sym, arith}
use Rattle.chain_flow.specs.Flow.{StackWord, Entry, is_pair}
use Rattle.chain_flow.proofs.Standing.{stands_at, stands_later, stands_nowhere}
use Rattle.chain_flow.proofs.stack_words.place_in.Goals as goal

pub returns-then-is_same_word : goal.returns-then-is_same_word
returns-then-is_same_word c =
    let d : StackWord = record { offset = 0; value = Entry 0 } in
    let is : is_pair (get_or c.args.others.now c.args.near d) c.args.word.now ≡ true = search rules in
    (stands_at c.args.word.now c.args.others.now c.args.near d c.if-near-others.true is, c.if-near-others.true)

pub returns-then-is_same_word-2 : goal.returns-then-is_same_word-2
returns-then-is_same_word-2 c =
    let d : StackWord = record { offset = 0; value = Entry 0 } in
    let is : is_pair (get_or c.args.others.now c.loop-i.i d) c.args.word.now ≡ true = search rules in
    (stands_at c.args.word.now c.args.others.now c.loop-i.i d c.loop-i-test.true is, c.loop-i-test.true)

pub loop-i-preserved : goal.loop-i-preserved
loop-i-preserved c =
    let d : StackWord = record { offset = 0; value = Entry 0 } in
    let isnt : is_pair (get_or c.args.others.now c.loop-i.i d) c.args.word.now ≡ false = search rules in
    stands_later c.args.word.now c.args.others.now c.loop-i.i d c.loop-i-test.true isnt ∙ c.loop-i.invariant

pub returns : goal.returns
returns c = sym c.loop-i.invariant ∙ stands_nowhere c.args.word.now c.args.others.now c.loop-i.i (omega (arith, c.loop-i-test.false))
