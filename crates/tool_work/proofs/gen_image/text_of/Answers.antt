use Rattle.std.proofs.Common.{◌≡◌, ◌∙◌, ◌++◌, List, ℕ, slice_index, ap, arith}
use Rattle.std.specs.Int.{to_le_bytes, w32}
use Rattle.tool_work.proofs.WordBytes.{one_word, no_word}
use Rattle.tool_work.proofs.gen_image.text_of.Goals as goal

pub loop-word-preserved : goal.loop-word-preserved
loop-word-preserved c =
    let words = c.args.words.now in
    let more : c.push_bytes.new.self ≡ c.loop-word.text ++ to_le_bytes w32 (slice_index words c.loop-word.word-index) = c.in_ok-push_bytes.ensures.ok ∙ ap (λ (b : List ℕ). c.loop-word.text ++ b) c.to_le_bytes.ensures in
    one_word words c.loop-word.word-index c.loop-word.text c.push_bytes.new.self c.loop-word-test.true more c.loop-word.invariant

pub returns : goal.returns
returns c = no_word c.args.words.now c.loop-word.word-index c.loop-word.text (omega (arith, c.loop-word-test.false)) c.loop-word.invariant
