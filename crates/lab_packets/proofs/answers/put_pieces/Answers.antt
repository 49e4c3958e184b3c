use Rattle.std.proofs.Common.{◌<◌, length, arith, ◌∙◌}
use Rattle.std.proofs.lemmas.Bool.Decides.{nat_tests}
use Rattle.lab_packets.proofs.HexText.{onward}
use Rattle.lab_packets.proofs.answers.put_pieces.Goals as goal

pub loop-rest-preserved : goal.loop-rest-preserved
loop-rest-preserved c =
    let some : 0 < length c.loop-rest.rest.now = grind (arith, nat_tests, c.is_empty.ensures, c.loop-rest-test.true) in
    onward c.args.size c.loop-rest.text _ _ _ c.loop-rest.rest.now c.requires some c.front_of.ensures c.behind-rest.ensures c.in_ok-put_shown.ensures ∙ c.loop-rest.invariant
