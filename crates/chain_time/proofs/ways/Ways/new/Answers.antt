use Rattle.std.proofs.Common.{◌≡◌, ◌++◌, ◌∷◌, [], length, rules, arith, ap, ◌∙◌, length-append}
use Rattle.chain_time.proofs.Downward.{ways_more}
use Rattle.chain_time.proofs.ways.Ways.new.Goals as goal

pub loop-preserved : goal.loop-preserved
loop-preserved c =
    let is : c.push.new.self.items ≡ c.loop.rows.items ++ c.next_way-way.result ∷ [] = search rules in (
      omega (arith, ap length is ∙ length-append c.loop.rows.items (c.next_way-way.result ∷ []), c.loop.invariant.0),
      ways_more c.args.code.now.present.rom c.loop.rows.items c.push.new.self.items c.next_way-way.result c.loop.invariant.1 (search rules) is,
    )
