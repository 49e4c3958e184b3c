use Rattle.std.proofs.Common.{◌≡◌, ◌+◌, ◌∙◌, min, drop, get_or, rules, arith, ap}
use Rattle.chain_time.specs.Counts.{Timed}
use Rattle.chain_time.specs.Looping.{lowest}
use Rattle.chain_time.proofs.Lows.{lowest_small, next_least, least_end}
use Rattle.chain_time.proofs.looping.lowest.Goals as goal

pub loop-i-init : goal.loop-i-init
loop-i-init c = let s = lowest_small c.args.list.now in (omega arith, omega arith)

pub loop-i-preserved : goal.loop-i-preserved
loop-i-preserved c =
    let d : Timed = record { input = 0; level = 0; handler = 0; path = 0; count = 0 } in
    let is : c.min-least.result ≡ min c.loop-i.least (get_or c.args.list.now c.loop-i.i d).level = search rules in
    let small = c.loop-i.invariant.1 in
    (ap (λ x. min x (lowest (drop (c.loop-i.i + 1) c.args.list.now))) is ∙ next_least c.args.list.now c.loop-i.i c.loop-i.least d c.loop-i-test.true c.loop-i.invariant.0, omega arith)

pub returns : goal.returns
returns c =
    let e = least_end c.args.list.now c.loop-i.i c.loop-i-test.false in
    let h = c.loop-i.invariant.0 in
    let small = c.loop-i.invariant.1 in
    omega arith
