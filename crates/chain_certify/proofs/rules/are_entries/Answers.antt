use Rattle.std.proofs.Common.{◌∙◌, rules, arith, sym, ap, refl}
use Rattle.chain_certify.specs.Rules.{are_entries}
use Rattle.chain_certify.proofs.Loops.{entries_more, entries_fail}
use Rattle.chain_certify.proofs.rules.are_entries.Goals as goal

pub loop-r-init : goal.loop-r-init
unfolding are_entries
loop-r-init c = refl

pub loop-r-preserved : goal.loop-r-preserved
loop-r-preserved c = entries_more c.args.flow.now.values c.loop-r.r c.loop-r.invariant (search rules)

pub returns-then-not-is_kept : goal.returns-then-not-is_kept
returns-then-not-is_kept c = sym (entries_fail c.args.flow.now.values 32 c.loop-r.r c.loop-r-test.true (search rules))

pub returns : goal.returns
returns c = sym (ap (are_entries c.args.flow.now.values) (omega (arith, c.loop-r-test.false)) ∙ c.loop-r.invariant)
