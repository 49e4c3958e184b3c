use Rattle.std.proofs.Common.{◌+◌, ◌-◌, ◌/◌, ◌∙◌, arith, length-set, refl}
use Rattle.clic_select.proofs.Winners.{kept, mend_step, digits_half, digits_more}
use Rattle.clic_select.proofs.tree.mend.Goals as goal

pub loop-k-init : goal.loop-k-init
loop-k-init g c = record {
  size = c.requires.size;
  within = omega arith;
  others = c.requires.others;
  leaves = λ j l. refl;
  counts = omega arith;
  cost = omega (arith, digits_more ((c.args.leaf + c.args.inputs) / 2) (c.args.inputs - 1) (omega arith));
}

pub loop-k-preserved : goal.loop-k-preserved
loop-k-preserved g c =
    let inv = c.loop-k.invariant in
    record {
      size = simp length-set inv.size;
      within = omega (arith, inv.within);
      others = mend_step c.args.inputs c.loop-k.nodes c.loop-k.k _ inv.within inv.size inv.others c.winner.ensures.answer;
      leaves = λ j l. kept c.loop-k.nodes c.loop-k.k _ j (omega (arith, inv.within)) ∙ inv.leaves j l;
      counts = omega (arith, inv.counts, c.winner.ensures.cost);
      cost = omega (arith, inv.cost, c.winner.ensures.cost, digits_half c.loop-k.k (omega arith));
    }
