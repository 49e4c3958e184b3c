use Rattle.std.proofs.Common.{map, ap, ◌∙◌}
use Rattle.lab_sweep.specs.Rows.{row_of, raised}
use Rattle.lab_sweep.specs.Sweep.{with_outcome}
use Rattle.lab_sweep.specs.declared.tally.Tally.{Tally}
use Rattle.indexmap.specs.IndexMap.{insert_entry}
use Rattle.lab_sweep.proofs.Loops.{same, put_in_table}
use Rattle.lab_sweep.proofs.outcomes.Outcomes.add.Goals as goal

pub returns : goal.returns
returns c =
    let es = c.self.inside.table.entries in
    ap (λ es. map row_of es) c.in_ok-insert.ensures.entries
    ∙ ap (λ (t : Tally). map row_of (insert_entry same es c.args.outcome t)) (c.raised-tally.ensures ∙ ap (raised c.args.count) (c.copied.ensures ∙ c.get.ensures.value))
    ∙ put_in_table c.args.count c.args.outcome es
    ∙ ap (with_outcome c.args.count c.args.outcome.items) c.self.view_is
