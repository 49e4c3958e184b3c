use Rattle.std.proofs.Common.{◌≡◌, false, sym, ◌∙◌}
use Rattle.std.specs.List.{list_any}
use Rattle.lab_trace.specs.Added.{is_tab}
use Rattle.lab_trace.proofs.Back.{spelled_same}
use Rattle.lab_trace.proofs.writing.put_spelled.Goals as goal

pub returns-else-has_tab : goal.returns-else-has_tab
returns-else-has_tab g c =
    let none : list_any is_tab c.args.bytes.now ≡ false = sym c.has_tab.ensures ∙ c.if-has_tab.false in
    rw (spelled_same c.args.bytes.now none) c.put.ensures
