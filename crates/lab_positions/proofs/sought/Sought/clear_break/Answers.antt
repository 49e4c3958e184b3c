use Rattle.std.proofs.Common.{rules, ap, ◌∙◌}
use Rattle.std.specs.Prelude.{◌==◌, not, filter}
use Rattle.arrayvec.proofs.ArrayVecLemmas.{filter-from_retain}
use Rattle.lab_positions.specs.Sought.{Search}
use Rattle.lab_positions.proofs.sought.Sought.clear_break.Goals as goal

pub returns : goal.returns
returns c =
    let s = c.self.inside in
    ap (λ breaks. record { breaks = breaks; watches = s.watches.items; until = s.until }) (filter-from_retain _ _ _ (λ x b f' y called. search rules) _ _ c.retain.ensures.filtered)
    ∙ ap (λ (v : Search). record v { breaks = filter (λ b. not (b == c.args.at)) v.breaks }) c.self.view_is
