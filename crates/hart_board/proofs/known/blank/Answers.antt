use Rattle.std.proofs.Common.{◌≡◌, length, replicate, sym, ap, ◌∙◌, subst}
use Rattle.std.proofs.lemmas.List.{length-replicate}
use Rattle.hart_board.specs.Known.{nothing_known, IsBlank}
use Rattle.hart_board.proofs.KnownLemmas.{blank_replicate}
use Rattle.hart_board.proofs.known.blank.Goals as goal

pub returns : goal.returns
returns c =
    let is : c.in_ok-vec.field-0.items ≡ replicate c.args.len nothing_known = c.in_ok-vec.ensures.items_if_clones_equal (λ y e. e) ∙ ap (replicate c.args.len) c.nothing.ensures in
    (ap length is ∙ length-replicate c.args.len nothing_known, subst IsBlank (sym is) (blank_replicate c.args.len))
