use Rattle.std.proofs.Common.{◌≡◌, ℕ, List, None, sym, subst}
use Rattle.mem_text.specs.Laying.{Laying, IsFit, why_not}
use Rattle.mem_text.proofs.Places.{fit_grown}
use Rattle.mem_text.proofs.laying.Laying.push.Goals as goal

pub invariant_of-self-2 : goal.invariant_of-self-2
invariant_of-self-2 c =
    let l : Laying = record { image = c.self.inside.image; from = c.self.inside.from; filled = c.self.inside.filled.items } in
    let Free : Laying → Type 0 = λ m. why_not m ≡ None in
    let Fit : List ℕ → Type 0 = λ filled. IsFit (record { image = c.self.inside.image; from = c.self.inside.from; filled = filled }) in
    subst Fit (sym c.in_ok-push.ensures.items) (fit_grown l c.args.byte c.self.invariant (subst Free (sym c.self.view_is) c.requires))
