use Rattle.std.proofs.Common.{sym, subst}
use Rattle.hart_memory.specs.Kept.{Held}
use Rattle.hart_memory.specs.Memory.{Memory}
use Rattle.hart_memory.specs.Fetch.{fetched}
use Rattle.hart_board.specs.Known.{IsKnown}
use Rattle.hart_board.proofs.KnownLemmas.{learnt}
use Rattle.hart_board.proofs.code.Code.learn.Goals as goal

pub invariant_of-self : goal.invariant_of-self
invariant_of-self c =
    let b = c.self.inside in
    let known = subst (λ (h : Held Memory). IsKnown (fetched h.present c.args.pc) c.args.known) (sym c.self.view_is) c.requires.known in
    learnt b.banks.present c.args.pc c.args.known c.requires.even c.if-pc.true c.requires.names known b.known.items b.is_blank c.self.invariant
