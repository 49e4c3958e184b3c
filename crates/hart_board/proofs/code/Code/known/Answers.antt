use Rattle.std.proofs.Common.{◌/◌, ◌<◌, length, arith, subst}
use Rattle.hart_memory.specs.Kept.{Held}
use Rattle.hart_memory.specs.Memory.{Memory}
use Rattle.hart_memory.specs.Fetch.{fetched}
use Rattle.hart_board.specs.Known.{IsKnown}
use Rattle.hart_board.proofs.KnownLemmas.{read, read_known}
use Rattle.hart_board.proofs.code.Code.known.Goals as goal

pub returns-then-pc-clause-names : goal.returns-then-pc-clause-names
returns-then-pc-clause-names c =
    let inside : c.args.pc / 2 < length c.self.inside.known.items = omega (arith, c.if-pc.true, c.self.invariant.count) in
    (read c.self.inside.banks.present.rom c.self.inside.known.items (c.args.pc / 2) c.index.result.now c.self.invariant.known inside c.index.ensures).names

pub returns-then-pc-clause-known : goal.returns-then-pc-clause-known
returns-then-pc-clause-known c =
    let inside : c.args.pc / 2 < length c.self.inside.known.items = omega (arith, c.if-pc.true, c.self.invariant.count) in
    let is = read_known c.self.inside.banks.present c.args.pc c.index.result.now c.requires (read c.self.inside.banks.present.rom c.self.inside.known.items (c.args.pc / 2) c.index.result.now c.self.invariant.known inside c.index.ensures) in
    subst (λ (h : Held Memory). IsKnown (fetched h.present c.args.pc) c.index.result.now) c.self.view_is is
