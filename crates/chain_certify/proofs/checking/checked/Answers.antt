use Rattle.std.proofs.Common.{◌≡◌, ◌≤◌, rules, sym, subst, true, ℕ}
use Rattle.chain_certify.specs.Check.{is_certificate}
use Rattle.chain_certify.proofs.Loops.{certificate_small}
use Rattle.chain_certify.proofs.checking.checked.Goals as goal

pub returns-clause-small : goal.returns-clause-small
returns-clause-small c =
    let e : is_certificate c.args.code.now.present.rom c.args.handler c.args.region.now c.args.nodes.now ≡ true = search rules in
    subst (λ (n : ℕ). n ≤ 4096) (sym c.deepest.ensures) (certificate_small c.args.code.now.present.rom c.args.handler c.args.region.now c.args.nodes.now e)
