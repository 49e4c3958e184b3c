use Rattle.std.proofs.Common.{◌<◌, IfSome, ℕ, sym, subst}
use Rattle.std.specs.Prelude.{Option}
use Rattle.asm_text.specs.Names.{csr_of}
use Rattle.asm_text.proofs.NameLemmas.{csrs_below}
use Rattle.asm_text.proofs.csrs.csr_of.Goals as goal

pub returns-clause-small : goal.returns-clause-small
unfolding csr_of
returns-clause-small c =
    let P : Option ℕ → Type 0 = λ o. IfSome o (λ n. n < 4096) in
    subst P (sym c.number_in.ensures) (csrs_below c.args.name.now)
