use Rattle.std.proofs.Common.{ap, sym, ◌∙◌, Some, None, bit_and, ◌==◌}
use Rattle.rv_encoding.proofs.IgnoredBits.{canonical_test, tells_canonical}
use Rattle.rv_encoding.proofs.canonical.is_canonical.Goals as goal

pub returns-in-Some-clause-value : goal.returns-in-Some-clause-value
returns-in-Some-clause-value c =
    ap (λ x. bit_and c.args.w x == 0) c.ignored_bits.ensures ∙ sym (canonical_test c.args.w (Some c.in-Some.i) c.in-Some.ensures.table)

pub returns-in-Some-clause-row : goal.returns-in-Some-clause-row
returns-in-Some-clause-row c = tells_canonical _ c.args.w (returns-in-Some-clause-value c)

pub returns-in-None-clause-value : goal.returns-in-None-clause-value
returns-in-None-clause-value c = sym (canonical_test c.args.w None c.in-None.ensures.table)

pub returns-in-None-clause-row : goal.returns-in-None-clause-row
returns-in-None-clause-row c = tells_canonical _ c.args.w (returns-in-None-clause-value c)
