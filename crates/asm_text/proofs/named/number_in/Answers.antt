use Rattle.std.proofs.Common.{[], sym, ap, ◌∙◌}
use Rattle.asm_text.specs.Names.{is_same_text}
use Rattle.asm_text.proofs.NameLemmas.{pointwise_same, taken, left, unrolled}
use Rattle.asm_text.proofs.named.number_in.Goals as goal

pub returns-then-eq : goal.returns-then-eq
returns-then-eq c =
    let t = c.args.name.now in
    let step = unrolled c.args.table.now c.loop-row.row-index t (record { name = record { ref_ptr = (0, 0); now = [] }; number = 0 }) c.loop-row-test.true in
    let is = ap (λ s. is_same_text s t) (sym c.as_bytes.ensures.value) ∙ sym (pointwise_same c.as_bytes.result.now t) ∙ sym c.eq.ensures ∙ c.if-eq.true in
    sym (sym c.loop-row.invariant ∙ step ∙ taken _ _ _ is)

pub loop-row-preserved : goal.loop-row-preserved
loop-row-preserved c =
    let t = c.args.name.now in
    let step = unrolled c.args.table.now c.loop-row.row-index t (record { name = record { ref_ptr = (0, 0); now = [] }; number = 0 }) c.loop-row-test.true in
    let is = ap (λ s. is_same_text s t) (sym c.as_bytes.ensures.value) ∙ sym (pointwise_same c.as_bytes.result.now t) ∙ sym c.eq.ensures ∙ c.if-eq.false in
    sym (left _ _ _ is) ∙ sym step ∙ c.loop-row.invariant
