use Rattle.std.proofs.Common.{◌+◌, drop, map, sym, ap, ◌∙◌}
use Rattle.asm_text.specs.Names.{is_same_text}
use Rattle.asm_text.specs.Words.{word_at}
use Rattle.asm_text.proofs.NameLemmas.{pointwise_same}
use Rattle.asm_forms.specs.Statements.{chosen, task_or}
use Rattle.asm_forms.specs.Seen.{form_rows}
use Rattle.asm_forms.specs.declared.asm_why.AsmWhy.TheVariants.{BadOperands}
use Rattle.asm_forms.proofs.Chosen.{chosen_on, taken, left}
use Rattle.asm_forms.proofs.statements.chosen.Goals as goal
use Rattle.asm_forms.proofs.statements.chosen.Goals.{then-eq+in-None, else-eq}

pub returns-in-Some : goal.returns-in-Some
returns-in-Some c =
    let t = c.args.name.now in
    let ws = map (word_at c.args.line.now) (drop c.args.at c.args.tokens.now) in
    let step = chosen_on c.args.table.now c.loop-form.form-index c.loop-form.why t ws _ c.loop-form-test.true in
    let is = ap (λ s. is_same_text s t) (sym c.as_bytes.ensures.value) ∙ sym (pointwise_same c.as_bytes.result.now t) ∙ sym c.eq.ensures ∙ c.if-eq.true in
    ap (λ k. task_or k (chosen (form_rows (drop (c.loop-form.form-index + 1) c.args.table.now)) BadOperands t ws)) c.in-Some.ensures ∙ sym (taken _ _ _ is) ∙ sym step ∙ c.loop-form.invariant

pub loop-form-preserved : goal.loop-form-preserved
loop-form-preserved c =
    let t = c.args.name.now in
    let ws = map (word_at c.args.line.now) (drop c.args.at c.args.tokens.now) in
    let rest = form_rows (drop (c.loop-form.form-index + 1) c.args.table.now) in
    let step = chosen_on c.args.table.now c.loop-form.form-index c.loop-form.why t ws _ c.loop-form-test.true in
    elim c.if-eq.branch [
      | then-eq+in-None w ↦
          let is = ap (λ s. is_same_text s t) (sym c.as_bytes.ensures.value) ∙ sym (pointwise_same c.as_bytes.result.now t) ∙ sym c.eq.ensures ∙ w.if-eq.true in
          ap (λ y. chosen rest y t ws) w.why-is ∙ ap (λ k. task_or k (chosen rest BadOperands t ws)) w.in-None.ensures ∙ sym (taken _ _ _ is) ∙ sym step ∙ c.loop-form.invariant
      | else-eq w ↦
          let is = ap (λ s. is_same_text s t) (sym c.as_bytes.ensures.value) ∙ sym (pointwise_same c.as_bytes.result.now t) ∙ sym c.eq.ensures ∙ w.if-eq.false in
          ap (λ y. chosen rest y t ws) w.why-is ∙ sym (left _ _ _ is) ∙ sym step ∙ c.loop-form.invariant
    ]
