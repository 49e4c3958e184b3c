use Rattle.std.proofs.Common.{◌≡◌, ◌+◌, ◌*◌, ◌<◌, ◌≤◌, ◌∙◌, sym, ap, arith, Some, true}
use Rattle.std.specs.Prelude.{◌==◌}
use Rattle.std.proofs.lemmas.Bool.{eq-eqb}
use Rattle.lab_elf.specs.Header.{section_count, section_offset}
use Rattle.lab_elf.specs.Headers.{section_at}
use Rattle.lab_elf.specs.Symbols.{table_kind}
use Rattle.lab_elf.proofs.Loops.{kind_found, kind_passed, no_kind_left}
use Rattle.lab_elf.proofs.symbol_table.first_table.Goals as goal

pub returns-then-section-eq-SYMBOL_TABLE : goal.returns-then-section-eq-SYMBOL_TABLE
returns-then-section-eq-SYMBOL_TABLE c =
    let bytes = c.args.bytes.now in
    let k = c.loop-k.k in
    let is : c.section_at-section.result ≡ section_at (section_offset bytes + 40 * k) bytes = c.section_at-section.ensures ∙ ap (λ first. section_at (first + 40 * k) bytes) c.word_at-first.ensures in
    let kind : ((section_at (section_offset bytes + 40 * k) bytes).kind == table_kind) ≡ true = eq-eqb _ _ (ap (λ s. s.kind) (sym is) ∙ c.if-section-eq-SYMBOL_TABLE.true) in
    let lt : k < section_count bytes = omega (arith, c.loop-k-test.true, c.from-k-end.ensures, c.half_at.ensures) in
    ap Some is ∙ sym (kind_found table_kind (section_count bytes) (section_offset bytes) k bytes lt kind) ∙ c.loop-k.invariant

pub loop-k-preserved : goal.loop-k-preserved
loop-k-preserved c =
    let bytes = c.args.bytes.now in
    let k = c.loop-k.k in
    let is : c.section_at-section.result ≡ section_at (section_offset bytes + 40 * k) bytes = c.section_at-section.ensures ∙ ap (λ first. section_at (first + 40 * k) bytes) c.word_at-first.ensures in
    let lt : k < section_count bytes = omega (arith, c.loop-k-test.true, c.from-k-end.ensures, c.half_at.ensures) in
    sym (kind_passed table_kind (section_count bytes) (section_offset bytes) k bytes lt (λ e. c.if-section-eq-SYMBOL_TABLE.false (ap (λ s. s.kind) is ∙ e))) ∙ c.loop-k.invariant

pub returns : goal.returns
returns c =
    let bytes = c.args.bytes.now in
    let past : section_count bytes ≤ c.loop-k.k = omega (arith, c.loop-k-test.false, c.from-k-end.ensures, c.half_at.ensures) in
    sym (no_kind_left table_kind (section_count bytes) c.loop-k.k (section_offset bytes + 40 * c.loop-k.k) bytes past) ∙ c.loop-k.invariant
