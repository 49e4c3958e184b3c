use Rattle.std.proofs.Common.{◌≡◌, ◌+◌, ◌*◌, ◌<◌, ◌≤◌, ◌∙◌, sym, ap, subst, arith, true, false}
use Rattle.std.proofs.lemmas.Result.{err_from_is_err_and}
use Rattle.lab_elf.specs.Fault.{Fails}
use Rattle.lab_elf.specs.Header.{section_count, section_offset}
use Rattle.lab_elf.specs.Headers.{section_at}
use Rattle.lab_elf.specs.Loading.{is_loaded, with_section}
use Rattle.lab_elf.proofs.Loops.{section_loaded, section_passed, section_fails, no_section_left}
use Rattle.lab_elf.proofs.loading.load_sections.Goals as goal
use Rattle.lab_elf.proofs.loading.load_sections.Goals.{then-is_loaded+in_ok-take_section, else-is_loaded}

pub returns-in_err-take_section : goal.returns-in_err-take_section
returns-in_err-take_section c =
    let bytes = c.args.bytes.now in
    let k = c.loop-k.k in
    let e = c.in_err-take_section.field-0.0 in
    let is : c.section_at-section.result ≡ section_at (section_offset bytes + 40 * k) bytes = c.section_at-section.ensures ∙ ap (λ first. section_at (first + 40 * k) bytes) c.word_at-first.ensures in
    let loaded : is_loaded (section_at (section_offset bytes + 40 * k) bytes) ≡ true = ap is_loaded (sym is) ∙ sym c.is_loaded.ensures ∙ c.if-is_loaded.true in
    let lt : k < section_count bytes = omega (arith, c.loop-k-test.true, c.from-k-end.ensures, c.half_at.ensures) in
    let here : Fails e (with_section bytes (section_at (section_offset bytes + 40 * k) bytes) c.loop-k.taken.items) = subst (λ s. Fails e (with_section bytes s c.loop-k.taken.items)) is c.in_err-take_section.ensures in
    let p = err_from_is_err_and c.from_residual.result c.from_residual.ensures.1 in
    rw (p.1, p.2) (subst (λ read. Fails e read) c.loop-k.invariant (section_fails e (section_count bytes) (section_offset bytes) k bytes c.loop-k.taken.items lt loaded here))

pub loop-k-preserved : goal.loop-k-preserved
loop-k-preserved c =
    let bytes = c.args.bytes.now in
    let k = c.loop-k.k in
    let is : c.section_at-section.result ≡ section_at (section_offset bytes + 40 * k) bytes = c.section_at-section.ensures ∙ ap (λ first. section_at (first + 40 * k) bytes) c.word_at-first.ensures in
    let lt : k < section_count bytes = omega (arith, c.loop-k-test.true, c.from-k-end.ensures, c.half_at.ensures) in
    elim c.if-is_loaded.branch [
      | then-is_loaded+in_ok-take_section w ↦
          let loaded : is_loaded (section_at (section_offset bytes + 40 * k) bytes) ≡ true = ap is_loaded (sym is) ∙ sym c.is_loaded.ensures ∙ w.if-is_loaded.true in
          let here = ap (λ s. with_section bytes s c.loop-k.taken.items) (sym is) ∙ w.in_ok-take_section.ensures in
          rw w.taken-is (sym (section_loaded (section_count bytes) (section_offset bytes) k bytes c.loop-k.taken.items w.take_section.new.taken.items lt loaded here) ∙ c.loop-k.invariant)
      | else-is_loaded w ↦
          let loaded : is_loaded (section_at (section_offset bytes + 40 * k) bytes) ≡ false = ap is_loaded (sym is) ∙ sym c.is_loaded.ensures ∙ w.if-is_loaded.false in
          rw w.taken-is (sym (section_passed (section_count bytes) (section_offset bytes) k bytes c.loop-k.taken.items lt loaded) ∙ c.loop-k.invariant)
    ]

pub returns : goal.returns
returns c =
    let bytes = c.args.bytes.now in
    let past : section_count bytes ≤ c.loop-k.k = omega (arith, c.loop-k-test.false, c.from-k-end.ensures, c.half_at.ensures) in
    sym c.loop-k.invariant ∙ no_section_left (section_count bytes) c.loop-k.k (section_offset bytes + 40 * c.loop-k.k) bytes c.loop-k.taken.items past
