use Rattle.std.proofs.Common.{◌≡◌, ◌+◌, ◌*◌, ◌<◌, ◌≤◌, ◌∙◌, sym, ap, arith, Some, true, false}
use Rattle.lab_elf.specs.Header.{program_count, program_offset}
use Rattle.lab_elf.specs.Headers.{program_at}
use Rattle.lab_elf.specs.Loading.{has_section, load_address_in}
use Rattle.lab_elf.proofs.Loops.{program_found, program_passed, no_program_left}
use Rattle.lab_elf.proofs.program.load_address.Goals as goal

pub returns-then-has : goal.returns-then-has
returns-then-has c =
    let bytes = c.args.bytes.now in
    let s = c.args.section.now in
    let k = c.loop-k.k in
    let is : c.program_at-program.result ≡ program_at (program_offset bytes + 32 * k) bytes = c.program_at-program.ensures ∙ ap (λ first. program_at (first + 32 * k) bytes) c.word_at-first.ensures in
    let has : has_section s (program_at (program_offset bytes + 32 * k) bytes) ≡ true = ap (has_section s) (sym is) ∙ sym c.has.ensures ∙ c.if-has.true in
    let lt : k < program_count bytes = omega (arith, c.loop-k-test.true, c.from-k-end.ensures, c.half_at.ensures) in
    ap Some (c.load_address.ensures ∙ ap (load_address_in s) is) ∙ sym (program_found s (program_count bytes) (program_offset bytes) k bytes lt has) ∙ c.loop-k.invariant

pub loop-k-preserved : goal.loop-k-preserved
loop-k-preserved c =
    let bytes = c.args.bytes.now in
    let s = c.args.section.now in
    let k = c.loop-k.k in
    let is : c.program_at-program.result ≡ program_at (program_offset bytes + 32 * k) bytes = c.program_at-program.ensures ∙ ap (λ first. program_at (first + 32 * k) bytes) c.word_at-first.ensures in
    let has : has_section s (program_at (program_offset bytes + 32 * k) bytes) ≡ false = ap (has_section s) (sym is) ∙ sym c.has.ensures ∙ c.if-has.false in
    let lt : k < program_count bytes = omega (arith, c.loop-k-test.true, c.from-k-end.ensures, c.half_at.ensures) in
    sym (program_passed s (program_count bytes) (program_offset bytes) k bytes lt has) ∙ c.loop-k.invariant

pub returns : goal.returns
returns c =
    let bytes = c.args.bytes.now in
    let past : program_count bytes ≤ c.loop-k.k = omega (arith, c.loop-k-test.false, c.from-k-end.ensures, c.half_at.ensures) in
    sym (no_program_left c.args.section.now (program_count bytes) c.loop-k.k (program_offset bytes + 32 * c.loop-k.k) bytes past) ∙ c.loop-k.invariant
