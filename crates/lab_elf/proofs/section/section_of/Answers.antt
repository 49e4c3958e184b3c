use Rattle.std.proofs.Common.{◌≤◌, ◌<◌, sym, arith}
use Rattle.lab_elf.specs.Header.{section_count, section_offset}
use Rattle.lab_elf.proofs.Headers.{numbered, past_the_last}
use Rattle.lab_elf.proofs.section.section_of.Goals as goal

pub returns-then-number-from : goal.returns-then-number-from
returns-then-number-from c =
    let past : section_count c.args.bytes.now ≤ c.args.number = omega (arith, c.if-number-from.true, c.from.ensures, c.half_at.ensures) in
    sym (past_the_last (section_count c.args.bytes.now) (section_offset c.args.bytes.now) c.args.number c.args.bytes.now past)

pub returns : goal.returns
returns c =
    let inside : c.args.number < section_count c.args.bytes.now = omega (arith, c.if-number-from.false, c.from.ensures, c.half_at.ensures) in
    let there = numbered (section_count c.args.bytes.now) (section_offset c.args.bytes.now) c.args.number c.args.bytes.now inside in
    rw (c.section_at.ensures, c.word_at.ensures) (sym there)
