use Rattle.std.proofs.Common.{◌≡◌, ◌+◌, ◌++◌, get_or, drop, ap, sym, ◌∙◌, arith, append_assoc}
use Rattle.std.proofs.lemmas.List.{append-nil}
use Rattle.rv_disasm.specs.Printing.{line_pieces}
use Rattle.rv_disasm.specs.Listing.{size_of, listed, text_from, line_text, listing}
use Rattle.rv_disasm.proofs.Firsts.{next_line, at_end, first_steps}
use Rattle.rv_disasm.proofs.Lengths.{bytes_from}
use Rattle.rv_disasm.proofs.listing.push_listing.Goals as goal

pub loop-at-smaller : goal.loop-at-smaller
loop-at-smaller c =
    let steps = (first_steps (get_or c.args.bytes.now c.loop-at.at 0) (drop (c.loop-at.at + 1) c.args.bytes.now) 0).1 in
    let size = ap size_of c.statement_at-statement.ensures.is in
    omega (arith, steps, size, c.size_of-at.ensures, c.loop-at-test.true, c.statement_at-statement.ensures.inside)

pub loop-at-preserved : goal.loop-at-preserved
loop-at-preserved c =
    let bytes = c.args.bytes.now in
    let at = c.loop-at.at in
    let s = c.statement_at-statement.result in
    let p = c.args.base + at in
    let t = c.loop-at.text in
    let count = c.size_of-at.ensures in
    let here = next_line bytes at p s c.loop-at-test.true c.statement_at-statement.ensures.is in
    let line = line_text (line_pieces p s) in
    let rest = text_from (p + size_of s) (listed 0 (drop (at + size_of s) bytes)) in
    let place : c.args.base + (at + c.size_of-at.result) ≡ p + size_of s = omega (arith, count) in
    record {
      inside = omega (arith, count, c.statement_at-statement.ensures.inside);
      same =
          ap (λ q. c.push_line.new.text ++ text_from q (listed 0 (drop (at + c.size_of-at.result) bytes))) place
          ∙ ap (λ n. c.push_line.new.text ++ text_from (p + size_of s) (listed 0 (drop (at + n) bytes))) count
          ∙ ap (λ x. x ++ rest) c.in_ok-push_line.ensures
          ∙ append_assoc t line rest
          ∙ sym (ap (λ x. t ++ x) here)
          ∙ c.loop-at.invariant.same;
    }

pub returns : goal.returns
unfolding listing
returns c =
    let bytes = c.args.bytes.now in
    let last = at_end bytes c.loop-at.at (c.args.base + c.loop-at.at) c.loop-at-test.false in
    record {
      text = sym (append-nil c.loop-at.text) ∙ ap (λ x. c.loop-at.text ++ x) (sym last) ∙ c.loop-at.invariant.same;
      bytes = bytes_from bytes c.type_inv.bytes;
    }
