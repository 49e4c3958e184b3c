use Rattle.std.proofs.Common.{ℕ, ◌^◌, ◌<◌, ◌≤◌, ◌++◌, length, ap, sym, subst, ◌∙◌, arith}
use Rattle.std.specs.List.{flat_map}
use Rattle.std.proofs.lemmas.Bool.{lt-ltb}
use Rattle.std.proofs.lemmas.List.{append-nil}
use Rattle.rv_disasm.proofs.Whole.{none_left}
use Rattle.rv_disasm.proofs.Lengths.{one_more, source_returns}
use Rattle.rv_disasm.specs.Fitting.{statement_fits}
use Rattle.rv_disasm.specs.Listing.{entry_text, segment_text, image_text}
use Rattle.rv_disasm.proofs.disassembly.disassemble_image.Goals as goal

pub push_line-requires : goal.push_line-requires
unfolding statement_fits
push_line-requires c = lt-ltb c.entry.result (2 ^ 32) c.entry.type_inv

pub loop-i-init : goal.loop-i-init
unfolding image_text
loop-i-init c = record {
  text = ap (λ t. t ++ flat_map segment_text c.args.image.now.segments) (c.in_ok-push_line.ensures ∙ ap (λ x. x ++ entry_text c.entry.result) c.new-text.ensures ∙ ap entry_text c.entry.ensures);
  bytes = tt;
}

pub loop-i-preserved : goal.loop-i-preserved
loop-i-preserved c = record {
  text = c.in_ok-push_segment.ensures.text ∙ c.loop-i.invariant.text;
  bytes = one_more c.args.image.now.segments c.loop-i.i c.loop-i.invariant.bytes c.in_ok-push_segment.ensures.bytes;
}

pub returns : goal.returns
returns c =
    let image = c.args.image.now in
    let segments = image.segments in
    let past : length segments ≤ c.loop-i.i = omega (arith, c.loop-i-test.false, c.len-i-end.ensures.count) in
    let text = sym (append-nil c.loop-i.text) ∙ ap (λ ss. c.loop-i.text ++ flat_map segment_text ss) (sym (none_left segments c.loop-i.i past)) ∙ c.loop-i.invariant.text in
    let start : image.start < 2 ^ 32 = subst (λ (n : ℕ). n < 2 ^ 32) c.entry.ensures c.entry.type_inv in
    record {
      source = text;
      again = source_returns image c.loop-i.i c.loop-i.text text start c.len-i-end.ensures.sound c.loop-i.invariant.bytes past;
    }
