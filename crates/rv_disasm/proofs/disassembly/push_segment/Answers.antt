use Rattle.std.proofs.Common.{◌^◌, arith}
use Rattle.std.proofs.lemmas.Bool.{lt-ltb}
use Rattle.std.proofs.lemmas.Result.{on_ok_weaker}
use Rattle.rv_disasm.specs.Fitting.{statement_fits}
use Rattle.rv_disasm.proofs.Whole.{segment_at, segment_on, segment_small}
use Rattle.std.specs.Prelude.{slice_get}
use Rattle.rv_disasm.proofs.Lengths.{bytes_there}
use Rattle.rv_disasm.proofs.disassembly.push_segment.Goals as goal

pub push_line-requires : goal.push_line-requires
unfolding statement_fits
push_line-requires c = lt-ltb c.at-base.result (2 ^ 32) c.at-base.type_inv

pub push_listing-requires : goal.push_listing-requires
push_listing-requires c =
    let small = segment_small c.args.image.now.segments c.args.i _ _ c.requires.sound c.at-base.ensures c.bytes.ensures in
    omega (arith, small)

pub returns : goal.returns
returns c =
    let segments = c.args.image.now.segments in
    let s = segment_at segments c.args.i _ _ c.at-base.ensures c.bytes.ensures in
    record {
      text = on_ok_weaker c.push_listing.result (λ f. segment_on segments c.args.i _ _ c.args.text.now c.push_line.new.text c.push_listing.new.text s c.in_ok-push_line.ensures f) c.push_listing.ensures.text;
      bytes = on_ok_weaker c.push_listing.result (λ r. bytes_there (slice_get segments c.args.i) c.bytes.result.now c.bytes.ensures r) c.push_listing.ensures.bytes;
    }
