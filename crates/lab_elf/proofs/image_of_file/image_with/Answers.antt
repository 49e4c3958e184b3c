use Rattle.std.proofs.Common.{◌≡◌, ◌+◌, ◌-◌, ◌<◌, length, drop, arith}
use Rattle.lab_elf.proofs.Pieces.{piece_at}
use Rattle.lab_elf.proofs.Making.{holds_next, stands_apart, goes_on}
use Rattle.lab_elf.proofs.image_of_file.image_with.Goals as goal

pub add-requires-clause-apart : goal.add-requires-clause-apart
add-requires-clause-apart c =
    let i = c.loop-piece.piece-index in
    let inside : i < length c.args.pieces.now = omega arith in
    stands_apart c.args.bytes.now c.args.pieces.now (drop (i + 1) c.args.pieces.now) (piece_at c.args.pieces.now i) c.loop-piece.image _ (holds_next c.args.bytes.now c.args.pieces.now i c.loop-piece.image inside c.loop-piece.invariant)

pub loop-piece-preserved : goal.loop-piece-preserved
loop-piece-preserved c =
    let i = c.loop-piece.piece-index in
    let p = piece_at c.args.pieces.now i in
    let inside : i < length c.args.pieces.now = omega arith in
    let size : p.offset + p.size - p.offset ≡ p.size = omega arith in
    goes_on c.args.bytes.now c.args.pieces.now (drop (i + 1) c.args.pieces.now) p c.loop-piece.image c.add.new.self (holds_next c.args.bytes.now c.args.pieces.now i c.loop-piece.image inside c.loop-piece.invariant) (rw size at c.in_ok-add.ensures.ok)
