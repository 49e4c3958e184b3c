use Rattle.std.proofs.Common.{sym, subst, length, ◌≤◌, ap, ◌∙◌}
use Rattle.hart_memory.specs.declared.image.TheConstants.{MAX_SEGMENTS}
use Rattle.lab_elf.specs.Headers.{sections}
use Rattle.lab_elf.specs.Loading.{ArePiecesFrom, AreRising, image_with}
use Rattle.lab_elf.proofs.Loads.{all_good, image_of_pieces}
use Rattle.lab_elf.proofs.Making.{pieces_rise}
use Rattle.lab_elf.proofs.image_of_file.read_elf.Goals as goal

pub image_with-requires-clause-few : goal.image_with-requires-clause-few
image_with-requires-clause-few c =
    let good = all_good c.args.bytes.now (sections c.args.bytes.now) c.in_ok-pieces.pieces.items c.in_ok-pieces.ensures in
    subst (λ pieces. length pieces ≤ MAX_SEGMENTS) (sym c.deref.ensures.value) good.few

pub image_with-requires-clause-sound : goal.image_with-requires-clause-sound
image_with-requires-clause-sound c =
    let good = all_good c.args.bytes.now (sections c.args.bytes.now) c.in_ok-pieces.pieces.items c.in_ok-pieces.ensures in
    subst (λ pieces. ArePiecesFrom 0 c.args.bytes.now pieces) (sym c.deref.ensures.value) good.sound

pub returns-clause-rising : goal.returns-clause-rising
returns-clause-rising c =
    let good = all_good c.args.bytes.now (sections c.args.bytes.now) c.in_ok-pieces.pieces.items c.in_ok-pieces.ensures in
    let sound = subst (λ pieces. ArePiecesFrom 0 c.args.bytes.now pieces) (sym c.deref.ensures.value) good.sound in
    subst (λ i. AreRising i.segments) (sym c.in_ok-image_with.ensures) (pieces_rise 0 c.args.bytes.now c.deref.result.now sound)

pub returns-clause-found : goal.returns-clause-found
returns-clause-found c = image_of_pieces c.args.bytes.now c.in_ok-pieces.pieces.items c.in_ok-image_with.field-0 c.in_ok-pieces.ensures (c.in_ok-image_with.ensures ∙ ap (image_with c.args.bytes.now) c.deref.ensures.value)
