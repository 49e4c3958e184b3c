use Rattle.std.proofs.Common.{sym, subst, refl}
use Rattle.mem_text.specs.Standing.{ReaderView, IsLive}
use Rattle.mem_text.proofs.Reader.{ok_read, err_read, seen_as}
use Rattle.mem_text.proofs.mem_reader.MemReader.read_on.Goals as goal

pub returns-in-Ok-clause-read : goal.returns-in-Ok-clause-read
returns-in-Ok-clause-read c = λ entry bytes h.
    let OfLive : ReaderView → Type 0 = λ v. IsLive v.standing in
    ok_read c.self.inside.failed c.self.inside.reading c.take_all.new.self c.self.inside.read _ entry bytes c.args.piece.now
    (subst OfLive (sym c.self.view_is) c.requires.live) c.in-Ok.ensures refl
    (seen_as entry bytes c.args.self.now c.self.inside.read c.self.inside.reading c.self.inside.failed c.self.inside.failed c.self.view_is refl h)

pub returns-in-Err-clause-read : goal.returns-in-Err-clause-read
returns-in-Err-clause-read c = λ entry bytes h.
    let OfLive : ReaderView → Type 0 = λ v. IsLive v.standing in
    err_read c.self.inside.failed c.self.inside.reading c.take_all.new.self c.in-Err.error c.self.inside.read entry bytes c.args.piece.now
    (subst OfLive (sym c.self.view_is) c.requires.live) c.in-Err.ensures
    (seen_as entry bytes c.args.self.now c.self.inside.read c.self.inside.reading c.self.inside.failed c.self.inside.failed c.self.view_is refl h)
