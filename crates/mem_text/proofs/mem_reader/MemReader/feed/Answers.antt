use Rattle.std.proofs.Common.{Some, ◌++◌}
use Rattle.mem_text.proofs.Reader.{some_read, seen_as, seen_back}
use Rattle.mem_text.proofs.Foretelling.{foretold}
use Rattle.mem_text.proofs.mem_reader.MemReader.feed.Goals as goal

pub returns-in-Some-clause-read : goal.returns-in-Some-clause-read
returns-in-Some-clause-read c = λ entry bytes h.
    let seen = seen_as entry bytes c.args.self.now c.self.inside.read c.self.inside.reading c.self.inside.failed (Some c.in-Some.error) c.self.view_is c.in-Some.is h in
    seen_back entry (bytes ++ c.args.piece.now) c.args.self.now c.self.inside.read c.self.inside.reading c.self.inside.failed (Some c.in-Some.error) c.self.view_is c.in-Some.is
    (some_read c.in-Some.error c.self.inside.reading c.self.inside.read entry bytes c.args.piece.now seen)

pub returns-in-Some-clause-foretells : goal.returns-in-Some-clause-foretells
returns-in-Some-clause-foretells c = λ entry bytes h. foretold entry (bytes ++ c.args.piece.now) c.args.self.now (returns-in-Some-clause-read c entry bytes h)

pub returns-in-None-clause-foretells : goal.returns-in-None-clause-foretells
returns-in-None-clause-foretells c = λ entry bytes h. foretold entry (bytes ++ c.args.piece.now) _ (c.read_on.ensures.read entry bytes h)
