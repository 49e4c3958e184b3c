use Rattle.std.proofs.Common.{Some, None, Err}
use Rattle.mem_text.proofs.Reader.{some_exact, some_only, none_exact, none_found, none_only, seen_as}
use Rattle.mem_text.proofs.Wrong.{first_is_refused}
use Rattle.mem_text.proofs.mem_reader.MemReader.finish.Goals as goal

pub returns-in-Some-clause-exact : goal.returns-in-Some-clause-exact
returns-in-Some-clause-exact c = λ entry bytes h.
    some_exact c.in-Some.error c.self.inside.reading c.self.inside.read entry bytes
    (seen_as entry bytes c.args.self c.self.inside.read c.self.inside.reading c.self.inside.failed (Some c.in-Some.error) c.self.view_is c.in-Some.is h)

pub returns-in-Some-clause-only : goal.returns-in-Some-clause-only
returns-in-Some-clause-only c = λ entry bytes h i t.
    some_only c.in-Some.error c.self.inside.reading c.self.inside.read entry bytes i
    (seen_as entry bytes c.args.self c.self.inside.read c.self.inside.reading c.self.inside.failed (Some c.in-Some.error) c.self.view_is c.in-Some.is h) t

pub returns-in-None-clause-exact : goal.returns-in-None-clause-exact
returns-in-None-clause-exact c = λ entry bytes h.
    none_exact c.into_image.result c.self.inside.reading c.self.inside.read entry bytes c.into_image.ensures.image
    (seen_as entry bytes c.args.self c.self.inside.read c.self.inside.reading c.self.inside.failed None c.self.view_is c.in-None.is h)

pub returns-in-None-clause-found : goal.returns-in-None-clause-found
returns-in-None-clause-found c = λ entry bytes h.
    none_found c.into_image.result c.self.inside.reading c.self.inside.read entry bytes c.into_image.ensures.image c.into_image.ensures.sound
    (seen_as entry bytes c.args.self c.self.inside.read c.self.inside.reading c.self.inside.failed None c.self.view_is c.in-None.is h)

pub returns-in-None-clause-only : goal.returns-in-None-clause-only
returns-in-None-clause-only c = λ entry bytes h i t.
    none_only c.into_image.result c.self.inside.reading c.self.inside.read entry bytes i c.into_image.ensures.image
    (seen_as entry bytes c.args.self c.self.inside.read c.self.inside.reading c.self.inside.failed None c.self.view_is c.in-None.is h) t

pub returns-in-Some-clause-first : goal.returns-in-Some-clause-first
returns-in-Some-clause-first c = λ entry bytes h. first_is_refused entry bytes (λ i. i) (Err c.in-Some.error) (returns-in-Some-clause-exact c entry bytes h)

pub returns-in-None-clause-first : goal.returns-in-None-clause-first
returns-in-None-clause-first c = λ entry bytes h. first_is_refused entry bytes (λ i. i) c.into_image.result (returns-in-None-clause-exact c entry bytes h)
