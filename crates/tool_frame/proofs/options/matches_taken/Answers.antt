use Rattle.std.proofs.Common.{◌∙◌, sym, ap}
use Rattle.clap.specs.Words.{app_of, found_of, rows_of, fault_of, matches_of, takes}
use Rattle.tool_frame.proofs.Found.{map_same, rows_found, rows_refused}
use denote.Enum.Bare.{same_false}
use Rattle.clap.specs.contracts.error.kind.ErrorKind.{the_type}
use Rattle.tool_frame.proofs.options.matches_taken.Goals as goal

pub returns-in-Ok : goal.returns-in-Ok
returns-in-Ok c =
    let app = app_of c.args.command in
    let plain = c.requires in
    let words = map_same c.args.words.now in
    let none = c.in-Ok.ensures.kinds plain.simple_and_free in
    let found = (c.in-Ok.ensures.matches plain.simple).0 in
    rows_found app c.args.words.now (rows_of (found_of c.in-Ok.matches)) plain (sym (ap (fault_of app) words) ∙ none) (found ∙ ap (matches_of app) words)

pub returns : goal.returns
returns c =
    let app = app_of c.args.command in
    let words = map_same c.args.words.now in
    rows_refused app c.args.words.now (λ taken. same_false the_type c.kind.result _ (sym c.eq.ensures ∙ c.if-eq.false) (c.kind.ensures ∙ c.in-Err.ensures.passes (ap (takes app) words ∙ taken)))
