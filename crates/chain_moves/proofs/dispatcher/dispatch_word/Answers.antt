use Rattle.std.proofs.Common.{[], ◌∷◌, ap, ◌∙◌}
use Rattle.std.specs.Prelude.{slice_index}
use Rattle.std.proofs.lemmas.List.{get_or_append_left}
use Rattle.chain_moves.specs.Words.{dispatch_words}
use Rattle.chain_moves.proofs.dispatcher.dispatch_word.Goals as goal

pub returns : goal.returns
returns c = ap (λ ws. slice_index ws c.args.i) c.slot_words.ensures ∙ get_or_append_left (dispatch_words c.args.d) (0 ∷ 0 ∷ 0 ∷ []) 0 c.args.i c.requires
