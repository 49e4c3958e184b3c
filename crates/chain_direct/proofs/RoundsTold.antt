-- What a round of a direct service adds to the text.
use Rattle.std.proofs.Common.{◌≡◌, ℕ, ◌+◌, Bool, true, false, List, ◌++◌, Option, Some, Result, Ok, Err, refl, sym, ap, ◌∙◌, subst, arith}
use Rattle.std.specs.Prelude.{nat_le}
use Rattle.std.specs.Result.{IsErr, is_ok}
use Rattle.std.proofs.lemmas.Bool.{false≢true}
use Rattle.board_outside.specs.Sink.{SinkView, Writes}
use Rattle.board_outside.proofs.Writing.{then_writes}
use Rattle.device_model.specs.Meanings.{Meanings}
use Rattle.clic_select.specs.declared.choice.Choice.{Choice}
use Rattle.hart_board.specs.declared.event.Event.{Event}
use Rattle.chain_moves.specs.Cost.{body_cost}
use Rattle.chain_core.specs.Progress.{Progress, goes}
use Rattle.chain_core.specs.Text.{steps_text, Cut, Tells}
use Rattle.chain_core.specs.Rounds.{IsMade}
use Rattle.chain_moves.specs.declared.broken.Broken.{Broken}
use Rattle.chain_moves.specs.declared.broken.Broken.TheVariants.{HaltInHandler}
use Rattle.chain_core.specs.declared.round.Round.TheVariants.{Failed}
use Rattle.chain_core.proofs.Told.{nothing_told}
use Rattle.chain_core.proofs.ChainEnds.{cut_text}
use Rattle.chain_direct.specs.DirectWatched.{DirectWatched}
use Rattle.chain_direct.specs.DirectText.{direct_line}
use Rattle.chain_direct.specs.DirectRounds.{round_begun, round_tested, round_serving, BeginTells}

module _ (m : Meanings) (es : List Event) (trace : Bool) (p q : Progress) (o u v : SinkView) where
  -- the sink failed in the lines of the step, or in that of the service
  pub begin_cut : (line : List ℕ) → Cut m es trace 1 p q o v → (q ≡ goes m es 1 p) × Writes false o v (steps_text m es trace 1 p ++ line)
  begin_cut line h =
      let one : h.k + 1 ≡ 1 = let early = h.early in omega (arith, early) in
      (h.made ∙ ap (λ n. goes m es n p) one, cut_text m es trace 1 p q o v line h)

  pub line_cut : (line : List ℕ) → Tells m es trace 1 true p q o u → Writes false u v line → (q ≡ goes m es 1 p) × Writes false o v (steps_text m es trace 1 p ++ line)
  line_cut line h w = (h.0, then_writes h.1 w)

  -- an exit by `?`
  pub begun_stops : {T E : Type 0} (r : Result T E) (left : ℕ) (t : Choice) (w : DirectWatched) → IsErr r → nat_le body_cost left ≡ true → (q ≡ goes m es 1 p) × Writes false o v (steps_text m es trace 1 p ++ direct_line t.id q.board.csrs.mil (p.depth + 1))
      → BeginTells m es trace left t (round_begun m es left p w (nat_le body_cost left)).told (is_ok r) p q o v
  begun_stops (Ok x) left t w e some h = absurd (false≢true e)
  begun_stops (Err x) left t w e some h = subst (λ reaches. BeginTells m es trace left t (round_begun m es left p w reaches).told false p q o v) (sym some) h

  -- where a test holds nothing is written
  pub refused_told : (left : ℕ) (t : Choice) (w : DirectWatched) (test : Option Broken) (kind : Broken) → test ≡ Some kind → BeginTells m es trace left t (round_tested m es left p w test).told true p p o o
  refused_told left t w test kind e = subst (λ test. BeginTells m es trace left t (round_tested m es left p w test).told true p p o o) (sym e) (nothing_told m es trace p o)

  -- nor where the board has halted
  pub serving_made : {E : Type 0} (left : ℕ) (w : DirectWatched) (kept : List ℕ) (halted : Option ℕ) (code : ℕ) → halted ≡ Some code → IsMade {E = E} m es trace left (round_serving m es left p w kept halted) (Ok (Failed HaltInHandler 0)) p p w o o
  serving_made {E = E} left w kept halted code e = subst (λ halted. IsMade {E = E} m es trace left (round_serving m es left p w kept halted) (Ok (Failed HaltInHandler 0)) p p w o o) (sym e) (record { round = refl; tells = nothing_told m es trace p o })
