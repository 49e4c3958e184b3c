-- Positions from a start on are those of the run.
use Rattle.std.proofs.Common.{◌≡◌, ℕ, zero, suc, ◌+◌, ◌<◌, List, true, refl, sym, ap, ◌∙◌, arith}
use Rattle.std.proofs.lemmas.Bool.{false≢true}
use Rattle.device_model.specs.Meanings.{Meanings}
use Rattle.hart_board.specs.State.{State}
use Rattle.hart_board.specs.Step.{step}
use Rattle.hart_board.specs.Run.{Stand, after_step}
use Rattle.hart_board.specs.Steps.{GoesOnBefore, stands_at, goes_on}
use Rattle.hart_board.specs.declared.event.Event.{Event}
use Rattle.hart_report.specs.declared.stepped.Stepped.{Stepped}
use Rattle.hart_report.specs.declared.stepped.Stepped.TheVariants.{VectorFault}
use Rattle.lab_positions.specs.Position.{Position, rises, settled, next, after, start, told_of}
use Rattle.lab_positions.specs.declared.timing.Timing.{Timing}
use Rattle.lab_positions.proofs.Times.{next_made}

module _ (m : Meanings) (timing : Timing) (es : List Event) (s : State) where
  before_less : (n : ℕ) → GoesOnBefore m (rises timing) es s (suc n) → GoesOnBefore m (rises timing) es s n
  before_less n goes k l = let less : k < suc n = omega (arith, l) in goes k less

  other : (told : Stepped) → goes_on told ≡ true → (id : ℕ) → told ≡ VectorFault id → ⊥
  other told e id v = false≢true (sym (ap goes_on v) ∙ e)

  -- the step is made
  next_at : (n : ℕ) (p : Position) → p.stand ≡ stands_at m (rises timing) es s n → GoesOnBefore m (rises timing) es s (suc n) → next m timing es p ≡ settled m timing es p (step m p.stand.board)
  next_at n p e goes =
      let less : n < suc n = omega arith in
      let told : goes_on (told_of m p) ≡ true = ap (λ (x : Stand). goes_on (step m x.board).told) e ∙ (goes n less).1 in
      next_made m timing es p (step m p.stand.board) refl (other (told_of m p) told)

  pub stand_is : (n : ℕ) → GoesOnBefore m (rises timing) es s n → (after m timing es (start m es s) n).stand ≡ stands_at m (rises timing) es s n
  unfolding after stands_at
  stand_is zero goes = refl
  stand_is (suc n) goes =
      let p = after m timing es (start m es s) n in
      let e = stand_is n (before_less n goes) in
      ap (λ (x : Position). x.stand) (next_at n p e goes) ∙ ap (λ (x : Stand). after_step m (rises timing) es x.count (step m x.board)) e

  pub steps_are : (n : ℕ) → GoesOnBefore m (rises timing) es s n → (after m timing es (start m es s) n).steps ≡ n
  unfolding after
  steps_are zero goes = refl
  steps_are (suc n) goes =
      let p = after m timing es (start m es s) n in
      let more : n + 1 ≡ suc n = omega arith in
      ap (λ (x : Position). x.steps) (next_at n p (stand_is n (before_less n goes)) goes) ∙ ap (λ k. k + 1) (steps_are n (before_less n goes)) ∙ more
