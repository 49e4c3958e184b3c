use Rattle.std.proofs.Common.{◌≡◌, false, sym, subst, ◌∙◌, arith, ⊎_elim}
use Rattle.std.proofs.lemmas.Bool.{and_from, le-leb, cases_eq}
use Rattle.chain_moves.specs.Slot.{base, slot_end, is_covered}
use Rattle.chain_moves.proofs.taken.slot_taken.Goals as goal

pub loop-at-init : goal.loop-at-init
loop-at-init c = λ k low high. absurd (omega arith)

pub loop-at-preserved : goal.loop-at-preserved
loop-at-preserved c = λ k low high.
    ⊎_elim
    (λ (e : k ≡ c.loop-at.at). subst (λ j. is_covered c.args.image.now.segments j ≡ false) (sym e) (sym c.meets.ensures ∙ c.if-meets.false))
    (λ (n : k ≡ c.loop-at.at → ⊥). c.loop-at.invariant k low (omega arith))
    (cases_eq k c.loop-at.at)

pub returns-then-meets : goal.returns-then-meets
returns-then-meets c = (and_from _ _ (le-leb base c.loop-at.at c.loop-at.auto.at) (le-leb _ slot_end c.loop-at-test.true), sym c.meets.ensures ∙ c.if-meets.true, c.loop-at.invariant)

pub returns : goal.returns
returns c = λ k low high. c.loop-at.invariant k low (omega arith)
