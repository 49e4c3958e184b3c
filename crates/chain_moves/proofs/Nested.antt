-- Levels rise with the depth, and live frames don't meet.
use Rattle.std.proofs.Common.{◌≡◌, ℕ, ◌+◌, ◌<◌, ◌≤◌, Bool, true, false, List, [], ◌∷◌, length, Some, None, refl, sym, ap, ◌∙◌, subst, arith}
use Rattle.std.specs.Prelude.{nat_le, nat_lt}
use Rattle.std.proofs.lemmas.Option.{none-some}
use Rattle.std.proofs.lemmas.Bool.{and_parts, ltb-true, leb-true}
use Rattle.device_model.specs.Meanings.{Meanings}
use Rattle.clic_select.specs.declared.choice.Choice.{Choice}
use Rattle.hart_board.specs.declared.event.Event.{Event}
use Rattle.chain_moves.specs.Slot.{frame_size}
use Rattle.chain_moves.specs.Servicing.{Live, Servicing, marks, innermost_level}
use Rattle.chain_moves.specs.Bytes.{some_byte, in_live_frame}
use Rattle.chain_moves.specs.Tests.{first_broken, enter_tests}
use Rattle.chain_moves.specs.Enter.{is_enter_due, takes_interrupts, new_frame, table_address, entered}
use Rattle.chain_moves.specs.Run.{Made, On, run_to}
use Rattle.chain_moves.specs.Moves.{servicing_machine}
use Rattle.chain_moves.specs.Kinds.{IsMoveBy, LeaveLeaves, BodyLeaves}
use Rattle.chain_moves.specs.Nesting.{AreRising, AreApart}
use Rattle.chain_moves.specs.declared.broken.Broken.{Broken}
use Rattle.chain_moves.specs.declared.mark.Mark.{Mark}
use Rattle.chain_moves.specs.declared.moves.Move.{Move}
use Rattle.chain_moves.specs.declared.moves.Move.TheVariants.{Enter, Leave, Body}
use Rattle.chain_moves.proofs.Marking.{none_of}
use Rattle.chain_moves.proofs.OneOfThree.{is_one}
use Rattle.chain_moves.proofs.Alone.{leaves_alone}
use Rattle.chain_moves.proofs.Leading.{run_is_list, along}

-- ---- what it says that no test holds
pub passed : (b : Bool) (kind : Broken) (rows : List (Bool × Broken)) → first_broken ((b, kind) ∷ rows) ≡ None → (b ≡ false) × (first_broken rows ≡ None)
unfolding first_broken
passed true kind rows e = absurd (none-some kind (sym e))
passed false kind rows e = (refl, e)

-- the new frame meets no live one
clear : (live : List Mark) (dead : List Bool) (shv : Bool) (vector frame at : ℕ) → first_broken (enter_tests live dead shv vector frame at) ≡ None → some_byte (in_live_frame live) frame frame_size ≡ false
clear live dead shv vector frame at e =
    let one = passed shv _ _ e in
    let two = passed _ _ _ one.1 in
    let three = passed _ _ _ two.1 in
    let four = passed _ _ _ three.1 in
    (passed _ _ _ four.1).0

module _ (m : Meanings) (es : List Event) where
  -- ---- levels
  pub above : (s : Servicing) (t : Choice) → is_enter_due s (Some t) ≡ true → innermost_level (marks s.live) < t.level
  unfolding is_enter_due
  above s t e = ltb-true (innermost_level (marks s.live)) t.level (and_parts _ _ (and_parts (takes_interrupts (marks s.live) s.on) _ e).1).0

  popped : (P : List Mark → Type 0) → ((v : Mark) (vs : List Mark) → P (v ∷ vs) → P vs) → (live after : List Live) (v : Live) → live ≡ v ∷ after → P (marks live) → P (marks after)
  unfolding marks
  popped P pops live after v e p = pops v.mark (marks after) (subst (λ l. P (marks l)) e p)

  by_moves : (P : List Mark → Type 0) → ((v : Mark) (vs : List Mark) → P (v ∷ vs) → P vs)
      → ((s : Servicing) (choice : Choice) → is_enter_due s (Some choice) ≡ true → first_broken (enter_tests (marks s.live) s.dead choice.shv s.vector (new_frame s) (table_address s.table choice.id)) ≡ None → P (marks s.live) → P (marks (entered s choice).live))
      → (s : Servicing) (kind : Move) (t : Servicing) → IsMoveBy m es s kind t → P (marks s.live) → P (marks t.live)
  by_moves P pops enters s Enter t h p = subst (λ u. P (marks u.live)) (sym h.made) (enters s h.choice (ap (is_enter_due s) (sym h.is_top) ∙ h.is_due) h.untested p)
  by_moves P pops enters s Leave t h p =
      let x : LeaveLeaves s t = leaves_alone m es s Leave t h in
      popped P pops s.live t.live x.others.0 x.others.1 p
  by_moves P pops enters s Body t h p =
      let x : BodyLeaves s t = leaves_alone m es s Body t h in
      subst (λ l. P (marks l)) (sym x.live) p

  pub new_level : (s : Servicing) (choice : Choice) → is_enter_due s (Some choice) ≡ true → first_broken (enter_tests (marks s.live) s.dead choice.shv s.vector (new_frame s) (table_address s.table choice.id)) ≡ None → AreRising (marks s.live) → AreRising (marks (entered s choice).live)
  unfolding entered marks
  new_level s choice due none p = (above s choice due, p)

  rises : (s : Servicing) (kind : Move) (t : Servicing) → IsMoveBy m es s kind t → AreRising (marks s.live) → AreRising (marks t.live)
  rises = by_moves AreRising (λ v vs p. p.1) new_level

  new_apart : (s : Servicing) (choice : Choice) → is_enter_due s (Some choice) ≡ true → first_broken (enter_tests (marks s.live) s.dead choice.shv s.vector (new_frame s) (table_address s.table choice.id)) ≡ None → AreApart (marks s.live) → AreApart (marks (entered s choice).live)
  unfolding entered marks
  new_apart s choice due none p = (
    λ at inside.
        let parts = and_parts (nat_le (new_frame s) at) (nat_lt at (new_frame s + frame_size)) inside in
        none_of (in_live_frame (marks s.live)) (new_frame s) frame_size (clear (marks s.live) s.dead choice.shv s.vector (new_frame s) (table_address s.table choice.id) none) at (leb-true _ _ parts.0) (ltb-true _ _ parts.1),
    p,
  )

  stays_apart : (s : Servicing) (kind : Move) (t : Servicing) → IsMoveBy m es s kind t → AreApart (marks s.live) → AreApart (marks t.live)
  stays_apart = by_moves AreApart (λ v vs p. p.1) new_apart

  at_start : (s : Servicing) → s.live ≡ [] → AreRising (marks s.live) × AreApart (marks s.live)
  unfolding marks
  at_start s q = subst (λ l. AreRising (marks l) × AreApart (marks l)) (sym q) (tt, tt)

  -- ---- along a run
  pub run_nests : (s t : Servicing) (n : ℕ) (made : List (Made Move)) → s.live ≡ [] → run_to (servicing_machine m es) s n ≡ On made t → AreRising (marks t.live) × AreApart (marks t.live)
  run_nests s t n made none e =
      along (servicing_machine m es) s (λ u. AreRising (marks u.live) × AreApart (marks u.live))
      (λ u w kind moves p. let is = is_one m es u kind w moves in (rises u kind w is.1 p.0, stays_apart u kind w is.1 p.1))
      made t (run_is_list (servicing_machine m es) s n made t e) (at_start s none)

-- ---- so many services have at least that level
pub depth_below : (live : List Live) → AreRising (marks live) → length live ≤ innermost_level (marks live)
unfolding marks
depth_below [] p = omega arith
depth_below (v ∷ vs) p = let inside = depth_below vs p.1 in omega (arith, p.0)
