-- While an input waits, services of at least its level run.
use Rattle.std.proofs.Common.{◌≡◌, ℕ, ◌<◌, ◌≤◌, ◌⊎◌, inl, inr, true, false, List, [], ◌∷◌, Option, Some, None, refl, sym, ◌∙◌, subst, arith}
use Rattle.std.proofs.lemmas.Bool.{lt-ltb, true≢false, cases_lt, and_from}
use Rattle.std.proofs.lemmas.Bool.Decides.{nat_tests}
use Rattle.device_model.specs.Meanings.{Meanings}
use Rattle.clic_select.specs.Top.{top, choice_of, is_greater}
use Rattle.clic_select.specs.declared.choice.Choice.{Choice}
use Rattle.clic_select.proofs.Tops.{top_is, none_waits}
use Rattle.hart_board.specs.declared.event.Event.{Event}
use Rattle.chain_moves.specs.Servicing.{Live, Servicing, marks, innermost_level}
use Rattle.chain_moves.specs.Enter.{is_enter_due, entered}
use Rattle.chain_moves.specs.Kinds.{IsMoveBy}
use Rattle.chain_moves.specs.declared.moves.Move.{Move}
use Rattle.chain_moves.specs.declared.moves.Move.TheVariants.{Enter, Leave, Body}
use Rattle.chain_moves.proofs.OneOfThree.{is_one}
use Rattle.chain_time.specs.Waiting.{HasInnermost, Waits, Serves, NoInversion, EntersAtOnce}

not_above : (a b : Choice) → is_greater a b ≡ false → a.level ≤ b.level
not_above a b h = grind (arith, nat_tests)

-- the top is at least as high
top_high : (input level : ℕ) (s : Servicing) (t : Choice) → Waits input level s → top s.outside.clic ≡ Some t → level ≤ t.level
top_high input level s t w e =
    let l = not_above (choice_of s.outside.clic input) t ((top_is s.outside.clic t e).greatest input w.waiting) in
    let high = w.high in
    omega arith

pub due_by : (input level : ℕ) (s : Servicing) (o : Option Choice) → Waits input level s → top s.outside.clic ≡ o → innermost_level (marks s.live) < level → is_enter_due s o ≡ true
unfolding is_enter_due
due_by input level s None w e l = absurd (true≢false (sym w.waiting ∙ none_waits s.outside.clic e input))
due_by input level s (Some t) w e l =
    let high = top_high input level s t w e in
    let above = w.above in
    and_from _ _ w.taken (and_from _ _ (lt-ltb (innermost_level (marks s.live)) t.level (omega arith)) (lt-ltb s.threshold t.level (omega arith)))

-- where no Enter is due, a service of at least that level is innermost
innermost : (level : ℕ) (live : List Live) → 1 ≤ level → (innermost_level (marks live) < level → ⊥) → HasInnermost level live
unfolding marks
innermost level [] one h = absurd (h (omega arith))
innermost level (v ∷ vs) one h = by (cases_lt v.mark.level level)
  where
    by : (v.mark.level < level) ⊎ (level ≤ v.mark.level) → level ≤ v.mark.level
    by (inl l) = absurd (h l)
    by (inr l) = l

pub quiet_serves : (input level : ℕ) (s : Servicing) → Waits input level s → is_enter_due s (top s.outside.clic) ≡ false → HasInnermost level s.live
quiet_serves input level s w q =
    let above = w.above in
    innermost level s.live (omega arith) (λ l. true≢false (sym (due_by input level s (top s.outside.clic) w refl l) ∙ q))

pub entered_level : (level : ℕ) (s : Servicing) (t : Choice) → level ≤ t.level → HasInnermost level (entered s t).live
unfolding entered
entered_level level s t l = l

module _ (m : Meanings) (es : List Event) (input level : ℕ) (s t : Servicing) where
  serves_by : (kind : Move) → Waits input level s → IsMoveBy m es s kind t → Serves level kind s t
  serves_by Enter w h = subst (λ u. HasInnermost level u.live) (sym h.made) (entered_level level s h.choice (top_high input level s h.choice w h.is_top))
  serves_by Leave w h = quiet_serves input level s w h.no_enter
  serves_by Body w h = quiet_serves input level s w h.no_enter

  at_once_by : (kind : Move) → Serves level kind s t → s.live ≡ [] → kind ≡ Enter
  at_once_by Enter h e = refl
  at_once_by Leave h e = absurd (subst (HasInnermost level) e h)
  at_once_by Body h e = absurd (subst (HasInnermost level) e h)

pub no_inversion : (m : Meanings) → NoInversion m
no_inversion m es input level s t kind w e = serves_by m es input level s t kind w (is_one m es s kind t e).1

pub enters_at_once : (m : Meanings) → EntersAtOnce m
enters_at_once m es input level s t kind w none e = at_once_by m es input level s t kind (no_inversion m es input level s t kind w e) none
