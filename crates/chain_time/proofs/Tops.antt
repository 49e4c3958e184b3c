-- The top begins with the next move, where its level is above the innermost one.
use Rattle.std.proofs.Common.{◌≡◌, ℕ, ◌<◌, true, List, Some, refl, sym, ap, ◌∙◌, subst, arith}
use Rattle.std.proofs.lemmas.Bool.{true≢false}
use Rattle.device_model.specs.Meanings.{Meanings}
use Rattle.clic_select.specs.Top.{top}
use Rattle.clic_select.specs.declared.choice.Choice.{Choice}
use Rattle.hart_board.specs.declared.event.Event.{Event}
use Rattle.chain_moves.specs.Servicing.{Servicing, marks, innermost_level}
use Rattle.chain_moves.specs.Enter.{is_enter_due, entered}
use Rattle.chain_moves.specs.Kinds.{IsMoveBy}
use Rattle.chain_moves.specs.declared.moves.Move.{Move}
use Rattle.chain_moves.specs.declared.moves.Move.TheVariants.{Enter, Leave, Body}
use Rattle.chain_moves.proofs.OneOfThree.{is_one}
use Rattle.chain_time.specs.Waiting.{Waits, IsEnterOf, TopBegins, EnterIsShort}
use Rattle.chain_time.proofs.Inversion.{due_by}
use Rattle.chain_time.proofs.Turns.{most, cost_next}

entered_of : (s : Servicing) (t : Choice) → IsEnterOf t.id Enter s (entered s t)
unfolding entered
entered_of s t = record { kind_is = refl; service = _; live = refl; number = refl }

module _ (m : Meanings) (es : List Event) (level : ℕ) (choice : Choice) (s t : Servicing) (is : top s.outside.clic ≡ Some choice) (w : Waits choice.id level s) (low : innermost_level (marks s.live) < level) where
  due : is_enter_due s (top s.outside.clic) ≡ true
  due = due_by choice.id level s (top s.outside.clic) w refl low

  begins_by : (kind : Move) → IsMoveBy m es s kind t → IsEnterOf choice.id kind s t
  begins_by Enter h =
      let both : Some h.choice ≡ Some choice = sym h.is_top ∙ is in
      let same : h.choice ≡ choice = cc in
      subst (λ (c : Choice). IsEnterOf c.id Enter s t) same (subst (IsEnterOf h.choice.id Enter s) (sym h.made) (entered_of s h.choice))
  begins_by Leave h = absurd (true≢false (sym due ∙ h.no_enter))
  begins_by Body h = absurd (true≢false (sym due ∙ h.no_enter))

pub top_begins : (m : Meanings) → TopBegins m
top_begins m es level choice s t kind is w low e = begins_by m es level choice s t is w low kind (is_one m es s kind t e).1

pub enter_is_short : (m : Meanings) → EnterIsShort m
enter_is_short m es d k made e = let c = cost_next m es d k made in let p : most k.kind ≡ 14 = ap most e in omega arith
