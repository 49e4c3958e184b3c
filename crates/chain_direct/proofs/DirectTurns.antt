-- Which move is due: by whether a direct service is live, and whether one begins.
use Rattle.std.proofs.Common.{◌≡◌, ℕ, true, List, Option, Some, None, ap, ap₂, ◌∙◌}
use Rattle.device_model.specs.Meanings.{Meanings}
use Rattle.clic_select.specs.Top.{top}
use Rattle.clic_select.specs.declared.choice.Choice.{Choice}
use Rattle.hart_board.specs.declared.event.Event.{Event}
use Rattle.chain_moves.specs.Tests.{first_broken}
use Rattle.chain_moves.specs.Enter.{is_enter_due, table_address}
use Rattle.chain_moves.specs.Machine.{Before, Makes, Breaks, unless_broken}
use Rattle.chain_moves.specs.declared.broken.Broken.{Broken}
use Rattle.chain_moves.specs.declared.broken.Broken.TheVariants.{HaltInHandler}
use Rattle.chain_direct.specs.Kind.{Begin}
use Rattle.chain_direct.specs.Directed.{Direct, Directed}
use Rattle.chain_direct.specs.DirectBody.{direct_body}
use Rattle.chain_direct.specs.DirectMoves.{begin_tests, vectored, entering_by, moved_alone, moved_by, direct_move}

module _ (m : Meanings) (es : List Event) (s : Directed) where
  -- ---- no direct service is live
  -- one begins where none of the tests of its table's word holds
  pub begin_is : (t : Choice) (o : Option Broken) → s.direct ≡ None → m.halted s.chained.outside.device ≡ None → top s.chained.outside.clic ≡ Some t → is_enter_due s.chained (Some t) ≡ true → t.shv ≡ true → first_broken (begin_tests s.chained.dead (table_address s.chained.table t.id)) ≡ o
      → direct_move m es s ≡ unless_broken Before o s.chained.bodies (Makes Begin (vectored s t))
  unfolding direct_move
  begin_is t o none runs is_top is_due hard e =
      ap₂ (moved_by m es s) none runs
      ∙ (ap₂ (moved_alone m es s) is_top (ap (is_enter_due s.chained) is_top ∙ is_due)
      ∙ (ap (entering_by m es s t) hard
      ∙ ap (λ o. unless_broken Before o s.chained.bodies (Makes Begin (vectored s t))) e))

  -- ---- one is live
  pub direct_halts : (v : Direct) (code : ℕ) → s.direct ≡ Some v → m.halted s.chained.outside.device ≡ Some code → direct_move m es s ≡ Breaks Before HaltInHandler s.chained.bodies
  unfolding direct_move
  direct_halts v code live halted = ap₂ (moved_by m es s) live halted

  pub direct_carries : (v : Direct) → s.direct ≡ Some v → m.halted s.chained.outside.device ≡ None → direct_move m es s ≡ direct_body m es s v
  unfolding direct_move
  direct_carries v live runs = ap₂ (moved_by m es s) live runs
