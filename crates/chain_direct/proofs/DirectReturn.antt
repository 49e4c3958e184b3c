-- A direct service ends in one step of the board: the board stands beside the servicing machine again.
use Rattle.std.proofs.Common.{◌≡◌, ℕ, true, Some, None, refl, sym, ap, ap₂, ◌∙◌}
use Rattle.device_model.specs.Meanings.{Meanings}
use Rattle.rv_encoding.specs.Rows.{spelled}
use Rattle.rv_encoding.specs.declared.instruction.Ins.TheVariants.{Mret}
use Rattle.hart_memory.specs.Fetch.{fetched}
use Rattle.hart_memory.specs.declared.fetched.Fetched.TheVariants.{Bits}
use Rattle.clic_select.specs.Top.{top}
use Rattle.hart_report.specs.declared.stepped.Stepped.TheVariants.{Retired}
use Rattle.hart_board.specs.State.{State}
use Rattle.hart_board.specs.Step.{step}
use Rattle.chain_moves.specs.Servicing.{Servicing, marks, innermost_level}
use Rattle.chain_moves.specs.Enter.{takes_interrupts}
use Rattle.chain_moves.specs.Beside.{Rest, board_of}
use Rattle.chain_core.proofs.OneStep.{runs, masked, mret_is}
use Rattle.chain_direct.specs.Directed.{Direct}
use Rattle.chain_direct.specs.DirectBeside.{direct_board_of, rest_returned}

module _ (m : Meanings) (s : Servicing) (v : Direct) (x : Rest) where
  abbrev b : State
  b = direct_board_of s v x

  back : s.was ≡ true → takes_interrupts (marks s.live) s.on ≡ true → record b { csrs = record b.csrs { mie = b.csrs.mpie; mpie = true; mil = b.csrs.mpil }; pc = b.csrs.mepc } ≡ board_of (record s { pc = v.pc }) (rest_returned s v x)
  back was on = ap₂ (λ e p. record b { csrs = record b.csrs { mie = e; mpie = p; mil = innermost_level (marks s.live) }; pc = v.pc }) (was ∙ sym on) (sym was)

  -- where the service began from a board that took interrupts, and the instruction at pc is MRET
  pub return_step : (w : ℕ) → m.halted s.outside.device ≡ None → s.was ≡ true → takes_interrupts (marks s.live) s.on ≡ true → fetched b.memory s.pc ≡ Bits w 4 → spelled w ≡ Some Mret
      → step m b ≡ record { told = Retired s.pc w 4; state = board_of (record s { pc = v.pc }) (rest_returned s v x) }
  return_step w goes was on fetch spells =
      runs m b w Mret _ goes (masked b.csrs (top s.outside.clic) refl) fetch spells (mret_is m b w)
      ∙ ap (λ c. record { told = Retired s.pc w 4; state = c }) (back was on)
