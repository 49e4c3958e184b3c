-- A direct service begins in one step of the board.
use Rattle.std.proofs.Common.{◌≡◌, ℕ, Bool, true, false, not, Some, None, refl, ap, ap₂, ◌∙◌, arith}
use Rattle.std.proofs.lemmas.Bool.{and_parts}
use Rattle.device_model.specs.Meanings.{Meanings}
use Rattle.hart_exec.specs.Effect.{even}
use Rattle.hart_memory.specs.Place.{holds}
use Rattle.hart_memory.specs.Access.{loaded}
use Rattle.csr_file.specs.Views.{with_low_bits_clear}
use Rattle.clic_regs.specs.LineChange.{claimed}
use Rattle.clic_select.specs.Top.{top}
use Rattle.clic_select.specs.declared.choice.Choice.{Choice}
use Rattle.clic_trap.specs.Due.{due, is_above}
use Rattle.clic_trap.specs.Entry.{interrupted as trapped, entered as trap_entered, entered_by, entered_through}
use Rattle.hart_report.specs.declared.stepped.Stepped.TheVariants.{Interrupted}
use Rattle.hart_board.specs.State.{State}
use Rattle.hart_board.specs.Step.{step, turn_or_halted, turn_by, interrupted}
use Rattle.chain_moves.specs.Servicing.{marks, innermost_level}
use Rattle.chain_moves.specs.Bytes.{some_byte, is_hidden}
use Rattle.chain_moves.specs.Tests.{first_broken}
use Rattle.chain_moves.specs.Enter.{takes_interrupts, is_enter_due, table_address, table_word}
use Rattle.chain_moves.specs.Body.{hart}
use Rattle.chain_moves.specs.Beside.{Rest, board_of}
use Rattle.chain_moves.specs.Related.{Related}
use Rattle.chain_moves.specs.declared.dispatcher.Dispatcher.{Dispatcher}
use Rattle.chain_moves.proofs.Nested.{passed}
use Rattle.chain_moves.proofs.Marking.{none_of}
use Rattle.chain_moves.proofs.TableWord.{table_reads}
use Rattle.chain_direct.specs.Directed.{Directed}
use Rattle.chain_direct.specs.DirectMoves.{begin_tests, vectored}
use Rattle.chain_direct.specs.DirectBeside.{direct_csrs, direct_board_of}
use Rattle.chain_direct.specs.DirectSteps.{new_direct}

clear_is_even : (w : ℕ) → with_low_bits_clear w 1 ≡ even w
clear_is_even w = omega arith

held_by : (b : Bool) → not b ≡ false → b ≡ true
held_by true e = refl
held_by false e = absurd cc

module _ (m : Meanings) (d : Dispatcher) (s : Directed) (x : Rest) (t : Choice) (r : Related m d s.chained x) (runs : m.halted s.chained.outside.device ≡ None) (is_top : top s.chained.outside.clic ≡ Some t) (is_due : is_enter_due s.chained (Some t) ≡ true) (hard : t.shv ≡ true) (untested : first_broken (begin_tests s.chained.dead (table_address s.chained.table t.id)) ≡ None) where
  abbrev b : State
  b = board_of s.chained x

  abbrev at : ℕ
  at = table_address s.chained.table t.id

  -- the table's word
  reads : loaded b.memory at 4 ≡ Some (table_word s.chained.memory at)
  reads =
      let one = passed (not (holds at 4)) _ _ untested in
      let two = passed (some_byte (is_hidden s.chained.dead) at 4) _ _ one.1 in
      table_reads s.chained.memory x.rom x.ram s.chained.dead at r.stands.rom (λ j l h alive. r.stands.ram.at j alive)
      (λ j l h. none_of (is_hidden s.chained.dead) at 4 two.0 j l h) (held_by (holds at 4) one.0)

  -- interrupts are taken
  on : takes_interrupts (marks s.chained.live) s.chained.on ≡ true
  unfolding is_enter_due
  on = (and_parts (takes_interrupts (marks s.chained.live) s.chained.on) (is_above t (innermost_level (marks s.chained.live)) s.chained.threshold) is_due).0

  board_due : due b.csrs (top s.chained.outside.clic) ≡ true
  unfolding due is_enter_due
  board_due = ap (is_enter_due s.chained) is_top ∙ is_due

  fields : trapped b.csrs t s.chained.pc ≡ direct_csrs (marks (vectored s t).chained.live) (new_direct s t) x (hart (vectored s t).chained).csrs
  unfolding vectored
  fields = ap (λ e. record (trapped b.csrs t s.chained.pc) { mpie = e }) on

  pub direct_step : step m b ≡ record { told = Interrupted s.chained.pc t.id; state = direct_board_of (vectored s t).chained (new_direct s t) x }
  unfolding step trap_entered vectored
  direct_step =
      ap (turn_or_halted m b) runs
      ∙ (ap₂ (turn_by m b) is_top board_due
      ∙ (ap (λ h. interrupted b t (entered_by h b.csrs b.outside.clic b.memory t b.pc)) hard
      ∙ (ap (λ w. interrupted b t (entered_through w b.csrs b.outside.clic t b.pc)) reads
      ∙ ap₂ (λ c pc. record { told = Interrupted s.chained.pc t.id; state = record b { csrs = c; pc = pc; outside = record b.outside { clic = claimed b.outside.clic t.id } } }) fields (clear_is_even (table_word s.chained.memory at)))))
