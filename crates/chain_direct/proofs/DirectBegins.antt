-- A direct service begins, or breaks at its table's word, on the board as in the machine.
use Rattle.std.proofs.Common.{◌≡◌, ℕ, Bool, true, false, not, List, [], ◌∷◌, Some, None, refl, ap, ◌∙◌}
use Rattle.std.proofs.lemmas.Bool.{and_parts}
use Rattle.device_model.specs.Meanings.{Meanings}
use Rattle.hart_memory.specs.Place.{holds}
use Rattle.clic_regs.proofs.Kept.{claimed-kept, claimed-shape}
use Rattle.clic_select.specs.Top.{top}
use Rattle.clic_select.specs.declared.choice.Choice.{Choice}
use Rattle.clic_trap.specs.Due.{is_above}
use Rattle.hart_board.specs.declared.event.Event.{Event}
use Rattle.hart_board.proofs.Privileged.{top_is_choice}
use Rattle.chain_moves.specs.Servicing.{Live, marks, innermost_level}
use Rattle.chain_moves.specs.Bytes.{some_byte, is_hidden}
use Rattle.chain_moves.specs.Tests.{first_broken}
use Rattle.chain_moves.specs.Enter.{takes_interrupts, is_enter_due, table_address, table_word}
use Rattle.chain_moves.specs.Machine.{Before, Breaks}
use Rattle.chain_moves.specs.Beside.{Rest}
use Rattle.chain_moves.specs.Related.{Ons, Related}
use Rattle.chain_moves.specs.declared.broken.Broken.{Broken}
use Rattle.chain_moves.specs.declared.broken.Broken.TheVariants.{BadTable}
use Rattle.chain_moves.specs.declared.dispatcher.Dispatcher.{Dispatcher}
use Rattle.chain_moves.proofs.Depth.{even-is, table_small}
use Rattle.chain_moves.proofs.Nested.{above}
use Rattle.chain_direct.specs.Directed.{Directed}
use Rattle.chain_direct.specs.DirectMoves.{begin_tests, vectored, direct_move}
use Rattle.chain_direct.specs.DirectRelated.{DirectRelated}
use Rattle.chain_direct.specs.DirectSteps.{new_direct, BeginsSo}
use Rattle.chain_direct.proofs.DirectStep.{direct_step}
use Rattle.chain_direct.proofs.DirectTurns.{begin_is}

-- the tests have one kind
pub bad_by : (b c : Bool) (kind : Broken) → first_broken ((b, BadTable) ∷ (c, BadTable) ∷ []) ≡ Some kind → kind ≡ BadTable
unfolding first_broken
bad_by true c kind e = cc
bad_by false true kind e = cc
bad_by false false kind e = absurd cc

-- beneath a live service interrupts stay on
ons_was : (live : List Live) (on was : Bool) → Ons live on was → Ons live on true
ons_was [] on was h = tt
ons_was (v ∷ vs) on was h = (h.0, refl)

module _ (m : Meanings) (es : List Event) (s : Directed) (t : Choice) (none : s.direct ≡ None) (runs : m.halted s.chained.outside.device ≡ None) (is_top : top s.chained.outside.clic ≡ Some t) (is_due : is_enter_due s.chained (Some t) ≡ true) (hard : t.shv ≡ true) where
  abbrev at : ℕ
  at = table_address s.chained.table t.id

  -- a test of the table's word holds
  pub begin_breaks : (kind : Broken) → first_broken (begin_tests s.chained.dead at) ≡ Some kind → direct_move m es s ≡ Breaks Before BadTable s.chained.bodies
  begin_breaks kind e = begin_is m es s t (Some kind) none runs is_top is_due hard e ∙ ap (λ k. Breaks Before k s.chained.bodies) (bad_by (not (holds at 4)) (some_byte (is_hidden s.chained.dead) at 4) kind e)

  module _ (d : Dispatcher) (x : Rest) (r : Related m d s.chained x) (untested : first_broken (begin_tests s.chained.dead at) ≡ None) where
    -- interrupts are taken
    on : takes_interrupts (marks s.chained.live) s.chained.on ≡ true
    unfolding is_enter_due
    on = (and_parts (takes_interrupts (marks s.chained.live) s.chained.on) (is_above t (innermost_level (marks s.chained.live)) s.chained.threshold) is_due).0

    begun_related : DirectRelated m d (vectored s t).chained (new_direct s t) x
    unfolding vectored
    begun_related =
        let h = r.serves.range.board in
        record {
          serves = record {
            range = record {
              board = record {
                registers = h.registers;
                pc = h.pc;
                csrs = record { mtvec_base = h.csrs.mtvec_base; mtvt = h.csrs.mtvt; mscratch = h.csrs.mscratch; mepc = h.csrs.mepc; mpil = h.csrs.mpil; exccode = h.csrs.exccode; mtval = h.csrs.mtval; mil = h.csrs.mil; th = h.csrs.th };
                memory = h.memory;
                outside = record { clic = claimed-kept s.chained.outside.clic t.id h.outside.clic; device = h.outside.device; lines = h.outside.lines };
              };
              live = r.serves.range.live;
            };
            rising = r.serves.rising;
            kept = r.serves.kept;
            ons = ons_was s.chained.live s.chained.on s.chained.was r.serves.ons;
          };
          stands = record { code = r.stands.code; bytes = r.stands.bytes; rom = r.stands.rom; ram = r.stands.ram; frames = r.stands.frames };
          registers = h.registers;
          pc = even-is (table_word s.chained.memory at) (table_small s.chained.memory at h.memory);
          was = refl;
          on = on;
          level = (above m es s.chained t is_due, (top_is_choice s.chained.outside.clic t h.outside.clic is_top).level);
        }

    pub begins_so : BeginsSo m es d s x t
    unfolding vectored
    begins_so = record {
      steps = direct_step m d s x t r runs is_top is_due hard untested;
      makes = begin_is m es s t None none runs is_top is_due hard untested;
      live = refl;
      services = refl;
      bodies = refl;
      frames = refl;
      dead = refl;
      inputs = ap (λ y. y.inputs) (claimed-shape s.chained.outside.clic t.id);
      related = begun_related;
    }
