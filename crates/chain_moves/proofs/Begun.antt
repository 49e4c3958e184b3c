-- The start: the board, and the servicing machine that begins on it.
use Rattle.std.proofs.Common.{◌≡◌, ℕ, ◌+◌, ◌-◌, ◌<◌, ◌≤◌, ◌⊎◌, inl, inr, ⊎_elim, false, List, ◌++◌, length, take, drop, get_or, refl, sym, ap, ◌∙◌, arith, length-take}
use Rattle.std.specs.Prelude.{nat_le, nat_lt}
use Rattle.std.proofs.lemmas.List.{get_or-take, get_or-drop, get_or-append_right, get_or_append_left, length-replicate}
use Rattle.std.proofs.lemmas.Bool.{and_from, lt-ltb, le-leb, true≢false, cases_lt}
use Rattle.device_model.specs.Meanings.{Meanings, IsSound as IsSoundDevice}
use Rattle.hart_memory.specs.declared.address_map.TheConstants.{BANK_LEN}
use Rattle.hart_board.specs.State.{State}
use Rattle.hart_board.specs.Valid.{IsBoard}
use Rattle.hart_board.specs.Event.{AreEventsFrom, with_events}
use Rattle.hart_board.specs.declared.event.Event.{Event}
use Rattle.hart_memory.specs.Memory.{zeros}
use Rattle.chain_moves.specs.Slot.{base, slot_end, in_slot}
use Rattle.chain_moves.specs.Servicing.{marks}
use Rattle.chain_moves.specs.Words.{HasDispatcher}
use Rattle.chain_moves.specs.Start.{with_slot, none_dead, begun}
use Rattle.chain_moves.specs.Agreement.{AgreeRom, Agree}
use Rattle.chain_moves.specs.Beside.{Rest, board_of}
use Rattle.chain_moves.specs.Related.{Related}
use Rattle.chain_moves.specs.declared.dispatcher.Dispatcher.{Dispatcher}
use Rattle.chain_moves.proofs.Depth.{events_inputs, length-zeros, start_range}

-- what a board has besides the servicing state that begins on it
abbrev pub rest_of : State → Rest
rest_of b = record { mepc = b.csrs.mepc; interrupt = b.csrs.interrupt; mpil = b.csrs.mpil; exccode = b.csrs.exccode; mtval = b.csrs.mtval; rom = b.memory.rom; ram = b.memory.ram; kept = b.kept }

-- ---- memory

out_of_slot : (j : ℕ) → in_slot j ≡ false → (j < base) ⊎ (slot_end ≤ j)
out_of_slot j e =
    ⊎_elim
    (λ (l : j < base). inl l)
    (λ (l : base ≤ j). ⊎_elim
    (λ (r : j < slot_end). absurd (true≢false (sym (and_from (nat_le base j) (nat_lt j slot_end) (le-leb base j l) (lt-ltb j slot_end r)) ∙ e)))
    (λ (r : slot_end ≤ j). inr r)
    (cases_lt j slot_end))
    (cases_lt j base)

-- other bytes in the slot change nothing outside it
pub slot_same : (rom bytes : List ℕ) → slot_end ≤ length rom → length bytes ≡ slot_end - base → AgreeRom rom (with_slot bytes rom)
unfolding with_slot
slot_same rom bytes l n =
    let front : length (take base rom) ≡ base = omega (arith, length-take base rom) in
    record {
      at = λ j e. ⊎_elim
          (λ (q : j < base). sym (get_or_append_left (take base rom) (bytes ++ drop slot_end rom) 0 j (omega (arith, front)) ∙ get_or-take base rom j 0 q))
          (λ (q : slot_end ≤ j).
          let back : slot_end + (j - base - (slot_end - base)) ≡ j = omega arith in
          sym (get_or-append_right (take base rom) (bytes ++ drop slot_end rom) base j 0 front (omega arith)
          ∙ get_or-append_right bytes (drop slot_end rom) (slot_end - base) (j - base) 0 n (omega arith)
          ∙ get_or-drop slot_end rom (j - base - (slot_end - base)) 0
          ∙ ap (λ i. get_or rom i 0) back))
          (out_of_slot j e);
    }

none_agree : (ram : List ℕ) (n : ℕ) → n ≡ BANK_LEN → length ram ≡ BANK_LEN → Agree ram ram (none_dead n)
unfolding none_dead
none_agree ram n e l = record { long = l; other_long = l; marks = length-replicate n false ∙ e; at = λ j h. refl }

-- ---- the start

pub start_is : (m : Meanings) (es : List Event) (b : State) → b.csrs.mil ≡ 0 → board_of (begun m es b) (rest_of b) ≡ with_events m 0 es b
unfolding begun with_events marks
start_is m es b e = ap (λ n. with_events m 0 es (record b { csrs = record b.csrs { mil = n } })) (sym e)

pub start_related : (m : Meanings) (es : List Event) (d : Dispatcher) → IsSoundDevice m → (b : State) (from : ℕ) → AreEventsFrom b.outside.clic.shape.inputs from es → IsBoard m b → HasDispatcher d b.memory.rom → Related m d (begun m es b) (rest_of b)
unfolding begun with_events marks
start_related m es d sound b from events h code = record {
  serves = record { range = start_range m es sound b from events h; rising = tt; kept = tt; ons = tt };
  stands = record {
    code = code;
    bytes = h.memory.rom_bytes;
    rom = slot_same b.memory.rom (zeros (slot_end - base)) (omega (arith, h.memory.rom_len)) (length-zeros (slot_end - base));
    ram = none_agree b.memory.ram BANK_LEN refl h.memory.ram_len;
    frames = tt;
  };
}

pub begun_inputs : (m : Meanings) (es : List Event) (b : State) → (begun m es b).outside.clic.shape.inputs ≡ b.outside.clic.shape.inputs
unfolding begun
begun_inputs m es b = events_inputs m es b 0
