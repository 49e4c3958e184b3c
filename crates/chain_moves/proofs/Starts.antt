-- The servicing machine starts alike whatever the slot holds.
use Rattle.std.proofs.Common.{◌≡◌, ℕ, ◌-◌, ◌≤◌, List, ◌++◌, length, take, drop, sym, ap, ap₂, ◌∙◌, arith, length-take, length-append}
use Rattle.std.proofs.lemmas.List.{take_at, drop_at, append_assoc}
use Rattle.device_model.specs.Meanings.{Meanings}
use Rattle.hart_memory.specs.Memory.{zeros}
use Rattle.hart_board.specs.State.{State}
use Rattle.hart_board.specs.Event.{events_outside, with_events}
use Rattle.hart_board.specs.declared.event.Event.{Event}
use Rattle.chain_moves.specs.Slot.{base, slot_end}
use Rattle.chain_moves.specs.Start.{with_slot, begun_with, begun}

-- ---- the slot's bytes are replaced
pub slot_twice : (rom bytes other : List ℕ) → slot_end ≤ length rom → length bytes ≡ slot_end - base → with_slot other (with_slot bytes rom) ≡ with_slot other rom
unfolding with_slot
slot_twice rom bytes other l n =
    let front : length (take base rom) ≡ base = omega (arith, length-take base rom) in
    let both : length (take base rom ++ bytes) ≡ slot_end = length-append (take base rom) bytes ∙ omega (arith, front, n) in
    ap₂ (λ low high. low ++ (other ++ high))
    (take_at (take base rom) (bytes ++ drop slot_end rom) base front)
    (ap (drop slot_end) (sym (append_assoc (take base rom) bytes (drop slot_end rom))) ∙ drop_at (take base rom ++ bytes) (drop slot_end rom) slot_end both)

pub starts_same : (m : Meanings) (es : List Event) (b : State) (bytes : List ℕ) → slot_end ≤ length b.memory.rom → length bytes ≡ slot_end - base
    → begun m es (record b { memory = record b.memory { rom = with_slot bytes b.memory.rom } }) ≡ begun m es b
unfolding begun with_events
starts_same m es b bytes l n =
    ap (λ rom. record (begun_with (record b { outside = events_outside m 0 es b.outside })) { memory = record { rom = rom; ram = b.memory.ram } }) (slot_twice b.memory.rom bytes (zeros (slot_end - base)) l n)
