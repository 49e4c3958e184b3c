-- A board from which a chain can start, with another dispatcher in its slot.
use Rattle.std.proofs.Common.{ℕ, zero, suc, ◌/◌, ◌%◌, ◌^◌, ◌<◌, List, [], ◌∷◌, arith}
use Rattle.device_model.specs.Meanings.{Meanings}
use Rattle.hart_memory.specs.Memory.{AreBytes}
use Rattle.hart_board.specs.State.{State}
use Rattle.hart_board.specs.declared.event.Event.{Event}
use Rattle.chain_moves.specs.Words.{slot_words}
use Rattle.chain_moves.specs.Start.{words_bytes, slot_bytes}
use Rattle.chain_core.specs.Both.{with_slot_bytes, Starts}
use Rattle.chain_moves.specs.declared.dispatcher.Dispatcher.{Dispatcher}
use Rattle.chain_moves.proofs.Depth.{slot_len, slot_bytes_small}
use Rattle.chain_moves.proofs.SlotBytes.{length-slot_bytes, slot_has}

small : (v : ℕ) → v % 256 < 256
small v = omega arith

words_small : (ws : List ℕ) → AreBytes (words_bytes ws)
unfolding words_bytes
words_small [] k = omega arith
words_small (w ∷ ws) zero = small w
words_small (w ∷ ws) (suc zero) = small (w / 256 ^ 1)
words_small (w ∷ ws) (suc (suc zero)) = small (w / 256 ^ 2)
words_small (w ∷ ws) (suc (suc (suc zero))) = small (w / 256 ^ 3)
words_small (w ∷ ws) (suc (suc (suc (suc k)))) = words_small ws k

pub starts_other : (m : Meanings) (es : List Event) (d e : Dispatcher) (b : State) → Starts m es d b → Starts m es e (with_slot_bytes (slot_bytes e) b)
starts_other m es d e b h = let w = h.valid.memory in record {
  valid = record {
    registers = h.valid.registers;
    pc = h.valid.pc;
    csrs = h.valid.csrs;
    memory = record {
      rom_len = slot_len b.memory.rom (slot_bytes e) w.rom_len (length-slot_bytes e);
      ram_len = w.ram_len;
      rom_bytes = slot_bytes_small b.memory.rom (slot_bytes e) w.rom_bytes (words_small (slot_words e));
      ram_bytes = w.ram_bytes;
    };
    outside = h.valid.outside;
  };
  events = h.events;
  has = slot_has e b.memory.rom w.rom_len;
  level = h.level;
}
