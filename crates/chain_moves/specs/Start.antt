-- A dispatcher in the slot, and how the servicing machine starts from a board.
use Rattle.std.specs.Prelude.{ℕ, ◌-◌, Bool, false, List, [], ◌∷◌, ◌++◌, take, drop, replicate}
use Rattle.byteorder.specs.Endian.{little_bytes}
use Rattle.device_model.specs.Meanings.{Meanings}
use Rattle.hart_memory.specs.Memory.{zeros}
use Rattle.hart_memory.specs.declared.address_map.TheConstants.{BANK_LEN}
use Rattle.hart_board.specs.State.{State}
use Rattle.hart_board.specs.Event.{with_events}
use Rattle.hart_board.specs.declared.event.Event.{Event}
use Rattle.chain_moves.specs.Slot.{base, slot_end}
use Rattle.chain_moves.specs.Words.{slot_words}
use Rattle.chain_moves.specs.Servicing.{Servicing}
use Rattle.chain_moves.specs.declared.dispatcher.Dispatcher.{Dispatcher}

-- ROM with these bytes in place of the slot's
unfoldable pub with_slot : List ℕ → List ℕ → List ℕ
with_slot bytes rom = take base rom ++ (bytes ++ drop slot_end rom)

-- words as bytes
unfoldable pub words_bytes : List ℕ → List ℕ
words_bytes [] = []
words_bytes (w ∷ ws) = little_bytes 4 w ++ words_bytes ws

-- the slot's bytes where it has a dispatcher
abbrev pub slot_bytes : Dispatcher → List ℕ
slot_bytes d = words_bytes (slot_words d)

-- the interrupt stack's pointer, where the image writes none: the end of RAM
abbrev pub first_scratch : ℕ
first_scratch = 0x20010000

-- the board with a dispatcher: the slot's bytes and mscratch are set, and nothing else
abbrev pub installed : Dispatcher → State → State
installed d s = record s { csrs = record s.csrs { mscratch = first_scratch }; memory = record s.memory { rom = with_slot (slot_bytes d) s.memory.rom } }

-- no byte is dead
unfoldable pub none_dead : ℕ → List Bool
none_dead count = replicate count false

-- from a board, whose dispatcher isn't looked at
abbrev pub begun_with : State → Servicing
begun_with b = record {
  registers = b.registers;
  pc = b.pc;
  on = b.csrs.mie;
  was = b.csrs.mpie;
  threshold = b.csrs.th;
  table = b.csrs.mtvt;
  vector = b.csrs.mtvec_base;
  scratch = b.csrs.mscratch;
  memory = record b.memory { rom = with_slot (zeros (slot_end - base)) b.memory.rom };
  outside = b.outside;
  live = [];
  dead = none_dead BANK_LEN;
  bodies = 0;
  services = [];
}

-- the events of count 0 come first
unfoldable pub begun : Meanings → List Event → State → Servicing
begun m es b = begun_with (with_events m 0 es b)
