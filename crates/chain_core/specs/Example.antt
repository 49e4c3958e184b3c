-- A small program for the servicing machine, to compute with.
use Rattle.std.specs.Prelude.{ℕ, true, false, List, [], ◌∷◌, ◌++◌, Option, Some, None, replicate}
use Rattle.device_model.specs.Meanings.{Meanings}
use Rattle.hart_words.specs.Registers.{register}
use Rattle.hart_memory.specs.Memory.{zeros}
use Rattle.clic_regs.specs.ClicState.{ClicState}
use Rattle.hart_board.specs.declared.event.Event.{Event}
use Rattle.hart_board.specs.declared.what.What.TheVariants.{Line}
use Rattle.chain_moves.specs.Servicing.{Live, Service, Servicing}
use Rattle.chain_moves.specs.Start.{words_bytes}

-- a device without registers, and the same once it has halted
unfoldable pub nothing : Meanings
nothing = record {
  IsState = λ s. Unit {0};
  low = λ s. 0;
  high = λ s. 0;
  loaded = λ s at width. None;
  after_load = λ s at width. s;
  after_store = λ s at width value. None;
  after_stimulus = λ s what. s;
  lines = λ s. [];
  halted = λ s. None;
  output_of = λ s. [];
}

unfoldable pub halted : Meanings
halted = record nothing { halted = λ s. Some 1 }

-- a table of four words at 0xC0; nops at 0xD0; a handler at 0xE0: addi sp, sp, -16; sw t0, 0(sp); addi t0, zero, 9; lw t0, 0(sp); addi sp, sp, 16; ret; and ecall at 0xF8
unfoldable pub rom : List ℕ
rom = zeros 0xC0 ++ words_bytes (0xF8 ∷ 0xF8 ∷ 0xE0 ∷ 0xE0 ∷ 0x13 ∷ 0x13 ∷ 0x13 ∷ 0x13 ∷ 0xFF010113 ∷ 0x00512023 ∷ 0x00900293 ∷ 0x00012283 ∷ 0x01010113 ∷ 0x00008067 ∷ 0x00000073 ∷ [])

-- four inputs, positive edges: input 2 has level 127 and input 3 level 255; input 2 is pending
unfoldable pub clic : ClicState
clic = record { shape = record { inputs = 4; bits = 8 }; nlbits = 1; line = false ∷ false ∷ true ∷ false ∷ []; pending = false ∷ false ∷ true ∷ false ∷ []; enable = true ∷ true ∷ true ∷ true ∷ []; attribute = 2 ∷ 2 ∷ 2 ∷ 2 ∷ []; control = 0 ∷ 0 ∷ 0x40 ∷ 0xC0 ∷ [] }

-- the foreground stands at the nops and takes interrupts
unfoldable pub start : Servicing
start = record {
  registers = 0 ∷ 0 ∷ 0x2000_0200 ∷ 0 ∷ 0 ∷ 7 ∷ 0 ∷ 0 ∷ 0 ∷ 0 ∷ 11 ∷ 12 ∷ replicate 20 0;
  pc = 0xD0;
  on = true;
  was = false;
  threshold = 0;
  table = 0xC0;
  vector = 0x40;
  scratch = 0x2000_0080;
  memory = record { rom = rom; ram = zeros 0x80 };
  outside = record { clic = clic; device = [] };
  live = [];
  dead = replicate 0x80 false;
  bodies = 0;
  services = [];
}

-- interrupts are off, and the foreground stands at ecall
unfoldable pub at_ecall : Servicing
at_ecall = record start { on = false; pc = 0xF8 }

-- a service is live
unfoldable pub in_handler : Servicing
in_handler = record start { live = record { number = 2; mark = record { level = 127; frame = 0x2000_0060; kept = start.registers }; pc = 0xD0; ra = 0; a0 = 11; a1 = 12 } ∷ [] }

-- the line of input 3 rises after the third body, while t0 is changed
unfoldable pub events : List Event
events = record { at = 3; what = Line 3 true } ∷ []

-- what is told of a state
pub record Shown : Type 0 where
  pub pc : ℕ
  pub sp : ℕ
  pub t0 : ℕ
  pub a0 : ℕ
  pub scratch : ℕ
  pub bodies : ℕ
  pub live : List Live
  pub services : List Service

unfoldable pub shown : Option Servicing → Shown
shown None = record { pc = 0; sp = 0; t0 = 0; a0 = 0; scratch = 0; bodies = 0; live = []; services = [] }
shown (Some s) = record { pc = s.pc; sp = register s.registers 2; t0 = register s.registers 5; a0 = register s.registers 10; scratch = s.scratch; bodies = s.bodies; live = s.live; services = s.services }
