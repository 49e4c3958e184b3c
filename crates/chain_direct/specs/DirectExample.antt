-- A small program with a direct service, to compute with.
use Rattle.std.specs.Prelude.{ℕ, true, false, List, [], ◌∷◌, ◌++◌, Option, Some, None, replicate}
use Rattle.hart_words.specs.Registers.{register}
use Rattle.hart_memory.specs.Memory.{zeros}
use Rattle.clic_regs.specs.ClicState.{ClicState}
use Rattle.chain_moves.specs.Servicing.{Live}
use Rattle.chain_moves.specs.Start.{words_bytes}
use Rattle.chain_core.specs.Example.{clic, start}
use Rattle.chain_direct.specs.Directed.{Direct, Listed, Directed, beside_none}

-- the program of the servicing machine's example, and then mret at 0xFC; addi t0, t0, 1 at 0x100; mret; addi ra, ra, 1 at 0x108; mret. Its table names the handler at 0xE0 for input 2, and this one for input 3
unfoldable pub rom_with : ℕ → List ℕ
rom_with handler = zeros 0xC0 ++ words_bytes (0xF8 ∷ 0xF8 ∷ 0xE0 ∷ handler ∷ 0x13 ∷ 0x13 ∷ 0x13 ∷ 0x13 ∷ 0xFF010113 ∷ 0x00512023 ∷ 0x00900293 ∷ 0x00012283 ∷ 0x01010113 ∷ 0x00008067 ∷ 0x00000073 ∷ 0x30200073 ∷ 0x00128293 ∷ 0x30200073 ∷ 0x00108093 ∷ 0x30200073 ∷ [])

-- input 3 is hardware-vectored
unfoldable pub hard_clic : ClicState
hard_clic = record clic { attribute = 2 ∷ 2 ∷ 2 ∷ 3 ∷ [] }

unfoldable pub starting : ℕ → Directed
starting handler = beside_none (record start { memory = record start.memory { rom = rom_with handler }; outside = record start.outside { clic = hard_clic } })

-- input 3 is pending too, and its table's word is in the slot
unfoldable pub hidden_table : Directed
hidden_table = record (starting 0xFC) { chained = record (starting 0xFC).chained { table = 0x40; outside = record start.outside { clic = record hard_clic { pending = false ∷ false ∷ true ∷ true ∷ [] } } } }

-- and the same where its table's word is dead
unfoldable pub dead_table : Directed
dead_table = record hidden_table { chained = record hidden_table.chained { table = 0x2000_0000; dead = replicate 0x80 true } }

-- its service is live, while input 2 waits
unfoldable pub in_direct : Directed
in_direct = record (starting 0xFC) { chained = record (starting 0xFC).chained { pc = 0xF8 }; direct = Some (record { number = 3; level = 255; pc = 0xD0; kept = start.registers }) }

-- what is told of a state
pub record DirectShown : Type 0 where
  pub pc : ℕ
  pub sp : ℕ
  pub t0 : ℕ
  pub scratch : ℕ
  pub bodies : ℕ
  pub live : List Live
  pub direct : Option Direct
  pub services : List Listed

unfoldable pub direct_shown : Option Directed → DirectShown
direct_shown None = record { pc = 0; sp = 0; t0 = 0; scratch = 0; bodies = 0; live = []; direct = None; services = [] }
direct_shown (Some s) = record { pc = s.chained.pc; sp = register s.chained.registers 2; t0 = register s.chained.registers 5; scratch = s.chained.scratch; bodies = s.chained.bodies; live = s.chained.live; direct = s.direct; services = s.services }
