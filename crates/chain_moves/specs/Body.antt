-- Body: one instruction of the foreground or of a handler.
use Rattle.std.specs.Prelude.{ℕ, ◌+◌, Bool, false, List, [], Option, Some, None, Result, Ok, Err}
use Rattle.device_model.specs.Meanings.{Meanings}
use Rattle.rv_encoding.specs.declared.instruction.Ins.{Ins}
use Rattle.hart_exec.specs.Effect.{effect}
use Rattle.hart_exec.specs.declared.effect.Effect.{Effect}
use Rattle.hart_exec.specs.declared.effect.Effect.TheVariants.{Go, Load, Store, System}
use Rattle.hart_memory.specs.Memory.{Memory}
use Rattle.hart_memory.specs.Place.{place}
use Rattle.hart_memory.specs.Access.{loaded}
use Rattle.hart_memory.specs.Fetch.{fetched, is_long}
use Rattle.hart_memory.specs.declared.fetched.Fetched.{Fetched}
use Rattle.hart_memory.specs.declared.fetched.Fetched.TheVariants.{Bits, Missing}
use Rattle.hart_board.specs.State.{State}
use Rattle.hart_board.specs.Attempt.{performed}
use Rattle.rvc_encoding.specs.Decoding.{decoded}
use Rattle.hart_board.specs.Event.{with_events}
use Rattle.hart_board.specs.declared.trap.Trap.{Trap}
use Rattle.hart_board.specs.declared.trap.TheConstants.{FETCH_FAULT, ILLEGAL_INSTRUCTION}
use Rattle.hart_board.specs.declared.event.Event.{Event}
use Rattle.chain_moves.specs.Servicing.{Servicing, marks}
use Rattle.chain_moves.specs.Bytes.{revived_at}
use Rattle.chain_moves.specs.Tests.{first_broken, first_tests, second_tests, instruction_tests, access_tests, return_tests}
use Rattle.chain_moves.specs.Machine.{Before, Within, After, Moved, Makes, Breaks, unless_broken}
use Rattle.chain_moves.specs.Enter.{word_or_zero}
use Rattle.chain_moves.specs.declared.broken.Broken.TheVariants.{Exception}
use Rattle.chain_moves.specs.declared.moves.Move.{Move}
use Rattle.chain_moves.specs.declared.moves.Move.TheVariants.{Body}

-- the hart that a body sees. What a permitted instruction neither reads nor writes is 0, and nothing is kept
abbrev pub hart : Servicing → State
hart s = record {
  registers = s.registers;
  pc = s.pc;
  csrs = record { mie = s.on; mpie = s.was; mtvec_base = s.vector; mtvt = s.table; mscratch = s.scratch; mepc = 0; interrupt = false; mpil = 0; exccode = 0; mtval = 0; mil = 0; th = s.threshold };
  memory = s.memory;
  outside = s.outside;
  kept = [];
}

-- the state with what a body made of that hart, which counts the body
abbrev pub with_hart : Servicing → State → List Bool → Servicing
with_hart s new dead = record s {
  registers = new.registers;
  pc = new.pc;
  on = new.csrs.mie;
  was = new.csrs.mpie;
  threshold = new.csrs.th;
  table = new.csrs.mtvt;
  vector = new.csrs.mtvec_base;
  scratch = new.csrs.mscratch;
  memory = new.memory;
  outside = new.outside;
  dead = dead;
  bodies = s.bodies + 1;
}

-- whether the instruction at pc is longer than its first half-word
abbrev pub is_long_at : Memory → ℕ → Bool
is_long_at m pc = is_long (word_or_zero (loaded m pc 2))

-- a store revives the bytes that it writes
abbrev pub dead_after : List Bool → Effect → List Bool
dead_after dead (Go rd value target) = dead
dead_after dead (Load rd at width signed) = dead
dead_after dead (Store at width value) = revived_at (place at width) width dead
dead_after dead System = dead

-- the body retired and is counted; where no register is lost, the events of that count come
abbrev pub retired : Meanings → List Event → Servicing → Moved Move Servicing
retired m es s =
    unless_broken After (first_broken (return_tests (marks s.live) s.pc s.registers)) s.bodies
    (Makes Body (record s { outside = (with_events m s.bodies es (hart s)).outside }))

-- the instruction raises, or is carried out
abbrev pub performed_by : Meanings → List Event → Servicing → Effect → Result State Trap → Moved Move Servicing
performed_by m es s e (Err trap) = Breaks Within (Exception trap.code) s.bodies
performed_by m es s e (Ok new) =
    unless_broken Before (first_broken (access_tests (marks s.live) s.dead e)) s.bodies
    (retired m es (with_hart s new (dead_after s.dead e)))

-- the instruction that the bits spell
abbrev pub decoded_by : Meanings → List Event → Servicing → ℕ → ℕ → Option Ins → Moved Move Servicing
decoded_by m es s bits length None = Breaks Before (Exception ILLEGAL_INSTRUCTION) s.bodies
decoded_by m es s bits length (Some ins) =
    unless_broken Before (first_broken (instruction_tests (marks s.live) ins)) s.bodies
    (performed_by m es s (effect ins length s.registers s.pc) (performed m (hart s) ins bits length))

-- the bits that are fetched
abbrev pub fetched_by : Meanings → List Event → Servicing → Fetched → Moved Move Servicing
fetched_by m es s (Missing at) = Breaks Before (Exception FETCH_FAULT) s.bodies
fetched_by m es s (Bits bits length) = decoded_by m es s bits length (decoded bits length)

unfoldable pub body : Meanings → List Event → Servicing → Moved Move Servicing
body m es s =
    unless_broken Before (first_broken (first_tests s.dead s.pc)) s.bodies
    (unless_broken Before (first_broken (second_tests (is_long_at s.memory s.pc) s.dead s.pc)) s.bodies
    (fetched_by m es s (fetched s.memory s.pc)))
