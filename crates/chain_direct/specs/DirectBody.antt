-- One instruction of a direct service. MRET ends it.
use Rattle.std.specs.Prelude.{ℕ, zero, suc, ◌+◌, ◌==◌, Bool, true, false, not, ◌&&◌, List, [], ◌∷◌, Option, Some, None, Result, Ok, Err}
use Rattle.hart_words.specs.Registers.{register}
use Rattle.device_model.specs.Meanings.{Meanings}
use Rattle.rv_encoding.specs.declared.instruction.Ins.{Ins}
use Rattle.rv_encoding.specs.declared.instruction.Ins.TheVariants.{Mret, Csr}
use Rattle.hart_exec.specs.Effect.{effect}
use Rattle.hart_exec.specs.declared.effect.Effect.{Effect}
use Rattle.hart_memory.specs.Fetch.{fetched}
use Rattle.hart_memory.specs.declared.fetched.Fetched.{Fetched}
use Rattle.hart_memory.specs.declared.fetched.Fetched.TheVariants.{Bits, Missing}
use Rattle.hart_board.specs.State.{State}
use Rattle.hart_board.specs.Attempt.{performed}
use Rattle.rvc_encoding.specs.Decoding.{decoded}
use Rattle.hart_board.specs.Event.{with_events}
use Rattle.hart_board.specs.declared.trap.Trap.{Trap}
use Rattle.hart_board.specs.declared.trap.TheConstants.{FETCH_FAULT, ILLEGAL_INSTRUCTION}
use Rattle.hart_board.specs.declared.event.Event.{Event}
use Rattle.chain_moves.specs.Servicing.{Servicing, marks}
use Rattle.chain_moves.specs.Tests.{first_broken, first_tests, second_tests, access_tests}
use Rattle.chain_moves.specs.Machine.{Before, Within, After, Moved, Makes, Breaks, unless_broken}
use Rattle.chain_moves.specs.Body.{hart, with_hart, is_long_at, dead_after}
use Rattle.chain_moves.specs.declared.broken.Broken.{Broken}
use Rattle.chain_moves.specs.declared.broken.Broken.TheVariants.{CsrTouched, RegisterLost, Exception}
use Rattle.chain_moves.specs.declared.moves.Move.TheVariants.{Body}
use Rattle.chain_direct.specs.Directed.{Direct, Directed}
use Rattle.chain_direct.specs.Kind.{Kind, Plain}

-- ---- tests

abbrev pub is_csr : Ins → Bool
is_csr (Csr op rd source csr) = true
is_csr _ = false

-- no instruction on control registers
abbrev pub direct_instruction_tests : Ins → List (Bool × Broken)
direct_instruction_tests ins = (is_csr ins, CsrTouched) ∷ []

-- each of the first n registers is as it was
unfoldable pub are_same : List ℕ → List ℕ → ℕ → Bool
are_same kept registers zero = true
are_same kept registers (suc r) = (register registers r == register kept r) && are_same kept registers r

-- once MRET has ended it: a register is not as it was when the service began
abbrev pub ended_tests : Direct → List ℕ → List (Bool × Broken)
ended_tests v registers = (not (are_same v.kept registers 32), RegisterLost) ∷ []

-- ---- the move

-- the state with the events of its count
abbrev pub with_its_events : Meanings → List Event → Servicing → Servicing
with_its_events m es s = record s { outside = (with_events m s.bodies es (hart s)).outside }

-- the instruction raises, or is carried out
abbrev pub direct_performed : Meanings → List Event → Directed → Effect → Result State Trap → Moved Kind Directed
direct_performed m es s e (Err trap) = Breaks Within (Exception trap.code) s.chained.bodies
direct_performed m es s e (Ok new) =
    unless_broken Before (first_broken (access_tests (marks s.chained.live) s.chained.dead e)) s.chained.bodies
    (Makes (Plain Body) (record s { chained = with_its_events m es (with_hart s.chained new (dead_after s.chained.dead e)) }))

-- MRET: pc comes back, and the service is live no more
abbrev pub direct_ended : Meanings → List Event → Directed → Direct → Moved Kind Directed
direct_ended m es s v =
    unless_broken After (first_broken (ended_tests v s.chained.registers)) (s.chained.bodies + 1)
    (Makes (Plain Body) (record s { chained = with_its_events m es (record s.chained { pc = v.pc; bodies = s.chained.bodies + 1 }); direct = None }))

abbrev pub direct_made : Meanings → List Event → Directed → Direct → ℕ → ℕ → Ins → Moved Kind Directed
direct_made m es s v bits length Mret = direct_ended m es s v
direct_made m es s v bits length ins = direct_performed m es s (effect ins length s.chained.registers s.chained.pc) (performed m (hart s.chained) ins bits length)

-- the instruction that the bits spell
abbrev pub direct_decoded : Meanings → List Event → Directed → Direct → ℕ → ℕ → Option Ins → Moved Kind Directed
direct_decoded m es s v bits length None = Breaks Before (Exception ILLEGAL_INSTRUCTION) s.chained.bodies
direct_decoded m es s v bits length (Some ins) =
    unless_broken Before (first_broken (direct_instruction_tests ins)) s.chained.bodies
    (direct_made m es s v bits length ins)

-- the bits that are fetched
abbrev pub direct_fetched : Meanings → List Event → Directed → Direct → Fetched → Moved Kind Directed
direct_fetched m es s v (Missing at) = Breaks Before (Exception FETCH_FAULT) s.chained.bodies
direct_fetched m es s v (Bits bits length) = direct_decoded m es s v bits length (decoded bits length)

unfoldable pub direct_body : Meanings → List Event → Directed → Direct → Moved Kind Directed
direct_body m es s v =
    unless_broken Before (first_broken (first_tests s.chained.dead s.chained.pc)) s.chained.bodies
    (unless_broken Before (first_broken (second_tests (is_long_at s.chained.memory s.chained.pc) s.chained.dead s.chained.pc)) s.chained.bodies
    (direct_fetched m es s v (fetched s.chained.memory s.chained.pc)))
