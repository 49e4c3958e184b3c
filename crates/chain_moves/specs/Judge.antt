-- The move that is due, and its tests, by the board and what is kept beside it. The tests are those of the servicing machine.
use Rattle.std.specs.Prelude.{ℕ, ◌<◌, ◌%◌, ◌==◌, Bool, true, false, not, ◌&&◌, List, [], ◌∷◌, Option, Some, None}
use Rattle.hart_words.specs.Registers.{register}
use Rattle.rv_encoding.specs.declared.instruction.Ins.{Ins}
use Rattle.hart_exec.specs.Effect.{effect}
use Rattle.hart_exec.specs.declared.effect.Effect.{Effect}
use Rattle.hart_exec.specs.declared.effect.Effect.TheVariants.{Go, Load, Store, System}
use Rattle.hart_memory.specs.Fetch.{fetched}
use Rattle.hart_memory.specs.declared.fetched.Fetched.{Fetched}
use Rattle.hart_memory.specs.declared.fetched.Fetched.TheVariants.{Bits, Missing}
use Rattle.clic_select.specs.Top.{top}
use Rattle.clic_select.specs.declared.choice.Choice.{Choice}
use Rattle.clic_trap.specs.Due.{due, is_above}
use Rattle.hart_board.specs.State.{State}
use Rattle.rvc_encoding.specs.Decoding.{decoded}
use Rattle.hart_board.specs.declared.trap.TheConstants.{FETCH_FAULT, ILLEGAL_INSTRUCTION}
use Rattle.chain_moves.specs.Slot.{back}
use Rattle.chain_moves.specs.Servicing.{innermost_level}
use Rattle.chain_moves.specs.Tests.{first_broken, enter_tests, first_tests, second_tests, instruction_tests, access_tests}
use Rattle.chain_moves.specs.Enter.{pointer_by, frame_below, table_address}
use Rattle.chain_moves.specs.Body.{is_long_at}
use Rattle.chain_moves.specs.Cost.{is_fused}
use Rattle.chain_moves.specs.Watched.{Watched}
use Rattle.chain_moves.specs.declared.broken.Broken.{Broken}
use Rattle.chain_moves.specs.declared.broken.Broken.TheVariants.{Exception}
use Rattle.chain_moves.specs.declared.mark.Mark.{Mark}
use Rattle.chain_moves.specs.declared.dispatcher.Dispatcher.{Dispatcher}
use Rattle.chain_moves.specs.declared.moves.Move.TheVariants.{Leave as LeaveMove}
use Rattle.chain_moves.specs.declared.verdict.Verdict.{Verdict}
use Rattle.chain_moves.specs.declared.verdict.Verdict.TheVariants.{Refused as BodyRefused, Plain, Reviving}
use Rattle.chain_moves.specs.declared.entry.Entry.{Entry}
use Rattle.chain_moves.specs.declared.entry.Entry.TheVariants.{Refused, Admitted}
use Rattle.chain_moves.specs.declared.turn.Turn.{Turn}
use Rattle.chain_moves.specs.declared.turn.Turn.TheVariants.{Enter, Leave, Fuse, Body}

-- ---- Body

-- refused where a test holds
abbrev pub refused_or : Option Broken → Verdict → Verdict
refused_or None verdict = verdict
refused_or (Some kind) verdict = BodyRefused kind

-- an access whose address isn't aligned raises, and is left to the step
abbrev pub where_aligned : Bool → Option Broken → Option Broken
where_aligned true test = test
where_aligned false test = None

-- what it asks for accesses some bytes, if it accesses memory
abbrev pub HasBytes : Effect → Type 0
HasBytes (Go rd value target) = Unit {0}
HasBytes (Load rd at width signed) = 0 < width
HasBytes (Store at width value) = 0 < width
HasBytes System = Unit {0}

abbrev pub judge_effect : Watched → Effect → Verdict
judge_effect w (Go rd value target) = Plain
judge_effect w (Load rd at width signed) = refused_or (where_aligned (at % width == 0) (first_broken (access_tests w.live w.dead (Load rd at width signed)))) Plain
judge_effect w (Store at width value) = refused_or (where_aligned (at % width == 0) (first_broken (access_tests w.live w.dead (Store at width value)))) (Reviving at width)
judge_effect w System = Plain

abbrev pub judge_instruction : State → Watched → ℕ → Option Ins → Verdict
judge_instruction b w length None = BodyRefused (Exception ILLEGAL_INSTRUCTION)
judge_instruction b w length (Some ins) = refused_or (first_broken (instruction_tests w.live ins)) (judge_effect w (effect ins length b.registers b.pc))

abbrev pub judge_fetched : State → Watched → Fetched → Verdict
judge_fetched b w (Missing at) = BodyRefused (Exception FETCH_FAULT)
judge_fetched b w (Bits bits length) = judge_instruction b w length (decoded bits length)

unfoldable pub judge_body : State → Watched → Verdict
judge_body b w =
    refused_or (first_broken (first_tests w.dead b.pc))
    (refused_or (first_broken (second_tests (is_long_at b.memory b.pc) w.dead b.pc))
    (judge_fetched b w (fetched b.memory b.pc)))

-- ---- Enter

abbrev pub entry_by : ℕ → Option Broken → Entry
entry_by frame None = Admitted frame
entry_by frame (Some kind) = Refused kind

-- by the live frames, the dead bytes, whether the top is hardware-vectored, where interrupts go, the new frame's address, and the address of the table's word
unfoldable pub judge_entry : List Mark → List Bool → Bool → ℕ → ℕ → ℕ → Entry
judge_entry live dead shv vector frame at = entry_by frame (first_broken (enter_tests live dead shv vector frame at))

-- ---- the move

-- the top could be entered at once from a Leave to that level, and isn't hardware-vectored
abbrev pub claims_above : Option Choice → ℕ → ℕ → Bool
claims_above None level threshold = false
claims_above (Some t) level threshold = is_above t level threshold && not t.shv

-- a fused pair has the frame that the Leave would drop
abbrev pub judge_fused : State → Watched → List Mark → Option Choice → Bool → Turn
judge_fused b w outside (Some t) true = Fuse (judge_entry outside w.dead t.shv b.csrs.mtvec_base (register b.registers 2) (table_address b.csrs.mtvt t.id))
judge_fused b w outside None true = Leave
judge_fused b w outside choice false = Leave

-- where no Enter is due: by whether a service is live, and pc is where handlers return
abbrev pub judge_leave : Dispatcher → State → Watched → List Mark → Bool → Turn
judge_leave d b w (v ∷ vs) true = judge_fused b w vs (top b.outside.clic) (is_fused d LeaveMove (claims_above (top b.outside.clic) (innermost_level vs) b.csrs.th))
judge_leave d b w (v ∷ vs) false = Body (judge_body b w)
judge_leave d b w [] at_back = Body (judge_body b w)

abbrev pub judge_due : Dispatcher → State → Watched → Option Choice → Bool → Turn
judge_due d b w (Some t) true = Enter (judge_entry w.live w.dead t.shv b.csrs.mtvec_base (frame_below (pointer_by w.live (register b.registers 2) b.csrs.mscratch)) (table_address b.csrs.mtvt t.id))
judge_due d b w (Some t) false = judge_leave d b w w.live (b.pc == back)
judge_due d b w None is_due = judge_leave d b w w.live (b.pc == back)

unfoldable pub judge_turn : Dispatcher → State → Watched → Turn
judge_turn d b w = judge_due d b w (top b.outside.clic) (due b.csrs (top b.outside.clic))
