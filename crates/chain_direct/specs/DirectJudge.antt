-- The tests of a direct service's instruction, by the board and what is kept beside it. They are those of the machine with direct services.
use Rattle.std.specs.Prelude.{ℕ, Option, Some, None}
use Rattle.rv_encoding.specs.declared.instruction.Ins.{Ins}
use Rattle.rv_encoding.specs.declared.instruction.Ins.TheVariants.{Mret}
use Rattle.hart_exec.specs.Effect.{effect}
use Rattle.hart_memory.specs.Fetch.{fetched}
use Rattle.hart_memory.specs.declared.fetched.Fetched.{Fetched}
use Rattle.hart_memory.specs.declared.fetched.Fetched.TheVariants.{Bits, Missing}
use Rattle.hart_board.specs.State.{State}
use Rattle.rvc_encoding.specs.Decoding.{decoded}
use Rattle.hart_board.specs.declared.trap.TheConstants.{FETCH_FAULT, ILLEGAL_INSTRUCTION}
use Rattle.chain_moves.specs.Tests.{first_broken, first_tests, second_tests}
use Rattle.chain_moves.specs.Body.{is_long_at}
use Rattle.chain_moves.specs.Watched.{Watched}
use Rattle.chain_moves.specs.Judge.{judge_effect}
use Rattle.chain_moves.specs.declared.broken.Broken.{Broken}
use Rattle.chain_moves.specs.declared.broken.Broken.TheVariants.{Exception}
use Rattle.chain_moves.specs.declared.verdict.Verdict.TheVariants.{Refused}
use Rattle.chain_direct.specs.DirectBody.{direct_instruction_tests}
use Rattle.chain_direct.specs.declared.direct_verdict.DirectVerdict.{DirectVerdict}
use Rattle.chain_direct.specs.declared.direct_verdict.DirectVerdict.TheVariants.{Ends, Goes}

-- refused where a test holds
abbrev pub direct_or : Option Broken → DirectVerdict → DirectVerdict
direct_or None verdict = verdict
direct_or (Some kind) verdict = Goes (Refused kind)

-- an instruction that is spelled and is on no control register: MRET, or one that is judged by what it asks for
abbrev pub judge_direct_made : State → Watched → ℕ → Ins → DirectVerdict
judge_direct_made b w length Mret = Ends
judge_direct_made b w length ins = Goes (judge_effect w (effect ins length b.registers b.pc))

abbrev pub judge_direct_instruction : State → Watched → ℕ → Option Ins → DirectVerdict
judge_direct_instruction b w length None = Goes (Refused (Exception ILLEGAL_INSTRUCTION))
judge_direct_instruction b w length (Some ins) = direct_or (first_broken (direct_instruction_tests ins)) (judge_direct_made b w length ins)

abbrev pub judge_direct_fetched : State → Watched → Fetched → DirectVerdict
judge_direct_fetched b w (Missing at) = Goes (Refused (Exception FETCH_FAULT))
judge_direct_fetched b w (Bits bits length) = judge_direct_instruction b w length (decoded bits length)

unfoldable pub judge_direct_body : State → Watched → DirectVerdict
judge_direct_body b w =
    direct_or (first_broken (first_tests w.dead b.pc))
    (direct_or (first_broken (second_tests (is_long_at b.memory b.pc) w.dead b.pc))
    (judge_direct_fetched b w (fetched b.memory b.pc)))
