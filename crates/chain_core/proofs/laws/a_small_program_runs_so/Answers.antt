use Rattle.std.proofs.Common.{refl}
use Rattle.hart_memory.specs.Memory.{zeros}
use Rattle.hart_memory.specs.Bytes.{number_at, with_number}
use Rattle.hart_memory.specs.Place.{place}
use Rattle.hart_memory.specs.Fetch.{fetched}
use Rattle.rv_encoding.specs.Rows.{spelled, rows}
use Rattle.rvc_encoding.specs.Rows.{spelled16}
use Rattle.hart_exec.specs.Effect.{effect}
use Rattle.clic_regs.specs.LineChange.{line_changed, pending_changed}
use Rattle.clic_select.specs.Top.{top, greatest_of}
use Rattle.clic_trap.specs.System.{system}
use Rattle.hart_board.specs.Access.{load, store}
use Rattle.hart_board.specs.Attempt.{performed}
use Rattle.hart_board.specs.Event.{arrived_outside, events_outside, with_events}
use Rattle.chain_moves.specs.Servicing.{marks}
use Rattle.chain_moves.specs.Bytes.{some_byte, in_live_frame, marked}
use Rattle.chain_moves.specs.Tests.{first_broken, are_kept, is_lost}
use Rattle.chain_moves.specs.Enter.{is_enter_due, table_word, enter_registers, entered}
use Rattle.chain_moves.specs.Leave.{leave_registers, left}
use Rattle.chain_moves.specs.Body.{body}
use Rattle.chain_moves.specs.Run.{run_to}
use Rattle.chain_moves.specs.Moves.{move, claims}
use Rattle.chain_moves.specs.Start.{words_bytes}
use Rattle.chain_core.specs.Example.{nothing, halted, rom, clic, start, at_ecall, in_handler, events, shown}
use Rattle.chain_core.proofs.laws.a_small_program_runs_so.Goals as goal

pub returns-clause-nested : goal.returns-clause-nested
unfolding shown run_to move claims marks body left leave_registers entered enter_registers table_word is_enter_due first_broken are_kept is_lost some_byte in_live_frame marked start events nothing rom clic words_bytes zeros number_at with_number place fetched spelled rows spelled16 effect line_changed pending_changed top greatest_of load store performed arrived_outside events_outside with_events
returns-clause-nested c = refl

pub returns-clause-halts : goal.returns-clause-halts
unfolding move in_handler start halted nothing
returns-clause-halts c = refl

pub returns-clause-raises : goal.returns-clause-raises
unfolding move body marks is_enter_due first_broken some_byte at_ecall start nothing rom clic words_bytes zeros number_at place fetched spelled rows effect top greatest_of performed system
returns-clause-raises c = refl
