use Rattle.std.proofs.Common.{refl}
use Rattle.hart_memory.specs.Memory.{zeros}
use Rattle.hart_memory.specs.Bytes.{number_at, with_number}
use Rattle.hart_memory.specs.Place.{place}
use Rattle.hart_memory.specs.Fetch.{fetched}
use Rattle.rv_encoding.specs.Rows.{spelled, rows}
use Rattle.rvc_encoding.specs.Rows.{spelled16}
use Rattle.hart_exec.specs.Effect.{effect}
use Rattle.clic_regs.specs.LineChange.{line_changed, pending_changed}
use Rattle.clic_select.specs.Top.{top, greatest_of}
use Rattle.clic_trap.specs.System.{system}
use Rattle.hart_board.specs.Access.{load, store}
use Rattle.hart_board.specs.Attempt.{performed}
use Rattle.hart_board.specs.Event.{arrived_outside, events_outside, with_events}
use Rattle.chain_moves.specs.Servicing.{marks}
use Rattle.chain_moves.specs.Bytes.{some_byte, in_live_frame, marked}
use Rattle.chain_moves.specs.Tests.{first_broken, are_kept, is_lost}
use Rattle.chain_moves.specs.Enter.{is_enter_due, table_word, enter_registers, entered}
use Rattle.chain_moves.specs.Leave.{leave_registers, left}
use Rattle.chain_moves.specs.Body.{body}
use Rattle.chain_moves.specs.Run.{run_to}
use Rattle.chain_moves.specs.Cost.{cost}
use Rattle.chain_core.specs.End.{end_at}
use Rattle.chain_moves.specs.Moves.{move, claims}
use Rattle.chain_moves.specs.Start.{words_bytes}
use Rattle.chain_core.specs.Example.{nothing, halted, clic, start, events}
use Rattle.chain_direct.specs.Directed.{all_chained}
use Rattle.chain_direct.specs.DirectBody.{are_same, direct_body}
use Rattle.chain_direct.specs.DirectMoves.{vectored, direct_move, direct_claims}
use Rattle.chain_direct.specs.DirectExample.{rom_with, hard_clic, starting, hidden_table, dead_table, in_direct, direct_shown}
use Rattle.chain_direct.proofs.laws.a_small_program_runs_so.Goals as goal

pub returns-clause-nested : goal.returns-clause-nested
unfolding direct_shown run_to direct_move direct_body direct_claims vectored are_same all_chained move claims marks body left leave_registers entered enter_registers table_word is_enter_due first_broken are_kept is_lost some_byte in_live_frame marked starting rom_with hard_clic start events nothing clic words_bytes zeros number_at with_number place fetched spelled rows spelled16 effect line_changed pending_changed top greatest_of load store performed arrived_outside events_outside with_events
returns-clause-nested c = refl

pub returns-clause-lost : goal.returns-clause-lost
unfolding end_at cost run_to direct_move direct_body direct_claims vectored are_same all_chained move claims marks body left leave_registers entered enter_registers table_word is_enter_due first_broken are_kept is_lost some_byte in_live_frame marked starting rom_with hard_clic start events nothing clic words_bytes zeros number_at with_number place fetched spelled rows spelled16 effect line_changed pending_changed top greatest_of load store performed arrived_outside events_outside with_events
returns-clause-lost c = refl

pub returns-clause-lost_ra : goal.returns-clause-lost_ra
unfolding end_at cost run_to direct_move direct_body direct_claims vectored are_same all_chained move claims marks body left leave_registers entered enter_registers table_word is_enter_due first_broken are_kept is_lost some_byte in_live_frame marked starting rom_with hard_clic start events nothing clic words_bytes zeros number_at with_number place fetched spelled rows spelled16 effect line_changed pending_changed top greatest_of load store performed arrived_outside events_outside with_events
returns-clause-lost_ra c = refl

pub returns-clause-beyond : goal.returns-clause-beyond
unfolding end_at cost run_to direct_move direct_body direct_claims vectored are_same all_chained move claims marks body left leave_registers entered enter_registers table_word is_enter_due first_broken are_kept is_lost some_byte in_live_frame marked starting rom_with hard_clic start events nothing clic words_bytes zeros number_at with_number place fetched spelled rows spelled16 effect line_changed pending_changed top greatest_of load store performed arrived_outside events_outside with_events
returns-clause-beyond c = refl

pub returns-clause-hidden : goal.returns-clause-hidden
unfolding direct_move hidden_table starting rom_with hard_clic start nothing clic marks is_enter_due first_broken some_byte top greatest_of zeros words_bytes place
returns-clause-hidden c = refl

pub returns-clause-dead : goal.returns-clause-dead
unfolding direct_move dead_table hidden_table starting rom_with hard_clic start nothing clic marks is_enter_due first_broken some_byte top greatest_of zeros words_bytes place
returns-clause-dead c = refl

pub returns-clause-halts : goal.returns-clause-halts
unfolding direct_move in_direct starting start halted nothing
returns-clause-halts c = refl

pub returns-clause-raises : goal.returns-clause-raises
unfolding direct_move direct_body in_direct starting rom_with hard_clic start nothing clic marks first_broken some_byte words_bytes zeros number_at place fetched spelled rows effect performed system
returns-clause-raises c = refl
