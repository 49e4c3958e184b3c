use Rattle.std.proofs.Common.{ap}
use Rattle.board_outside.proofs.Writing.{then_writes, stops_writing}
use Rattle.hart_memory.specs.Memory.{Memory}
use Rattle.hart_report.specs.Contents.{output_part, ram_part}
use Rattle.hart_report.proofs.Texts.{stopped, same_text}
use Rattle.chain_moves.specs.Bytes.{is_dead}
use Rattle.chain_core.specs.Text.{board_part}
use Rattle.chain_core.proofs.ending.put_board.Goals as goal

pub returns-in_err-put_pc_and_registers : goal.returns-in_err-put_pc_and_registers
unfolding board_part
returns-in_err-put_pc_and_registers g c = rw (← c.pc.ensures.value, ← c.regs.ensures) (stopped c.from_residual.result c.from_residual.ensures.0 (stops_writing _ (stops_writing _ (stops_writing _ c.in_err-put_pc_and_registers.ensures))))

pub returns-in_err-put_mstatus : goal.returns-in_err-put_mstatus
unfolding board_part
returns-in_err-put_mstatus g c = rw (← c.pc.ensures.value, ← c.regs.ensures, ← c.csrs.ensures) (stopped c.from_residual-in_err-put_mstatus.result c.from_residual-in_err-put_mstatus.ensures.0 (stops_writing _ (stops_writing _ (then_writes c.in_ok-put_pc_and_registers.ensures c.in_err-put_mstatus.ensures))))

pub returns-in_err-put_output : goal.returns-in_err-put_output
unfolding board_part
returns-in_err-put_output g c = rw (← c.pc.ensures.value, ← c.regs.ensures, ← c.csrs.ensures) (stopped c.from_residual-in_err-put_output.result c.from_residual-in_err-put_output.ensures.0 (stops_writing _ (then_writes (then_writes c.in_ok-put_pc_and_registers.ensures c.in_ok-put_mstatus.ensures) (same_text (ap (λ d. output_part (g.D.Device.means.output_of d)) c.device.ensures) c.in_err-put_output.ensures))))

pub returns : goal.returns
unfolding board_part
returns g c = rw (← c.pc.ensures.value, ← c.regs.ensures, ← c.csrs.ensures) (then_writes (then_writes (then_writes c.in_ok-put_pc_and_registers.ensures c.in_ok-put_mstatus.ensures) (same_text (ap (λ d. output_part (g.D.Device.means.output_of d)) c.device.ensures) c.in_ok-put_output.ensures)) (same_text (ap (λ (m : Memory). ram_part (is_dead c.args.watch.now.dead) m.ram) c.banks.ensures) c.put_ram.ensures))
