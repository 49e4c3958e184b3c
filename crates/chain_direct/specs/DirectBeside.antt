-- The board that stands beside a state in which a direct service is live.
use Rattle.std.specs.Prelude.{true, false, List}
use Rattle.csr_file.specs.CsrState.{CsrState}
use Rattle.hart_board.specs.State.{State}
use Rattle.chain_moves.specs.Servicing.{Servicing, marks, innermost_level}
use Rattle.chain_moves.specs.Body.{hart}
use Rattle.chain_moves.specs.Beside.{Rest}
use Rattle.chain_moves.specs.declared.mark.Mark.{Mark}
use Rattle.chain_direct.specs.Directed.{Direct}

-- the fields by the direct service and those of the hart that a body sees: interrupts are off, the level is the service's, and the level and the pc below it are saved
abbrev pub direct_csrs : List Mark → Direct → Rest → CsrState → CsrState
direct_csrs live v x c = record { mie = false; mpie = c.mpie; mtvec_base = c.mtvec_base; mtvt = c.mtvt; mscratch = c.mscratch; mepc = v.pc; interrupt = true; mpil = innermost_level live; exccode = v.number; mtval = x.mtval; mil = v.level; th = c.th }

abbrev pub direct_board_by : List Mark → Direct → Rest → State → State
direct_board_by live v x t = record { registers = t.registers; pc = t.pc; csrs = direct_csrs live v x t.csrs; memory = record { rom = x.rom; ram = x.ram }; outside = t.outside; kept = x.kept }

abbrev pub direct_board_of : Servicing → Direct → Rest → State
direct_board_of s v x = direct_board_by (marks s.live) v x (hart s)

-- what the trap saved stays, once it has ended
abbrev pub rest_returned : Servicing → Direct → Rest → Rest
rest_returned s v x = record x { mepc = v.pc; interrupt = true; mpil = innermost_level (marks s.live); exccode = v.number }
