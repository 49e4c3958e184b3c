-- The board that stands beside a servicing state: all but its memory and some fields is a function of that state.
use Rattle.std.specs.Prelude.{ℕ, Bool, List}
use Rattle.csr_file.specs.CsrState.{CsrState}
use Rattle.hart_board.specs.State.{State, Moment}
use Rattle.chain_moves.specs.Servicing.{Servicing, marks, innermost_level}
use Rattle.chain_moves.specs.Enter.{takes_interrupts}
use Rattle.chain_moves.specs.Body.{hart}
use Rattle.chain_moves.specs.declared.mark.Mark.{Mark}

-- what the board has besides: what the last trap saved, its memory, and the states that it keeps
pub record Rest : Type 0 where
  pub mepc : ℕ
  pub interrupt : Bool
  pub mpil : ℕ
  pub exccode : ℕ
  pub mtval : ℕ
  pub rom : List ℕ
  pub ram : List ℕ
  pub kept : List Moment

-- the fields of the board, by the live services and the fields of the hart that a body sees: interrupts are on while a service is live, and the level is the innermost service's
abbrev pub csrs_by : List Mark → Rest → CsrState → CsrState
csrs_by live x c = record { mie = takes_interrupts live c.mie; mpie = c.mpie; mtvec_base = c.mtvec_base; mtvt = c.mtvt; mscratch = c.mscratch; mepc = x.mepc; interrupt = x.interrupt; mpil = x.mpil; exccode = x.exccode; mtval = x.mtval; mil = innermost_level live; th = c.th }

-- the board by that hart, and by what its fields are then
abbrev pub board_with : (CsrState → CsrState) → Rest → State → State
board_with fields x t = record { registers = t.registers; pc = t.pc; csrs = fields t.csrs; memory = record { rom = x.rom; ram = x.ram }; outside = t.outside; kept = x.kept }

abbrev pub board_by : List Mark → Rest → State → State
board_by live x t = board_with (csrs_by live x) x t

abbrev pub board_of : Servicing → Rest → State
board_of s x = board_by (marks s.live) x (hart s)
