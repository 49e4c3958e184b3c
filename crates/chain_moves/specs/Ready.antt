-- What a round finds before anything is done: a body's instruction, or what a dispatcher does next.
use Rattle.std.specs.Prelude.{ℕ, ◌==◌, Bool, not, ◌&&◌, ◌||◌, nat_le, Result, Ok, Err}
use Rattle.hart_exec.specs.declared.effect.Effect.{Effect}
use Rattle.hart_exec.specs.declared.effect.Effect.TheVariants.{Go, Load, Store, System}
use Rattle.clic_select.specs.Top.{top}
use Rattle.clic_trap.specs.Due.{due}
use Rattle.hart_board.specs.State.{State}
use Rattle.hart_board.specs.declared.prepared.Prepared.{Prepared}
use Rattle.chain_moves.specs.Slot.{slot_end, back}
use Rattle.chain_moves.specs.Servicing.{is_foreground}
use Rattle.chain_moves.specs.Body.{dead_after}
use Rattle.chain_moves.specs.Watched.{Watched}
use Rattle.chain_moves.specs.declared.broken.Broken.{Broken}
use Rattle.chain_moves.specs.declared.next.Next.{Next}
use Rattle.chain_moves.specs.declared.next.Next.TheVariants.{Enter as EnterNext, Leave as LeaveNext, Fuse as FuseNext}
use Rattle.chain_moves.specs.declared.turn.Turn.{Turn}
use Rattle.chain_moves.specs.declared.turn.Turn.TheVariants.{Enter, Leave, Fuse}
use Rattle.chain_moves.specs.declared.verdict.Verdict.{Verdict}
use Rattle.chain_moves.specs.declared.verdict.Verdict.TheVariants.{Refused, Plain, Reviving}

-- ---- bodies

-- no test holds, by what the instruction asks for
abbrev pub verdict_by : Effect → Verdict
verdict_by (Go rd value target) = Plain
verdict_by (Load rd at width signed) = Plain
verdict_by (Store at width value) = Reviving at width
verdict_by System = Plain

-- what the tests come to that answer an instruction, or the kind of the first that holds
abbrev pub verdict_of : Result Prepared Broken → Verdict
verdict_of (Ok prepared) = verdict_by prepared.effect
verdict_of (Err kind) = Refused kind

-- what is kept beside the board after a body that asked for this
abbrev pub revived_by : Watched → Effect → Watched
revived_by w effect = record w { dead = dead_after w.dead effect }

-- four bytes from an address on are in ROM, outside the slot
abbrev pub is_open : ℕ → Bool
is_open at = (nat_le slot_end at && nat_le at 0xFFFC) || nat_le at 0x3C

-- ---- the move

-- no interrupt is due, and no handler returns
abbrev pub is_body_due : State → Watched → Bool
is_body_due b w = not (due b.csrs (top b.outside.clic)) && (not (b.pc == back) || is_foreground w.live)

abbrev pub turn_of : Next → Turn
turn_of (EnterNext entry) = Enter entry
turn_of LeaveNext = Leave
turn_of (FuseNext entry) = Fuse entry
