-- No instruction changes ROM, and no body makes a byte dead.
use Rattle.std.proofs.Common.{◌≡◌, ℕ, Bool, true, List, Result, Ok, subst}
use Rattle.device_model.specs.Meanings.{Meanings}
use Rattle.rv_encoding.specs.declared.instruction.Ins.{Ins}
use Rattle.hart_exec.specs.declared.effect.Effect.{Effect}
use Rattle.hart_exec.specs.declared.effect.Effect.TheVariants.{Go, Load, Store, System}
use Rattle.hart_memory.specs.Place.{place}
use Rattle.hart_board.specs.State.{State}
use Rattle.hart_board.specs.Attempt.{performed}
use Rattle.hart_board.specs.declared.event.Event.{Event}
use Rattle.hart_board.specs.declared.trap.Trap.{Trap}
use Rattle.hart_board.proofs.Keeping.{Of}
use Rattle.chain_moves.specs.Servicing.{Servicing}
use Rattle.chain_moves.specs.Bytes.{is_dead}
use Rattle.chain_moves.specs.Body.{hart, dead_after}
use Rattle.chain_moves.proofs.OneOfThree.{rom_stays}
use Rattle.chain_lint.proofs.Accesses.{revived_dead}

abbrev HasRom : List ℕ → State → Type 0
HasRom rom t = t.memory.rom ≡ rom

pub performed_rom : (m : Meanings) (es : List Event) (s : Servicing) (ins : Ins) (bits length : ℕ) (new : State) → performed m (hart s) ins bits length ≡ Ok new → new.memory.rom ≡ s.memory.rom
performed_rom m es s ins bits length new e = subst (λ (r : Result State Trap). Of (HasRom s.memory.rom) r) e (rom_stays m es s ins bits length)

pub dead_before : (dead : List Bool) (f : Effect) (j : ℕ) → is_dead (dead_after dead f) j ≡ true → is_dead dead j ≡ true
dead_before dead (Go rd value next) j h = h
dead_before dead (Load rd at width signed) j h = h
dead_before dead (Store at width value) j h = revived_dead dead (place at width) width j h
dead_before dead System j h = h
