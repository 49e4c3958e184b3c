-- How long the foreground stands still under the looping dispatcher, which fuses a Leave with the Enter after it.
use Rattle.std.specs.Prelude.{◌≤◌, ℕ, ◌+◌, ◌-◌, ◌*◌, min, nat_le, List, [], ◌∷◌, if◌then◌else◌}
use Rattle.device_model.specs.Meanings.{Meanings}
use Rattle.hart_board.specs.State.{State}
use Rattle.hart_board.specs.declared.event.Event.{Event}
use Rattle.chain_moves.specs.Servicing.{Service, Servicing}
use Rattle.chain_moves.specs.Run.{Made}
use Rattle.chain_moves.specs.Cost.{enter_cost, leave_cost, fused_enter_cost, fused_leave_cost, cost}
use Rattle.chain_moves.specs.Moves.{servicing_machine}
use Rattle.chain_moves.specs.declared.dispatcher.Dispatcher.TheVariants.{Looping}
use Rattle.chain_moves.specs.declared.moves.Move.{Move}
use Rattle.chain_flow.specs.declared.region.Region.{Region}
use Rattle.chain_lint.specs.declared.uses.Use.{Use}
use Rattle.chain_time.specs.Stretch.{IsBurst}
use Rattle.chain_time.specs.Counts.{Timed, worth, burst}
use Rattle.chain_time.specs.Response.{IsCountedRun}

-- the steps that are saved where a Leave and the Enter after it are fused
abbrev pub saving : ℕ
saving = enter_cost + leave_cost - (fused_enter_cost + fused_leave_cost)

-- one service of an input: at the lowest level, it begins where another has left
abbrev pub looping_worth : ℕ → Timed → ℕ
looping_worth low r = if nat_le r.level low then fused_enter_cost + r.path + fused_leave_cost else worth r

-- the sum over the inputs
unfoldable pub looping_time : ℕ → List Timed → ℕ
looping_time low [] = 0
looping_time low (r ∷ rs) = r.count * looping_worth low r + looping_time low rs

-- the lowest level of a list
unfoldable pub lowest : List Timed → ℕ
lowest [] = 255
lowest (r ∷ rs) = min r.level (lowest rs)

-- how long the foreground stands still: of the services at the lowest level all but the first are fused with the one before them
abbrev pub looping_burst : List Timed → ℕ
looping_burst rs = min (burst rs) (looping_time (lowest rs) rs + saving)

-- ---- what that means for services

-- each of these services has at least that level
abbrev pub AreFrom : ℕ → List Service → Type 0
AreFrom low [] = Unit {0}
AreFrom low (e ∷ begun) = (low ≤ e.level) × AreFrom low begun

-- where no service has a level below those of the list, the foreground stands still for at most that
abbrev pub LoopingBurstIsBounded : Meanings → Type 0
LoopingBurstIsBounded m =
    (es : List Event) (code : List ℕ) (region : Region) (us : List Use) (paths : ℕ → ℕ) (rs : List Timed) (b : State) (i n : ℕ) (before made : List (Made Move)) (s t : Servicing)
    → (r : IsCountedRun m es code region us paths rs b i i n before made s t) → IsBurst m es b i n s → AreFrom (lowest rs) r.counted.begun
    → cost (servicing_machine m es) Looping made ≤ cost (servicing_machine m es) Looping before + looping_burst rs
