-- A run to which nothing comes from outside, and an exit by `?`.
use Rattle.std.proofs.Common.{◌≡◌, ℕ, [], Result, Ok, Err, refl}
use Rattle.std.proofs.lemmas.Bool.{false≢true}
use Rattle.std.specs.Prelude.{OnOk, OnErr}
use Rattle.std.specs.Result.{IsErr}
use Rattle.device_model.specs.Meanings.{Meanings}
use Rattle.hart_board.specs.State.{State}
use Rattle.hart_board.specs.Event.{with_events, events_outside}

pub nothing_comes : (m : Meanings) (count : ℕ) (s : State) → s ≡ with_events m count [] s
unfolding with_events events_outside
nothing_comes m count s = refl

pub not_ok : {V E : Type 0} (X : Type 0) (r : Result V E) → IsErr r → OnOk r X
not_ok X (Ok v) e = absurd (false≢true e)
not_ok X (Err d) e = tt

pub is_err : {V E Y : Type 0} (r : Result V E) → Y → IsErr r → OnErr r Y
is_err (Ok v) y e = absurd (false≢true e)
is_err (Err d) y e = y
