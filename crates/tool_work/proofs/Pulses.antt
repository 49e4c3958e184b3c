-- Pulses, one after the other.
use Rattle.std.proofs.Common.{◌≡◌, ◌∙◌, ℕ, zero, suc, ◌+◌, ◌-◌, ◌<◌, ◌≤◌, List, [], ◌∷◌, ◌++◌, append_assoc, append-nil, refl, sym, ap, arith}
use Rattle.hart_board.specs.Event.{last_count}
use Rattle.hart_board.specs.declared.event.Event.{Event}
use Rattle.tool_work.specs.GenEvents.{next_number, pulse, pulses_from}

-- the count of the last of the events
pub last_added : (n : ℕ) (es : List Event) (e : Event) → last_count n (es ++ e ∷ []) ≡ e.at
last_added n [] e = refl
last_added n (x ∷ xs) e = last_added x.at xs e

-- one pulse less is left
pub one_pulse : (n e x : ℕ) (es more all : List Event) → e < n → more ≡ es ++ pulse e (next_number x) → es ++ pulses_from (n - e) e x ≡ all → more ++ pulses_from (n - (e + 1)) (e + 1) (next_number x) ≡ all
unfolding pulses_from
one_pulse n e x es more all less is h =
    let left : n - e ≡ suc (n - (e + 1)) = omega (arith, less) in
    let next : pulses_from (n - e) e x ≡ pulse e (next_number x) ++ pulses_from (n - (e + 1)) (e + 1) (next_number x) = ap (λ k. pulses_from k e x) left in
    rw is (append_assoc es (pulse e (next_number x)) (pulses_from (n - (e + 1)) (e + 1) (next_number x)) ∙ (rw next at h))

-- none is left
pub no_pulse : (n e x : ℕ) (es all : List Event) → n ≤ e → es ++ pulses_from (n - e) e x ≡ all → es ≡ all
unfolding pulses_from
no_pulse n e x es all past h =
    let left : n - e ≡ zero = omega (arith, past) in
    let none : pulses_from (n - e) e x ≡ [] = ap (λ k. pulses_from k e x) left in
    sym (append-nil es) ∙ (rw none at h)
