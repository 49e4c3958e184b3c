-- Counts of time add up.
use Rattle.std.proofs.Common.{◌≡◌, ◌≢◌, ℕ, ◌+◌, ◌%◌, ◌<◌, ◌⊎◌, List, cond, inl, inr, arith, refl, sym, ap, ◌∙◌, add_assoc}
use Rattle.std.proofs.Math.Nat.{mod-add-mod, mod-eq_of_lt}
use Rattle.std.specs.Prelude.{nat_le}
use Rattle.std.proofs.lemmas.Bool.Decides.{nat_tests}
use Rattle.device_model.specs.declared.stimulus.Stimulus.TheVariants.{Tick}
use Rattle.board_devices.specs.Ticker.{ticker_after, counted, count_of, period_of, enable_of, flag_of}
use Rattle.board_devices.specs.Laws.{TicksAddUp}

-- the count after two counts of time
counts_add_up : (count period n m : ℕ) → ((count + n) % period + m) % period ≡ (count + (n + m)) % period
counts_add_up count period n m = mod-add-mod (count + n) period m ∙ ap (λ x. x % period) (add_assoc count n m)

-- the flag after two counts of time: where the first doesn't reach the period, the second counts on from there
flags_add_up : (count period flag n m : ℕ) → cond (nat_le period ((count + n) % period + m)) 1 (cond (nat_le period (count + n)) 1 flag) ≡ cond (nat_le period (count + (n + m))) 1 flag
flags_add_up count period flag n m =
    let short : count + n < period → (count + n) % period ≡ count + n = λ l. mod-eq_of_lt l in
    grind (arith, nat_tests)

counted_twice : (s : List ℕ) (n m : ℕ) → counted (counted s n) m ≡ counted s (n + m)
counted_twice s n m = rw (counts_add_up (count_of s) (period_of s) n m, flags_add_up (count_of s) (period_of s) (flag_of s) n m) refl

off : (s : List ℕ) (n : ℕ) → (enable_of s ≡ 0) ⊎ (period_of s ≡ 0) → ticker_after s (Tick n) ≡ s
off s n (inl e) = grind (arith, nat_tests)
off s n (inr e) = grind (arith, nat_tests)

on : (s : List ℕ) (n : ℕ) → enable_of s ≢ 0 → period_of s ≢ 0 → ticker_after s (Tick n) ≡ counted s n
on s n e p = grind (arith, nat_tests)

cases : (e p : ℕ) → ((e ≡ 0) ⊎ (p ≡ 0)) ⊎ ((e ≢ 0) × (p ≢ 0))
cases e p = grind (arith, nat_tests)

pub ticks_add_up : TicksAddUp
ticks_add_up s n m st = elim (cases (enable_of s) (period_of s)) [
  | inl idle ↦ ap (λ x. ticker_after x (Tick m)) (off s n idle) ∙ off s m idle ∙ sym (off s (n + m) idle)
  | inr runs ↦ ap (λ x. ticker_after x (Tick m)) (on s n runs.0 runs.1) ∙ on (counted s n) m runs.0 runs.1 ∙ counted_twice s n m ∙ sym (on s (n + m) runs.0 runs.1)
]
