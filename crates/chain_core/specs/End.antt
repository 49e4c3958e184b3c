-- How a run ends whose steps of the board are bounded, and the services within the bound.
use Rattle.std.specs.Prelude.{◌≡◌, ◌<◌, ◌≤◌, ℕ, zero, suc, ◌+◌, Bool, true, false, nat_le, List, ◌∷◌, length}
use Rattle.chain_moves.specs.Machine.{When, Before, Within, After, Makes, Breaks, Ends, Machine}
use Rattle.chain_moves.specs.Run.{Made, Run, On, Broke, Over, run_to, Leads}
use Rattle.chain_moves.specs.Cost.{cost}
use Rattle.chain_moves.specs.declared.dispatcher.Dispatcher.{Dispatcher}
pub use Rattle.chain_core.specs.declared.ended.Ended.{Ended}
use Rattle.chain_core.specs.declared.chain_end.ChainEnd.{ChainEnd}
use Rattle.chain_core.specs.declared.chain_end.ChainEnd.TheVariants.{Done, BudgetSpent, SinkFailed, Broken as BrokenOff}
use Rattle.chain_moves.specs.declared.broken.Broken.{Broken}

-- the steps that are made when a test is made, and those that it takes to make it: a test whether an instruction raises takes the step that it doesn't make
abbrev pub steps_before : When → ℕ → ℕ
steps_before Before steps = steps
steps_before Within steps = steps
steps_before After steps = steps + 1

abbrev pub steps_needed : When → ℕ → ℕ
steps_needed Before steps = steps
steps_needed Within steps = steps + 1
steps_needed After steps = steps + 1

-- an end, where the bound reaches to it
abbrev pub end_by : Bool → ChainEnd → ℕ → ℕ → Ended
end_by true end steps bound = record { end = end; steps = steps }
end_by false end steps bound = record { end = BudgetSpent; steps = bound }

abbrev pub end_of : {K S E : Type 0} → Machine K S E → Dispatcher → ℕ → Run K S → Ended
end_of x d bound (On made s) = record { end = BudgetSpent; steps = bound }
end_of x d bound (Broke made when kind bodies) = end_by (nat_le (steps_needed when (cost x d made)) bound) (BrokenOff kind bodies) (steps_before when (cost x d made)) bound
end_of x d bound (Over made s) = end_by (nat_le (cost x d made) bound) (Done (cost x d made) (x.bodies s) (length (x.services s))) (cost x d made) bound

-- how the run from a state ends. Each move costs a step at least, so that as many moves as the bound and one reach beyond it
unfoldable pub end_at : {K S E : Type 0} → Machine K S E → Dispatcher → ℕ → S → Ended
end_at x d bound s = end_of x d bound (run_to x s (suc bound))

-- ---- the same in words

-- after some moves the board has halted with no service live, and the bound reaches to there
pub record IsDone {K S E : Type 0} (x : Machine K S E) (d : Dispatcher) (bound : ℕ) (s : S) (steps bodies services : ℕ) : Type 0 where
  pub made : List (Made K)
  pub state : S
  pub leads : Leads x made s state
  pub ends : x.move state ≡ Ends
  pub within : cost x d made ≤ bound
  pub steps_are : steps ≡ cost x d made
  pub bodies_are : bodies ≡ x.bodies state
  pub services_are : services ≡ length (x.services state)

-- after some moves a test holds, and the bound reaches to it
pub record IsBroken {K S E : Type 0} (x : Machine K S E) (d : Dispatcher) (bound : ℕ) (s : S) (kind : Broken) (bodies : ℕ) : Type 0 where
  pub made : List (Made K)
  pub state : S
  pub when : When
  pub leads : Leads x made s state
  pub breaks : x.move state ≡ Breaks when kind bodies
  pub within : steps_needed when (cost x d made) ≤ bound

-- after no moves comes either of them, but beyond the bound
pub record IsBeyond {K S E : Type 0} (x : Machine K S E) (d : Dispatcher) (bound : ℕ) (s : S) (made : List (Made K)) (t : S) : Type 0 where
  pub halt : x.move t ≡ Ends → bound < cost x d made
  pub test : (when : When) (kind : Broken) (bodies : ℕ) → x.move t ≡ Breaks when kind bodies → bound < steps_needed when (cost x d made)

abbrev pub EndsAs : {K S E : Type 0} → Machine K S E → Dispatcher → ℕ → S → ChainEnd → Type 0
EndsAs x d bound s (Done steps bodies services) = IsDone x d bound s steps bodies services
EndsAs x d bound s (BrokenOff kind bodies) = IsBroken x d bound s kind bodies
EndsAs {K = K} {S = S} x d bound s BudgetSpent = (made : List (Made K)) (t : S) → Leads x made s t → IsBeyond x d bound s made t
EndsAs x d bound s SinkFailed = ⊥

-- ---- the services whose Enter has a cost of at most the bound

abbrev pub services_by : {E : Type 0} → Bool → List E → List E → List E
services_by true new old = new
services_by false new old = old

-- those of a run that has come so far, where the bound reaches so far, else those before
abbrev pub services_of : {K S E : Type 0} → Machine K S E → Dispatcher → ℕ → Run K S → List E → List E
services_of x d bound (On made s) old = services_by (nat_le (cost x d made) bound) (x.services s) old
services_of x d bound (Broke made when kind bodies) old = old
services_of x d bound (Over made s) old = old

unfoldable pub services_to : {K S E : Type 0} → Machine K S E → Dispatcher → ℕ → S → ℕ → List E
services_to x d bound s zero = x.services s
services_to x d bound s (suc n) = services_of x d bound (run_to x s (suc n)) (services_to x d bound s n)

unfoldable pub services_within : {K S E : Type 0} → Machine K S E → Dispatcher → ℕ → S → List E
services_within x d bound s = services_to x d bound s (suc bound)

-- the same in words: those after the last moves that the bound reaches to
pub record IsListed {K S E : Type 0} (x : Machine K S E) (d : Dispatcher) (bound : ℕ) (s : S) (listed : List E) : Type 0 where
  pub made : List (Made K)
  pub state : S
  pub leads : Leads x made s state
  pub within : cost x d made ≤ bound
  pub last : (kind : K) (t : S) → x.move state ≡ Makes kind t → bound < cost x d (record { kind = kind; claims = x.claims t } ∷ made)
  pub listed_are : listed ≡ x.services state
