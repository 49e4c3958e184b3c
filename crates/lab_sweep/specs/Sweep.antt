-- All chains of a scenario in which one event comes at each of some counts.
use Rattle.std.specs.Prelude.{ℕ, zero, suc, ◌+◌, ◌-◌, ◌%◌, ◌==◌, Bool, true, false, List, [], ◌∷◌, filter, nat_eq, if◌then◌else◌}
use Rattle.std.specs.List.{list_any}
use Rattle.std.specs.Cmp.Lexicographic.{pointwise}
use Rattle.board_outside.specs.Counts.{counted}
use Rattle.device_model.specs.Meanings.{Meanings}
use Rattle.hart_board.specs.State.{State}
use Rattle.hart_board.specs.declared.event.Event.{Event}
use Rattle.chain_core.specs.Chain.{chain_end, chain_text}
use Rattle.chain_core.specs.declared.chain_end.ChainEnd.{ChainEnd}
use Rattle.chain_core.specs.declared.chain_end.ChainEnd.TheVariants.{Done, BudgetSpent, SinkFailed, Broken}
use Rattle.chain_direct.specs.DirectText.{direct_end, direct_text}
use Rattle.chain_moves.specs.declared.dispatcher.Dispatcher.{Dispatcher}
use Rattle.lab_sweep.specs.declared.sweep.Sweep.{Sweep}
use Rattle.lab_sweep.specs.declared.counts.Counts.{Counts}
use Rattle.lab_sweep.specs.Moved.{moved}
use Rattle.lab_sweep.specs.Outcome.{outcome}

-- ---- counts

-- so many counts from one on
abbrev pub counts_from : ℕ → ℕ → List ℕ
counts_from zero count = []
counts_from (suc n) count = count ∷ counts_from n (count + 1)

-- the count is one of this part's
abbrev pub is_mine : Counts → ℕ → Bool
is_mine c count = count % c.parts == c.part

-- those of a part that aren't below `from` and not above `to`
unfoldable pub swept : Counts → List ℕ
swept c = filter (is_mine c) (counts_from (c.to + 1 - c.from) c.from)

-- ---- outcomes

-- what some counts gave: the outcome, how many, and the first
pub record Row : Type 0 where
  pub outcome : List ℕ
  pub counts : ℕ
  pub first : ℕ

-- one count more gave this outcome
abbrev pub with_outcome : ℕ → List ℕ → List Row → List Row
with_outcome count o [] = record { outcome = o; counts = 1; first = count } ∷ []
with_outcome count o (r ∷ rs) = if pointwise nat_eq o r.outcome then record r { counts = counted r.counts } ∷ rs else r ∷ with_outcome count o rs

-- the outcomes of counts, in the order in which they first came, after those that came before
abbrev pub outcomes_from : (ℕ → List ℕ) → List Row → List ℕ → List Row
outcomes_from f rows [] = rows
outcomes_from f rows (count ∷ counts) = outcomes_from f (with_outcome count (f count) rows) counts

-- ---- chains

-- the same board, of which nothing is kept
abbrev pub alone : State → State
alone b = record b { kept = [] }

-- what a chain writes without a trace: with direct services, or without
abbrev pub text_by : Bool → Meanings → List Event → Dispatcher → ℕ → State → List ℕ
text_by false m es d bound b = chain_text m es d false bound b
text_by true m es d bound b = direct_text m es d false bound b

-- how it ends
abbrev pub end_by : Bool → Meanings → List Event → Dispatcher → ℕ → State → ChainEnd
end_by false m es d bound b = (chain_end m es d bound b).end
end_by true m es d bound b = (direct_end m es d bound b).end

-- the outcome where the event comes at this count
unfoldable pub outcome_at : Meanings → List Event → Sweep → State → ℕ → List ℕ
outcome_at m es s b count = outcome (text_by s.direct m (moved s.place count es) s.dispatcher s.bound (alone b))

-- the outcomes of the chains that start from a board, one chain for each count
unfoldable pub outcomes : Meanings → List Event → Sweep → State → List Row
outcomes m es s b = outcomes_from (λ count. outcome_at m es s b count) [] (swept s.counts)

-- ---- ends

-- how the chain ends where the event comes at this count
unfoldable pub end_at : Meanings → List Event → Sweep → State → ℕ → ChainEnd
end_at m es s b count = end_by s.direct m (moved s.place count es) s.dispatcher s.bound (alone b)

-- the convention was broken
abbrev pub is_broken : ChainEnd → Bool
is_broken (Broken kind bodies) = true
is_broken (Done steps bodies services) = false
is_broken BudgetSpent = false
is_broken SinkFailed = false

-- the bound was reached
abbrev pub is_spent : ChainEnd → Bool
is_spent BudgetSpent = true
is_spent (Broken kind bodies) = false
is_spent (Done steps bodies services) = false
is_spent SinkFailed = false

-- at one of the counts a chain breaks the convention
abbrev pub any_broken : Meanings → List Event → Sweep → State → Bool
any_broken m es s b = list_any (λ count. is_broken (end_at m es s b count)) (swept s.counts)

-- at one of them a chain reaches its bound
abbrev pub any_spent : Meanings → List Event → Sweep → State → Bool
any_spent m es s b = list_any (λ count. is_spent (end_at m es s b count)) (swept s.counts)
