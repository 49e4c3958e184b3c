-- A chain on a board that keeps its start: its text and its end are those of the board, which then goes back.
use Rattle.std.proofs.Common.{◌≡◌, ℕ, suc, ◌+◌, ◌-◌, ◌<◌, ◌≤◌, Bool, true, false, List, [], ◌∷◌, ◌++◌, take, refl, sym, ap, ◌∙◌, arith}
use Rattle.std.specs.Prelude.{◌||◌, filter, if◌then◌else◌}
use Rattle.std.specs.List.{list_any}
use Rattle.board_outside.specs.Sink.{Writes}
use Rattle.hart_memory.specs.declared.address_map.TheConstants.{MAX_KEPT}
use Rattle.device_model.specs.Meanings.{Meanings}
use Rattle.hart_board.specs.State.{Moment, State, moment, with_kept, back_to, gone_back}
use Rattle.hart_board.specs.declared.event.Event.{Event}
use Rattle.chain_moves.specs.declared.dispatcher.Dispatcher.{Dispatcher}
use Rattle.chain_core.specs.declared.ended.Ended.{Ended}
use Rattle.chain_core.specs.Chain.{is_whole}
use Rattle.chain_core.specs.declared.chain_end.ChainEnd.{ChainEnd}
use Rattle.chain_core.specs.declared.chain_end.ChainEnd.TheVariants.{Done, BudgetSpent, SinkFailed, Broken}
use Rattle.lab_sweep.specs.Sink.{TextState, sink_view}
use Rattle.lab_sweep.specs.declared.sweep.Sweep.{Sweep}
use Rattle.lab_sweep.specs.Moved.{moved}
use Rattle.lab_sweep.specs.Outcome.{outcome}
use Rattle.lab_sweep.specs.Sweep.{alone, counts_from, text_by, end_by, outcome_at, end_at}
use Rattle.lab_sweep.proofs.NotRead.{chain_same, end_same, direct_same, direct_end_same}

-- a board that kept its state as the only one goes back to it
pub back_again : (b s : State) → b.kept ≡ [] → s.kept ≡ (with_kept b).kept → gone_back s ≡ b
back_again b s none same =
    ap (back_to s) (same ∙ ap (λ (ks : List Moment). take MAX_KEPT (moment b ∷ ks)) none) ∙ ap (λ (ks : List Moment). record b { kept = ks }) (sym none)

pub text_kept : (m : Meanings) (es : List Event) (d : Dispatcher) (bound : ℕ) (b : State) (direct : Bool) → text_by direct m es d bound (with_kept b) ≡ text_by direct m es d bound b
text_kept m es d bound b false = chain_same m (with_kept b).kept es d false bound b
text_kept m es d bound b true = direct_same m (with_kept b).kept es d false bound b

pub end_kept : (m : Meanings) (es : List Event) (d : Dispatcher) (bound : ℕ) (b : State) (direct : Bool) → end_by direct m es d bound (with_kept b) ≡ end_by direct m es d bound b
end_kept m es d bound b false = ap (λ (e : Ended). e.end) (end_same m (with_kept b).kept es d false bound b)
end_kept m es d bound b true = ap (λ (e : Ended). e.end) (direct_end_same m (with_kept b).kept es d false bound b)

pub whole_unless : (end : ChainEnd) → (end ≡ SinkFailed → ⊥) → is_whole end ≡ true
whole_unless (Done steps bodies services) h = refl
whole_unless BudgetSpent h = refl
whole_unless (Broken kind bodies) h = refl
whole_unless SinkFailed h = absurd (h refl)

-- what a chain on a board that kept its start wrote into an empty text is what the board's chain writes
pub text_told : (m : Meanings) (es : List Event) (d : Dispatcher) (bound : ℕ) (b kept : State) (direct : Bool) (old new : TextState) → kept ≡ with_kept b → old ≡ record { text = []; faults = 0 }
    → Writes true (sink_view old) (sink_view new) (text_by direct m es d bound kept) → new.text ≡ text_by direct m es d bound b
text_told m es d bound b kept direct old new is empty w =
    w.bytes
    ∙ ap (λ (t : TextState). t.text ++ text_by direct m es d bound kept) empty
    ∙ ap (text_by direct m es d bound) is
    ∙ text_kept m es d bound b direct

pub end_told : (m : Meanings) (es : List Event) (d : Dispatcher) (bound : ℕ) (b kept : State) (direct : Bool) (end : ChainEnd) → kept ≡ with_kept b → end ≡ end_by direct m es d bound kept → end ≡ end_by direct m es d bound b
end_told m es d bound b kept direct end is e = e ∙ ap (end_by direct m es d bound) is ∙ end_kept m es d bound b direct

pub went_back : (b kept after new : State) → b.kept ≡ [] → kept ≡ with_kept b → after.kept ≡ kept.kept → new ≡ gone_back after → new ≡ b
went_back b kept after new none is stays back = back ∙ back_again b after none (stays ∙ ap (λ (s : State). s.kept) is)

-- ---- over the counts

any_by : (p mine : ℕ → Bool) (n count : ℕ) (t : Bool) → mine count ≡ t → list_any p (filter mine (counts_from (suc n) count)) ≡ (if t then (p count || list_any p (filter mine (counts_from n (count + 1)))) else list_any p (filter mine (counts_from n (count + 1))))
any_by p mine n count true e = rw e refl
any_by p mine n count false e = rw e refl

or_assoc : (a b c : Bool) → ((a || b) || c) ≡ (a || (b || c))
or_assoc true b c = refl
or_assoc false b c = refl

-- a count that is the part's
pub any_taken : (p mine : ℕ → Bool) (so_far : Bool) (end count : ℕ) → count < end → mine count ≡ true
    → ((so_far || p count) || list_any p (filter mine (counts_from (end - (count + 1)) (count + 1)))) ≡ (so_far || list_any p (filter mine (counts_from (end - count) count)))
any_taken p mine so_far end count early is =
    let e : suc (end - (count + 1)) ≡ end - count = omega (arith, early) in
    or_assoc so_far (p count) (list_any p (filter mine (counts_from (end - (count + 1)) (count + 1))))
    ∙ ap (λ x. so_far || x) (sym (any_by p mine (end - (count + 1)) count true is) ∙ ap (λ n. list_any p (filter mine (counts_from n count))) e)

-- one that isn't
pub any_passed : (p mine : ℕ → Bool) (so_far : Bool) (end count : ℕ) → count < end → mine count ≡ false
    → (so_far || list_any p (filter mine (counts_from (end - (count + 1)) (count + 1)))) ≡ (so_far || list_any p (filter mine (counts_from (end - count) count)))
any_passed p mine so_far end count early is =
    let e : suc (end - (count + 1)) ≡ end - count = omega (arith, early) in
    ap (λ x. so_far || x) (sym (any_by p mine (end - (count + 1)) count false is) ∙ ap (λ n. list_any p (filter mine (counts_from n count))) e)

-- ---- a board of which nothing is kept

pub outcome_alone : (m : Meanings) (es : List Event) (s : Sweep) (b own : State) (count : ℕ) → own ≡ alone b → outcome_at m es s own count ≡ outcome_at m es s b count
unfolding outcome_at
outcome_alone m es s b own count is = ap (λ (t : State). outcome (text_by s.direct m (moved s.place count es) s.dispatcher s.bound (alone t))) is

pub end_alone : (m : Meanings) (es : List Event) (s : Sweep) (b own : State) (count : ℕ) → own ≡ alone b → end_at m es s own count ≡ end_at m es s b count
unfolding end_at
end_alone m es s b own count is = ap (λ (t : State). end_by s.direct m (moved s.place count es) s.dispatcher s.bound (alone t)) is
