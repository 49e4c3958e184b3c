-- The moves that dispatch code makes, in the chain's run.
use Rattle.std.proofs.Common.{◌≡◌, ℕ, suc, ◌+◌, ◌<◌, ◌≤◌, ◌≢◌, false, true, List, [], ◌∷◌, ◌++◌, Some, None, refl, ap, arith}
use Rattle.device_model.specs.Meanings.{Meanings}
use Rattle.clic_select.specs.Top.{top}
use Rattle.clic_select.specs.declared.choice.Choice.{Choice}
use Rattle.clic_trap.specs.Due.{is_above}
use Rattle.hart_board.specs.State.{State}
use Rattle.hart_board.specs.Run.{Stand}
use Rattle.hart_board.specs.Steps.{told_to, GoesOnBefore}
use Rattle.hart_board.specs.declared.event.Event.{Event}
use Rattle.hart_report.specs.declared.stepped.Stepped.{Stepped}
use Rattle.chain_moves.specs.Slot.{back}
use Rattle.chain_moves.specs.Servicing.{Live, Servicing, marks, innermost_level}
use Rattle.chain_moves.specs.Enter.{is_enter_due, table_address, entered}
use Rattle.chain_moves.specs.Leave.{left}
use Rattle.chain_moves.specs.Cost.{is_fused}
use Rattle.chain_moves.specs.Judge.{claims_above}
use Rattle.chain_moves.specs.Beside.{Rest, board_of}
use Rattle.chain_moves.specs.Related.{Related}
use Rattle.chain_core.specs.Walk.{Walk, walked}
use Rattle.chain_core.specs.ChainRun.{is_body, chained_at, Read, read_to}
use Rattle.chain_moves.specs.declared.dispatcher.Dispatcher.{Dispatcher}
use Rattle.chain_moves.specs.declared.dispatcher.Dispatcher.TheVariants.{Looping}
use Rattle.chain_moves.specs.declared.moves.Move.TheVariants.{Leave}
use Rattle.chain_core.proofs.EnterRuns.{rest_entered, retired, before_call, enter_told, enter_runs}
use Rattle.chain_core.proofs.LeaveRuns.{rest_left, after_back, leave_told, leave_runs}
use Rattle.chain_core.proofs.FusedRuns.{Untested, mid, rest_fused, five_told, two_told, five_runs, two_runs}
use Rattle.chain_core.proofs.Walks.{are_dispatch, walk_stands, walk_told, walk_goes, walk_count}
use Rattle.chain_core.proofs.Readings.{with_return, read_front, read_call, read_return}

-- a service is listed as it is called
abbrev pub with_service : Read → Choice → Read
with_service r t = record { depth = suc r.depth; services = r.services ++ record { number = t.id; level = t.level; depth = suc r.depth } ∷ [] }

-- n steps of the run after the first k: where it stands then, what became of them, that the run goes on, and what is read off
pub record InRun (m : Meanings) (es : List Event) (b : State) (k n count : ℕ) (new : State) (ts : List Stepped) (inside after : Read) : Type 0 where
  pub stands : chained_at m es b (k + n) ≡ record { count = count; board = new }
  pub told : told_to m is_body es b (k + n) ≡ told_to m is_body es b k ++ ts
  pub goes : GoesOnBefore m is_body es b k → GoesOnBefore m is_body es b (k + n)
  -- inside, and at the end
  pub counted : (j : ℕ) → j ≤ n → (chained_at m es b (k + j)).count ≡ count
  pub read_inside : (j : ℕ) → 0 < j → j < n → read_to m es b (k + j) ≡ inside
  pub read_after : read_to m es b (k + n) ≡ after

module _ (m : Meanings) (es : List Event) (b : State) (k c : ℕ) where
  -- by a walk, and what is read off it
  by_walk : (n : ℕ) (a new : State) (ts : List Stepped) (inside after : Read) → chained_at m es b k ≡ record { count = c; board = a } → walked m n a ≡ record { told = ts; state = new } → are_dispatch ts ≡ true → ((j : ℕ) → 0 < j → j < n → read_to m es b (k + j) ≡ inside) → read_to m es b (k + n) ≡ after
      → InRun m es b k n c new ts inside after
  by_walk n a new ts inside after stands walk dispatch within read = record {
    stands = walk_stands m es b n k c a _ stands walk dispatch;
    told = walk_told m es b n k c a _ stands walk dispatch;
    goes = walk_goes m es b n k c a _ stands walk dispatch;
    counted = λ j l. ap (λ (q : Stand). q.count) (walk_count m es b n k c a _ stands walk dispatch j l);
    read_inside = within;
    read_after = read;
  }

  module _ (d : Dispatcher) (s : Servicing) (x : Rest) (r : Related m d s x) (goes : m.halted s.outside.device ≡ None) (stands : chained_at m es b k ≡ record { count = c; board = board_of s x }) where
    pub enter_in_run : (t : Choice) → top s.outside.clic ≡ Some t → is_enter_due s (Some t) ≡ true → Untested t s
        → InRun m es b k 14 c (board_of (entered s t) (rest_entered s x t)) (enter_told d s t) (read_to m es b k) (with_service (read_to m es b k) t)
    unfolding entered marks
    enter_in_run t is_top is_due none =
        let walk = (enter_runs m d s x t r goes is_top is_due none).walk in
        by_walk 14 (board_of s x) _ (enter_told d s t) _ _ stands walk refl
        (λ j some l. read_front m es b 14 k c (board_of s x) stands (before_call d s t) (retired d 12 ∷ []) j (ap (λ (w : Walk). w.told) walk) refl refl (let e : j ≤ 13 = omega arith in e))
        (read_call m es b 14 k c (board_of s x) stands (before_call d s t) _ 4 _ walk refl refl)

    pub leave_in_run : (v : Live) (vs : List Live) → s.live ≡ v ∷ vs → s.pc ≡ back → is_enter_due s (top s.outside.clic) ≡ false → is_fused d Leave (claims_above (top s.outside.clic) (innermost_level (marks vs)) s.threshold) ≡ false
        → InRun m es b k 16 c (board_of (left s v vs) (rest_left x v vs)) (leave_told d) (with_return (read_to m es b k)) (with_return (read_to m es b k))
    leave_in_run v vs live at no_enter none =
        let walk = leave_runs m d s x v vs r goes live at no_enter none in
        let read : (j : ℕ) → 0 < j → j ≤ 16 → read_to m es b (k + j) ≡ with_return (read_to m es b k) = λ j some l. read_return m es b 16 k c (board_of s x) stands _ 4 (after_back d) [] j (ap (λ (w : Walk). w.told) walk) refl refl some l in
        by_walk 16 (board_of s x) _ (leave_told d) _ _ stands walk refl (λ j some l. read j some (omega arith)) (read 16 (omega arith) (omega arith))

  -- ---- a Leave and the Enter that it is fused with
  module _ (s : Servicing) (x : Rest) (v : Live) (vs : List Live) (t : Choice) (r : Related m Looping s x) (goes : m.halted s.outside.device ≡ None) (live : s.live ≡ v ∷ vs) (at : s.pc ≡ back) (is_top : top s.outside.clic ≡ Some t) where
    -- the five steps, whatever the address of the table's word is; the board is `mid` then where it isn't 0
    pub five_in_run : chained_at m es b k ≡ record { count = c; board = board_of s x } → is_enter_due s (top s.outside.clic) ≡ false → t.shv ≡ false → is_above t (innermost_level (marks vs)) s.threshold ≡ true
        → InRun m es b k 5 c (walked m 5 (board_of s x)).state five_told (with_return (read_to m es b k)) (with_return (read_to m es b k))
    five_in_run stands no_enter soft over =
        let told = (five_runs m s x v vs t r goes live at is_top no_enter soft over).told in
        let walk : walked m 5 (board_of s x) ≡ record { told = five_told; state = (walked m 5 (board_of s x)).state } = ap (λ ts. record { told = ts; state = (walked m 5 (board_of s x)).state }) told in
        let read : (j : ℕ) → 0 < j → j ≤ 5 → read_to m es b (k + j) ≡ with_return (read_to m es b k) = λ j some l. read_return m es b 5 k c (board_of s x) stands _ 4 (retired Looping 14 ∷ retired Looping 15 ∷ retired Looping 16 ∷ retired Looping 17 ∷ []) [] j told refl refl some l in
        by_walk 5 (board_of s x) _ five_told _ _ stands walk refl (λ j some l. read j some (omega arith)) (read 5 (omega arith) (omega arith))

    pub mid_in_run : is_enter_due s (top s.outside.clic) ≡ false → t.shv ≡ false → is_above t (innermost_level (marks vs)) s.threshold ≡ true → table_address s.table t.id ≢ 0 → (walked m 5 (board_of s x)).state ≡ mid s x vs t
    mid_in_run no_enter soft over nonzero = ap (λ (w : Walk). w.state) ((five_runs m s x v vs t r goes live at is_top no_enter soft over).walk nonzero)

    -- the two steps after it
    pub two_in_run : chained_at m es b k ≡ record { count = c; board = mid s x vs t } → Untested t (left s v vs)
        → InRun m es b k 2 c (board_of (entered (left s v vs) t) (rest_fused x vs t)) two_told (read_to m es b k) (with_service (read_to m es b k) t)
    unfolding entered marks
    two_in_run stands none =
        let walk = two_runs m s x v vs t r goes live at is_top none in
        by_walk 2 (mid s x vs t) _ two_told _ _ stands walk refl
        (λ j some l. read_front m es b 2 k c (mid s x vs t) stands (retired Looping 11 ∷ []) (retired Looping 12 ∷ []) j (ap (λ (w : Walk). w.told) walk) refl refl (let e : j ≤ 1 = omega arith in e))
        (read_call m es b 2 k c (mid s x vs t) stands (retired Looping 11 ∷ []) _ 4 _ walk refl refl)
