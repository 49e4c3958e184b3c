-- The way to a place, seen from its beginning.
use Rattle.std.proofs.Common.{◌≡◌, ℕ, zero, suc, ◌+◌, ◌-◌, ◌<◌, ◌≤◌, Bool, true, false, List, [], ◌∷◌, Option, Some, None, refl, sym, ap, subst, ◌∙◌, arith}
use Rattle.std.specs.Prelude.{◌==◌, IfSome}
use Rattle.device_model.specs.Meanings.{Meanings}
use Rattle.hart_memory.specs.Memory.{Memory}
use Rattle.hart_board.specs.declared.event.Event.{Event}
use Rattle.lab_positions.specs.Position.{Position, next, after}
use Rattle.lab_positions.specs.Watching.{first_changed}
use Rattle.lab_positions.specs.Sought.{Search, is_break, is_until}
use Rattle.lab_positions.specs.Places.{IsFrom, position_at}
use Rattle.lab_positions.specs.Forward.{Stopped, stopped, first_of, watch_stop, stop_if}
use Rattle.lab_positions.specs.Backward.{back_reason, found_at, later_or, latest, found_or, way_back, backward}
use Rattle.lab_positions.specs.Looking.{shown, newer, else_found, back_why, back_steps, WatchIsSame}
use Rattle.lab_positions.specs.declared.found.Found.{Found}
use Rattle.lab_positions.specs.declared.timing.Timing.{Timing}
use Rattle.lab_positions.specs.declared.stop.Stop.{Stop}
use Rattle.lab_positions.specs.declared.stop.Stop.TheVariants.{Break, Until}
use Rattle.lab_positions.proofs.Watches.{changed_same}
use Rattle.lab_positions.proofs.Times.{from_base, from_next}

later_shown : (later : Option Stopped) (why : Option Stop) (p : Position) (found : Option Found) → else_found (shown (later_or later (found_at why p))) found ≡ else_found (shown later) (newer why p.steps found)
later_shown (Some s) why p found = refl
later_shown None (Some why) p found = refl
later_shown None None p found = refl

pub none_after : (found : Option Found) → else_found found None ≡ found
none_after (Some found) = refl
none_after None = refl

pub same_told : (search : Search) (before after : Memory) (is_break is_until : Bool) (changed : Option ℕ) → first_changed before after search.watches ≡ changed
    → WatchIsSame search before after (first_of (watch_stop changed ∷ stop_if is_break Break ∷ stop_if is_until Until ∷ []))
same_told search before after is_break is_until (Some at) e = tt
same_told search before after true is_until None e = e
same_told search before after false true None e = e
same_told search before after false false None e = e

module _ (m : Meanings) (timing : Timing) (es : List Event) (search : Search) where
  -- the memory before may be any that agrees with it on what is watched
  pub back_same : (old after : Memory) (here : Position) → first_changed old here.stand.board.memory search.watches ≡ None
      → first_of (watch_stop (first_changed old after search.watches) ∷ stop_if (is_break here.stand.board.pc search.breaks) Break ∷ stop_if (is_until search.until here) Until ∷ []) ≡ back_reason search here after
  unfolding back_reason
  back_same old after here e =
      ap (λ c. first_of (watch_stop c ∷ stop_if (is_break here.stand.board.pc search.breaks) Break ∷ stop_if (is_until search.until here) Until ∷ []))
      (changed_same old here.stand.board.memory after search.watches e)

  -- one place is passed
  pub one_looked : (n k : ℕ) (p q : Position) (why : Option Stop) (found : Option Found) → k < n → q ≡ next m timing es p → why ≡ back_reason search p q.stand.board.memory
      → else_found (shown (latest m timing es search (n - k) p)) found ≡ else_found (shown (latest m timing es search (n - (k + 1)) q)) (newer why p.steps found)
  unfolding latest
  one_looked n k p q why found more e r =
      let left : n - k ≡ suc (n - (k + 1)) = omega (arith, more) in
      rw left (
      ap (λ h. else_found (shown (later_or (latest m timing es search (n - (k + 1)) h) (found_at (back_reason search p h.stand.board.memory) p))) found) (sym e)
      ∙ ap (λ w. else_found (shown (later_or (latest m timing es search (n - (k + 1)) q) (found_at w p))) found) (sym r)
      ∙ later_shown (latest m timing es search (n - (k + 1)) q) why p found)

  pub all_looked : (n k : ℕ) (p : Position) (found : Option Found) → n ≤ k → else_found (shown (latest m timing es search (n - k) p)) found ≡ found
  unfolding latest
  all_looked n k p found l = let none : n - k ≡ 0 = omega (arith, l) in rw none refl

  -- what is found is on the way
  abbrev IsOnWay : Position → Option Stopped → Type 0
  IsOnWay base (Some s) = IsFrom m timing es base s.at
  IsOnWay base None = Unit {0}

  later_on_way : (base : Position) (later : Option Stopped) (why : Option Stop) (p : Position) → IsOnWay base later → IsFrom m timing es base p → IsOnWay base (later_or later (found_at why p))
  later_on_way base (Some s) why p w from = w
  later_on_way base None (Some why) p w from = from
  later_on_way base None None p w from = tt

  latest_on_way : (base : Position) (n : ℕ) (p : Position) → IsFrom m timing es base p → IsOnWay base (latest m timing es search n p)
  unfolding latest
  latest_on_way base zero p from = tt
  latest_on_way base (suc n) p from =
      later_on_way base (latest m timing es search n (next m timing es p)) (back_reason search p (next m timing es p).stand.board.memory) p
      (latest_on_way base n (next m timing es p) (from_next m timing es base p from)) from

  stands_by : (base : Position) (o : Option Stopped) (whole : Bool) (low : ℕ) → IsOnWay base o
      → stopped (back_why whole (shown o)) (position_at m timing es base (back_steps low (shown o))) ≡ found_or o whole (position_at m timing es base low)
  stands_by base (Some s) whole low w = ap (stopped s.why) (sym w.1)
  stands_by base None whole low w = refl

  later_by : (base : Position) (o : Option Stopped) → IsOnWay base o → IfSome (shown o) (λ f. base.steps ≤ f.steps)
  later_by base (Some s) w = w.0
  later_by base None w = tt

  from_after : (base : Position) (n : ℕ) → IsFrom m timing es base (after m timing es base n)
  unfolding after
  from_after base zero = from_base m timing es base
  from_after base (suc n) = from_next m timing es base (after m timing es base n) (from_after base n)

  module _ (base : Position) (low way : ℕ) (found : Option Found) (e : found ≡ shown (latest m timing es search way (position_at m timing es base low))) where
    pub back_later : IfSome found (λ f. base.steps ≤ f.steps)
    back_later =
        let low_place = position_at m timing es base low in
        subst (λ x. IfSome x (λ f. base.steps ≤ f.steps)) (sym e) (later_by base (latest m timing es search way low_place) (latest_on_way base way low_place (from_after base (low - base.steps))))

    pub back_stands : (most : ℕ) (here : Position) (whole : Bool) → way ≡ way_back most base here → low ≡ here.steps - way → whole ≡ (way == here.steps - base.steps)
        → stopped (back_why whole found) (position_at m timing es base (back_steps low found)) ≡ backward m timing es search most base here
    unfolding backward
    back_stands most here whole way_is low_is whole_is =
        let low_place = position_at m timing es base low in
        let wb = way_back most base here in
        ap (λ f. stopped (back_why whole f) (position_at m timing es base (back_steps low f))) e
        ∙ stands_by base (latest m timing es search way low_place) whole low (latest_on_way base way low_place (from_after base (low - base.steps)))
        ∙ ap (λ x. found_or (latest m timing es search way low_place) x low_place) whole_is
        ∙ ap (λ l. found_or (latest m timing es search way (position_at m timing es base l)) (way == here.steps - base.steps) (position_at m timing es base l)) low_is
        ∙ ap (λ w. found_or (latest m timing es search w (position_at m timing es base (here.steps - w))) (w == here.steps - base.steps) (position_at m timing es base (here.steps - w))) way_is
