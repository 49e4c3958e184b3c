-- A burst under the looping dispatcher: where no service is live within it, a Leave has been fused with the Enter that comes.
use Rattle.std.proofs.Common.{◌≡◌, ℕ, zero, suc, ◌+◌, ◌<◌, ◌≤◌, ◌⊎◌, inl, inr, ⊎_elim, Bool, true, false, cond, List, [], ◌∷◌, ◌++◌, length, Some, refl, sym, ap, ap₂, ◌∙◌, subst, arith, append-nil, append_assoc}
use Rattle.std.specs.Prelude.{nat_le, not, ◌&&◌}
use Rattle.std.proofs.lemmas.Bool.{cases_lt, true≢false, le-leb, leb-true, lt-leb}
use Rattle.std.proofs.lemmas.List.{append_cancel_left}
use Rattle.device_model.specs.Meanings.{Meanings, IsSound}
use Rattle.clic_select.specs.declared.choice.Choice.{Choice}
use Rattle.hart_board.specs.State.{State}
use Rattle.hart_board.specs.declared.event.Event.{Event}
use Rattle.chain_moves.specs.Servicing.{Live, Service, Servicing, marks, innermost_level}
use Rattle.chain_moves.specs.Enter.{is_enter_due, entered}
use Rattle.chain_moves.specs.Run.{Made, On}
use Rattle.chain_moves.specs.Cost.{price, cost, is_fused, is_halfway, enter_cost, leave_cost, fused_enter_cost, fused_leave_cost}
use Rattle.chain_moves.specs.Moves.{claims, claims_by, servicing_machine}
use Rattle.chain_moves.specs.Start.{begun as started}
use Rattle.chain_moves.specs.Kinds.{IsMoveBy, Enters, Leaves, BodyLeaves}
use Rattle.chain_moves.specs.declared.dispatcher.Dispatcher.TheVariants.{Looping}
use Rattle.chain_moves.specs.declared.moves.Move.{Move}
use Rattle.chain_moves.specs.declared.moves.Move.TheVariants.{Enter, Leave, Body}
use Rattle.chain_moves.proofs.Alone.{leaves_alone}
use Rattle.chain_moves.proofs.Nested.{above, passed}
use Rattle.chain_moves.proofs.OneOfThree.{is_one}
use Rattle.chain_flow.specs.declared.region.Region.{Region}
use Rattle.chain_lint.specs.declared.uses.Use.{Use}
use Rattle.chain_lint.specs.Soundness.{Premises, IsListedTo, handler_of}
use Rattle.chain_lint.proofs.Invariant.{Inv}
use Rattle.chain_time.specs.Path.{path}
use Rattle.chain_time.specs.Stretch.{Throughout, IsNoForeground, rest_of, rest, AreTimedTo, RunsTo}
use Rattle.chain_time.specs.Counts.{Timed, Has, AreFew, burst}
use Rattle.chain_time.specs.Response.{AreOfRows}
use Rattle.chain_time.specs.Looping.{looping_worth, looping_time, lowest, AreFrom, LoopingBurstIsBounded}
use Rattle.chain_time.proofs.Closed.{last, known, is_after}
use Rattle.chain_time.proofs.Steps.{body_falls}
use Rattle.chain_time.proofs.Turns.{most, cost_next, Begun, begins, Ended, ends, not_back}
use Rattle.chain_time.proofs.Counting.{values, values_append, whole, IsWorth, AreWorth, worth_at_most}
use Rattle.chain_time.proofs.Responses.{burst_is_bounded}

-- ---- what services are worth
abbrev pub gain : (ℕ → ℕ) → ℕ → Service → ℕ
gain paths low e = cond (nat_le e.level low) (fused_enter_cost + paths e.number + fused_leave_cost) (enter_cost + paths e.number + leave_cost)

gain_by : (a b : Bool) (x y : ℕ) → (b ≡ true → a ≡ true) → x ≤ y → cond a (2 + x + 5) (14 + x + 16) ≤ cond b (2 + y + 5) (14 + y + 16)
gain_by true true x y h l = omega arith
gain_by true false x y h l = omega arith
gain_by false true x y h l = absurd (true≢false (sym (h refl)))
gain_by false false x y h l = omega arith

row_gain : (low level input way : ℕ) (rs : List Timed) → Has level input way rs → IsWorth (looping_worth low) input (cond (nat_le level low) (2 + way + 5) (14 + way + 16)) rs
row_gain low level input way [] h = absurd h
row_gain low level input way (r ∷ rs) (inl h) =
    let up = h.1 in
    inl (h.0, gain_by (nat_le level low) (nat_le r.level low) way r.path (λ e. let k = leb-true r.level low e in le-leb level low (omega arith)) h.2)
row_gain low level input way (r ∷ rs) (inr h) = inr (row_gain low level input way rs h)

rows_gain : (low : ℕ) (paths : ℕ → ℕ) (rs : List Timed) (begun : List Service) → AreOfRows paths rs begun → AreWorth (looping_worth low) (gain paths low) rs begun
rows_gain low paths rs [] h = tt
rows_gain low paths rs (e ∷ begun) h = (row_gain low e.level e.number (paths e.number) rs h.0, rows_gain low paths rs begun h.1)

looping_is : (low : ℕ) (rs : List Timed) → whole (looping_worth low) rs ≡ looping_time low rs
unfolding looping_time
looping_is low [] = refl
looping_is low (r ∷ rs) = let i = looping_is low rs in omega arith

gain_few : (low : ℕ) (paths : ℕ → ℕ) (rs : List Timed) (begun : List Service) → AreOfRows paths rs begun → AreFew rs begun → values (gain paths low) begun ≤ looping_time low rs
gain_few low paths rs begun h few =
    let a = worth_at_most (looping_worth low) (gain paths low) rs begun (rows_gain low paths rs begun h) few in
    let b = looping_is low rs in
    omega arith

from_front : (low : ℕ) (a b : List Service) → AreFrom low (a ++ b) → AreFrom low a
from_front low [] b h = tt
from_front low (e ∷ a) b h = (h.0, from_front low a b h.1)

from_last : (low : ℕ) (a : List Service) (e : Service) → AreFrom low (a ++ e ∷ []) → low ≤ e.level
from_last low [] e h = h.0
from_last low (x ∷ a) e h = from_last low a e h.1

-- ---- where a burst stands
-- each live service has at least that level
abbrev AreAbove : ℕ → List Live → Type 0
AreAbove low [] = Unit {0}
AreAbove low (v ∷ vs) = (low ≤ v.mark.level) × AreAbove low vs

module _ (m : Meanings) (es : List Event) (code : List ℕ) (paths : ℕ → ℕ) (low : ℕ) (before : List (Made Move)) (s : Servicing) where
  abbrev spent : List (Made Move) → ℕ
  spent made = cost (servicing_machine m es) Looping made

  -- it has not begun
  record Fresh (made : List (Made Move)) (t : Servicing) (begun : List Service) : Type 0 where
    pub none : t.live ≡ []
    pub is : spent made ≤ spent before

  -- no service is live: one has left, and its Leave is fused where an Enter is due
  record Free (made : List (Made Move)) (t : Servicing) (begun : List Service) : Type 0 where
    pub none : t.live ≡ []
    pub halfway : is_halfway (servicing_machine m es) Looping made ≡ claims t
    pub steps : spent made + cond (claims t) 11 0 ≤ spent before + values (gain paths low) begun + 23

  -- a service is live
  record Busy (made : List (Made Move)) (t : Servicing) (begun : List Service) : Type 0 where
    pub some : Live
    pub others : List Live
    pub live : t.live ≡ some ∷ others
    pub high : AreAbove low t.live
    pub steps : spent made + rest code 0 t ≤ spent before + values (gain paths low) begun + 23

  abbrev Stands : List (Made Move) → Servicing → List Service → Type 0
  Stands made t begun = Fresh made t begun ⊎ Free made t begun ⊎ Busy made t begun

  -- ---- an Enter
  -- of an input that isn't hardware-vectored, so that it is claimed
  enter_claims : (u w : Servicing) → Enters u w → claims u ≡ true
  unfolding claims
  enter_claims u w h =
      let soft = (passed h.choice.shv _ _ h.untested).0 in
      ap (λ o. claims_by o (is_enter_due u o)) h.is_top
      ∙ ap₂ (λ a b. a && not b) (ap (is_enter_due u) (sym h.is_top) ∙ h.is_due) soft

  next_cost : (k : Made Move) (made : List (Made Move)) → spent (k ∷ made) ≡ spent made + price k.kind (is_halfway (servicing_machine m es) Looping made) (is_halfway (servicing_machine m es) Looping (k ∷ made))
  unfolding cost
  next_cost k made = refl

  short_enter : (kind : Move) (b e : Bool) → kind ≡ Enter → b ≡ true → price kind b e ≡ 2
  short_enter Enter true e k q = refl
  short_enter Enter false e k q = absurd (true≢false (sym q))
  short_enter Leave b e k q = absurd cc
  short_enter Body b e k q = absurd cc

  least_gain : (b : Bool) (x : ℕ) → 2 + x + 5 ≤ cond b (2 + x + 5) (14 + x + 16)
  least_gain true x = omega arith
  least_gain false x = omega arith

  whole_gain : (b : Bool) (x : ℕ) → b ≡ false → cond b (2 + x + 5) (14 + x + 16) ≡ 14 + x + 16
  whole_gain true x e = absurd (true≢false e)
  whole_gain false x e = refl

  innermost_high : (live : List Live) (v : Live) (vs : List Live) → live ≡ v ∷ vs → AreAbove low live → low ≤ innermost_level (marks live)
  unfolding marks
  innermost_high [] v vs e h = absurd cc
  innermost_high (w ∷ ws) v vs e h = h.0

  module _ (k : Made Move) (made : List (Made Move)) (u w : Servicing) (begun : List Service) (is_enter : k.kind ≡ Enter) (h : Enters u w) (b : Begun u w)
      (timed : (v : Live) → w.live ≡ v ∷ u.live → path code (handler_of v) ≤ paths v.number) (from : AreFrom low (begun ++ b.listed ∷ [])) where
    left_now : rest code 0 w ≡ path code w.pc + 16 + rest code 0 u
    left_now =
        let v = b.service in
        let is : rest code 0 w ≡ cond (nat_le 0 v.mark.level) (path code w.pc + 16) 0 + rest_of code 0 v.pc u.live = ap (rest_of code 0 w.pc) b.live in
        let all : cond (nat_le 0 v.mark.level) (path code w.pc + 16) 0 ≡ path code w.pc + 16 = ap (λ x. cond x (path code w.pc + 16) 0) (le-leb 0 v.mark.level (omega arith)) in
        let same : rest_of code 0 v.pc u.live ≡ rest code 0 u = ap (λ p. rest_of code 0 p u.live) b.suspends in
        omega arith

    way_now : path code w.pc ≤ paths b.listed.number
    way_now =
        let p : path code w.pc ≡ path code (handler_of b.service) = ap (path code) b.at in
        let q : paths b.listed.number ≡ paths b.service.number = ap paths b.number in
        let l = timed b.service b.live in
        omega arith

    high_now : AreAbove low u.live → AreAbove low w.live
    high_now a =
        let l = from_last low begun b.listed from in
        let same = b.level in
        let both : AreAbove low (b.service ∷ u.live) = ((omega arith), a) in
        subst (AreAbove low) (sym b.live) both

    added : values (gain paths low) (begun ++ b.listed ∷ []) ≡ values (gain paths low) begun + (gain paths low b.listed + 0)
    added = values_append (gain paths low) begun (b.listed ∷ [])

    from_none : u.live ≡ [] → AreAbove low u.live
    from_none e = subst (AreAbove low) (sym e) tt

    rest_none : u.live ≡ [] → rest code 0 u ≡ 0
    rest_none e = ap (rest_of code 0 u.pc) e

    enter_fresh : Fresh made u begun → Busy (k ∷ made) w (begun ++ b.listed ∷ [])
    enter_fresh f =
        let c = cost_next m es Looping k made in
        let o : most k.kind ≡ 14 = ap most is_enter in
        let i = f.is in
        let l = left_now in
        let n = rest_none f.none in
        let p = way_now in
        let g = least_gain (nat_le b.listed.level low) (paths b.listed.number) in
        let a = added in
        record { some = b.service; others = u.live; live = b.live; high = high_now (from_none f.none); steps = omega arith }

    enter_free : Free made u begun → Busy (k ∷ made) w (begun ++ b.listed ∷ [])
    enter_free f =
        let claimed = enter_claims u w h in
        let c = next_cost k made in
        let o = short_enter k.kind (is_halfway (servicing_machine m es) Looping made) (is_halfway (servicing_machine m es) Looping (k ∷ made)) is_enter (f.halfway ∙ claimed) in
        let i : spent made + 11 ≤ spent before + values (gain paths low) begun + 23 = subst (λ x. spent made + cond x 11 0 ≤ spent before + values (gain paths low) begun + 23) claimed f.steps in
        let l = left_now in
        let n = rest_none f.none in
        let p = way_now in
        let g = least_gain (nat_le b.listed.level low) (paths b.listed.number) in
        let a = added in
        record { some = b.service; others = u.live; live = b.live; high = high_now (from_none f.none); steps = omega arith }

    enter_busy : Busy made u begun → b.listed.level ≡ h.choice.level → Busy (k ∷ made) w (begun ++ b.listed ∷ [])
    enter_busy f same =
        let c = cost_next m es Looping k made in
        let o : most k.kind ≡ 14 = ap most is_enter in
        let i = f.steps in
        let l = left_now in
        let p = way_now in
        let up = above m es u h.choice (ap (is_enter_due u) (sym h.is_top) ∙ h.is_due) in
        let high = innermost_high u.live f.some f.others f.live f.high in
        let g = whole_gain (nat_le b.listed.level low) (paths b.listed.number) (lt-leb b.listed.level low (omega arith)) in
        let a = added in
        record { some = b.service; others = u.live; live = b.live; high = high_now f.high; steps = omega arith }

  entered_services : (u : Servicing) (c : Choice) → (entered u c).services ≡ u.services ++ record { number = c.id; level = c.level; depth = suc (length u.live) } ∷ []
  unfolding entered
  entered_services u c = refl

  listed_level : (u w : Servicing) (h : Enters u w) (b : Begun u w) → b.listed.level ≡ h.choice.level
  listed_level u w h b =
      let new : Service = record { number = h.choice.id; level = h.choice.level; depth = suc (length u.live) } in
      let e = append_cancel_left u.services (b.listed ∷ []) (new ∷ []) (sym b.services ∙ (ap (λ x. x.services) h.made ∙ entered_services u h.choice)) in
      let same : b.listed ≡ new = cc in
      ap (λ x. x.level) same

  -- ---- a Leave
  rest_left : (u w : Servicing) → Ended u w → 16 + rest code 0 w ≤ rest code 0 u
  rest_left u w h =
      let v = h.service in
      let is : rest code 0 u ≡ cond (nat_le 0 v.mark.level) (path code u.pc + 16) 0 + rest_of code 0 v.pc w.live = ap (rest_of code 0 u.pc) h.live in
      let all : cond (nat_le 0 v.mark.level) (path code u.pc + 16) 0 ≡ path code u.pc + 16 = ap (λ x. cond x (path code u.pc + 16) 0) (le-leb 0 v.mark.level (omega arith)) in
      let same : rest code 0 w ≡ rest_of code 0 v.pc w.live = ap (λ p. rest_of code 0 p w.live) h.at in
      omega arith

  leave_price : (kind : Move) (b c : Bool) → kind ≡ Leave → price kind b c + cond c 11 0 ≡ 16
  leave_price Leave b true e = refl
  leave_price Leave b false e = refl
  leave_price Enter b c e = absurd cc
  leave_price Body b c e = absurd cc

  leave_halfway : (k : Made Move) (made : List (Made Move)) → k.kind ≡ Leave → is_halfway (servicing_machine m es) Looping (k ∷ made) ≡ k.claims
  leave_halfway k made e = ap (λ x. is_fused Looping x k.claims) e

  others_above : (live : List Live) (v : Live) (vs : List Live) → live ≡ v ∷ vs → AreAbove low live → AreAbove low vs
  others_above [] v vs e h = absurd cc
  others_above (w ∷ ws) v vs e h = let same : ws ≡ vs = cc in subst (AreAbove low) same h.1

  leave_stands : (k : Made Move) (made : List (Made Move)) (u w : Servicing) (begun : List Service) (live : List Live) → w.live ≡ live → k.kind ≡ Leave → k.claims ≡ claims w → Ended u w → Busy made u begun → Stands (k ∷ made) w begun
  leave_stands k made u w begun [] e is said h f =
      let half = leave_halfway k made is ∙ said in
      let c = next_cost k made in
      let o = leave_price k.kind (is_halfway (servicing_machine m es) Looping made) (claims w) is in
      let q : price k.kind (is_halfway (servicing_machine m es) Looping made) (is_halfway (servicing_machine m es) Looping (k ∷ made)) ≡ price k.kind (is_halfway (servicing_machine m es) Looping made) (claims w) = ap (price k.kind (is_halfway (servicing_machine m es) Looping made)) half in
      let i = f.steps in
      let l = rest_left u w h in
      inr (inl (record { none = e; halfway = half; steps = omega arith }))
  leave_stands k made u w begun (x ∷ xs) e is said h f =
      let c = cost_next m es Looping k made in
      let o : most k.kind ≡ 16 = ap most is in
      let i = f.steps in
      let l = rest_left u w h in
      inr (inr (record { some = x; others = xs; live = e; high = others_above u.live h.service w.live h.live f.high; steps = omega arith }))

  -- ---- a Body
  body_left : (pc pc' : ℕ) (live : List Live) (v : Live) (vs : List Live) → live ≡ v ∷ vs → suc (path code pc') ≤ path code pc → suc (rest_of code 0 pc' live) ≤ rest_of code 0 pc live
  body_left pc pc' [] v vs e falls = absurd cc
  body_left pc pc' (w ∷ ws) v vs e falls =
      let a : cond (nat_le 0 w.mark.level) (path code pc + 16) 0 ≡ path code pc + 16 = ap (λ x. cond x (path code pc + 16) 0) (le-leb 0 w.mark.level (omega arith)) in
      let b : cond (nat_le 0 w.mark.level) (path code pc' + 16) 0 ≡ path code pc' + 16 = ap (λ x. cond x (path code pc' + 16) 0) (le-leb 0 w.mark.level (omega arith)) in
      omega arith

  body_stands : (k : Made Move) (made : List (Made Move)) (u w : Servicing) (begun : List Service) → k.kind ≡ Body → BodyLeaves u w → suc (path code w.pc) ≤ path code u.pc → Busy made u begun → Busy (k ∷ made) w begun
  body_stands k made u w begun is h falls f =
      let c = cost_next m es Looping k made in
      let o : most k.kind ≡ 1 = ap most is in
      let i = f.steps in
      let l = body_left u.pc w.pc u.live f.some f.others f.live falls in
      let same : rest code 0 w ≡ rest_of code 0 w.pc u.live = ap (rest_of code 0 w.pc) h.live in
      record { some = f.some; others = f.others; live = h.live ∙ f.live; high = subst (AreAbove low) (sym h.live) f.high; steps = omega arith }

  -- ---- one move
  record Grows (k : Made Move) (made : List (Made Move)) (u w : Servicing) (begun : List Service) : Type 0 where
    pub more : List Service
    pub services : w.services ≡ u.services ++ more
    pub stands : AreFrom low (begun ++ more) → Stands made u begun → Stands (k ∷ made) w (begun ++ more)

  nothing_more : (made : List (Made Move)) (u : Servicing) (begun : List Service) → Stands made u begun → Stands made u (begun ++ [])
  nothing_more made u begun h = subst (Stands made u) (sym (append-nil begun)) h

  ended_busy : (made : List (Made Move)) (u : Servicing) (begun : List Service) (v : Live) (vs : List Live) → u.live ≡ v ∷ vs → Stands made u begun → Busy made u begun
  ended_busy made u begun v vs e (inl f) = absurd (omega (arith, ap length (sym f.none ∙ e)))
  ended_busy made u begun v vs e (inr (inl f)) = absurd (omega (arith, ap length (sym f.none ∙ e)))
  ended_busy made u begun v vs e (inr (inr f)) = f

  module _ (region : Region) (k : Made Move) (made : List (Made Move)) (u w : Servicing) (begun : List Service) (inv : Inv m code region u) where
    enter_grows : k.kind ≡ Enter → Enters u w → ((v : Live) → w.live ≡ v ∷ u.live → path code (handler_of v) ≤ paths v.number) → Grows k made u w begun
    enter_grows is h timed =
        let b = begins u w inv.range.board.registers.count h in
        record {
          more = b.listed ∷ [];
          services = b.services;
          stands = λ from stood. inr (inr (⊎_elim
              (λ (f : Fresh made u begun). enter_fresh k made u w begun is h b timed from f)
              (λ (rest : Free made u begun ⊎ Busy made u begun). ⊎_elim
              (λ (f : Free made u begun). enter_free k made u w begun is h b timed from f)
              (λ (f : Busy made u begun). enter_busy k made u w begun is h b timed from f (listed_level u w h b))
              rest)
              stood));
        }

    leave_grows : k.kind ≡ Leave → k.claims ≡ claims w → Leaves u w → Grows k made u w begun
    leave_grows is said h =
        let x = ends u w h in
        record {
          more = [];
          services = x.services ∙ sym (append-nil u.services);
          stands = λ from stood. nothing_more (k ∷ made) w begun (leave_stands k made u w begun w.live refl is said x (ended_busy made u begun x.service w.live x.live stood));
        }

    body_grows : k.kind ≡ Body → (live : List Live) → u.live ≡ live → IsMoveBy m es u Body w → (u.live ≡ [] → ⊥) → Grows k made u w begun
    body_grows is [] e h busy = absurd (busy e)
    body_grows is (v ∷ vs) e h busy =
        let x : BodyLeaves u w = leaves_alone m es u Body w h in
        let falls = body_falls m es code region u w v vs inv e (not_back m es code region paths 0 u w inv v vs e h.no_leave) h.made in
        record {
          more = [];
          services = x.services ∙ sym (append-nil u.services);
          stands = λ from stood. nothing_more (k ∷ made) w begun (inr (inr (body_stands k made u w begun is x falls (ended_busy made u begun v vs e stood))));
        }

    grows_by : (kind : Move) → k.kind ≡ kind → k.claims ≡ claims w → IsMoveBy m es u kind w → (u.live ≡ [] → kind ≡ Enter) → ((v : Live) → w.live ≡ v ∷ u.live → path code (handler_of v) ≤ paths v.number) → Grows k made u w begun
    grows_by Enter is said h still timed = enter_grows is h timed
    grows_by Leave is said h still timed = leave_grows is said h
    grows_by Body is said h still timed = body_grows is u.live refl h (λ e. let c = still e in absurd cc)

-- ---- along a run
module _ (m : Meanings) (good : IsSound m) (es : List Event) (code : List ℕ) (region : Region) (us : List Use) (b : State) (p : Premises m es code region b) (paths : ℕ → ℕ) (low i : ℕ) (before : List (Made Move)) (s : Servicing) (from : RunsTo m es b i before s) (none : s.live ≡ []) where
  record Bursting (made : List (Made Move)) (t : Servicing) : Type 0 where
    pub begun : List Service
    pub services : t.services ≡ s.services ++ begun
    pub stands : AreFrom low begun → Stands m es code paths low before s made t begun

  not_begun : (made : List (Made Move)) (t : Servicing) → RunsTo m es b i made t → Bursting made t
  not_begun made t r =
      let e : On before s ≡ On made t = sym from ∙ r in
      let same : before ≡ made = cc in
      let here : s ≡ t = cc in
      let c : cost (servicing_machine m es) Looping before ≡ cost (servicing_machine m es) Looping made = ap (cost (servicing_machine m es) Looping) same in
      record { begun = []; services = ap (λ u. u.services) (sym here) ∙ sym (append-nil s.services); stands = λ h. inl (record { none = subst (λ u. u.live ≡ []) here none; is = omega arith }) }

  joined : (made : List (Made Move)) (k : Made Move) (u t : Servicing) (x : Bursting made u) → Grows m es code paths low before s k made u t x.begun → Bursting (k ∷ made) t
  joined made k u t x h = record {
    begun = x.begun ++ h.more;
    services = h.services ∙ (ap (λ l. l ++ h.more) x.services ∙ append_assoc s.services x.begun h.more);
    stands = λ f. h.stands f (x.stands (from_front low x.begun h.more f));
  }

  bursting : (n : ℕ) → i ≤ n → IsListedTo m es code region us b n → AreTimedTo m es code paths b n → (made : List (Made Move)) (t : Servicing) → RunsTo m es b n made t → Throughout m es b i n (λ u. IsNoForeground m es u) → Bursting made t
  bursting zero l listed timed made t r still = not_begun made t (subst (λ k. RunsTo m es b k made t) (omega arith) r)
  bursting (suc n) l listed timed made t r still =
      ⊎_elim
      (λ (h : n < i). not_begun made t (subst (λ k. RunsTo m es b k made t) (omega arith) r))
      (λ (h : i ≤ n).
      let x = last (servicing_machine m es) (started m es b) n made t r in
      let at = is_after m good es code region us b p n x.earlier x.state x.runs in
      let fewer : IsListedTo m es code region us b n = record { listed = λ j q u v k. listed.listed j q u v (omega arith); room = λ j q u v k. listed.room j q u v (omega arith) } in
      let so_far = bursting n h fewer (λ j q u v k. timed j q u v (omega arith)) x.earlier x.state x.runs (λ j a k. still j a (omega arith)) in
      let one = grows_by m es code paths low before s region x.latest x.earlier x.state t so_far.begun (known m good es code region us b p n x.state fewer at) x.latest.kind refl x.claims (is_one m es x.state x.latest.kind t x.moves).1
      (λ e. still n h (omega arith) x.state at e x.latest.kind t x.moves)
      (λ v live. timed n x.state t v (omega arith) (record { before = at; after = is_after m good es code region us b p (suc n) made t r; live = live })) in
      subst (λ k. Bursting k t) (sym x.is) (joined x.earlier x.latest x.state t so_far one))
      (cases_lt n i)

  spent_by : (made : List (Made Move)) (t : Servicing) (begun : List Service) → Stands m es code paths low before s made t begun → cost (servicing_machine m es) Looping made ≤ cost (servicing_machine m es) Looping before + values (gain paths low) begun + 23
  spent_by made t begun (inl f) = let x = f.is in omega arith
  spent_by made t begun (inr (inl f)) = let x = f.steps in omega arith
  spent_by made t begun (inr (inr f)) = let x = f.steps in omega arith

pub looping_burst_is_bounded : (m : Meanings) → IsSound m → LoopingBurstIsBounded m
looping_burst_is_bounded m good es code region us paths rs b i n before made s t r burst high =
    let c = r.counted in
    let plain = burst_is_bounded m good es Looping code region us paths rs b i n before made s t r burst in
    let x = bursting m good es code region us b r.run.premises paths (lowest rs) i before s r.from burst.begins n r.later r.run.listed r.run.timed made t r.to burst.still in
    let there : Some s ≡ Some c.start = sym (is_after m good es code region us b r.run.premises i before s r.from) ∙ c.at_start in
    let same : s ≡ c.start = cc in
    let all : s.services ++ x.begun ≡ s.services ++ c.begun = sym x.services ∙ (c.services ∙ ap (λ u. u.services ++ c.begun) (sym same)) in
    let begun : x.begun ≡ c.begun = append_cancel_left s.services x.begun c.begun all in
    let all_high : AreFrom (lowest rs) x.begun = subst (AreFrom (lowest rs)) (sym begun) high in
    let steps = spent_by m good es code region us b r.run.premises paths (lowest rs) i before s r.from burst.begins made t x.begun (x.stands all_high) in
    let is : values (gain paths (lowest rs)) x.begun ≡ values (gain paths (lowest rs)) c.begun = ap (values (gain paths (lowest rs))) begun in
    let few = gain_few (lowest rs) paths rs c.begun c.of_rows c.few in
    omega arith
