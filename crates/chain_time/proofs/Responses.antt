-- The bounds by counts: from the foreground on, services that began pay for those that are live; and then for what moves cost.
use Rattle.std.proofs.Common.{◌≡◌, ℕ, zero, suc, ◌+◌, ◌<◌, ◌≤◌, inl, inr, ⊎_elim, Bool, true, false, cond, List, [], ◌∷◌, ◌++◌, length, Some, refl, sym, ap, ◌∙◌, subst, arith, append-nil, append_assoc}
use Rattle.std.proofs.lemmas.Bool.{cases_lt, true≢false, le-leb}
use Rattle.std.proofs.lemmas.List.{append_cancel_left}
use Rattle.std.specs.Prelude.{nat_le}
use Rattle.device_model.specs.Meanings.{Meanings, IsSound}
use Rattle.hart_board.specs.State.{State}
use Rattle.hart_board.specs.declared.event.Event.{Event}
use Rattle.chain_moves.specs.Servicing.{Live, Service, Servicing, marks, innermost_level}
use Rattle.chain_moves.specs.Enter.{is_enter_due}
use Rattle.chain_moves.specs.Machine.{Makes}
use Rattle.chain_moves.specs.Nesting.{AreRising}
use Rattle.chain_moves.specs.Run.{Made, On}
use Rattle.chain_moves.specs.Cost.{cost, leave_cost}
use Rattle.chain_moves.specs.Moves.{move, servicing_machine}
use Rattle.chain_moves.specs.Start.{begun as started}
use Rattle.chain_moves.specs.Kinds.{IsMoveBy, Enters}
use Rattle.chain_moves.specs.declared.dispatcher.Dispatcher.{Dispatcher}
use Rattle.chain_moves.specs.declared.moves.Move.{Move}
use Rattle.chain_moves.specs.declared.moves.Move.TheVariants.{Enter, Leave, Body}
use Rattle.chain_moves.proofs.Alone.{leaves_alone}
use Rattle.chain_moves.proofs.Nested.{above, run_nests}
use Rattle.chain_moves.proofs.OneOfThree.{is_one}
use Rattle.chain_flow.specs.declared.region.Region.{Region}
use Rattle.chain_lint.specs.declared.uses.Use.{Use}
use Rattle.chain_lint.specs.Soundness.{Premises, IsAfter, IsListedTo, handler_of}
use Rattle.chain_lint.proofs.Runs.{before as before_it, runs_to}
use Rattle.chain_time.specs.Path.{path}
use Rattle.chain_time.specs.Waiting.{HasInnermost, Serves}
use Rattle.chain_time.specs.Stretch.{Throughout, rest_of, rest, AreTimedTo, RunsTo}
use Rattle.chain_time.specs.Counts.{Timed, time_of}
use Rattle.chain_time.specs.Response.{IsCountedRun, HasLive, IsPending, ResponseIsBounded, LatencyIsBounded, BurstIsBounded}
use Rattle.chain_time.proofs.Closed.{last, known, is_after}
use Rattle.chain_time.proofs.Inversion.{no_inversion, entered_level}
use Rattle.chain_time.proofs.Turns.{most, cost_next, begins}
use Rattle.chain_time.proofs.Counting.{values_append}
use Rattle.chain_time.proofs.Payments.{due, due_few, Pays, pays}

-- ---- along a run
-- between two states: the services that begin pay for what is left, and for the cost where it counts
pub record Paid (m : Meanings) (es : List Event) (d : Dispatcher) (code : List ℕ) (paths : ℕ → ℕ) (level : ℕ) (counts : Bool) (before made : List (Made Move)) (s t : Servicing) : Type 0 where
  pub begun : List Service
  pub services : t.services ≡ s.services ++ begun
  pub steps : cond counts (cost (servicing_machine m es) d made) 0 + rest code level t ≤ cond counts (cost (servicing_machine m es) d before) 0 + rest code level s + due paths level begun

next_by : (counts : Bool) (a b c : ℕ) → a ≤ b + c → cond counts a 0 ≤ cond counts b 0 + cond counts c 0
next_by true a b c l = l
next_by false a b c l = omega arith

module _ (m : Meanings) (good : IsSound m) (es : List Event) (code : List ℕ) (region : Region) (us : List Use) (b : State) (p : Premises m es code region b) (d : Dispatcher) (paths : ℕ → ℕ) (level : ℕ) (counts : Bool) (i : ℕ) (before : List (Made Move)) (s : Servicing) (from : RunsTo m es b i before s) where
  none_paid : (made : List (Made Move)) (t : Servicing) → RunsTo m es b i made t → Paid m es d code paths level counts before made s t
  none_paid made t r =
      let e : On before s ≡ On made t = sym from ∙ r in
      let same : before ≡ made = cc in
      let here : s ≡ t = cc in
      let c : cond counts (cost (servicing_machine m es) d before) 0 ≡ cond counts (cost (servicing_machine m es) d made) 0 = ap (λ x. cond counts (cost (servicing_machine m es) d x) 0) same in
      let l : rest code level s ≡ rest code level t = ap (rest code level) here in
      record { begun = []; services = ap (λ u. u.services) (sym here) ∙ sym (append-nil s.services); steps = omega arith }

  joins_paid : (made : List (Made Move)) (k : Made Move) (u t : Servicing) → Paid m es d code paths level counts before made s u → Pays code paths level counts k.kind u t → Paid m es d code paths level counts before (k ∷ made) s t
  joins_paid made k u t a h =
      let c = next_by counts (cost (servicing_machine m es) d (k ∷ made)) (cost (servicing_machine m es) d made) (most k.kind) (cost_next m es d k made) in
      let x = a.steps in
      let y = h.steps in
      let sum = values_append (λ e. cond (nat_le level e.level) (14 + paths e.number + 16) 0) a.begun h.begun in
      record {
        begun = a.begun ++ h.begun;
        services = h.services ∙ (ap (λ l. l ++ h.begun) a.services ∙ append_assoc s.services a.begun h.begun);
        steps = omega arith;
      }

  pub paid_to : (n : ℕ) → i ≤ n → IsListedTo m es code region us b n → AreTimedTo m es code paths b n → (made : List (Made Move)) (t : Servicing) → RunsTo m es b n made t
      → (counts ≡ true → Throughout m es b i n (λ u. (kind : Move) (w : Servicing) → move m es u ≡ Makes kind w → Serves level kind u w)) → Paid m es d code paths level counts before made s t
  paid_to zero l listed timed made t r by = none_paid made t (subst (λ k. RunsTo m es b k made t) (omega arith) r)
  paid_to (suc n) l listed timed made t r by =
      ⊎_elim
      (λ (h : n < i). none_paid made t (subst (λ k. RunsTo m es b k made t) (omega arith) r))
      (λ (h : i ≤ n).
      let x = last (servicing_machine m es) (started m es b) n made t r in
      let at = is_after m good es code region us b p n x.earlier x.state x.runs in
      let fewer : IsListedTo m es code region us b n = record { listed = λ j q u v k. listed.listed j q u v (omega arith); room = λ j q u v k. listed.room j q u v (omega arith) } in
      let so_far = paid_to n h fewer (λ j q u v k. timed j q u v (omega arith)) x.earlier x.state x.runs (λ e j a k. by e j a (omega arith)) in
      let one = pays m es code region paths level counts x.state t (known m good es code region us b p n x.state fewer at) x.latest.kind x.moves
      (λ e. by e n h (omega arith) x.state at x.latest.kind t x.moves)
      (λ v live. timed n x.state t v (omega arith) (record { before = at; after = is_after m good es code region us b p (suc n) made t r; live = live })) in
      subst (λ k. Paid m es d code paths level counts before k s t) (sym x.is) (joins_paid x.earlier x.latest x.state t so_far one))
      (cases_lt n i)

-- ---- levels rise
high_innermost : (level : ℕ) (live : List Live) → AreRising (marks live) → HasLive level live → HasInnermost level live
unfolding marks
high_innermost level [] rising h = absurd h
high_innermost level (v ∷ []) rising (inl l) = l
high_innermost level (v ∷ []) rising (inr h) = absurd h
high_innermost level (v ∷ (w ∷ ws)) rising (inl l) = l
high_innermost level (v ∷ (w ∷ ws)) rising (inr h) =
    let i : level ≤ w.mark.level = high_innermost level (w ∷ ws) rising.1 h in
    let up = rising.0 in
    omega arith

innermost_is : (level : ℕ) (live : List Live) → HasInnermost level live → level ≤ innermost_level (marks live)
unfolding marks
innermost_is level [] h = absurd h
innermost_is level (v ∷ vs) h = h

-- ---- who makes the moves
module _ (m : Meanings) (es : List Event) (level : ℕ) (u w : Servicing) where
  enter_serves : Enters u w → level ≤ innermost_level (marks u.live) → Serves level Enter u w
  enter_serves h l =
      let up = above m es u h.choice (ap (is_enter_due u) (sym h.is_top) ∙ h.is_due) in
      subst (λ x. HasInnermost level x.live) (sym h.made) (entered_level level u h.choice (omega arith))

  serves_live : (kind : Move) → IsMoveBy m es u kind w → HasInnermost level u.live → Serves level kind u w
  serves_live Enter h high = enter_serves h (innermost_is level u.live high)
  serves_live Leave h high = high
  serves_live Body h high = high

  serves_still : (kind : Move) (live : List Live) → IsMoveBy m es u kind w → u.live ≡ live → (u.live ≡ [] → kind ≡ Enter) → level ≡ 0 → Serves level kind u w
  serves_still Enter live h e still least = enter_serves h (omega arith)
  serves_still Leave [] h e still least = let k = still e in absurd cc
  serves_still Leave (v ∷ vs) h e still least = subst (HasInnermost level) (sym e) (omega arith)
  serves_still Body [] h e still least = let k = still e in absurd cc
  serves_still Body (v ∷ vs) h e still least = subst (HasInnermost level) (sym e) (omega arith)

module _ (m : Meanings) (good : IsSound m) where
  start_live : (es : List Event) (b : State) → (started m es b).live ≡ []
  unfolding started
  start_live es b = refl

  rising : (es : List Event) (b : State) (j : ℕ) (u : Servicing) → IsAfter m es b j u → AreRising (marks u.live)
  rising es b j u at =
      let run = runs_to (servicing_machine m es) (started m es b) j u at in
      (run_nests m es (started m es b) u j run.0 (start_live es b) run.1).0

  pending_serves : (es : List Event) (b : State) (input level j : ℕ) (u w : Servicing) (kind : Move) → IsAfter m es b j u → IsPending input level u → move m es u ≡ Makes kind w → Serves level kind u w
  pending_serves es b input level j u w kind at (inl waits) e = no_inversion m es input level u w kind waits e
  pending_serves es b input level j u w kind at (inr live) e = serves_live m es level u w kind (is_one m es u kind w e).1 (high_innermost level u.live (rising es b j u at) live)

  -- ---- all bounds in one
  bounded : (es : List Event) (d : Dispatcher) (code : List ℕ) (region : Region) (us : List Use) (paths : ℕ → ℕ) (rs : List Timed) (b : State) (level h i n : ℕ) (before made : List (Made Move)) (s t : Servicing)
      → IsCountedRun m es code region us paths rs b h i n before made s t
      → Throughout m es b i n (λ u. (kind : Move) (w : Servicing) → move m es u ≡ Makes kind w → Serves level kind u w)
      → cost (servicing_machine m es) d made + rest code level t ≤ cost (servicing_machine m es) d before + time_of rs level
  bounded es d code region us paths rs b level h i n before made s t r by =
      let c = r.counted in
      let p = r.run.premises in
      let listed = r.run.listed in
      let first = r.first in
      let later = r.later in
      let start = runs_to (servicing_machine m es) (started m es b) h c.start c.at_start in
      let fewer : IsListedTo m es code region us b i = record { listed = λ j q u v k. listed.listed j q u v (omega arith); room = λ j q u v k. listed.room j q u v (omega arith) } in
      let a = paid_to m good es code region us b p d paths level false h start.0 c.start start.1 i first fewer (λ j q u v k. r.run.timed j q u v (omega arith)) before s r.from (λ e. absurd (true≢false (sym e))) in
      let z = paid_to m good es code region us b p d paths level true i before s r.from n later listed r.run.timed made t r.to (λ e. by) in
      let all : t.services ≡ c.start.services ++ (a.begun ++ z.begun) = z.services ∙ (ap (λ l. l ++ z.begun) a.services ∙ append_assoc c.start.services a.begun z.begun) in
      let same : a.begun ++ z.begun ≡ c.begun = append_cancel_left c.start.services (a.begun ++ z.begun) c.begun (sym all ∙ c.services) in
      let sum = values_append (λ e. cond (nat_le level e.level) (14 + paths e.number + 16) 0) a.begun z.begun in
      let is : due paths level (a.begun ++ z.begun) ≡ due paths level c.begun = ap (due paths level) same in
      let few = due_few rs level paths c.begun c.of_rows c.few in
      let none : rest code level c.start ≡ 0 = ap (rest_of code level c.start.pc) c.foreground in
      let x = a.steps in
      let y = z.steps in
      omega arith

  pub response_is_bounded : ResponseIsBounded m
  response_is_bounded es d code region us paths rs b q h i n before made s t r pending =
      let all = bounded es d code region us paths rs b q.level h i n before made s t r (λ j l k u at kind w e. pending_serves es b q.input q.level j u w kind at (pending j l k u at) e) in
      omega arith

  pub burst_is_bounded : BurstIsBounded m
  burst_is_bounded es d code region us paths rs b i n before made s t r burst =
      let all = bounded es d code region us paths rs b 0 i i n before made s t r (λ j l k u at kind w e. serves_still m es 0 u w kind u.live (is_one m es u kind w e).1 refl (λ none. burst.still j l k u at none kind w e) refl) in
      omega arith

  -- ---- the service that begins
  handler_at : (es : List Event) (u t : Servicing) (v : Live) (kind : Move) → IsMoveBy m es u kind t → length u.registers ≡ 32 → t.live ≡ v ∷ u.live → t.pc ≡ handler_of v
  handler_at es u t v Enter h l live =
      let x = begins u t l h in
      let both : v ∷ u.live ≡ x.service ∷ u.live = sym live ∙ x.live in
      let same : x.service ≡ v = cc in
      x.at ∙ ap handler_of same
  handler_at es u t v Leave h l live =
      let x = leaves_alone m es u Leave t h in
      absurd (omega (arith, ap length live, ap length x.others.1))
  handler_at es u t v Body h l live =
      let x = leaves_alone m es u Body t h in
      absurd (omega (arith, ap length live, ap length x.live))

  rest_begun : (code : List ℕ) (level : ℕ) (u t : Servicing) (v : Live) → t.live ≡ v ∷ u.live → t.pc ≡ handler_of v → level ≤ v.mark.level → path code (handler_of v) + leave_cost ≤ rest code level t
  rest_begun code level u t v live at high =
      let is : rest code level t ≡ cond (nat_le level v.mark.level) (path code t.pc + leave_cost) 0 + rest_of code level v.pc u.live = ap (rest_of code level t.pc) live in
      let whole : cond (nat_le level v.mark.level) (path code t.pc + leave_cost) 0 ≡ path code t.pc + leave_cost = ap (λ x. cond x (path code t.pc + leave_cost) 0) (le-leb level v.mark.level high) in
      let same : path code t.pc ≡ path code (handler_of v) = ap (path code) at in
      omega arith

  pub latency_is_bounded : LatencyIsBounded m
  latency_is_bounded es d code region us paths rs b q h i n before made s u t v r waits starts high way =
      let all = bounded es d code region us paths rs b q.level h i (suc n) before made s t r (λ j l k x at kind w e. no_inversion m es q.input q.level x w kind (waits j l k x at) e) in
      let listed = r.run.listed in
      let fewer : IsListedTo m es code region us b n = record { listed = λ j y z w k. listed.listed j y z w (omega arith); room = λ j y z w k. listed.room j y z w (omega arith) } in
      let x = before_it (servicing_machine m es) (started m es b) n t starts.after in
      let both : Some x.state ≡ Some u = sym x.is_there ∙ starts.before in
      let same : x.state ≡ u = cc in
      let moves : move m es u ≡ Makes x.kind t = subst (λ y. move m es y ≡ Makes x.kind t) same x.moves in
      let inv = known m good es code region us b r.run.premises n u fewer starts.before in
      let at = handler_at es u t v x.kind (is_one m es u x.kind t moves).1 inv.range.board.registers.count starts.live in
      let left = rest_begun code q.level u t v starts.live at high in
      omega arith
