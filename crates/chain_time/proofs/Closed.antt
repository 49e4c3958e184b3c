-- The laws, by induction over the moves of a stretch.
use Rattle.std.proofs.Common.{◌≡◌, ℕ, zero, suc, ◌+◌, ◌<◌, ◌≤◌, ⊎_elim, List, [], ◌∷◌, ◌++◌, refl, sym, ap, ◌∙◌, subst, arith, append-nil, append_assoc}
use Rattle.std.proofs.lemmas.Bool.{cases_lt}
use Rattle.device_model.specs.Meanings.{Meanings, IsSound}
use Rattle.hart_board.specs.State.{State}
use Rattle.hart_board.specs.declared.event.Event.{Event}
use Rattle.chain_moves.specs.Servicing.{Live, Service, Servicing}
use Rattle.chain_moves.specs.Machine.{Moved, Makes, Breaks, Ends, Machine}
use Rattle.chain_moves.specs.Run.{Made, Run, On, Broke, Over, moved_on, gone_on, run_to, state_in}
use Rattle.chain_moves.specs.Cost.{cost}
use Rattle.chain_moves.specs.Moves.{servicing_machine}
use Rattle.chain_moves.specs.Start.{begun}
use Rattle.chain_moves.specs.declared.dispatcher.Dispatcher.{Dispatcher}
use Rattle.chain_moves.specs.declared.moves.Move.{Move}
use Rattle.chain_moves.specs.declared.moves.Move.TheVariants.{Enter, Leave, Body}
use Rattle.chain_flow.specs.declared.region.Region.{Region}
use Rattle.chain_lint.specs.declared.uses.Use.{Use}
use Rattle.chain_lint.specs.Soundness.{Premises, IsAfter, IsListedTo}
use Rattle.chain_lint.proofs.Invariant.{Inv}
use Rattle.chain_lint.proofs.Runs.{before as before_it, at_start}
use Rattle.chain_lint.proofs.Starts.{start_known, after_range}
use Rattle.chain_lint.proofs.Bounds.{Deep, deep_start, deep_next}
use Rattle.chain_time.specs.Waiting.{HasInnermost, Serves}
use Rattle.chain_time.specs.Stretch.{IsMadeBy, AreMadeBy, rest_of, rest, total, AreTimedTo, RunsTo, Takes, StretchIsTimed, WaitIsTimed, BurstIsTimed}
use Rattle.chain_time.proofs.Turns.{cost_next, Turn, turn}
use Rattle.chain_time.proofs.Inversion.{no_inversion}

-- ---- the move before
pub record Last {K S E : Type 0} (x : Machine K S E) (s : S) (n : ℕ) (made : List (Made K)) (t : S) : Type 0 where
  pub state : S
  pub latest : Made K
  pub earlier : List (Made K)
  pub runs : run_to x s n ≡ On earlier state
  pub moves : x.move state ≡ Makes latest.kind t
  pub claims : latest.claims ≡ x.claims t
  pub is : made ≡ latest ∷ earlier

module _ {K S E : Type 0} (x : Machine K S E) (s : S) (n : ℕ) where
  last_move : (earlier made : List (Made K)) (u t : S) (moved : Moved K S) → run_to x s n ≡ On earlier u → x.move u ≡ moved → moved_on x earlier u moved ≡ On made t → Last x s n made t
  last_move earlier made u t (Makes kind w) r e h = record { state = u; latest = record { kind = kind; claims = x.claims w }; earlier = earlier; runs = r; moves = cc; claims = (let same : w ≡ t = cc in ap x.claims same); is = cc }
  last_move earlier made u t (Breaks when kind k) r e h = absurd cc
  last_move earlier made u t Ends r e h = absurd cc

  last_run : (made : List (Made K)) (t : S) (r : Run K S) → run_to x s n ≡ r → gone_on x r ≡ On made t → Last x s n made t
  last_run made t (On earlier u) e h = last_move earlier made u t (x.move u) e refl h
  last_run made t (Broke earlier when kind k) e h = absurd cc
  last_run made t (Over earlier u) e h = absurd cc

  pub last : (made : List (Made K)) (t : S) → run_to x s (suc n) ≡ On made t → Last x s n made t
  unfolding run_to
  last made t h = last_run made t (run_to x s n) refl h

pub total_append : (paths : ℕ → ℕ) (a b : List Service) → total paths (a ++ b) ≡ total paths a + total paths b
total_append paths [] b = omega arith
total_append paths (e ∷ a) b = let i = total_append paths a b in omega arith

module _ (m : Meanings) (good : IsSound m) (es : List Event) (code : List ℕ) (region : Region) (us : List Use) (b : State) (p : Premises m es code region b) where
  start_live : (begun m es b).live ≡ []
  unfolding begun
  start_live = refl

  -- what the checker knows holds along the run
  deep : (n : ℕ) (t : Servicing) → IsListedTo m es code region us b n → IsAfter m es b n t → Deep m es code region p.in_ram us t
  deep zero t l e = subst (Deep m es code region p.in_ram us) (at_start (servicing_machine m es) (begun m es b) t e) (deep_start m es code region p.in_ram us (begun m es b) (start_known m good es code region b p) start_live)
  deep (suc n) t l e =
      let x = before_it (servicing_machine m es) (begun m es b) n t e in
      deep_next m es code region p.in_ram us x.state t x.kind
      (deep n x.state (record { listed = λ j s u v k. l.listed j s u v (omega arith); room = λ j s u v k. l.room j s u v (omega arith) }) x.is_there)
      x.moves (after_range m good es code region b p (suc n) t e)
      (λ v live. l.listed n x.state t v (omega arith) (record { before = x.is_there; after = e; live = live }))
      (λ v live none. l.room n x.state t v (omega arith) (record { before = x.is_there; after = e; live = live }) none)

  pub known : (n : ℕ) (t : Servicing) → IsListedTo m es code region us b n → IsAfter m es b n t → Inv m code region t
  known n t l e = (deep n t l e).inv

  pub is_after : (n : ℕ) (made : List (Made Move)) (t : Servicing) → RunsTo m es b n made t → IsAfter m es b n t
  is_after n made t r = ap state_in r

  fewer : (n : ℕ) → IsListedTo m es code region us b (suc n) → IsListedTo m es code region us b n
  fewer n l = record { listed = λ j s u v k. l.listed j s u v (omega arith); room = λ j s u v k. l.room j s u v (omega arith) }

  module _ (d : Dispatcher) (paths : ℕ → ℕ) (level i : ℕ) (before : List (Made Move)) (s : Servicing) (from : RunsTo m es b i before s) where
    none : (made : List (Made Move)) (t : Servicing) → RunsTo m es b i made t → Takes m es d code paths level before made s t
    none made t r =
        let e : On before s ≡ On made t = sym from ∙ r in
        let same : before ≡ made = cc in
        let here : s ≡ t = cc in
        let c : cost (servicing_machine m es) d before ≡ cost (servicing_machine m es) d made = ap (cost (servicing_machine m es) d) same in
        let l : rest code level s ≡ rest code level t = ap (rest code level) here in
        record { begun = []; services = ap (λ u. u.services) (sym here) ∙ sym (append-nil s.services); steps = omega arith }

    joins : (made : List (Made Move)) (k : Made Move) (u t : Servicing) → Takes m es d code paths level before made s u → Turn code paths level k.kind u t → Takes m es d code paths level before (k ∷ made) s t
    joins made k u t a h =
        let c = cost_next m es d k made in
        let x = a.steps in
        let y = h.steps in
        let sum = total_append paths a.begun h.begun in
        record {
          begun = a.begun ++ h.begun;
          services = h.services ∙ (ap (λ l. l ++ h.begun) a.services ∙ append_assoc s.services a.begun h.begun);
          steps = omega arith;
        }

    pub stretch : (n : ℕ) → i ≤ n → IsListedTo m es code region us b n → AreTimedTo m es code paths b n → (made : List (Made Move)) (t : Servicing) → RunsTo m es b n made t → AreMadeBy m es b i n level → Takes m es d code paths level before made s t
    stretch zero l listed timed made t r by = none made t (subst (λ k. RunsTo m es b k made t) (omega arith) r)
    stretch (suc n) l listed timed made t r by =
        ⊎_elim
        (λ (h : n < i). none made t (subst (λ k. RunsTo m es b k made t) (omega arith) r))
        (λ (h : i ≤ n).
        let x = last (servicing_machine m es) (begun m es b) n made t r in
        let at = is_after n x.earlier x.state x.runs in
        let so_far = stretch n h (fewer n listed) (λ j q u v k. timed j q u v (omega arith)) x.earlier x.state x.runs (λ j a k. by j a (omega arith)) in
        let one = turn m es code region paths level x.state t (known n x.state (fewer n listed) at) x.latest.kind x.moves (by n h (omega arith) x.state at x.latest.kind t x.moves)
        (λ v live. timed n x.state t v (omega arith) (record { before = at; after = is_after (suc n) made t r; live = live })) in
        subst (λ k. Takes m es d code paths level before k s t) (sym x.is) (joins x.earlier x.latest x.state t so_far one))
        (cases_lt n i)

module _ (m : Meanings) (good : IsSound m) where
  pub stretch_is_timed : StretchIsTimed m
  stretch_is_timed es d code region us paths b level i n before made s t l run from to by =
      stretch m good es code region us b run.premises d paths level i before s from n l run.listed run.timed made t to by

  served : (level : ℕ) (kind : Move) (s t : Servicing) → Serves level kind s t → IsMadeBy level kind s
  served level Enter s t h = tt
  served level Leave s t h = h
  served level Body s t h = h

  pub wait_is_timed : WaitIsTimed m
  wait_is_timed es d code region us paths b input level i n before made s t l run from to waits =
      stretch_is_timed es d code region us paths b level i n before made s t l run from to
      (λ j a k u at kind w e. served level kind u w (no_inversion m es input level u w kind (waits j a k u at) e))

  still_by : (kind : Move) (s : Servicing) (live : List Live) → s.live ≡ live → (s.live ≡ [] → kind ≡ Enter) → IsMadeBy 0 kind s
  still_by Enter s live e h = tt
  still_by Leave s [] e h = let k = h e in absurd cc
  still_by Leave s (v ∷ vs) e h = subst (HasInnermost 0) (sym e) (omega arith)
  still_by Body s [] e h = let k = h e in absurd cc
  still_by Body s (v ∷ vs) e h = subst (HasInnermost 0) (sym e) (omega arith)

  no_rest : (code : List ℕ) (s : Servicing) → s.live ≡ [] → rest code 0 s ≡ 0
  no_rest code s e = ap (rest_of code 0 s.pc) e

  pub burst_is_timed : BurstIsTimed m
  burst_is_timed es d code region us paths b i n before made s t l run from to burst =
      let x = stretch_is_timed es d code region us paths b 0 i n before made s t l run from to (λ j a k u at kind w e. still_by kind u u.live refl (λ none. burst.still j a k u at none kind w e)) in
      let a = no_rest code s burst.begins in
      let y = x.steps in
      record { begun = x.begun; services = x.services; steps = omega arith }
