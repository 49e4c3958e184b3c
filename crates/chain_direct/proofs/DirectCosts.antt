-- What a run with direct services costs, from how many moves of each kind it has made.
use Rattle.std.proofs.Common.{◌≡◌, ℕ, suc, ◌+◌, ◌*◌, inl, inr, Bool, true, false, not, ◌&&◌, List, [], ◌∷◌, length, Option, Some, None, refl, sym, ap, ap₂, ◌∙◌, subst, arith}
use Rattle.std.proofs.lemmas.List.{length-append}
use Rattle.std.proofs.Math.Bool.{and-false}
use Rattle.device_model.specs.Meanings.{Meanings}
use Rattle.clic_select.specs.Top.{top}
use Rattle.hart_board.specs.declared.event.Event.{Event}
use Rattle.chain_moves.specs.Servicing.{Servicing}
use Rattle.chain_moves.specs.Enter.{is_enter_due}
use Rattle.chain_moves.specs.Machine.{Machine, Moved, Makes, Breaks, Ends, Before, unless_broken}
use Rattle.chain_moves.specs.Run.{Made, Leads}
use Rattle.chain_moves.specs.Moves.{claims, claims_by, servicing_machine}
use Rattle.chain_moves.specs.Cost.{is_fused, is_halfway, price, cost}
use Rattle.chain_core.specs.Counts.{Counts, counts, counted}
use Rattle.chain_moves.specs.Kinds.{EnterLeaves, LeaveLeaves, BodyLeaves}
use Rattle.chain_moves.specs.declared.dispatcher.Dispatcher.{Dispatcher}
use Rattle.chain_moves.specs.declared.dispatcher.Dispatcher.TheVariants.{Looping, Returning}
use Rattle.chain_moves.specs.declared.moves.Move.{Move}
use Rattle.chain_moves.specs.declared.moves.Move.TheVariants.{Enter, Leave, Body}
use Rattle.chain_moves.proofs.OneOfThree.{at_made, running}
use Rattle.chain_moves.proofs.Alone.{leaves_alone}
use Rattle.chain_core.proofs.Costs.{Follows, AreFollowing, soft, quiet, rest, returning_is, looping_is}
use Rattle.chain_direct.specs.Kind.{Kind, Begin, Plain, costs_as}
use Rattle.chain_direct.specs.Directed.{Direct, Listed, Directed, is_alone, newest}
use Rattle.chain_direct.specs.DirectBody.{direct_body}
use Rattle.clic_select.specs.declared.choice.Choice.{Choice}
use Rattle.chain_moves.specs.declared.broken.Broken.{Broken}
use Rattle.chain_moves.specs.Tests.{first_broken}
use Rattle.chain_moves.specs.Enter.{table_address}
use Rattle.chain_moves.specs.Moves.{move}
use Rattle.chain_direct.specs.DirectMoves.{begin_tests, vectored, with_move, entering_by, moved_alone, moved_by, direct_move, direct_claims, direct_machine}
use Rattle.chain_direct.specs.DirectKinds.{Begins, Chains, IsDirectMove}
use Rattle.chain_direct.specs.DirectCounts.{as_moves, one_begin, begins_in}
use Rattle.chain_direct.proofs.FourMoves.{IsPlainBody, body_plain, is_one_of_four}

module _ (m : Meanings) (es : List Event) where
  abbrev machine : Machine Kind Directed Listed
  machine = direct_machine m es

  -- ---- an Enter is made exactly where one is due
  claims_alone : (s : Directed) → s.direct ≡ None → direct_claims s ≡ claims s.chained
  unfolding direct_claims
  claims_alone s none = ap (λ o. is_alone o && claims s.chained) none

  claims_beside : (s : Directed) (v : Direct) → s.direct ≡ Some v → direct_claims s ≡ false
  unfolding direct_claims
  claims_beside s v live = ap (λ o. is_alone o && claims s.chained) live

  hard_claims : (s t : Directed) → Begins m s t → direct_claims s ≡ false
  unfolding claims
  hard_claims s t h =
      claims_alone s h.none
      ∙ (ap (λ o. claims_by o (is_enter_due s.chained (top s.chained.outside.clic))) h.is_top
      ∙ (ap (λ b. is_enter_due s.chained (top s.chained.outside.clic) && not b) h.hard ∙ and-false (is_enter_due s.chained (top s.chained.outside.clic))))

  follows_chain : (kind : Move) (made : List (Made Kind)) (s u t : Directed) → Leads machine made s u → Chains m es u kind t → Follows kind (as_moves made)
  unfolding as_moves
  follows_chain Enter [] s u t h is = tt
  follows_chain Leave [] s u t h is = tt
  follows_chain Body [] s u t h is = tt
  follows_chain Enter (k ∷ made) s u t (w, h, e, c) is = sym c ∙ (claims_alone u is.none ∙ soft m es u.chained is.new is.is.1)
  follows_chain Leave (k ∷ made) s u t (w, h, e, c) is = sym c ∙ (claims_alone u is.none ∙ quiet m es u.chained is.is.1.no_enter)
  follows_chain Body (k ∷ made) s u t (w, h, e, c) is = sym c ∙ (claims_alone u is.none ∙ quiet m es u.chained is.is.1.no_enter)

  follows_false : (made : List (Made Kind)) (s u : Directed) → Leads machine made s u → direct_claims u ≡ false → Follows Body (as_moves made)
  unfolding as_moves
  follows_false [] s u h never = tt
  follows_false (k ∷ made) s u (w, h, e, c) never = sym c ∙ never

  follows : (kind : Kind) (made : List (Made Kind)) (s u t : Directed) → Leads machine made s u → IsDirectMove m es u kind t → Follows (costs_as kind) (as_moves made)
  follows Begin made s u t h is = follows_false made s u h (hard_claims u t is)
  follows (Plain Enter) made s u t h is = follows_chain Enter made s u t h is
  follows (Plain Leave) made s u t h is = follows_chain Leave made s u t h is
  follows (Plain Body) made s u t h (inl is) = follows_chain Body made s u t h is
  follows (Plain Body) made s u t h (inr is) = follows_false made s u h (claims_beside u is.direct is.is_live)

  following : (made : List (Made Kind)) (s t : Directed) → Leads machine made s t → AreFollowing (as_moves made)
  unfolding as_moves
  following [] s t h = tt
  following (k ∷ made) s t (u, h, e, c) = (follows k.kind made s u t h (is_one_of_four m es u k.kind t e), following made s u h)

  -- ---- the moves that cost as much
  half_as : (d : Dispatcher) (made : List (Made Kind)) → is_halfway machine d made ≡ is_halfway (servicing_machine m es) d (as_moves made)
  unfolding as_moves
  half_as d [] = refl
  half_as d (k ∷ made) = refl

  pub costs_as_moves : (d : Dispatcher) (made : List (Made Kind)) → cost machine d made ≡ cost (servicing_machine m es) d (as_moves made)
  unfolding as_moves cost
  costs_as_moves d [] = refl
  costs_as_moves d (k ∷ made) = ap₂ (λ n h. n + price (costs_as k.kind) h (is_fused d (costs_as k.kind) k.claims)) (costs_as_moves d made) (half_as d made)

  -- ---- what the state says of the moves
  -- so many direct services began among them
  abbrev Counted : Directed → Directed → Counts → ℕ → Type 0
  Counted s t n begun = (t.chained.bodies + begun ≡ s.chained.bodies + n.bodies) × (length t.services ≡ length s.services + n.enters + begun) × (length t.chained.live + n.leaves ≡ length s.chained.live + n.enters)

  one_chained : (s u t : Directed) (made : List (Made Move)) (n : Counts) (begun : ℕ) (kind : Move) → Counted s u n begun → Chains m es u kind t → Counted s t (counted n made kind) (begun + 0)
  one_chained s u t made n begun Enter h is =
      let x : EnterLeaves u.chained is.new = leaves_alone m es u.chained Enter is.new is.is.1 in
      let bodies : t.chained.bodies ≡ u.chained.bodies = ap (λ (q : Directed). q.chained.bodies) is.made ∙ x.bodies in
      let one : length (newest is.new.live) ≡ 1 = ap (λ l. length (newest l)) x.others.1 in
      let services : length t.services ≡ length u.services + 1 = ap (λ (q : Directed). length q.services) is.made ∙ (length-append u.services (newest is.new.live) ∙ ap (λ k. length u.services + k) one) in
      let live : length t.chained.live ≡ suc (length u.chained.live) = ap (λ (q : Directed). length q.chained.live) is.made ∙ ap length x.others.1 in
      (omega (arith, bodies, h.0), omega (arith, services, h.1), omega (arith, live, h.2))
  one_chained s u t made n begun Leave h is =
      let x : LeaveLeaves u.chained is.new = leaves_alone m es u.chained Leave is.new is.is.1 in
      let bodies : t.chained.bodies ≡ u.chained.bodies = ap (λ (q : Directed). q.chained.bodies) is.made ∙ x.counts.0 in
      let services : length t.services ≡ length u.services = ap (λ (q : Directed). length q.services) is.made in
      let live : length u.chained.live ≡ suc (length t.chained.live) = ap length x.others.1 ∙ ap (λ (q : Directed). suc (length q.chained.live)) (sym is.made) in
      (omega (arith, bodies, h.0), omega (arith, services, h.1), omega (arith, live, h.2))
  one_chained s u t made n begun Body h is =
      let x : BodyLeaves u.chained is.new = leaves_alone m es u.chained Body is.new is.is.1 in
      let bodies : t.chained.bodies ≡ u.chained.bodies + 1 = ap (λ (q : Directed). q.chained.bodies) is.made ∙ x.bodies in
      let services : length t.services ≡ length u.services = ap (λ (q : Directed). length q.services) is.made in
      let live : length t.chained.live ≡ length u.chained.live = ap (λ (q : Directed). length q.chained.live) is.made ∙ ap length x.live in
      (omega (arith, bodies, h.0), omega (arith, services, h.1), omega (arith, live, h.2))

  begun_bodies : (s t : Directed) → Begins m s t → (t.chained.bodies ≡ s.chained.bodies) × (length t.services ≡ length s.services + 1) × (length t.chained.live ≡ length s.chained.live)
  unfolding vectored
  begun_bodies s t h = (ap (λ (q : Directed). q.chained.bodies) h.made, ap (λ (q : Directed). length q.services) h.made ∙ length-append s.services _, ap (λ (q : Directed). length q.chained.live) h.made)

  one_counted : (s u t : Directed) (made : List (Made Move)) (n : Counts) (begun : ℕ) (kind : Kind) → Counted s u n begun → IsDirectMove m es u kind t → Counted s t (counted n made (costs_as kind)) (begun + one_begin kind)
  one_counted s u t made n begun Begin h is =
      let x = begun_bodies u t is in
      (omega (arith, x.0, h.0), omega (arith, x.1, h.1), omega (arith, x.2, h.2))
  one_counted s u t made n begun (Plain Enter) h is = one_chained s u t made n begun Enter h is
  one_counted s u t made n begun (Plain Leave) h is = one_chained s u t made n begun Leave h is
  one_counted s u t made n begun (Plain Body) h (inl is) = one_chained s u t made n begun Body h is
  one_counted s u t made n begun (Plain Body) h (inr is) =
      let x : IsPlainBody u (Plain Body) t = at_made (IsPlainBody u) (direct_body m es u is.direct) (body_plain m es u is.direct) (Plain Body) t is.made in
      let services = ap length x.2 in
      let live = ap length x.3 in
      (omega (arith, x.1, h.0), omega (arith, services, h.1), omega (arith, live, h.2))

  pub run_counts : (made : List (Made Kind)) (s t : Directed) → Leads machine made s t → Counted s t (counts (as_moves made)) (begins_in made)
  unfolding counts as_moves begins_in
  run_counts [] s t h = subst (λ u. Counted s u (record { enters = 0; leaves = 0; bodies = 0; pairs = 0 }) 0) h (refl, omega arith, refl)
  run_counts (k ∷ made) s t (u, h, step, c) = one_counted s u t (as_moves made) (counts (as_moves made)) (begins_in made) k.kind (run_counts made s u h) (is_one_of_four m es u k.kind t step)

  -- ---- along a run
  pub run_costs : (s t : Directed) (made : List (Made Kind)) → Leads machine made s t → cost machine Returning made + s.chained.bodies ≡ t.chained.bodies + 14 * (counts (as_moves made)).enters + 16 * (counts (as_moves made)).leaves + begins_in made
  run_costs s t made h =
      let all = returning_is m es (as_moves made) in
      let same = costs_as_moves Returning made in
      let n = run_counts made s t h in
      omega (arith, all, same, n.0)

  -- ---- a run that is over isn't halfway
  unless_goes : (o : Option Broken) (n : ℕ) (kind : Kind) (t : Directed) → unless_broken Before o n (Makes kind t) ≡ Ends → ⊥
  unless_goes None n kind t e = absurd cc
  unless_goes (Some broken) n kind t e = absurd cc

  with_goes : (s : Directed) (moved : Moved Move Servicing) → (moved ≡ Ends → ⊥) → with_move s moved ≡ Ends → ⊥
  with_goes s (Makes kind t) goes e = absurd cc
  with_goes s (Breaks when kind n) goes e = absurd cc
  with_goes s Ends goes e = goes refl

  enters_on : (s : Directed) (t : Choice) (shv : Bool) → m.halted s.chained.outside.device ≡ None → entering_by m es s t shv ≡ Ends → ⊥
  enters_on s t true runs e = unless_goes (first_broken (begin_tests s.chained.dead (table_address s.chained.table t.id))) s.chained.bodies Begin (vectored s t) e
  enters_on s t false runs e = with_goes s (move m es s.chained) (running m es s.chained runs) e

  alone_on : (s : Directed) (o : Option Choice) (is_due : Bool) → m.halted s.chained.outside.device ≡ None → moved_alone m es s o is_due ≡ Ends → ⊥
  alone_on s (Some t) true runs e = enters_on s t t.shv runs e
  alone_on s (Some t) false runs e = with_goes s (move m es s.chained) (running m es s.chained runs) e
  alone_on s None is_due runs e = with_goes s (move m es s.chained) (running m es s.chained runs) e

  running_alone : (s : Directed) → s.direct ≡ None → m.halted s.chained.outside.device ≡ None → direct_move m es s ≡ Ends → ⊥
  unfolding direct_move
  running_alone s none runs e = alone_on s (top s.chained.outside.clic) (is_enter_due s.chained (top s.chained.outside.clic)) runs (sym (ap₂ (moved_by m es s) none runs) ∙ e)

  left_on : (u t : Directed) → Chains m es u Leave t → direct_move m es t ≡ Ends → ⊥
  left_on u t is e =
      let x : LeaveLeaves u.chained is.new = leaves_alone m es u.chained Leave is.new is.is.1 in
      running_alone t (ap (λ (q : Directed). q.direct) is.made ∙ is.none) (ap (λ (q : Directed). m.halted q.chained.outside.device) is.made ∙ (ap (λ o. m.halted o.device) x.outside ∙ is.is.0)) e

  over_halfway : (made : List (Made Kind)) (s t : Directed) → Leads machine made s t → direct_move m es t ≡ Ends → is_halfway (servicing_machine m es) Looping (as_moves made) ≡ false
  unfolding as_moves
  over_halfway [] s t h e = refl
  over_halfway (k ∷ made) s t (u, h, step, c) e = by_kind k.kind k.claims (is_one_of_four m es u k.kind t step)
    where
      by_kind : (kind : Kind) (claims : Bool) → IsDirectMove m es u kind t → is_fused Looping (costs_as kind) claims ≡ false
      by_kind Begin claims is = refl
      by_kind (Plain Enter) claims is = refl
      by_kind (Plain Body) claims is = refl
      by_kind (Plain Leave) claims is = absurd (left_on u t is e)

  pub over_costs : (s t : Directed) (made : List (Made Kind)) → Leads machine made s t → direct_move m es t ≡ Ends → cost machine Looping made + 23 * (counts (as_moves made)).pairs ≡ cost machine Returning made
  over_costs s t made h e =
      let half = ap (rest m es) (over_halfway made s t h e) in
      let all = looping_is m es (as_moves made) (following made s t h) in
      let one = costs_as_moves Looping made in
      let other = costs_as_moves Returning made in
      omega (arith, half, all, one, other)
