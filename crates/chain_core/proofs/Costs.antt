-- What a run costs, from how many moves of each kind it has made.
use Rattle.std.proofs.Common.{◌≡◌, ℕ, suc, ◌+◌, ◌*◌, Bool, true, false, List, [], ◌∷◌, length, Option, Some, None, refl, sym, ap, ◌∙◌, subst, arith}
use Rattle.std.specs.Prelude.{not, ◌&&◌}
use Rattle.std.proofs.lemmas.Bool.{true≢false}
use Rattle.std.proofs.lemmas.List.{length-append}
use Rattle.device_model.specs.Meanings.{Meanings}
use Rattle.clic_select.specs.Top.{top}
use Rattle.clic_select.specs.declared.choice.Choice.{Choice}
use Rattle.hart_board.specs.declared.event.Event.{Event}
use Rattle.chain_moves.specs.Servicing.{Service, Servicing}
use Rattle.chain_moves.specs.Enter.{is_enter_due}
use Rattle.chain_moves.specs.Machine.{Machine, Ends}
use Rattle.chain_moves.specs.Run.{Made, Leads}
use Rattle.chain_moves.specs.Moves.{move, claims, claims_by, servicing_machine}
use Rattle.chain_moves.specs.Cost.{is_fused, is_halfway, price, cost}
use Rattle.chain_core.specs.Counts.{Counts, counts, counted, after_leave, one_leave}
use Rattle.chain_moves.specs.Kinds.{Enters, Leaves, IsMoveBy, IsMove, EnterLeaves, LeaveLeaves, BodyLeaves}
use Rattle.chain_moves.specs.declared.broken.Broken.TheVariants.{HardVectored}
use Rattle.chain_moves.specs.declared.dispatcher.Dispatcher.TheVariants.{Looping, Returning}
use Rattle.chain_moves.specs.declared.moves.Move.{Move}
use Rattle.chain_moves.specs.declared.moves.Move.TheVariants.{Enter, Leave, Body}
use Rattle.chain_moves.proofs.OneOfThree.{is_one, running}
use Rattle.chain_moves.proofs.Nested.{passed}
use Rattle.chain_moves.proofs.Alone.{leaves_alone}

-- an Enter is made after a move exactly where one is due then: what a run of the machine has, the latest move first
abbrev pub Follows : Move → List (Made Move) → Type 0
Follows kind [] = Unit {0}
Follows Enter (m ∷ made) = m.claims ≡ true
Follows Leave (m ∷ made) = m.claims ≡ false
Follows Body (m ∷ made) = m.claims ≡ false

abbrev pub AreFollowing : List (Made Move) → Type 0
AreFollowing [] = Unit {0}
AreFollowing (m ∷ made) = Follows m.kind made × AreFollowing made

module _ (m : Meanings) (es : List Event) where
  abbrev machine : Machine Move Servicing Service
  machine = servicing_machine m es

  pub none_due : (o : Option Choice) → claims_by o false ≡ false
  none_due None = refl
  none_due (Some t) = refl

  pub soft : (s t : Servicing) → Enters s t → claims s ≡ true
  unfolding claims
  soft s t h =
      let hard : h.choice.shv ≡ false = (passed h.choice.shv HardVectored _ h.untested).0 in
      ap (λ o. claims_by o (is_enter_due s (top s.outside.clic))) h.is_top ∙ (ap (λ d. d && not h.choice.shv) h.is_due ∙ ap not hard)

  pub quiet : (s : Servicing) → is_enter_due s (top s.outside.clic) ≡ false → claims s ≡ false
  unfolding claims
  quiet s e = ap (claims_by (top s.outside.clic)) e ∙ none_due (top s.outside.clic)

  follows : (kind : Move) (made : List (Made Move)) (s u t : Servicing) → Leads machine made s u → IsMoveBy m es u kind t → Follows kind made
  follows Enter [] s u t h is = tt
  follows Leave [] s u t h is = tt
  follows Body [] s u t h is = tt
  follows Enter (k ∷ made) s u t (w, h, e, c) is = sym c ∙ soft u t is
  follows Leave (k ∷ made) s u t (w, h, e, c) is = sym c ∙ quiet u is.no_enter
  follows Body (k ∷ made) s u t (w, h, e, c) is = sym c ∙ quiet u is.no_enter

  following : (made : List (Made Move)) (s t : Servicing) → Leads machine made s t → AreFollowing made
  following [] s t h = tt
  following (k ∷ made) s t (u, h, e, c) = (follows k.kind made s u t h (is_one m es u k.kind t e).1, following made s u h)

  -- ---- sums
  halfway_never : (made : List (Made Move)) → is_halfway machine Returning made ≡ false
  halfway_never [] = refl
  halfway_never (k ∷ made) = refl

  returning_one : (made : List (Made Move)) (kind : Move) → cost machine Returning made ≡ (counts made).bodies + 14 * (counts made).enters + 16 * (counts made).leaves
      → cost machine Returning made + price kind (is_halfway machine Returning made) false ≡ (counted (counts made) made kind).bodies + 14 * (counted (counts made) made kind).enters + 16 * (counted (counts made) made kind).leaves
  returning_one made Enter e = let h = ap (λ b. price Enter b false) (halfway_never made) in omega (arith, e, h)
  returning_one made Leave e = omega (arith, e)
  returning_one made Body e = omega (arith, e)

  pub returning_is : (made : List (Made Move)) → cost machine Returning made ≡ (counts made).bodies + 14 * (counts made).enters + 16 * (counts made).leaves
  unfolding cost counts
  returning_is [] = refl
  returning_is (k ∷ made) = returning_one made k.kind (returning_is made)

  -- what a Leave costs more where the Enter after it isn't made yet
  abbrev pub rest : Bool → ℕ
  rest true = 11
  rest false = 0

  -- the move before an Enter of a fused pair is a Leave, and no other move is made halfway
  halfway_enter : (made : List (Made Move)) → Follows Enter made → price Enter (is_halfway machine Looping made) false + 23 * after_leave made ≡ 14 + rest (is_halfway machine Looping made)
  halfway_enter [] f = refl
  halfway_enter (k ∷ made) f = by_kind k.kind k.claims f
    where
      by_kind : (kind : Move) (claims : Bool) → claims ≡ true → price Enter (is_fused Looping kind claims) false + 23 * one_leave kind ≡ 14 + rest (is_fused Looping kind claims)
      by_kind Leave true f = refl
      by_kind Leave false f = absurd (true≢false (sym f))
      by_kind Enter c f = refl
      by_kind Body c f = refl

  not_halfway : (kind : Move) (claims : Bool) → claims ≡ false → is_fused Looping kind claims ≡ false
  not_halfway Leave claims f = f
  not_halfway Enter claims f = refl
  not_halfway Body claims f = refl

  halfway_leave : (made : List (Made Move)) → Follows Leave made → is_halfway machine Looping made ≡ false
  halfway_leave [] f = refl
  halfway_leave (k ∷ made) f = not_halfway k.kind k.claims f

  halfway_body : (made : List (Made Move)) → Follows Body made → is_halfway machine Looping made ≡ false
  halfway_body [] f = refl
  halfway_body (k ∷ made) f = not_halfway k.kind k.claims f

  leave_ends : (b c : Bool) → price Leave b c + rest c ≡ 16
  leave_ends b true = refl
  leave_ends b false = refl

  looping_one : (made : List (Made Move)) (kind : Move) (claims : Bool) → Follows kind made
      → cost machine Looping made + 23 * (counts made).pairs + rest (is_halfway machine Looping made) ≡ cost machine Returning made
      → cost machine Looping made + price kind (is_halfway machine Looping made) (is_fused Looping kind claims) + 23 * (counted (counts made) made kind).pairs + rest (is_fused Looping kind claims)
      ≡ cost machine Returning made + price kind (is_halfway machine Returning made) false
  looping_one made Enter claims f e =
      let h = ap (λ b. price Enter b false) (halfway_never made) in
      let k = halfway_enter made f in
      omega (arith, e, h, k)
  looping_one made Leave claims f e =
      let h = ap rest (halfway_leave made f) in
      let k = leave_ends (is_halfway machine Looping made) claims in
      omega (arith, e, h, k)
  looping_one made Body claims f e = let h = ap rest (halfway_body made f) in omega (arith, e, h)

  pub looping_is : (made : List (Made Move)) → AreFollowing made → cost machine Looping made + 23 * (counts made).pairs + rest (is_halfway machine Looping made) ≡ cost machine Returning made
  unfolding cost counts
  looping_is [] f = refl
  looping_is (k ∷ made) f = looping_one made k.kind k.claims f.0 (looping_is made f.1)

  -- ---- a run that is over isn't halfway
  left_outside : (s t : Servicing) → Leaves s t → t.outside ≡ s.outside
  left_outside s t h = let x : LeaveLeaves s t = leaves_alone m es s Leave t h in x.outside

  over_halfway : (made : List (Made Move)) (s t : Servicing) → Leads machine made s t → move m es t ≡ Ends → is_halfway machine Looping made ≡ false
  over_halfway [] s t h e = refl
  over_halfway (k ∷ made) s t (u, h, step, c) e = by_kind k.kind k.claims (is_one m es u k.kind t step)
    where
      by_kind : (kind : Move) (claims : Bool) → IsMove m es u kind t → is_fused Looping kind claims ≡ false
      by_kind Enter claims is = refl
      by_kind Body claims is = refl
      by_kind Leave claims is = absurd (running m es t (ap (λ o. m.halted o.device) (left_outside u t is.1) ∙ is.0) e)

  -- ---- what the state says of the moves
  abbrev Counted : Servicing → Servicing → Counts → Type 0
  Counted s t n = (t.bodies ≡ s.bodies + n.bodies) × (length t.services ≡ length s.services + n.enters) × (length t.live + n.leaves ≡ length s.live + n.enters)

  one_counted : (s u t : Servicing) (made : List (Made Move)) (n : Counts) (kind : Move) → Counted s u n → IsMoveBy m es u kind t → Counted s t (counted n made kind)
  one_counted s u t made n Enter h is =
      let x : EnterLeaves u t = leaves_alone m es u Enter t is in
      let services : length t.services ≡ length u.services + 1 = ap length x.listed.1 ∙ length-append u.services (x.listed.0 ∷ []) in
      let live : length t.live ≡ suc (length u.live) = ap length x.others.1 in
      (x.bodies ∙ h.0, omega (arith, services, h.1), omega (arith, live, h.2))
  one_counted s u t made n Leave h is =
      let x : LeaveLeaves u t = leaves_alone m es u Leave t is in
      let live : length u.live ≡ suc (length t.live) = ap length x.others.1 in
      (x.counts.0 ∙ h.0, ap length x.counts.1 ∙ h.1, omega (arith, live, h.2))
  one_counted s u t made n Body h is =
      let x : BodyLeaves u t = leaves_alone m es u Body t is in
      (omega (arith, x.bodies, h.0), ap length x.services ∙ h.1, ap (λ l. length l + n.leaves) x.live ∙ h.2)

  counts_are : (made : List (Made Move)) (s t : Servicing) → Leads machine made s t → Counted s t (counts made)
  unfolding counts
  counts_are [] s t h = subst (λ u. Counted s u (record { enters = 0; leaves = 0; bodies = 0; pairs = 0 })) h (omega arith, omega arith, refl)
  counts_are (k ∷ made) s t (u, h, step, c) = one_counted s u t made (counts made) k.kind (counts_are made s u h) (is_one m es u k.kind t step).1

  -- ---- along a run
  pub run_counts : (s t : Servicing) (made : List (Made Move)) → Leads machine made s t → Counted s t (counts made)
  run_counts s t made h = counts_are made s t h

  pub run_costs : (s t : Servicing) (made : List (Made Move)) → Leads machine made s t → cost machine Returning made ≡ (counts made).bodies + 14 * (counts made).enters + 16 * (counts made).leaves
  run_costs s t made h = returning_is made

  pub over_costs : (s t : Servicing) (made : List (Made Move)) → Leads machine made s t → move m es t ≡ Ends → cost machine Looping made + 23 * (counts made).pairs ≡ cost machine Returning made
  over_costs s t made h e =
      let half = ap rest (over_halfway made s t h e) in
      let all = looping_is made (following made s t h) in
      omega (arith, half, all)
