-- Moves of the servicing machine, made by the machine with direct services after others.
use Rattle.std.proofs.Common.{◌≡◌, ℕ, ◌+◌, ◌-◌, ◌<◌, ◌≤◌, ◌⊎◌, inl, inr, ⊎_elim, Bool, true, false, not, ◌&&◌, List, [], ◌∷◌, ◌++◌, length, Option, Some, None, refl, sym, ap, ◌∙◌, subst, arith, append_assoc}
use Rattle.std.proofs.lemmas.List.{append-nil}
use Rattle.std.proofs.lemmas.Bool.{true≢false}
use Rattle.device_model.specs.Meanings.{Meanings}
use Rattle.clic_select.specs.Top.{top}
use Rattle.clic_select.specs.declared.choice.Choice.{Choice}
use Rattle.clic_trap.specs.Due.{due}
use Rattle.hart_board.specs.declared.event.Event.{Event}
use Rattle.chain_moves.specs.Servicing.{Service, Servicing}
use Rattle.chain_moves.specs.Enter.{is_enter_due, entered}
use Rattle.chain_moves.specs.Machine.{When, Before, Within, After, Moved, Makes, Breaks, Ends, Machine}
use Rattle.chain_moves.specs.Run.{Made, Leads}
use Rattle.chain_moves.specs.Cost.{is_halfway, price, cost}
use Rattle.chain_core.specs.End.{steps_before, steps_needed}
use Rattle.chain_moves.specs.Moves.{move, claims, claims_by, servicing_machine}
use Rattle.chain_moves.specs.Kinds.{IsMove, LeaveLeaves, BodyLeaves}
use Rattle.chain_moves.specs.Beside.{Rest, board_of}
use Rattle.chain_moves.specs.declared.broken.Broken.{Broken}
use Rattle.chain_moves.specs.declared.broken.Broken.TheVariants.{HardVectored}
use Rattle.chain_moves.specs.declared.dispatcher.Dispatcher.{Dispatcher}
use Rattle.chain_moves.specs.declared.moves.Move.{Move}
use Rattle.chain_moves.specs.declared.moves.Move.TheVariants.{Enter, Leave, Body}
use Rattle.chain_moves.proofs.OneOfThree.{is_one}
use Rattle.chain_moves.proofs.Alone.{leaves_alone}
use Rattle.chain_core.proofs.Bounded.{Late}
use Rattle.chain_direct.specs.Kind.{Kind, Plain}
use Rattle.chain_direct.specs.Directed.{Listed, Directed, as_chained, all_chained, listed_after}
use Rattle.chain_direct.specs.DirectMoves.{with_move, entering_by, moved_alone, moved_by, direct_move, direct_claims, direct_machine}
use Rattle.chain_direct.specs.DirectRounds.{only_hard, hard_by, hard_due}
use Rattle.chain_direct.proofs.NothingDirect.{alone, all_plain, moves_alone, same_cost, all_late}

-- ---- moves after others, of any machine

module _ {K S E : Type 0} (x : Machine K S E) (d : Dispatcher) where
  pub leads_on : (made before : List (Made K)) (s t u : S) → Leads x before s t → Leads x made t u → Leads x (made ++ before) s u
  leads_on [] before s t u h e = subst (Leads x before s) e h
  leads_on (k ∷ made) before s t u h (v, g, e, c) = (v, leads_on made before s t v h g, e, c)

  pub half_on : (made before : List (Made K)) → is_halfway x d before ≡ false → is_halfway x d (made ++ before) ≡ is_halfway x d made
  half_on [] before whole = whole
  half_on (k ∷ made) before whole = refl

  pub cost_on : (made before : List (Made K)) → is_halfway x d before ≡ false → cost x d (made ++ before) ≡ cost x d before + cost x d made
  unfolding cost
  cost_on [] before whole = omega arith
  cost_on (k ∷ made) before whole =
      let h : price (x.costs_as k.kind) (is_halfway x d (made ++ before)) (is_halfway x d (k ∷ made)) ≡ price (x.costs_as k.kind) (is_halfway x d made) (is_halfway x d (k ∷ made)) = ap (λ h. price (x.costs_as k.kind) h (is_halfway x d (k ∷ made))) (half_on made before whole) in
      let c = cost_on made before whole in
      omega (arith, h, c)

pub needed_on : (when : When) (n c : ℕ) → steps_needed when (n + c) ≡ n + steps_needed when c
needed_on Before n c = refl
needed_on Within n c = omega arith
needed_on After n c = omega arith

-- and the steps before a test
pub before_on : (when : When) (n c : ℕ) → steps_before when (n + c) ≡ n + steps_before when c
before_on Before n c = refl
before_on Within n c = refl
before_on After n c = omega arith

pub all_append : (a b : List Service) → all_chained (a ++ b) ≡ all_chained a ++ all_chained b
unfolding all_chained
all_append [] b = refl
all_append (e ∷ a) b = ap (λ l. as_chained e ∷ l) (all_append a b)

not_makes : {kind : Move} {t : Servicing} {when : When} {broken : Broken} {n : ℕ} (moved : Moved Move Servicing) → moved ≡ Makes kind t → moved ≡ Breaks when broken n → ⊥
not_makes moved e f = absurd cc

not_ends : {when : When} {broken : Broken} {n : ℕ} (moved : Moved Move Servicing) → moved ≡ Ends → moved ≡ Breaks when broken n → ⊥
not_ends moved e f = absurd cc

no_choice : {t : Choice} → Some t ≡ None → ⊥
no_choice e = cc

module _ (m : Meanings) (es : List Event) where
  -- ---- where no Enter of a hardware-vectored top is due
  by_top : (s : Servicing) (l : List Listed) (o : Option Choice) (is_due : Bool) → ((t : Choice) → o ≡ Some t → is_due ≡ true → t.shv ≡ false) → moved_alone m es (alone s l) o is_due ≡ with_move (alone s l) (move m es s)
  by_top s l (Some t) true soft = ap (entering_by m es (alone s l) t) (soft t refl refl)
  by_top s l (Some t) false soft = refl
  by_top s l None is_due soft = refl

  soft_move : (s : Servicing) (l : List Listed) → (m.halted s.outside.device ≡ None → (t : Choice) → top s.outside.clic ≡ Some t → is_enter_due s (top s.outside.clic) ≡ true → t.shv ≡ false) → direct_move m es (alone s l) ≡ with_move (alone s l) (move m es s)
  unfolding direct_move
  soft_move s l soft = by_halt (m.halted s.outside.device) refl
    where
      by_halt : (o : Option ℕ) → m.halted s.outside.device ≡ o → moved_by m es (alone s l) None (m.halted s.outside.device) ≡ with_move (alone s l) (move m es s)
      by_halt (Some code) h = ap (moved_by m es (alone s l) None) h
      by_halt None h = ap (moved_by m es (alone s l) None) h ∙ by_top s l (top s.outside.clic) (is_enter_due s (top s.outside.clic)) (soft h)

  -- the board takes none with its next step
  pub hard_is : (s : Servicing) (x : Rest) → hard_due m (board_of s x) ≡ hard_by (m.halted s.outside.device) (top s.outside.clic) (is_enter_due s (top s.outside.clic))
  unfolding hard_due due is_enter_due
  hard_is s x = refl

  not_hard : (t : Choice) (shv : Bool) → only_hard t shv ≡ None → shv ≡ false
  not_hard t true e = absurd (no_choice e)
  not_hard t false e = refl

  pub quiet_move : (s : Servicing) (x : Rest) (l : List Listed) → hard_due m (board_of s x) ≡ None → direct_move m es (alone s l) ≡ with_move (alone s l) (move m es s)
  quiet_move s x l none = soft_move s l (λ runs t is_top is_due. not_hard t t.shv (sym (ap (λ o. hard_by o (top s.outside.clic) (is_enter_due s (top s.outside.clic))) runs ∙ (ap (λ o. hard_by None o (is_enter_due s (top s.outside.clic))) is_top ∙ ap (hard_by None (Some t)) is_due)) ∙ (sym (hard_is s x) ∙ none)))

  -- nor where one of another input is due
  claimed_soft : (t : Choice) (is_due : Bool) → (is_due && not t.shv) ≡ true → t.shv ≡ false
  claimed_soft t true e = by_shv t.shv e
    where
      by_shv : (shv : Bool) → not shv ≡ true → shv ≡ false
      by_shv true e = absurd (true≢false (sym e))
      by_shv false e = refl
  claimed_soft t false e = absurd (true≢false (sym e))

  claims_move : (s : Servicing) (l : List Listed) → claims s ≡ true → direct_move m es (alone s l) ≡ with_move (alone s l) (move m es s)
  unfolding claims
  claims_move s l c = soft_move s l (λ runs t is_top is_due. claimed_soft t (is_enter_due s (top s.outside.clic)) (sym (ap (λ o. claims_by o (is_enter_due s (top s.outside.clic))) is_top) ∙ c))

  -- ---- one move
  raised_move : (s t : Servicing) (kind : Move) (l : List Listed) → move m es s ≡ Makes kind t → direct_move m es (alone s l) ≡ Makes (Plain kind) (alone t (listed_after kind l t.live))
  raised_move s t kind l e =
      ⊎_elim
      (λ (h : move m es s ≡ Breaks Before HardVectored s.bodies). absurd (not_makes (move m es s) e h))
      (λ (h : direct_move m es (alone s l) ≡ with_move (alone s l) (move m es s)). h ∙ ap (with_move (alone s l)) e)
      (moves_alone m es s l)

  pub raised_ends : (s : Servicing) (l : List Listed) → move m es s ≡ Ends → direct_move m es (alone s l) ≡ Ends
  raised_ends s l e =
      ⊎_elim
      (λ (h : move m es s ≡ Breaks Before HardVectored s.bodies). absurd (not_ends (move m es s) e h))
      (λ (h : direct_move m es (alone s l) ≡ with_move (alone s l) (move m es s)). h ∙ ap (with_move (alone s l)) e)
      (moves_alone m es s l)

  -- the services that a move lists
  record New (s t : Servicing) (kind : Move) : Type 0 where
    new : List Service
    read : t.services ≡ s.services ++ new
    listed : (l : List Listed) → listed_after kind l t.live ≡ l ++ all_chained new

  entered_new : (s : Servicing) (c : Choice) → New s (entered s c) Enter
  unfolding entered all_chained
  entered_new s c = record { new = _; read = refl; listed = λ l. refl }

  no_more : (l : List Listed) → l ≡ l ++ all_chained []
  unfolding all_chained
  no_more l = sym (append-nil l)

  new_of : (s t : Servicing) (kind : Move) → IsMove m es s kind t → New s t kind
  new_of s t Enter (runs, h) = subst (λ u. New s u Enter) (sym h.made) (entered_new s h.choice)
  new_of s t Leave (runs, h) = let x : LeaveLeaves s t = leaves_alone m es s Leave t h in record { new = []; read = x.counts.1 ∙ sym (append-nil s.services); listed = λ l. no_more l }
  new_of s t Body (runs, h) = let x : BodyLeaves s t = leaves_alone m es s Body t h in record { new = []; read = x.services ∙ sym (append-nil s.services); listed = λ l. no_more l }

  -- ---- a list of moves
  pub record Raised (s t : Servicing) (made : List (Made Move)) (l : List Listed) : Type 0 where
    pub listed : List Listed
    pub new : List Service
    pub leads : Leads (direct_machine m es) (all_plain made) (alone s l) (alone t listed)
    pub read : t.services ≡ s.services ++ new
    pub listed_are : listed ≡ l ++ all_chained new

  same_claims : (t : Servicing) (l : List Listed) → direct_claims (alone t l) ≡ claims t
  unfolding direct_claims
  same_claims t l = refl

  pub raised : (made : List (Made Move)) (s t : Servicing) (l : List Listed) → Leads (servicing_machine m es) made s t → Raised s t made l
  unfolding all_plain
  raised [] s t l e = record {
    listed = l;
    new = [];
    leads = ap (λ u. alone u l) e;
    read = ap (λ (u : Servicing). u.services) (sym e) ∙ sym (append-nil s.services);
    listed_are = no_more l;
  }
  raised (k ∷ made) s t l (u, h, e, c) =
      let r = raised made s u l h in
      let n = new_of u t k.kind (is_one m es u k.kind t e) in
      record {
        listed = listed_after k.kind r.listed t.live;
        new = r.new ++ n.new;
        leads = (alone u r.listed, r.leads, raised_move u t k.kind r.listed e, same_claims t _ ∙ c);
        read = n.read ∙ (ap (λ y. y ++ n.new) r.read ∙ append_assoc s.services r.new n.new);
        listed_are = n.listed r.listed ∙ (ap (λ y. y ++ all_chained n.new) r.listed_are ∙ (append_assoc l (all_chained r.new) (all_chained n.new) ∙ ap (λ y. l ++ y) (sym (all_append r.new n.new))));
      }

  -- what is due after them is beyond the bound
  module _ (d : Dispatcher) (n bound : ℕ) (before : List (Made Kind)) (start : Directed) (s t : Servicing) (made : List (Made Move)) (l : List Listed) (whole : is_halfway (direct_machine m es) d before ≡ false) (costs : cost (direct_machine m es) d before ≡ n) (within : n ≤ bound) where
    pub all_cost : (made : List (Made Move)) → cost (direct_machine m es) d (all_plain made ++ before) ≡ n + cost (servicing_machine m es) d made
    all_cost made =
        let c = cost_on (direct_machine m es) d (all_plain made) before whole in
        let e = same_cost m es d made in
        omega (arith, c, e, costs)

    late_by : (moved : Moved Move Servicing) → Late (servicing_machine m es) d s (bound - n) made moved → Late (direct_machine m es) d start bound (all_plain made ++ before) (with_move (alone t l) moved)
    unfolding all_plain direct_claims
    late_by (Makes kind u) h =
        let c = all_cost (record { kind = kind; claims = claims u } ∷ made) in
        omega (arith, c, h, within)
    late_by (Breaks when kind k) h =
        let c : steps_needed when (cost (direct_machine m es) d (all_plain made ++ before)) ≡ n + steps_needed when (cost (servicing_machine m es) d made) = ap (steps_needed when) (all_cost made) ∙ needed_on when n (cost (servicing_machine m es) d made) in
        omega (arith, c, h, within)
    late_by Ends h = let c = all_cost made in omega (arith, c, h, within)

    pub late_on : Late (servicing_machine m es) d s (bound - n) made (move m es t) → Late (direct_machine m es) d start bound (all_plain made ++ before) (direct_move m es (alone t l))
    late_on h =
        ⊎_elim
        (λ (e : move m es t ≡ Breaks Before HardVectored t.bodies).
        let late : bound - n < cost (servicing_machine m es) d made = subst (Late (servicing_machine m es) d s (bound - n) made) e h in
        let c = all_cost made in
        all_late m es d bound start (all_plain made ++ before) (direct_move m es (alone t l)) (omega (arith, c, late, within)))
        (λ (e : direct_move m es (alone t l) ≡ with_move (alone t l) (move m es t)). subst (Late (direct_machine m es) d start bound (all_plain made ++ before)) (sym e) (late_by (move m es t) h))
        (moves_alone m es t l)

  -- a test that holds
  made_none : (made : List (Made Move)) → length made ≤ 0 → made ≡ []
  made_none [] l = refl
  made_none (k ∷ made) l = absurd (omega arith)

  pub breaks_on : (s t : Servicing) (x : Rest) (made : List (Made Move)) (l : List Listed) (when : When) (kind : Broken) (k : ℕ) → hard_due m (board_of s x) ≡ None → Leads (servicing_machine m es) made s t → (length made ≤ 0) ⊎ (claims t ≡ true) → move m es t ≡ Breaks when kind k → direct_move m es (alone t l) ≡ Breaks when kind k
  breaks_on s t x made l when kind k none leads (inl short) e =
      let same : s ≡ t = subst (λ made. Leads (servicing_machine m es) made s t) (made_none made short) leads in
      quiet_move t x l (ap (λ u. hard_due m (board_of u x)) (sym same) ∙ none) ∙ ap (with_move (alone t l)) e
  breaks_on s t x made l when kind k none leads (inr c) e = claims_move t l c ∙ ap (with_move (alone t l)) e
