-- What one move costs, of what is left.
use Rattle.std.proofs.Common.{◌≡◌, ◌≢◌, ℕ, suc, ◌+◌, ◌≤◌, ◌⊎◌, inl, inr, Bool, true, false, cond, List, [], ◌∷◌, ◌++◌, length, refl, sym, ap, ◌∙◌, subst, arith, append-nil}
use Rattle.std.specs.Prelude.{nat_le}
use Rattle.std.proofs.lemmas.Bool.{le-leb}
use Rattle.device_model.specs.Meanings.{Meanings}
use Rattle.hart_exec.specs.Effect.{even}
use Rattle.clic_select.specs.declared.choice.Choice.{Choice}
use Rattle.hart_board.specs.declared.event.Event.{Event}
use Rattle.chain_moves.specs.Slot.{back}
use Rattle.chain_moves.specs.Servicing.{Live, Service, Servicing}
use Rattle.chain_moves.specs.Enter.{entered, new_frame, table_address, table_word}
use Rattle.chain_moves.specs.Leave.{left}
use Rattle.chain_moves.specs.Machine.{Makes}
use Rattle.chain_moves.specs.Run.{Made}
use Rattle.chain_moves.specs.Cost.{price, cost, is_halfway, enter_cost, leave_cost, body_cost}
use Rattle.chain_moves.specs.Moves.{move, servicing_machine}
use Rattle.chain_moves.specs.Kinds.{IsMoveBy, Enters, Leaves, BodyLeaves}
use Rattle.chain_moves.specs.declared.dispatcher.Dispatcher.{Dispatcher}
use Rattle.chain_moves.specs.declared.moves.Move.{Move}
use Rattle.chain_moves.specs.declared.moves.Move.TheVariants.{Enter, Leave, Body}
use Rattle.chain_moves.proofs.Alone.{leaves_alone}
use Rattle.chain_moves.proofs.OneOfThree.{is_one}
use Rattle.chain_moves.proofs.Registers.{enters}
use Rattle.chain_flow.specs.declared.region.Region.{Region}
use Rattle.chain_lint.specs.Soundness.{handler_of}
use Rattle.chain_lint.proofs.Invariant.{Inv}
use Rattle.chain_time.specs.Path.{path}
use Rattle.chain_time.specs.Stretch.{IsMadeBy, rest_of, rest, total}
use Rattle.chain_time.specs.Waiting.{HasInnermost}
use Rattle.chain_time.proofs.Steps.{body_falls}

-- ---- costs
-- what a move costs at most
abbrev pub most : Move → ℕ
most Enter = enter_cost
most Leave = leave_cost
most Body = body_cost

price_small : (kind : Move) (begins ends : Bool) → price kind begins ends ≤ most kind
price_small Body begins ends = omega arith
price_small Enter true ends = omega arith
price_small Enter false ends = omega arith
price_small Leave begins true = omega arith
price_small Leave begins false = omega arith

pub cost_next : (m : Meanings) (es : List Event) (d : Dispatcher) (k : Made Move) (made : List (Made Move)) → cost (servicing_machine m es) d (k ∷ made) ≤ cost (servicing_machine m es) d made + most k.kind
unfolding cost
cost_next m es d k made = let p = price_small k.kind (is_halfway (servicing_machine m es) d made) (is_halfway (servicing_machine m es) d (k ∷ made)) in omega arith

-- ---- an Enter
pub record Begun (s t : Servicing) : Type 0 where
  pub service : Live
  pub listed : Service
  pub live : t.live ≡ service ∷ s.live
  pub suspends : service.pc ≡ s.pc
  pub at : t.pc ≡ handler_of service
  pub services : t.services ≡ s.services ++ listed ∷ []
  pub number : listed.number ≡ service.number
  pub level : listed.level ≡ service.mark.level

entered_begun : (s : Servicing) (t : Choice) → length s.registers ≡ 32 → Begun s (entered s t)
unfolding entered
entered_begun s t l =
    let at = table_address s.table t.id in
    let x = enters s.registers (new_frame s) at (table_word s.memory at) l in
    record {
      service = _;
      listed = _;
      live = refl;
      suspends = refl;
      at = ap even (sym x.a1);
      services = refl;
      number = refl;
      level = refl;
    }

pub begins : (s t : Servicing) → length s.registers ≡ 32 → Enters s t → Begun s t
begins s t l h = subst (Begun s) (sym h.made) (entered_begun s h.choice l)

-- ---- a Leave
pub record Ended (s t : Servicing) : Type 0 where
  pub service : Live
  pub live : s.live ≡ service ∷ t.live
  pub at : t.pc ≡ service.pc
  pub services : t.services ≡ s.services

left_ended : (s : Servicing) (v : Live) (vs : List Live) → s.live ≡ v ∷ vs → Ended s (left s v vs)
unfolding left
left_ended s v [] e = record { service = v; live = e; at = refl; services = refl }
left_ended s v (w ∷ ws) e = record { service = v; live = e; at = refl; services = refl }

pub ends : (s t : Servicing) → Leaves s t → Ended s t
ends s t h = subst (Ended s) (sym h.made) (left_ended s h.innermost h.others h.is_live)

-- ---- what is left
-- of a move: the services that begin with it, and what it costs at most
pub record Turn (code : List ℕ) (paths : ℕ → ℕ) (level : ℕ) (kind : Move) (s t : Servicing) : Type 0 where
  pub begun : List Service
  pub services : t.services ≡ s.services ++ begun
  pub steps : most kind + rest code level t ≤ rest code level s + total paths begun

counted : (b : Bool) (x : ℕ) → cond b x 0 ≤ x
counted true x = omega arith
counted false x = omega arith

-- a service of at least that level counts
counts_all : (level l x : ℕ) → level ≤ l → cond (nat_le level l) x 0 ≡ x
counts_all level l x h = ap (λ b. cond b x 0) (le-leb level l h)

module _ (code : List ℕ) (paths : ℕ → ℕ) (level : ℕ) (s t : Servicing) where
  enter_turn : Begun s t → ((v : Live) → t.live ≡ v ∷ s.live → path code (handler_of v) ≤ paths v.number) → Turn code paths level Enter s t
  enter_turn h timed =
      let v = h.service in
      let is : rest code level t ≡ cond (nat_le level v.mark.level) (path code t.pc + leave_cost) 0 + rest_of code level v.pc s.live = ap (rest_of code level t.pc) h.live in
      let same : rest_of code level v.pc s.live ≡ rest code level s = ap (λ p. rest_of code level p s.live) h.suspends in
      let c = counted (nat_le level v.mark.level) (path code t.pc + leave_cost) in
      let p : path code t.pc ≡ path code (handler_of v) = ap (path code) h.at in
      let q : paths h.listed.number ≡ paths v.number = ap paths h.number in
      let l = timed v h.live in
      record { begun = h.listed ∷ []; services = h.services; steps = omega arith }

  leave_turn : Ended s t → HasInnermost level s.live → Turn code paths level Leave s t
  leave_turn h high =
      let v = h.service in
      let l : level ≤ v.mark.level = subst (HasInnermost level) h.live high in
      let is : rest code level s ≡ cond (nat_le level v.mark.level) (path code s.pc + leave_cost) 0 + rest_of code level v.pc t.live = ap (rest_of code level s.pc) h.live in
      let all = counts_all level v.mark.level (path code s.pc + leave_cost) l in
      let same : rest code level t ≡ rest_of code level v.pc t.live = ap (λ p. rest_of code level p t.live) h.at in
      record { begun = []; services = h.services ∙ sym (append-nil s.services); steps = omega arith }

  body_rest : (pc pc' : ℕ) (live : List Live) → HasInnermost level live → ((v : Live) (vs : List Live) → live ≡ v ∷ vs → suc (path code pc') ≤ path code pc) → suc (rest_of code level pc' live) ≤ rest_of code level pc live
  body_rest pc pc' [] high falls = absurd high
  body_rest pc pc' (v ∷ vs) high falls =
      let f = falls v vs refl in
      let a = counts_all level v.mark.level (path code pc + leave_cost) high in
      let b = counts_all level v.mark.level (path code pc' + leave_cost) high in
      omega arith

  body_turn : BodyLeaves s t → HasInnermost level s.live → ((v : Live) (vs : List Live) → s.live ≡ v ∷ vs → suc (path code t.pc) ≤ path code s.pc) → Turn code paths level Body s t
  body_turn h high falls =
      let f = body_rest s.pc t.pc s.live high falls in
      let same : rest code level t ≡ rest_of code level t.pc s.live = ap (rest_of code level t.pc) h.live in
      record { begun = []; services = h.services ∙ sym (append-nil s.services); steps = omega arith }

module _ (m : Meanings) (es : List Event) (code : List ℕ) (region : Region) (paths : ℕ → ℕ) (level : ℕ) (s t : Servicing) (inv : Inv m code region s) where
  pub not_back : (v : Live) (vs : List Live) → s.live ≡ v ∷ vs → (s.pc ≢ back) ⊎ (s.live ≡ []) → s.pc ≡ back → ⊥
  not_back v vs e (inl n) = n
  not_back v vs e (inr none) = λ p. absurd (omega (arith, ap length (sym e ∙ none)))

  turn_by : (kind : Move) → IsMoveBy m es s kind t → IsMadeBy level kind s → ((v : Live) → t.live ≡ v ∷ s.live → path code (handler_of v) ≤ paths v.number) → Turn code paths level kind s t
  turn_by Enter h by timed = enter_turn code paths level s t (begins s t inv.range.board.registers.count h) timed
  turn_by Leave h by timed = leave_turn code paths level s t (ends s t h) by
  turn_by Body h by timed = body_turn code paths level s t (leaves_alone m es s Body t h) by (λ v vs e. body_falls m es code region s t v vs inv e (not_back v vs e h.no_leave) h.made)

  pub turn : (kind : Move) → move m es s ≡ Makes kind t → IsMadeBy level kind s → ((v : Live) → t.live ≡ v ∷ s.live → path code (handler_of v) ≤ paths v.number) → Turn code paths level kind s t
  turn kind e by timed = turn_by kind (is_one m es s kind t e).1 by timed
