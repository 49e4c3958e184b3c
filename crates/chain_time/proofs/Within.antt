-- A service's own bodies are at most the longest way of its handler.
use Rattle.std.proofs.Common.{◌≡◌, ℕ, zero, suc, ◌≤◌, List, [], ◌∷◌, refl, sym, ap, subst, arith}
use Rattle.device_model.specs.Meanings.{Meanings, IsSound}
use Rattle.hart_board.specs.State.{State}
use Rattle.hart_board.specs.declared.event.Event.{Event}
use Rattle.chain_moves.specs.Servicing.{Live, Servicing}
use Rattle.chain_moves.specs.Machine.{Makes}
use Rattle.chain_moves.specs.Run.{Made, On, run_to}
use Rattle.chain_moves.specs.Moves.{move, servicing_machine}
use Rattle.chain_moves.specs.Start.{begun}
use Rattle.chain_moves.specs.Kinds.{IsMoveBy, BodyLeaves}
use Rattle.chain_moves.specs.declared.moves.Move.{Move}
use Rattle.chain_moves.specs.declared.moves.Move.TheVariants.{Enter, Leave, Body}
use Rattle.chain_moves.proofs.Alone.{leaves_alone}
use Rattle.chain_moves.proofs.OneOfThree.{is_one}
use Rattle.chain_flow.specs.declared.region.Region.{Region}
use Rattle.chain_lint.specs.declared.uses.Use.{Use}
use Rattle.chain_lint.specs.Soundness.{Premises, IsListedTo, handler_of}
use Rattle.chain_lint.proofs.Invariant.{Inv}
use Rattle.chain_time.specs.Path.{path}
use Rattle.chain_time.specs.Own.{own_after, own_bodies, AreWithin, PathIsBound}
use Rattle.chain_time.specs.Stretch.{RunsTo}
use Rattle.chain_time.proofs.Steps.{body_falls}
use Rattle.chain_time.proofs.Turns.{Begun, begins, Ended, ends, not_back}
use Rattle.chain_time.proofs.Closed.{last, known, is_after}

module _ (code : List ℕ) where
  leave_within : (ks : List ℕ) (pc : ℕ) (v : Live) (vs : List Live) → AreWithin code ks pc (v ∷ vs) → AreWithin code (own_after Leave ks) v.pc vs
  leave_within [] pc v vs h = absurd h
  leave_within (k ∷ ks) pc v vs h = h.1

  body_within : (ks : List ℕ) (pc pc' : ℕ) (live : List Live) → AreWithin code ks pc live → ((v : Live) (vs : List Live) → live ≡ v ∷ vs → suc (path code pc') ≤ path code pc) → AreWithin code (own_after Body ks) pc' live
  body_within ks pc pc' [] h falls = tt
  body_within [] pc pc' (v ∷ vs) h falls = absurd h
  body_within (k ∷ ks) pc pc' (v ∷ vs) h falls = let f = falls v vs refl in let l = h.0 in (omega arith, h.1)

  enter_within : (ks : List ℕ) (s t : Servicing) → Begun s t → AreWithin code ks s.pc s.live → AreWithin code (0 ∷ ks) t.pc t.live
  enter_within ks s t b h =
      let v = b.service in
      let p : path code t.pc ≡ path code (handler_of v) = ap (path code) b.at in
      let inner : AreWithin code ks v.pc s.live = subst (λ pc. AreWithin code ks pc s.live) (sym b.suspends) h in
      let all : AreWithin code (0 ∷ ks) t.pc (v ∷ s.live) = (omega arith, inner) in
      subst (AreWithin code (0 ∷ ks) t.pc) (sym b.live) all

module _ (m : Meanings) (es : List Event) (code : List ℕ) (region : Region) (ks : List ℕ) (s t : Servicing) (inv : Inv m code region s) (h : AreWithin code ks s.pc s.live) where
  ended_within : Ended s t → AreWithin code (own_after Leave ks) t.pc t.live
  ended_within e =
      let old : AreWithin code ks s.pc (e.service ∷ t.live) = subst (AreWithin code ks s.pc) e.live h in
      subst (λ pc. AreWithin code (own_after Leave ks) pc t.live) (sym e.at) (leave_within code ks s.pc e.service t.live old)

  within_by : (kind : Move) → IsMoveBy m es s kind t → AreWithin code (own_after kind ks) t.pc t.live
  within_by Enter x = enter_within code ks s t (begins s t inv.range.board.registers.count x) h
  within_by Leave x = ended_within (ends s t x)
  within_by Body x =
      let y : BodyLeaves s t = leaves_alone m es s Body t x in
      subst (AreWithin code (own_after Body ks) t.pc) (sym y.live)
      (body_within code ks s.pc t.pc s.live h (λ v vs e. body_falls m es code region s t v vs inv e (not_back m es code region (λ k. k) 0 s t inv v vs e x.no_leave) x.made))

  pub within_next : (kind : Move) → move m es s ≡ Makes kind t → AreWithin code (own_after kind ks) t.pc t.live
  within_next kind e = within_by kind (is_one m es s kind t e).1

module _ (m : Meanings) (good : IsSound m) (es : List Event) (code : List ℕ) (region : Region) (us : List Use) (b : State) (p : Premises m es code region b) where
  start_within : (ks : List ℕ) → AreWithin code ks (begun m es b).pc (begun m es b).live
  unfolding begun
  start_within ks = tt

  along : (n : ℕ) (made : List (Made Move)) (t : Servicing) → IsListedTo m es code region us b n → RunsTo m es b n made t → AreWithin code (own_bodies made) t.pc t.live
  unfolding run_to
  along zero made t l r =
      let e : On [] (begun m es b) ≡ On made t = r in
      let same : begun m es b ≡ t = cc in
      subst (λ u. AreWithin code (own_bodies made) u.pc u.live) same (start_within (own_bodies made))
  along (suc n) made t l r =
      let x = last (servicing_machine m es) (begun m es b) n made t r in
      let fewer : IsListedTo m es code region us b n = record { listed = λ j s u v k. l.listed j s u v (omega arith); room = λ j s u v k. l.room j s u v (omega arith) } in
      let old = along n x.earlier x.state fewer x.runs in
      let inv = known m good es code region us b p n x.state fewer (is_after m good es code region us b p n x.earlier x.state x.runs) in
      subst (λ ks. AreWithin code ks t.pc t.live) (ap own_bodies (sym x.is)) (within_next m es code region (own_bodies x.earlier) x.state t inv old x.latest.kind x.moves)

pub path_is_bound : (m : Meanings) → IsSound m → PathIsBound m
path_is_bound m good es code region us b n made t p l r = along m good es code region us b p n made t l r
