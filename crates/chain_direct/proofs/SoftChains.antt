-- Where a chain without direct services doesn't end at a hardware-vectored top, it writes with them what it writes without.
use Rattle.std.proofs.Common.{◌≡◌, ℕ, zero, suc, ◌+◌, ◌-◌, ◌<◌, ◌≤◌, ⊎_elim, Bool, true, false, List, ◌++◌, refl, sym, ap, ap₂, ◌∙◌, subst, arith}
use Rattle.std.specs.Prelude.{IsTrue, nat_le}
use Rattle.std.proofs.lemmas.Bool.{cases_lt, false≢true}
use Rattle.device_model.specs.Meanings.{Meanings, IsSound as IsSoundDevice}
use Rattle.hart_board.specs.State.{State}
use Rattle.hart_board.specs.Event.{with_events}
use Rattle.hart_board.specs.declared.event.Event.{Event}
use Rattle.hart_board.specs.Steps.{board_at}
use Rattle.chain_core.specs.ChainRun.{is_body}
use Rattle.chain_moves.specs.Servicing.{Servicing}
use Rattle.chain_moves.specs.Run.{Run, On, Broke, Over, run_to}
use Rattle.chain_moves.specs.Cost.{cost}
use Rattle.chain_core.specs.End.{end_by, end_of, end_at}
use Rattle.chain_moves.specs.Moves.{servicing_machine}
use Rattle.chain_moves.specs.Start.{begun}
use Rattle.chain_moves.specs.Watched.{Watched, nothing_watched}
use Rattle.chain_core.specs.Progress.{Progress}
use Rattle.chain_core.specs.Rounds.{round, steps_made}
use Rattle.chain_core.specs.Text.{report}
use Rattle.chain_core.specs.Chain.{chain_end, chain_text, board_after, dead_at, dead_in, is_done}
use Rattle.chain_core.specs.Both.{Starts}
use Rattle.chain_moves.specs.declared.broken.Broken.TheVariants.{HardVectored}
use Rattle.chain_moves.specs.declared.dispatcher.Dispatcher.{Dispatcher}
use Rattle.chain_moves.specs.declared.moves.Move.{Move}
use Rattle.chain_core.specs.declared.ended.Ended.{Ended}
use Rattle.chain_core.specs.declared.chain_end.ChainEnd.TheVariants.{Broken as BrokenOff}
use Rattle.chain_core.specs.declared.round.Round.{Round}
use Rattle.chain_core.specs.declared.round.Round.TheVariants.{Made, Failed, Ended as RoundEnded, Spent}
use Rattle.chain_core.proofs.Added.{added_steps}
use Rattle.chain_core.proofs.ChainLoop.{stood_first}
use Rattle.chain_core.proofs.Closed.{same_report}
use Rattle.chain_core.proofs.Standing.{Stood, RoundMeans}
use Rattle.chain_core.proofs.RoundMeans.{round_means}
use Rattle.chain_direct.specs.Directed.{beside_none}
use Rattle.chain_direct.specs.DirectMoves.{direct_machine}
use Rattle.chain_direct.specs.DirectText.{text_to, direct_end, direct_run, direct_text, dead_in_run}
use Rattle.chain_direct.proofs.NothingDirect.{Hard, lifted_run, lifts, same_end}
use Rattle.chain_direct.proofs.SoftSteps.{Soft, soft_steps}
use Rattle.chain_direct.proofs.SoftRounds.{soft_round}

module _ (m : Meanings) (es : List Event) (sound : IsSoundDevice m) (d : Dispatcher) (bound : ℕ) (b : State) where
  -- ---- every step of a chain, round by round
  abbrev SoftTo : ℕ → Type 0
  SoftTo n = (j : ℕ) → j < n → Soft m es b j

  abbrev all : ℕ
  all = (end_at (servicing_machine m es) d bound (begun m es b)).steps

  longer : (n k : ℕ) → SoftTo n → ((j : ℕ) → j < k → Soft m es b (n + j)) → SoftTo (n + k)
  longer n k h g j l =
      ⊎_elim
      (λ (e : j < n). h j e)
      (λ (e : n ≤ j). let same : n + (j - n) ≡ j = omega (arith, e) in subst (Soft m es b) same (g (j - n) (omega (arith, e, l))))
      (cases_lt j n)

  to_end : (n : ℕ) → n ≡ all → SoftTo n → SoftTo all
  to_end n e h = subst SoftTo e h

  soft_by : (fuel n : ℕ) (t : Round) (p : Progress) (w : Watched) → n ≤ bound → ((k : ℕ) → Stood m es 0 d bound b p w k → bound - k < fuel → SoftTo k → SoftTo all) → bound - n ≤ fuel → RoundMeans m es 0 d bound b n t p w → SoftTo (n + steps_made (bound - n) t) → SoftTo all
  soft_by fuel n (Made k) p w within next l (some, st) h = next (n + k) st (omega (arith, l, some, st.within)) h
  soft_by fuel n (Failed kind k) p w within next l f h = to_end (n + k) (sym (ap (λ (e : Ended). e.steps) f.ends)) h
  soft_by fuel n RoundEnded p w within next l (f, g) h =
      let none : n + 0 ≡ n = omega arith in
      to_end (n + 0) (none ∙ sym (ap (λ (e : Ended). e.steps) f.ends)) h
  soft_by fuel n Spent p w within next l f h =
      let whole : n + (bound - n) ≡ bound = omega (arith, within) in
      to_end (n + (bound - n)) (whole ∙ sym (ap (λ (e : Ended). e.steps) f.ends)) h

  soft_in : (fuel : ℕ) (p : Progress) (w : Watched) (n : ℕ) → Stood m es 0 d bound b p w n → bound - n ≤ fuel → SoftTo n → SoftTo all
  soft_in zero p w n st l h =
      let r = round m es d (bound - n) p w in
      soft_by zero n r.told r.progress r.watch st.within (λ k st l. absurd (omega arith)) l (round_means m es sound 0 d bound b p w n st) (longer n (steps_made (bound - n) r.told) h (soft_round m es sound 0 d bound b (begun m es b) 0 p w n st))
  soft_in (suc fuel) p w n st l h =
      let r = round m es d (bound - n) p w in
      soft_by (suc fuel) n r.told r.progress r.watch st.within (λ k st l. soft_in fuel r.progress r.watch k st (omega arith)) l (round_means m es sound 0 d bound b p w n st) (longer n (steps_made (bound - n) r.told) h (soft_round m es sound 0 d bound b (begun m es b) 0 p w n st))

  soft_all : Starts m es d b → SoftTo all
  soft_all s =
      let p : Progress = record { board = with_events m 0 es b; bodies = 0; depth = 0; services = 0 } in
      soft_in bound p nothing_watched 0 (stood_first sound p nothing_watched s refl refl) (omega arith) (λ j l. absurd (omega (arith, l)))

  -- ---- the report
  dead_lifted : (r : Run Move Servicing) → dead_in_run (lifted_run r) ≡ dead_in r
  dead_lifted (On made s) = refl
  dead_lifted (Broke made when kind n) = refl
  dead_lifted (Over made s) = refl

  not_done : (n c : ℕ) (reaches : Bool) → IsTrue (is_done (end_by reaches (BrokenOff HardVectored n) c bound).end) → ⊥
  not_done n c true h = false≢true h
  not_done n c false h = false≢true h

  same_dead : IsTrue (is_done (chain_end m es d bound b).end) → dead_in_run (direct_run m es bound b) ≡ dead_at m es bound b
  unfolding end_at
  same_dead done =
      let r = run_to (servicing_machine m es) (begun m es b) (suc bound) in
      ⊎_elim
      (λ (h : Hard m es r). absurd (not_done h.bodies (cost (servicing_machine m es) d h.made) (nat_le (cost (servicing_machine m es) d h.made) bound) (subst (λ q. IsTrue (is_done (end_of (servicing_machine m es) d bound q).end)) h.is done)))
      (λ (e : run_to (direct_machine m es) (beside_none (begun m es b)) (suc bound) ≡ lifted_run r). ap dead_in_run e ∙ dead_lifted r)
      (lifts m es (begun m es b) (suc bound))

  pub same_text : (trace : Bool) → Starts m es d b → ((n : ℕ) → (chain_end m es d bound b).end ≡ BrokenOff HardVectored n → ⊥) → direct_text m es d trace bound b ≡ chain_text m es d trace bound b
  same_text trace s soft =
      let end : direct_end m es d bound b ≡ chain_end m es d bound b = same_end m es d bound (begun m es b) soft in
      let c = chain_end m es d bound b in
      ap₂ (λ x y. x ++ y)
      (ap (λ (e : Ended). text_to m es trace b e.steps) end ∙ (soft_steps m es b trace c.steps (soft_all s) ∙ sym (added_steps m es trace b c.steps)))
      (ap (λ (e : Ended). report m (dead_in_run (direct_run m es bound b)) (board_at m is_body es b e.steps) e.end e.steps) end
      ∙ same_report m (dead_in_run (direct_run m es bound b)) (dead_at m es bound b) (board_after m es d bound b) c.end c.steps same_dead)
