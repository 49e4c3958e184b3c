-- Both dispatchers' chains with direct services, from boards that differ in the slot alone.
use Rattle.std.proofs.Common.{◌≡◌, ℕ, ◌+◌, ◌*◌, ◌-◌, ◌≤◌, List, length, sym, ap, ◌∙◌, subst, arith}
use Rattle.device_model.specs.Meanings.{Meanings, IsSound as IsSoundDevice}
use Rattle.hart_board.specs.State.{State}
use Rattle.hart_board.specs.declared.event.Event.{Event}
use Rattle.chain_moves.specs.Slot.{base, slot_end}
use Rattle.chain_moves.specs.Run.{Leads}
use Rattle.chain_moves.specs.Cost.{cost}
use Rattle.chain_core.specs.Counts.{counts}
use Rattle.chain_core.specs.End.{EndsAs, IsDone, IsBroken}
use Rattle.chain_core.specs.Both.{with_slot_bytes, Starts}
use Rattle.chain_core.specs.Chain.{AgreesWith}
use Rattle.chain_moves.specs.declared.dispatcher.Dispatcher.{Dispatcher}
use Rattle.chain_moves.specs.declared.dispatcher.Dispatcher.TheVariants.{Looping, Returning}
use Rattle.chain_core.specs.declared.ended.Ended.{Ended}
use Rattle.chain_core.specs.declared.chain_end.ChainEnd.TheVariants.{Done, Broken as BrokenOff}
use Rattle.chain_moves.specs.declared.broken.Broken.{Broken}
use Rattle.chain_core.proofs.Ends.{ends_so, over_at}
use Rattle.chain_core.proofs.Bounded.{same_over, same_break, services_are, over_last}
use Rattle.chain_moves.proofs.Starts.{starts_same}
use Rattle.chain_core.proofs.BothRuns.{same_boards}
use Rattle.chain_direct.specs.Directed.{Directed, beside_none}
use Rattle.chain_direct.specs.DirectCounts.{as_moves}
use Rattle.chain_direct.specs.DirectMoves.{direct_move, direct_machine, direct_start}
use Rattle.chain_direct.specs.DirectText.{direct_end, direct_run, direct_board}
use Rattle.chain_direct.specs.DirectChain.{begun_to, AgreesOver, AgreesWhereOver}
use Rattle.chain_direct.specs.DirectBoth.{BothDirectAgree}
use Rattle.chain_direct.proofs.DirectEnds.{services_from, state_from}
use Rattle.chain_direct.proofs.DirectCosts.{over_costs}

module _ (m : Meanings) (es : List Event) where
  -- a chain that is done, by its moves
  done : (d : Dispatcher) (bound : ℕ) (s : Directed) (steps bodies services : ℕ) (end : Ended) → end.end ≡ Done steps bodies services → EndsAs (direct_machine m es) d bound s end.end → IsDone (direct_machine m es) d bound s steps bodies services
  done d bound s steps bodies services end e h = subst (EndsAs (direct_machine m es) d bound s) e h

  -- the board of a chain that is done agrees with the state of its last move
  module _ (sound : IsSoundDevice m) where
    board_agrees : (d : Dispatcher) (bound : ℕ) (b : State) (steps bodies services : ℕ) → Starts m es d b → (direct_end m es d bound b).end ≡ Done steps bodies services → (g : IsDone (direct_machine m es) d bound (direct_start m es b) steps bodies services) → AgreesWith (direct_board m es d bound b) g.state.chained
    board_agrees d bound b steps bodies services starts e g =
        let there : AgreesOver (direct_board m es d bound b) (direct_run m es bound b) = subst (λ end. AgreesWhereOver end (direct_board m es d bound b) (direct_run m es bound b)) e (state_from sound bound starts) in
        subst (AgreesOver (direct_board m es d bound b)) (over_at (direct_machine m es) d bound (direct_start m es b) g.state g.made g.leads g.ends g.within) there

    listed_are : (d : Dispatcher) (bound : ℕ) (b : State) (steps bodies services : ℕ) → Starts m es d b → (g : IsDone (direct_machine m es) d bound (direct_start m es b) steps bodies services) → begun_to m es b (direct_end m es d bound b).steps ≡ g.state.services
    listed_are d bound b steps bodies services starts g =
        let x = direct_machine m es in
        services_from sound bound starts ∙ services_are x d (direct_start m es b) bound g.made g.state g.leads g.within (over_last x d (direct_start m es b) bound g.made (direct_move m es g.state) g.ends)

    pub both_agree : (one other : ℕ) (b : State) (bytes : List ℕ) (steps bodies services more bodies' services' : ℕ) → length bytes ≡ slot_end - base → Starts m es Looping b → Starts m es Returning (with_slot_bytes bytes b)
        → (direct_end m es Looping one b).end ≡ Done steps bodies services → (direct_end m es Returning other (with_slot_bytes bytes b)).end ≡ Done more bodies' services'
        → BothDirectAgree m es b (with_slot_bytes bytes b) one other steps more bodies bodies' services services'
    both_agree one other b bytes steps bodies services more bodies' services' n s t e f =
        let c = with_slot_bytes bytes b in
        let x = direct_machine m es in
        let start : direct_start m es c ≡ direct_start m es b = ap beside_none (starts_same m es b bytes (omega (arith, s.valid.memory.rom_len)) n) in
        let g = done Looping one (direct_start m es b) steps bodies services (direct_end m es Looping one b) e (ends_so x Looping one (direct_start m es b)) in
        let h = done Returning other (direct_start m es c) more bodies' services' (direct_end m es Returning other c) f (ends_so x Returning other (direct_start m es c)) in
        let leads : Leads x h.made (direct_start m es b) h.state = subst (λ s. Leads x h.made s h.state) start h.leads in
        let same = same_over x Looping (direct_start m es b) g.made h.made g.state h.state g.leads leads g.ends h.ends in
        let costs = over_costs m es (direct_start m es b) g.state g.made g.leads g.ends in
        let long : more ≡ cost x Returning g.made = h.steps_are ∙ ap (cost x Returning) (sym same.moves) in
        let other_agrees : AgreesWith (direct_board m es Returning other c) g.state.chained = subst (λ (q : Directed). AgreesWith (direct_board m es Returning other c) q.chained) (sym same.state) (board_agrees Returning other c more bodies' services' t f h) in
        record {
          made = g.made;
          state = g.state;
          leads = g.leads;
          over = g.ends;
          steps_are = long ∙ (sym costs ∙ ap (λ k. k + 23 * (counts (as_moves g.made)).pairs) (sym g.steps_are));
          bodies_are = g.bodies_are ∙ (ap (λ (q : Directed). q.chained.bodies) same.state ∙ sym h.bodies_are);
          services_are = g.services_are ∙ (ap (λ (q : Directed). length q.services) same.state ∙ sym h.services_are);
          listed = listed_are Looping one b steps bodies services s g;
          other_listed = listed_are Returning other c more bodies' services' t h ∙ ap (λ (q : Directed). q.services) (sym same.state);
          boards = same_boards (direct_board m es Looping one b) (direct_board m es Returning other c) g.state.chained (board_agrees Looping one b steps bodies services s e g) other_agrees;
        }

  -- two chains that are broken, from boards that differ in the slot alone, are broken alike
  pub broken_alike : (d e : Dispatcher) (one other : ℕ) (b : State) (bytes : List ℕ) (kind also : Broken) (bodies more : ℕ) → slot_end ≤ length b.memory.rom → length bytes ≡ slot_end - base
      → (direct_end m es d one b).end ≡ BrokenOff kind bodies → (direct_end m es e other (with_slot_bytes bytes b)).end ≡ BrokenOff also more → (kind ≡ also) × (bodies ≡ more)
  broken_alike d e one other b bytes kind also bodies more long size f g =
      let x = direct_machine m es in
      let first = direct_start m es b in
      let second = direct_start m es (with_slot_bytes bytes b) in
      let start : second ≡ first = ap beside_none (starts_same m es b bytes long size) in
      let p : IsBroken x d one first kind bodies = subst (EndsAs x d one first) f (ends_so x d one first) in
      let made : IsBroken x e other second also more = subst (EndsAs x e other second) g (ends_so x e other second) in
      let q : IsBroken x e other first also more = subst (λ s. IsBroken x e other s also more) start made in
      same_break x d first p.made q.made p.state q.state p.when q.when kind also bodies more p.leads q.leads p.breaks q.breaks
