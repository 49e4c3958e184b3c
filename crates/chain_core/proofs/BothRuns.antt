-- A chain that is done, by its moves; and two of them from boards that differ in the slot alone.
use Rattle.std.proofs.Common.{◌≡◌, ℕ, suc, ◌+◌, ◌*◌, ◌-◌, ◌≤◌, Bool, true, false, List, length, refl, sym, ap, ◌∙◌, subst, arith}
use Rattle.std.specs.Prelude.{IsTrue, nat_le, slice_index_or}
use Rattle.std.proofs.lemmas.Bool.{leb-true}
use Rattle.device_model.specs.Meanings.{Meanings, IsSound as IsSoundDevice}
use Rattle.hart_board.specs.State.{State}
use Rattle.hart_board.specs.declared.event.Event.{Event}
use Rattle.chain_moves.specs.Slot.{base, slot_end}
use Rattle.chain_moves.specs.Servicing.{Servicing}
use Rattle.chain_moves.specs.Machine.{Ends}
use Rattle.chain_moves.specs.Run.{Made, Over, run_to, Leads, IsRun}
use Rattle.chain_moves.specs.Moves.{move, servicing_machine}
use Rattle.chain_moves.specs.Cost.{cost}
use Rattle.chain_core.specs.Counts.{counts}
use Rattle.chain_core.specs.End.{end_by, end_of, end_at, EndsAs, IsBroken}
use Rattle.chain_moves.specs.Start.{begun}
use Rattle.chain_core.specs.ChainRun.{read_to}
use Rattle.chain_core.specs.Chain.{chain_end, board_after, is_done, AgreesWith, AgreesAtEnd, AgreesWhereDone}
use Rattle.chain_core.specs.Both.{with_slot_bytes, Starts, SameBoards, BothAgree}
use Rattle.chain_moves.specs.declared.dispatcher.Dispatcher.{Dispatcher}
use Rattle.chain_moves.specs.declared.dispatcher.Dispatcher.TheVariants.{Looping, Returning}
use Rattle.chain_moves.specs.declared.moves.Move.{Move}
use Rattle.chain_core.specs.declared.ended.Ended.{Ended}
use Rattle.chain_core.specs.declared.chain_end.ChainEnd.TheVariants.{Done, BudgetSpent, Broken as BrokenOff}
use Rattle.chain_moves.specs.declared.broken.Broken.{Broken}
use Rattle.chain_core.proofs.Ends.{ends_so}
use Rattle.chain_moves.proofs.Leading.{is_run}
use Rattle.chain_core.proofs.Bounded.{same_over, same_break, services_are as moves_services, over_last}
use Rattle.chain_core.proofs.Costs.{over_costs}
use Rattle.chain_moves.proofs.Starts.{starts_same}
use Rattle.chain_core.proofs.ChainEnds.{ends_from, services_are, state_is}

-- a chain that is done after so many steps, bodies and services
record DoneRun (m : Meanings) (es : List Event) (d : Dispatcher) (bound : ℕ) (b : State) (steps bodies services : ℕ) : Type 0 where
  made : List (Made Move)
  state : Servicing
  leads : Leads (servicing_machine m es) made (begun m es b) state
  over : move m es state ≡ Ends
  steps_are : steps ≡ cost (servicing_machine m es) d made
  bodies_are : bodies ≡ state.bodies
  services_are : services ≡ length state.services
  listed : (read_to m es b steps).services ≡ state.services
  agrees : AgreesWith (board_after m es d bound b) state

-- an end that is done is within the bound
record Within (bound c n k steps bodies services at : ℕ) : Type 0 where
  enough : c ≤ bound
  steps_are : steps ≡ c
  at_is : at ≡ c
  bodies_are : bodies ≡ n
  services_are : services ≡ k

within_by : (bound c n k steps bodies services at : ℕ) (reaches : Bool) → nat_le c bound ≡ reaches → end_by reaches (Done c n k) c bound ≡ record { end = Done steps bodies services; steps = at } → Within bound c n k steps bodies services at
within_by bound c n k steps bodies services at true e q =
    let end : Done c n k ≡ Done steps bodies services = ap (λ (e : Ended). e.end) q in
    let at_is : c ≡ at = ap (λ (e : Ended). e.steps) q in
    record { enough = leb-true c bound e; steps_are = cc; at_is = sym at_is; bodies_are = cc; services_are = cc }
within_by bound c n k steps bodies services at false e q = absurd (not_done (ap (λ (e : Ended). e.end) q))
  where
    not_done : BudgetSpent ≡ Done steps bodies services → ⊥
    not_done e = absurd cc

pub same_boards : (b c : State) (s : Servicing) → AgreesWith b s → AgreesWith c s → SameBoards (λ j. slice_index_or s.dead j false ≡ false) b c
same_boards b c s g h = record {
  registers = g.registers ∙ sym h.registers;
  pc = g.pc ∙ sym h.pc;
  mstatus = (g.mie ∙ sym h.mie, g.mpie ∙ sym h.mpie);
  scratch = g.scratch ∙ sym h.scratch;
  threshold = g.threshold ∙ sym h.threshold;
  table = g.table ∙ sym h.table;
  vector = g.vector ∙ sym h.vector;
  level = g.level ∙ sym h.level;
  outside = g.outside ∙ sym h.outside;
  rom = λ j o. g.rom j o ∙ sym (h.rom j o);
  ram = λ j o. g.ram j o ∙ sym (h.ram j o);
}

-- two chains that are broken, from boards that differ in the slot alone, are broken alike
pub broken_alike : (m : Meanings) (es : List Event) (d e : Dispatcher) (one other : ℕ) (b : State) (bytes : List ℕ) (kind also : Broken) (bodies more : ℕ) → slot_end ≤ length b.memory.rom → length bytes ≡ slot_end - base
    → (chain_end m es d one b).end ≡ BrokenOff kind bodies → (chain_end m es e other (with_slot_bytes bytes b)).end ≡ BrokenOff also more → (kind ≡ also) × (bodies ≡ more)
broken_alike m es d e one other b bytes kind also bodies more long size f g =
    let x = servicing_machine m es in
    let first = begun m es b in
    let second = begun m es (with_slot_bytes bytes b) in
    let start : second ≡ first = starts_same m es b bytes long size in
    let p : IsBroken x d one first kind bodies = subst (EndsAs x d one first) f (ends_so x d one first) in
    let made : IsBroken x e other second also more = subst (EndsAs x e other second) g (ends_so x e other second) in
    let q : IsBroken x e other first also more = subst (λ s. IsBroken x e other s also more) start made in
    same_break x d first p.made q.made p.state q.state p.when q.when kind also bodies more p.leads q.leads p.breaks q.breaks

module _ (m : Meanings) (es : List Event) (sound : IsSoundDevice m) where
  done_run : (d : Dispatcher) (bound : ℕ) (b : State) (steps bodies services at : ℕ) → Starts m es d b → chain_end m es d bound b ≡ record { end = Done steps bodies services; steps = at } → DoneRun m es d bound b steps bodies services
  unfolding end_at
  done_run d bound b steps bodies services at s e =
      let ends = ends_from sound bound s in
      let done : IsTrue (is_done ends.end) = ap (λ (k : Ended). is_done k.end) (sym ends.final.ends ∙ e) in
      let h = ends.halt done in
      let run : IsRun (servicing_machine m es) (begun m es b) (Over h.made h.state) = subst (IsRun (servicing_machine m es) (begun m es b)) h.over (is_run (servicing_machine m es) (begun m es b) (suc bound)) in
      let w = within_by bound (cost (servicing_machine m es) d h.made) h.state.bodies (length h.state.services) steps bodies services at (nat_le (cost (servicing_machine m es) d h.made) bound) refl (sym (ap (end_of (servicing_machine m es) d bound) h.over) ∙ e) in
      let state : AgreesWhereDone (Done steps bodies services) (board_after m es d bound b) (run_to (servicing_machine m es) (begun m es b) (suc bound)) = subst (λ (k : Ended). AgreesWhereDone k.end (board_after m es d bound b) (run_to (servicing_machine m es) (begun m es b) (suc bound))) e (state_is m es sound 0 d bound b ends) in
      let same : steps ≡ (chain_end m es d bound b).steps = w.steps_are ∙ (sym w.at_is ∙ sym (ap (λ (k : Ended). k.steps) e)) in
      record {
        made = h.made;
        state = h.state;
        leads = run.0;
        over = run.1;
        steps_are = w.steps_are;
        bodies_are = w.bodies_are;
        services_are = w.services_are;
        listed = ap (λ k. (read_to m es b k).services) same ∙ (services_are m es sound 0 d bound b ends ∙ moves_services (servicing_machine m es) d (begun m es b) bound h.made h.state run.0 w.enough (over_last (servicing_machine m es) d (begun m es b) bound h.made (move m es h.state) run.1));
        agrees = subst (AgreesAtEnd (board_after m es d bound b)) h.over state;
      }

  pub both_agree : (one other : ℕ) (b : State) (bytes : List ℕ) (steps bodies services at steps' bodies' services' at' : ℕ) → length bytes ≡ slot_end - base → Starts m es Looping b → Starts m es Returning (with_slot_bytes bytes b)
      → chain_end m es Looping one b ≡ record { end = Done steps bodies services; steps = at } → chain_end m es Returning other (with_slot_bytes bytes b) ≡ record { end = Done steps' bodies' services'; steps = at' }
      → BothAgree m es b (with_slot_bytes bytes b) one other steps steps' bodies bodies' services services'
  both_agree one other b bytes steps bodies services at steps' bodies' services' at' n s t e f =
      let c = with_slot_bytes bytes b in
      let g = done_run Looping one b steps bodies services at s e in
      let h = done_run Returning other c steps' bodies' services' at' t f in
      let start : begun m es c ≡ begun m es b = starts_same m es b bytes (omega (arith, s.valid.memory.rom_len)) n in
      let leads : Leads (servicing_machine m es) h.made (begun m es b) h.state = subst (λ x. Leads (servicing_machine m es) h.made x h.state) start h.leads in
      let same = same_over (servicing_machine m es) Looping (begun m es b) g.made h.made g.state h.state g.leads leads g.over h.over in
      let costs = over_costs m es (begun m es b) g.state g.made g.leads g.over in
      let more : steps' ≡ cost (servicing_machine m es) Returning g.made = h.steps_are ∙ ap (cost (servicing_machine m es) Returning) (sym same.moves) in
      record {
        made = g.made;
        state = g.state;
        leads = g.leads;
        over = g.over;
        steps_are = more ∙ (sym costs ∙ ap (λ k. k + 23 * (counts g.made).pairs) (sym g.steps_are));
        bodies_are = g.bodies_are ∙ (ap (λ (q : Servicing). q.bodies) same.state ∙ sym h.bodies_are);
        services_are = g.services_are ∙ (ap (λ (q : Servicing). length q.services) same.state ∙ sym h.services_are);
        listed = g.listed ∙ (ap (λ (q : Servicing). q.services) same.state ∙ sym h.listed);
        boards = same_boards (board_after m es Looping one b) (board_after m es Returning other c) g.state g.agrees (subst (AgreesWith (board_after m es Returning other c)) (sym same.state) h.agrees);
      }
