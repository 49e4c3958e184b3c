-- An instruction of a direct service that is tried on the board: it raises there, or is made, or ends the service, as in the machine.
use Rattle.std.proofs.Common.{◌≡◌, ℕ, zero, suc, ◌+◌, ◌⊎◌, inl, inr, ⊎_elim, Bool, true, false, List, [], ◌∷◌, None, Ok, refl, sym, ap, ap₂, ◌∙◌, subst}
use Rattle.std.specs.Prelude.{not, ◌&&◌, ◌||◌, ◌==◌}
use Rattle.std.proofs.lemmas.Bool.{cases_Bool, and_parts, eqb-true}
use Rattle.device_model.specs.Meanings.{Meanings, IsSound as IsSoundDevice}
use Rattle.hart_words.specs.Registers.{register}
use Rattle.hart_memory.specs.Place.{place}
use Rattle.hart_memory.specs.Fetch.{fetched}
use Rattle.clic_select.specs.Top.{top}
use Rattle.clic_trap.specs.Due.{due}
use Rattle.hart_board.specs.State.{State}
use Rattle.hart_board.specs.Attempt.{attempt}
use Rattle.hart_board.specs.Step.{step, tried, settled}
use Rattle.hart_board.specs.Event.{AreEventsFrom, with_events}
use Rattle.hart_board.specs.declared.event.Event.{Event}
use Rattle.rvc_encoding.specs.declared.encoding.Encoding.{Encoding}
use Rattle.hart_board.proofs.Still.{step_carries_out, tried_retires, tried_raises}
use Rattle.chain_moves.specs.Slot.{in_slot}
use Rattle.chain_moves.specs.Servicing.{Live, marks}
use Rattle.chain_moves.specs.Bytes.{revived_at}
use Rattle.chain_moves.specs.Tests.{first_broken, half_tests, second_tests, is_free, are_kept}
use Rattle.chain_moves.specs.Enter.{takes_interrupts}
use Rattle.chain_moves.specs.Machine.{Before, After, Moved, Makes, Breaks, unless_broken}
use Rattle.chain_moves.specs.Body.{is_long_at}
use Rattle.chain_moves.specs.Ranges.{IsInRange}
use Rattle.chain_moves.specs.Agreement.{AgreeRom}
use Rattle.chain_moves.specs.Beside.{Rest, board_with, board_of}
use Rattle.chain_moves.specs.Related.{Kept, Ons, Related}
use Rattle.chain_moves.specs.Watched.{watched_of}
use Rattle.chain_moves.specs.declared.broken.Broken.{Broken}
use Rattle.chain_moves.specs.declared.broken.Broken.TheVariants.{RegisterLost, EnteredDispatch}
use Rattle.chain_moves.specs.declared.dispatcher.Dispatcher.{Dispatcher}
use Rattle.chain_moves.specs.declared.moves.Move.TheVariants.{Body}
use Rattle.chain_moves.specs.declared.verdict.Verdict.TheVariants.{Refused, Plain as Quiet, Reviving}
use Rattle.chain_moves.proofs.OneOfThree.{at_made}
use Rattle.chain_core.proofs.OneStep.{masked}
use Rattle.chain_moves.proofs.Bodies.{retires}
use Rattle.chain_direct.specs.Kind.{Kind, Plain}
use Rattle.chain_direct.specs.Directed.{Direct, Directed}
use Rattle.chain_direct.specs.DirectBody.{are_same, direct_ended, direct_fetched, direct_body}
use Rattle.chain_direct.specs.DirectBeside.{direct_csrs, direct_board_of, rest_returned}
use Rattle.chain_direct.specs.DirectJudge.{judge_direct_body}
use Rattle.chain_direct.specs.DirectRelated.{DirectRelated}
use Rattle.chain_direct.specs.DirectSteps.{DirectRaises, DirectGoes, ReturnLoses, ReturnGoes, DirectTried, DirectBodyMeans}
use Rattle.chain_direct.specs.declared.direct_verdict.DirectVerdict.{DirectVerdict}
use Rattle.chain_direct.specs.declared.direct_verdict.DirectVerdict.TheVariants.{Ends, Goes}
use Rattle.chain_direct.proofs.DirectJudged.{gone_on, returned_to, DirectRaised, DirectMade, IsReturn, DirectMeans, direct_means}
use Rattle.chain_direct.proofs.DirectRange.{InDirectRange, back_range, direct_range}

-- ---- registers at the return
kept_through : (n : ℕ) (first kept registers : List ℕ) → are_same kept registers n ≡ true → are_kept first kept n ≡ true → are_kept first registers n ≡ true
unfolding are_same are_kept
kept_through zero first kept registers s k = refl
kept_through (suc r) first kept registers s k =
    let one = and_parts (register registers r == register kept r) (are_same kept registers r) s in
    let two = and_parts (is_free r || register kept r == register first r) (are_kept first kept r) k in
    ap₂ (λ y z. (is_free r || y == register first r) && z) (eqb-true (register registers r) (register kept r) one.0) (kept_through r first kept registers one.1 two.1)
    ∙ ap (λ z. z && true) two.0

kept_same : (live : List Live) (kept registers : List ℕ) (pc : ℕ) → are_same kept registers 32 ≡ true → Kept kept pc live → Kept registers pc live
kept_same [] kept registers pc s h = tt
kept_same (v ∷ vs) kept registers pc s h = (record { kept = h.0.kept; pointer = h.0.pointer; returns = λ e. kept_through 32 v.mark.kept kept registers s (h.0.returns e) }, h.1)

-- ---- an instruction in the slot is no body
in_slot_breaks : (m : Meanings) (es : List Event) (s : Directed) (v : Direct) → in_slot s.chained.pc ≡ true → direct_body m es s v ≡ Breaks Before EnteredDispatch s.chained.bodies
unfolding direct_body first_broken
in_slot_breaks m es s v e = ap (λ b. unless_broken Before (first_broken ((b, EnteredDispatch) ∷ half_tests s.chained.dead s.chained.pc)) s.chained.bodies (unless_broken Before (first_broken (second_tests (is_long_at s.chained.memory s.chained.pc) s.chained.dead s.chained.pc)) s.chained.bodies (direct_fetched m es s v (fetched s.chained.memory s.chained.pc)))) e

outside_slot : (m : Meanings) (es : List Event) (s : Directed) (v : Direct) (moved : Moved Kind Directed) → direct_body m es s v ≡ moved → (Breaks Before EnteredDispatch s.chained.bodies ≡ moved → ⊥) → in_slot s.chained.pc ≡ false
outside_slot m es s v moved e other =
    ⊎_elim
    (λ (t : in_slot s.chained.pc ≡ true). absurd (other (sym (in_slot_breaks m es s v t) ∙ e)))
    (λ (f : in_slot s.chained.pc ≡ false). f)
    (cases_Bool (in_slot s.chained.pc))

not_made : (moved : Moved Kind Directed) (kind : Broken) (n : ℕ) (t : Directed) → moved ≡ Makes (Plain Body) t → Breaks Before kind n ≡ moved → ⊥
not_made moved kind n t e f = absurd cc

not_after : (moved : Moved Kind Directed) (kind other : Broken) (n k : ℕ) → moved ≡ Breaks After other k → Breaks Before kind n ≡ moved → ⊥
not_after moved kind other n k e f = absurd cc

module _ (m : Meanings) (es : List Event) (d : Dispatcher) (s : Directed) (v : Direct) (x : Rest) where
  abbrev b : State
  b = direct_board_of s.chained v x

  module _ (sound : IsSoundDevice m) (from : ℕ) (events : AreEventsFrom s.chained.outside.clic.shape.inputs from es) (r : DirectRelated m d s.chained v x) (runs : m.halted s.chained.outside.device ≡ None) where
    abbrev n : ℕ
    n = s.chained.outside.clic.shape.inputs

    abbrev Made : List Bool → Type 0
    Made dead = DirectMade m es d s v x r.stands r.was r.on (attempt m b) (direct_body m es s v) dead

    abbrev Trapped : Type 0
    Trapped = DirectRaised m es d s v x r.stands r.was r.on (attempt m b) (direct_body m es s v)

    abbrev Returned : Type 0
    Returned = IsReturn m es d s v x r.stands r.was r.on (attempt m b) (direct_body m es s v)

    quiet : due b.csrs (top s.chained.outside.clic) ≡ false
    quiet = masked b.csrs (top s.chained.outside.clic) refl

    range : IsInRange m s.chained
    range =
        let h = r.serves.range in
        record { board = record { registers = r.registers; pc = r.pc; csrs = h.board.csrs; memory = h.board.memory; outside = h.board.outside }; live = h.live }

    steps_so : (encoding : Encoding) (new : State) → attempt m b ≡ Ok (encoding, new) → step m b ≡ retires s.chained.pc encoding new
    steps_so encoding new e = step_carries_out m b runs quiet ∙ ap (settled b) e

    tries_so : (encoding : Encoding) (new : State) → attempt m b ≡ Ok (encoding, new) → tried m b ≡ retires s.chained.pc encoding new
    tries_so encoding new e = tried_retires m b (encoding, new) runs quiet e

    -- ---- an instruction that is no MRET
    raises : Trapped → DirectRaises m es d s v x
    raises t = record { trap = t.trap; attempts = t.board; tries = tried_raises m b t.trap runs quiet t.board; breaks = t.breaks }

    after_related : (dead : List Bool) (k : Made dead) → IsInRange m (gone_on m es s k.c dead).chained → DirectRelated m d (gone_on m es s k.c dead).chained v (record x { ram = k.ram })
    after_related dead k h =
        let p = r.serves.range.board in
        record {
          serves = record {
            range = record { board = record { registers = p.registers; pc = p.pc; csrs = h.board.csrs; memory = h.board.memory; outside = h.board.outside }; live = h.live };
            rising = r.serves.rising;
            kept = r.serves.kept;
            ons = subst (λ c. Ons s.chained.live c.mie c.mpie) (sym k.same) r.serves.ons;
          };
          stands = record { code = r.stands.code; bytes = r.stands.bytes; rom = subst (λ q. AgreeRom x.rom q) (sym k.rom) r.stands.rom; ram = k.agree; frames = k.frames };
          registers = h.board.registers;
          pc = h.board.pc;
          was = ap (λ c. c.mpie) k.same ∙ r.was;
          on = ap (λ c. takes_interrupts (marks s.chained.live) c.mie) k.same ∙ r.on;
          level = r.level;
        }

    goes : (dead : List Bool) (k : Made dead) → DirectGoes m es d s v x dead
    unfolding with_events
    goes dead k =
        let new = board_with (λ c. direct_csrs (marks s.chained.live) v x c) (record x { ram = k.ram }) k.c in
        let h = at_made (InDirectRange m es sound n from events) (direct_body m es s v) (direct_range m es sound n from events s v range refl r.serves.range.board.pc) (Plain Body) (gone_on m es s k.c dead) k.settles in
        record {
          after = gone_on m es s k.c dead;
          encoding = k.encoding;
          new = new;
          rest = record x { ram = k.ram };
          steps = steps_so k.encoding new k.board;
          tries = tries_so k.encoding new k.board;
          outside = outside_slot m es s v (Makes (Plain Body) (gone_on m es s k.c dead)) k.settles (not_made (Makes (Plain Body) (gone_on m es s k.c dead)) EnteredDispatch s.chained.bodies (gone_on m es s k.c dead) refl);
          makes = k.settles;
          events = refl;
          rom = refl;
          moments = refl;
          direct = refl;
          services = refl;
          live = refl;
          dead_is = refl;
          bodies = refl;
          inputs = h.1;
          related = after_related dead k h.0;
        }

    tries_to : (dead : List Bool) → Trapped ⊎ Made dead → DirectTried m es d s v x dead
    tries_to dead q = ⊎_elim (λ (t : Trapped). inl (raises t)) (λ (k : Made dead). inr (goes dead k)) q

    -- ---- MRET
    abbrev back : State
    back = board_of (record s.chained { pc = v.pc }) (rest_returned s.chained v x)

    lost_breaks : are_same v.kept s.chained.registers 32 ≡ false → direct_ended m es s v ≡ Breaks After RegisterLost (s.chained.bodies + 1)
    unfolding first_broken
    lost_breaks e = ap (λ q. unless_broken After (first_broken ((not q, RegisterLost) ∷ [])) (s.chained.bodies + 1) (Makes (Plain Body) (returned_to m es s v))) e

    same_makes : are_same v.kept s.chained.registers 32 ≡ true → direct_ended m es s v ≡ Makes (Plain Body) (returned_to m es s v)
    unfolding first_broken
    same_makes e = ap (λ q. unless_broken After (first_broken ((not q, RegisterLost) ∷ [])) (s.chained.bodies + 1) (Makes (Plain Body) (returned_to m es s v))) e

    back_related : are_same v.kept s.chained.registers 32 ≡ true → Related m d (returned_to m es s v).chained (rest_returned s.chained v x)
    back_related e = record {
      serves = record {
        range = (back_range m es sound n from events s v range refl r.serves.range.board.pc).0;
        rising = r.serves.rising;
        kept = kept_same s.chained.live v.kept s.chained.registers v.pc e r.serves.kept;
        ons = r.serves.ons;
      };
      stands = record { code = r.stands.code; bytes = r.stands.bytes; rom = r.stands.rom; ram = r.stands.ram; frames = r.stands.frames };
    }

    returns_by : (q : Returned) (same : Bool) → are_same v.kept s.chained.registers 32 ≡ same → ReturnLoses m es d s v x ⊎ ReturnGoes m es d s v x
    unfolding with_events
    returns_by q false e = inl (record {
      encoding = q.encoding;
      new = back;
      steps = steps_so q.encoding back q.board;
      tries = tries_so q.encoding back q.board;
      outside = outside_slot m es s v (Breaks After RegisterLost (s.chained.bodies + 1)) (q.ends ∙ lost_breaks e) (not_after (Breaks After RegisterLost (s.chained.bodies + 1)) EnteredDispatch RegisterLost s.chained.bodies (s.chained.bodies + 1) refl);
      lost = e;
      breaks = q.ends ∙ lost_breaks e;
    })
    returns_by q true e = inr (record {
      after = returned_to m es s v;
      encoding = q.encoding;
      new = back;
      rest = rest_returned s.chained v x;
      steps = steps_so q.encoding back q.board;
      tries = tries_so q.encoding back q.board;
      outside = outside_slot m es s v (Makes (Plain Body) (returned_to m es s v)) (q.ends ∙ same_makes e) (not_made (Makes (Plain Body) (returned_to m es s v)) EnteredDispatch s.chained.bodies (returned_to m es s v) refl);
      same = e;
      makes = q.ends ∙ same_makes e;
      events = refl;
      rom = refl;
      moments = refl;
      direct = refl;
      services = refl;
      live = refl;
      dead_is = refl;
      bodies = refl;
      inputs = (back_range m es sound n from events s v range refl r.serves.range.board.pc).1;
      related = back_related e;
    })

    by_verdict : (verdict : DirectVerdict) → DirectMeans m es d s v x r.stands r.was r.on (attempt m b) (direct_body m es s v) verdict → DirectBodyMeans m es d s v x verdict
    by_verdict Ends q = returns_by q (are_same v.kept s.chained.registers 32) refl
    by_verdict (Goes (Refused kind)) q = q
    by_verdict (Goes Quiet) q = tries_to s.chained.dead q
    by_verdict (Goes (Reviving at width)) q = tries_to (revived_at (place at width) width s.chained.dead) q

    -- the verdict on the board, and a step that is tried, say what becomes of the instruction
    pub direct_body_turns : DirectBodyMeans m es d s v x (judge_direct_body b (watched_of s.chained))
    direct_body_turns = by_verdict (judge_direct_body b (watched_of s.chained)) (direct_means m es d s v x r.stands r.was r.on)
