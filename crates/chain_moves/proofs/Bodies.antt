-- A body that is tried on the board: it raises there, or loses a register, or is made, as in the servicing machine.
use Rattle.std.proofs.Common.{◌≡◌, ℕ, ◌+◌, ◌⊎◌, inl, inr, ⊎_elim, Bool, true, false, List, [], ◌∷◌, Option, None, Err, refl, sym, ap, ◌∙◌, subst}
use Rattle.std.specs.Prelude.{◌==◌, not}
use Rattle.std.proofs.lemmas.Bool.{true≢false, cases_Bool, and_cases, not-false, eq-eqb}
use Rattle.device_model.specs.Meanings.{Meanings, IsSound as IsSoundDevice}
use Rattle.hart_memory.specs.Place.{place}
use Rattle.clic_select.specs.Top.{top}
use Rattle.clic_select.specs.declared.choice.Choice.{Choice}
use Rattle.clic_trap.specs.Due.{due}
use Rattle.hart_board.specs.State.{State}
use Rattle.hart_board.specs.Attempt.{attempt}
use Rattle.hart_board.specs.Step.{Turn, step, tried, settled}
use Rattle.hart_board.specs.Event.{AreEventsFrom, with_events}
use Rattle.hart_board.specs.declared.event.Event.{Event}
use Rattle.hart_board.specs.declared.trap.Trap.{Trap}
use Rattle.rvc_encoding.specs.declared.encoding.Encoding.{Encoding}
use Rattle.hart_board.proofs.Still.{step_carries_out, tried_retires, tried_raises}
use Rattle.hart_report.specs.declared.stepped.Stepped.TheVariants.{Retired, Raised}
use Rattle.chain_moves.specs.Slot.{back, in_slot}
use Rattle.chain_moves.specs.Servicing.{Live, Servicing, marks, is_foreground}
use Rattle.chain_moves.specs.Bytes.{revived_at}
use Rattle.chain_moves.specs.Tests.{first_broken, half_tests, second_tests, are_kept, is_lost}
use Rattle.chain_moves.specs.Enter.{is_enter_due}
use Rattle.chain_moves.specs.Machine.{When, Before, Within, After, Moved, Makes, Breaks, unless_broken}
use Rattle.chain_moves.specs.Body.{hart, with_hart, is_long_at, retired, fetched_by, body}
use Rattle.hart_memory.specs.Fetch.{fetched}
use Rattle.chain_moves.specs.Ranges.{IsInRange}
use Rattle.chain_moves.specs.Agreement.{AgreeRom}
use Rattle.chain_moves.specs.Beside.{Rest, csrs_by, board_by, board_of}
use Rattle.chain_moves.specs.Related.{Kept, Ons, Related}
use Rattle.chain_moves.specs.Watched.{watched_of}
use Rattle.chain_moves.specs.Judge.{judge_body}
use Rattle.chain_moves.specs.declared.broken.Broken.{Broken}
use Rattle.chain_moves.specs.declared.broken.Broken.TheVariants.{RegisterLost, EnteredDispatch, Exception}
use Rattle.chain_moves.specs.declared.dispatcher.Dispatcher.{Dispatcher}
use Rattle.chain_moves.specs.declared.mark.Mark.{Mark}
use Rattle.chain_moves.specs.declared.moves.Move.{Move}
use Rattle.chain_moves.specs.declared.moves.Move.TheVariants.{Body}
use Rattle.chain_moves.specs.declared.verdict.Verdict.{Verdict}
use Rattle.chain_moves.specs.declared.verdict.Verdict.TheVariants.{Refused, Plain, Reviving}
use Rattle.chain_moves.proofs.OneOfThree.{at_made}
use Rattle.chain_moves.proofs.Depth.{InRange, body_range}
use Rattle.chain_moves.proofs.Performs.{KeepsFields}
use Rattle.chain_moves.proofs.Judged.{Means, IsRaised, IsMade, settled_body, body_means}

-- ---- registers at the return
not_lost : (v : Mark) (vs : List Mark) (pc : ℕ) (registers : List ℕ) → is_lost (v ∷ vs) pc registers ≡ false → pc ≡ back → are_kept v.kept registers 32 ≡ true
unfolding is_lost
not_lost v vs pc registers e q =
    ⊎_elim
    (λ (n : (pc == back) ≡ false). absurd (true≢false (sym (eq-eqb pc back q) ∙ n)))
    (λ (n : not (are_kept v.kept registers 32) ≡ false). not-false (are_kept v.kept registers 32) n)
    (and_cases (pc == back) (not (are_kept v.kept registers 32)) e)

kept_after : (live : List Live) (registers registers' : List ℕ) (pc pc' : ℕ) → is_lost (marks live) pc' registers' ≡ false → Kept registers pc live → Kept registers' pc' live
unfolding marks
kept_after [] registers registers' pc pc' e h = tt
kept_after (v ∷ vs) registers registers' pc pc' e h = (record { kept = h.0.kept; pointer = h.0.pointer; returns = not_lost v.mark (marks vs) pc' registers' e }, h.1)

ons_after : (live : List Live) (old new : State) → KeepsFields (is_foreground (marks live)) old new → Ons live old.csrs.mie old.csrs.mpie → Ons live new.csrs.mie new.csrs.mpie
unfolding marks
ons_after [] old new f h = tt
ons_after (v ∷ vs) old new f h = (ap (λ c. c.mie) f ∙ h.0, ap (λ c. c.mpie) f ∙ h.1)

-- ---- an instruction in the slot is no body
not_after : (moved : Moved Move Servicing) (kind other : Broken) (n k : ℕ) → moved ≡ Breaks Before kind n → moved ≡ Breaks After other k → ⊥
not_after moved kind other n k e f = absurd cc

not_made : (moved : Moved Move Servicing) (when : When) (kind : Broken) (n : ℕ) (move : Move) (t : Servicing) → moved ≡ Breaks when kind n → moved ≡ Makes move t → ⊥
not_made moved when kind n move t e f = absurd cc

in_slot_breaks : (m : Meanings) (es : List Event) (s : Servicing) → in_slot s.pc ≡ true → body m es s ≡ Breaks Before EnteredDispatch s.bodies
unfolding body first_broken
in_slot_breaks m es s e = ap (λ b. unless_broken Before (first_broken ((b, EnteredDispatch) ∷ half_tests s.dead s.pc)) s.bodies (unless_broken Before (first_broken (second_tests (is_long_at s.memory s.pc) s.dead s.pc)) s.bodies (fetched_by m es s (fetched s.memory s.pc)))) e

-- an Enter is due on the board where one is due in the servicing machine
pub due_is : (s : Servicing) (x : Rest) (t : Option Choice) → due (board_of s x).csrs t ≡ is_enter_due s t
unfolding is_enter_due due
due_is s x t = refl

-- the instruction at pc retires
abbrev pub retires : ℕ → Encoding → State → Turn
retires pc encoding new = record { told = Retired pc encoding.bits encoding.length; state = new }

module _ (m : Meanings) (es : List Event) (s : Servicing) where
  -- the state after a body that leaves the hart in this state
  abbrev pub later : State → List Bool → Servicing
  later c dead = record (with_hart s c dead) { outside = (with_events m (s.bodies + 1) es (hart (with_hart s c dead))).outside }

  -- the body retired: a register is lost, or it is made
  lost_breaks : (c : State) (dead : List Bool) → is_lost (marks s.live) c.pc c.registers ≡ true → retired m es (with_hart s c dead) ≡ Breaks After RegisterLost (s.bodies + 1)
  unfolding first_broken
  lost_breaks c dead e = ap (λ b. unless_broken After (first_broken ((b, RegisterLost) ∷ [])) (s.bodies + 1) (Makes Body (later c dead))) e

  kept_makes : (c : State) (dead : List Bool) → is_lost (marks s.live) c.pc c.registers ≡ false → retired m es (with_hart s c dead) ≡ Makes Body (later c dead)
  unfolding first_broken
  kept_makes c dead e = ap (λ b. unless_broken After (first_broken ((b, RegisterLost) ∷ [])) (s.bodies + 1) (Makes Body (later c dead))) e

  module _ (d : Dispatcher) (x : Rest) where
    abbrev b : State
    b = board_of s x

    -- the instruction raises, and a step that is tried leaves the board
    pub record Raises : Type 0 where
      pub trap : Trap
      pub attempts : attempt m b ≡ Err trap
      pub tries : tried m b ≡ record { told = Raised s.pc trap.code; state = b }
      pub breaks : body m es s ≡ Breaks Within (Exception trap.code) s.bodies

    -- it retires, and a register is lost
    pub record Loses : Type 0 where
      pub encoding : Encoding
      pub new : State
      pub steps : step m b ≡ retires s.pc encoding new
      pub tries : tried m b ≡ retires s.pc encoding new
      pub outside : in_slot s.pc ≡ false
      pub lost : is_lost (marks s.live) new.pc new.registers ≡ true
      pub breaks : body m es s ≡ Breaks After RegisterLost (s.bodies + 1)

    -- it retires and is made, and board and servicing machine stand beside each other again
    pub record Goes (after : Servicing) : Type 0 where
      pub encoding : Encoding
      pub new : State
      pub rest : Rest
      pub steps : step m b ≡ retires s.pc encoding new
      pub tries : tried m b ≡ retires s.pc encoding new
      pub outside : in_slot s.pc ≡ false
      pub kept : is_lost (marks s.live) new.pc new.registers ≡ false
      pub makes : body m es s ≡ Makes Body after
      pub events : with_events m (s.bodies + 1) es new ≡ board_of after rest
      pub rom : rest.rom ≡ x.rom
      pub moments : rest.kept ≡ x.kept
      pub live : after.live ≡ s.live
      pub services : after.services ≡ s.services
      pub bodies : after.bodies ≡ s.bodies + 1
      pub inputs : after.outside.clic.shape.inputs ≡ s.outside.clic.shape.inputs
      pub related : Related m d after rest

    -- so many bytes are dead then
    pub record Done (dead : List Bool) : Type 0 where
      pub after : Servicing
      pub dead_is : after.dead ≡ dead
      pub goes : Goes after

    abbrev pub Tried : List Bool → Type 0
    Tried dead = Raises ⊎ (Loses ⊎ Done dead)

    -- what a verdict says of the body
    abbrev pub BodyMeans : Verdict → Type 0
    BodyMeans (Refused kind) = body m es s ≡ Breaks Before kind s.bodies
    BodyMeans Plain = Tried s.dead
    BodyMeans (Reviving at width) = Tried (revived_at (place at width) width s.dead)

    module _ (sound : IsSoundDevice m) (from : ℕ) (events : AreEventsFrom s.outside.clic.shape.inputs from es) (h : Related m d s x) (runs : m.halted s.outside.device ≡ None) (calm : is_enter_due s (top s.outside.clic) ≡ false) where
      quiet : due b.csrs (top s.outside.clic) ≡ false
      quiet = due_is s x (top s.outside.clic) ∙ calm

      abbrev IsTrap : Type 0
      IsTrap = IsRaised Move Servicing s (attempt m b) (body m es s)

      abbrev Made : List Bool → Type 0
      Made dead = IsMade Move Servicing s x (is_foreground (marks s.live)) (csrs_by (marks s.live) x) (settled_body m es s) (attempt m b) (body m es s) dead

      abbrev Said : Verdict → Type 0
      Said v = Means Move Servicing s x (is_foreground (marks s.live)) (csrs_by (marks s.live) x) (settled_body m es s) (attempt m b) (body m es s) v

      raises : IsTrap → Raises
      raises r = record { trap = r.trap; attempts = r.board; tries = tried_raises m b r.trap runs quiet r.board; breaks = r.breaks }

      after_related : (dead : List Bool) (k : Made dead) → is_lost (marks s.live) k.c.pc k.c.registers ≡ false → IsInRange m (later k.c dead) → Related m d (later k.c dead) (record x { ram = k.ram })
      after_related dead k kept range = record {
        serves = record {
          range = range;
          rising = h.serves.rising;
          kept = kept_after s.live s.registers k.c.registers s.pc k.c.pc kept h.serves.kept;
          ons = ons_after s.live (hart s) k.c k.same h.serves.ons;
        };
        stands = record { code = h.stands.code; bytes = h.stands.bytes; rom = subst (λ r. AgreeRom x.rom r) (sym k.rom) h.stands.rom; ram = k.agree; frames = k.frames };
      }

      settles : (dead : List Bool) (k : Made dead) → step m b ≡ retires s.pc k.encoding (board_by (marks s.live) (record x { ram = k.ram }) k.c)
      settles dead k = step_carries_out m b runs quiet ∙ ap (settled b) k.board

      tries : (dead : List Bool) (k : Made dead) → tried m b ≡ retires s.pc k.encoding (board_by (marks s.live) (record x { ram = k.ram }) k.c)
      tries dead k = tried_retires m b (k.encoding, board_by (marks s.live) (record x { ram = k.ram }) k.c) runs quiet k.board

      no_slot : (dead : List Bool) (k : Made dead) (lost : Bool) → is_lost (marks s.live) k.c.pc k.c.registers ≡ lost → in_slot s.pc ≡ false
      no_slot dead k lost e =
          ⊎_elim
          (λ (t : in_slot s.pc ≡ true). absurd (apart lost e (in_slot_breaks m es s t)))
          (λ (f : in_slot s.pc ≡ false). f)
          (cases_Bool (in_slot s.pc))
        where
          apart : (lost : Bool) → is_lost (marks s.live) k.c.pc k.c.registers ≡ lost → body m es s ≡ Breaks Before EnteredDispatch s.bodies → ⊥
          apart true e q = not_after (body m es s) EnteredDispatch RegisterLost s.bodies (s.bodies + 1) q (k.settles ∙ lost_breaks k.c dead e)
          apart false e q = not_made (body m es s) Before EnteredDispatch s.bodies Body (later k.c dead) q (k.settles ∙ kept_makes k.c dead e)

      made_by : (dead : List Bool) (k : Made dead) (lost : Bool) → is_lost (marks s.live) k.c.pc k.c.registers ≡ lost → Loses ⊎ Done dead
      unfolding with_events
      made_by dead k true e = inl (record {
        encoding = k.encoding;
        new = board_by (marks s.live) (record x { ram = k.ram }) k.c;
        steps = settles dead k;
        tries = tries dead k;
        outside = no_slot dead k true e;
        lost = e;
        breaks = k.settles ∙ lost_breaks k.c dead e;
      })
      made_by dead k false e =
          let makes = k.settles ∙ kept_makes k.c dead e in
          let range = at_made (InRange m es sound s.outside.clic.shape.inputs from events) (body m es s) (body_range m es sound s.outside.clic.shape.inputs from events s (h.serves.range, refl)) Body (later k.c dead) makes in
          inr (record {
            after = later k.c dead;
            dead_is = refl;
            goes = record {
              encoding = k.encoding;
              new = board_by (marks s.live) (record x { ram = k.ram }) k.c;
              rest = record x { ram = k.ram };
              steps = settles dead k;
              tries = tries dead k;
              outside = no_slot dead k false e;
              kept = e;
              makes = makes;
              events = refl;
              rom = refl;
              moments = refl;
              live = refl;
              services = refl;
              bodies = refl;
              inputs = range.1;
              related = after_related dead k e range.0;
            };
          })

      made : (dead : List Bool) → IsTrap ⊎ Made dead → Tried dead
      made dead q =
          ⊎_elim
          (λ (r : IsTrap). inl (raises r))
          (λ (k : Made dead). inr (made_by dead k (is_lost (marks s.live) k.c.pc k.c.registers) refl))
          q

      by_verdict : (v : Verdict) → Said v → BodyMeans v
      by_verdict (Refused kind) q = q
      by_verdict Plain q = made s.dead q
      by_verdict (Reviving at width) q = made (revived_at (place at width) width s.dead) q

      -- the verdict on the board, and a step that is tried, say what becomes of the body
      pub body_turns : BodyMeans (judge_body b (watched_of s))
      body_turns = by_verdict (judge_body b (watched_of s)) (body_means m es d s x h.stands)
      -- ---- the same by the move
