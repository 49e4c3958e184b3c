-- Each move keeps what is known, and no move of a service breaks in one of the four kinds.
pub use Rattle.chain_certify.specs.Soundness.{HasAccepted}
use Rattle.std.proofs.Common.{◌≡◌, ℕ, ◌+◌, ◌%◌, ◌≤◌, ⊎_elim, Bool, true, false, cond, List, [], ◌∷◌, length, Option, Some, None, Result, Ok, Err, refl, sym, ap, ◌∙◌, subst, arith}
use Rattle.std.specs.Prelude.{◌==◌, slice_index}
use Rattle.std.proofs.lemmas.Bool.{eqb-true, eqb-false, not-false}
use Rattle.hart_words.specs.TwosComplement.{word}
use Rattle.hart_words.specs.Registers.{register}
use Rattle.device_model.specs.Meanings.{Meanings}
use Rattle.rv_encoding.specs.declared.instruction.Ins.{Ins}
use Rattle.hart_exec.specs.Effect.{effect}
use Rattle.hart_memory.specs.Fetch.{fetched}
use Rattle.hart_memory.specs.declared.fetched.Fetched.{Fetched}
use Rattle.hart_memory.specs.declared.fetched.Fetched.TheVariants.{Bits, Missing}
use Rattle.clic_select.specs.Top.{top}
use Rattle.clic_select.specs.declared.choice.Choice.{Choice}
use Rattle.hart_board.specs.State.{State}
use Rattle.hart_board.specs.Attempt.{performed}
use Rattle.rvc_encoding.specs.Decoding.{decoded}
use Rattle.hart_board.specs.Event.{with_events}
use Rattle.hart_board.specs.declared.event.Event.{Event}
use Rattle.hart_board.specs.declared.trap.Trap.{Trap}
use Rattle.chain_moves.specs.Slot.{back}
use Rattle.chain_moves.specs.Servicing.{Live, Servicing, marks}
use Rattle.chain_moves.specs.Tests.{first_broken, enter_tests, first_tests, second_tests, instruction_tests, access_tests, return_tests}
use Rattle.chain_moves.specs.Enter.{is_enter_due, entered, new_frame, table_address}
use Rattle.chain_moves.specs.Leave.{left, leave_registers, raised_pointer}
use Rattle.chain_moves.specs.Body.{hart, with_hart, is_long_at, dead_after, retired, performed_by, decoded_by, body}
use Rattle.chain_moves.specs.Body.{fetched_by as body_fetched}
use Rattle.chain_moves.specs.Machine.{When, Before, After, Moved, Makes, Breaks, Ends, unless_broken}
use Rattle.chain_moves.specs.Moves.{move, move_unless_halted, move_by, leave_or_body, halted_with, enter}
use Rattle.chain_moves.specs.Ranges.{IsInRange}
use Rattle.chain_moves.specs.declared.broken.Broken.{Broken}
use Rattle.chain_moves.specs.declared.broken.Broken.TheVariants.{HardVectored, NoDispatcher, StackBad, BadTable}
use Rattle.chain_moves.specs.declared.moves.Move.{Move}
use Rattle.chain_moves.specs.declared.moves.Move.TheVariants.{Enter, Body}
use Rattle.chain_certify.specs.Check.{checked}
use Rattle.chain_certify.specs.Soundness.{Certificates}
use Rattle.chain_certify.specs.Soundness.{IsSafe}
use Rattle.chain_flow.specs.declared.region.Region.{Region}
use Rattle.chain_certify.proofs.Handlers.{IsBack}
use Rattle.chain_lint.proofs.Registers.{leave_same}
use Rattle.chain_lint.proofs.Roms.{performed_rom, dead_before}
use Rattle.chain_certify.proofs.Services.{Runs, IsInCode, Services, handler_of, resumed}
use Rattle.chain_certify.proofs.Invariant.{Inv, Keeps, IsOther, IsAllowed, Goes}
use Rattle.chain_certify.proofs.Bodies.{not_at_back, handler_body}
use Rattle.chain_certify.proofs.Enters.{IsRegion, entered_keeps}

-- ---- tests whose kinds are all allowed
abbrev AllOther : List Live → List (Bool × Broken) → Type 0
AllOther live [] = Unit {0}
AllOther live (row ∷ rows) = IsAllowed live row.1 × AllOther live rows

tested_by : (P : Servicing → Type 0) (live : List Live) (when : When) (b : Bool) (kind : Broken) (rest : Option Broken) (n : ℕ) (moved : Moved Move Servicing) → IsAllowed live kind
    → ((rest ≡ None → Goes P live moved) → Goes P live (unless_broken when rest n moved)) → (cond b (Some kind) rest ≡ None → Goes P live moved) → Goes P live (unless_broken when (cond b (Some kind) rest) n moved)
tested_by P live when true kind rest n moved o next h = o
tested_by P live when false kind rest n moved o next h = next h

-- the move is made only where no test holds
goes_tested : (P : Servicing → Type 0) (live : List Live) (when : When) (rows : List (Bool × Broken)) (n : ℕ) (moved : Moved Move Servicing) → AllOther live rows → (first_broken rows ≡ None → Goes P live moved) → Goes P live (unless_broken when (first_broken rows) n moved)
unfolding first_broken
goes_tested P live when [] n moved o h = h refl
goes_tested P live when (row ∷ rows) n moved o h = tested_by P live when row.0 row.1 (first_broken rows) n moved o.0 (λ k. goes_tested P live when rows n moved o.1 k) h

allowed : (live : List Live) (kind : Broken) → IsOther kind → IsAllowed live kind
allowed [] kind o = tt
allowed (v ∷ vs) kind o = o

third : (a b c : Bool) (x y z : Broken) (rows : List (Bool × Broken)) → first_broken ((a, x) ∷ (b, y) ∷ (c, z) ∷ rows) ≡ None → c ≡ false
unfolding first_broken
third true b c x y z rows e = absurd cc
third false true c x y z rows e = absurd cc
third false false true x y z rows e = absurd cc
third false false false x y z rows e = refl

module _ (m : Meanings) (es : List Event) (code : List ℕ) (region : Region) (certs : Certificates) (in_ram : IsRegion region) where
  -- what is said of the state after a move
  abbrev pub Next : Servicing → Type 0
  Next t = IsInRange m t → HasAccepted code region certs t.live → Inv m code region certs t

  goes_on : (live : List Live) (moved : Moved Move Servicing) → Goes (Keeps m code region certs) live moved → Goes Next live moved
  goes_on live (Makes kind t) h = λ r a. h r
  goes_on live (Breaks when kind n) h = h
  goes_on live Ends h = tt

  -- ---- the foreground: whatever breaks is allowed
  module _ (s : Servicing) (inv : Inv m code region certs (record s { live = [] })) where
    abbrev fore : Servicing
    fore = record s { live = [] }

    any : (when : When) (o : Option Broken) (n : ℕ) (moved : Moved Move Servicing) → Goes (Keeps m code region certs) [] moved → Goes (Keeps m code region certs) [] (unless_broken when o n moved)
    any when None n moved h = h
    any when (Some kind) n moved h = tt

    fore_performed : (bits length : ℕ) (ins : Ins) (r : Result State Trap) → performed m (hart fore) ins bits length ≡ r
        → Goes (Keeps m code region certs) [] (performed_by m es fore (effect ins length s.registers s.pc) r)
    fore_performed bits length ins (Err trap) e = tt
    fore_performed bits length ins (Ok new) e =
        let dead' = dead_after s.dead (effect ins length s.registers s.pc) in
        any Before (first_broken (access_tests (marks fore.live) s.dead (effect ins length s.registers s.pc))) s.bodies (retired m es (with_hart fore new dead'))
        (any After (first_broken (return_tests (marks fore.live) new.pc new.registers)) (s.bodies + 1) (Makes Body (record (with_hart fore new dead') { outside = (with_events m (s.bodies + 1) es (hart (with_hart fore new dead'))).outside }))
        (λ range. record {
          range = range;
          has_code = λ k n. ap (λ r. slice_index r k) (performed_rom m es fore ins bits length new e) ∙ inv.has_code k n;
          dead_in = λ j d. inv.dead_in j (dead_before s.dead (effect ins length s.registers s.pc) j d);
          services = tt;
        }))

    fore_of : (bits length : ℕ) (o : Option Ins) → Goes (Keeps m code region certs) [] (decoded_by m es fore bits length o)
    fore_of bits length None = tt
    fore_of bits length (Some ins) =
        any Before (first_broken (instruction_tests (marks fore.live) ins)) s.bodies (performed_by m es fore (effect ins length s.registers s.pc) (performed m (hart fore) ins bits length))
        (fore_performed bits length ins (performed m (hart fore) ins bits length) refl)

    fore_fetched : (f : Fetched) → Goes (Keeps m code region certs) [] (body_fetched m es fore f)
    fore_fetched (Missing at) = tt
    fore_fetched (Bits bits length) = fore_of bits length (decoded bits length)

    pub fore_body : Goes (Keeps m code region certs) [] (body m es fore)
    unfolding body
    fore_body =
        any Before (first_broken (first_tests s.dead s.pc)) s.bodies (unless_broken Before (first_broken (second_tests (is_long_at s.memory s.pc) s.dead s.pc)) s.bodies (body_fetched m es fore (fetched s.memory s.pc)))
        (any Before (first_broken (second_tests (is_long_at s.memory s.pc) s.dead s.pc)) s.bodies (body_fetched m es fore (fetched s.memory s.pc))
        (fore_fetched (fetched s.memory s.pc)))

  -- ---- Leave
  left_keeps : (s : Servicing) (v : Live) (vs : List Live) → Inv m code region certs (record s { live = v ∷ vs }) → s.pc ≡ back → Keeps m code region certs (left (record s { live = v ∷ vs }) v vs)
  unfolding left
  left_keeps s v [] inv e range = record { range = range; has_code = inv.has_code; dead_in = inv.dead_in; services = tt }
  left_keeps s v (w ∷ ws) inv e range =
      let runs = inv.services.0 in
      let sp = raised_pointer s.registers in
      let returned : IsBack v.mark.kept s.registers s.pc =
      ⊎_elim
      (λ (c : IsInCode (certs (handler_of v)) v.mark.kept v.mark.frame s.registers s.pc s.memory.ram s.dead). absurd (not_at_back code region (handler_of v) runs.uses (certs (handler_of v)) v.mark.kept v.mark.frame s.registers s.pc s.memory.ram s.dead runs.accepted c e))
      (λ (r : IsBack v.mark.kept s.registers s.pc). r)
      runs.stands in
      let same_sp : raised_pointer v.mark.kept ≡ sp = ap (λ x. word (x + 32)) (sym (returned.1 2 (omega arith) refl)) in
      let same : resumed v ≡ leave_registers s.registers v sp =
      ap (λ x. leave_registers v.mark.kept v x) same_sp ∙ leave_same v.mark.kept s.registers v sp runs.framed.count inv.range.board.registers.count (λ r l f. sym (returned.1 r l f)) in
      record {
        range = range;
        has_code = inv.has_code;
        dead_in = inv.dead_in;
        services = (subst (λ rs. Runs code region certs w rs v.pc s.memory.ram s.dead) same inv.services.1.0, inv.services.1.1);
      }

  -- ---- a move
  leave_or_body_keeps : (s : Servicing) (live : List Live) (b : Bool) → Inv m code region certs (record s { live = live }) → (s.pc == back) ≡ b → Goes Next live (leave_or_body m es (record s { live = live }) live b)
  leave_or_body_keeps s [] b inv e = goes_on [] (body m es (record s { live = [] })) (fore_body s inv)
  leave_or_body_keeps s (v ∷ vs) true inv e = λ r a. left_keeps s v vs inv (eqb-true s.pc back e) r
  leave_or_body_keeps s (v ∷ vs) false inv e = goes_on (v ∷ vs) (body m es (record s { live = v ∷ vs })) (handler_body m es code region certs s v vs inv (eqb-false s.pc back e))

  enter_keeps : (s : Servicing) (t : Choice) → Inv m code region certs s → Goes Next s.live (enter s t)
  unfolding entered
  enter_keeps s t inv =
      goes_tested Next s.live Before (enter_tests (marks s.live) s.dead t.shv s.vector (new_frame s) (table_address s.table t.id)) s.bodies (Makes Enter (entered s t))
      (allowed s.live HardVectored tt, (allowed s.live NoDispatcher tt, (allowed s.live StackBad tt, (allowed s.live StackBad tt, (allowed s.live StackBad tt, (allowed s.live BadTable tt, (allowed s.live BadTable tt, (allowed s.live BadTable tt, (allowed s.live BadTable tt, tt)))))))))
      (λ e r a. entered_keeps m es code region certs in_ram s t inv a (eqb-true (new_frame s % 4) 0 (not-false (new_frame s % 4 == 0) (third _ _ _ _ _ _ _ e))) r)

  move_by_keeps : (s : Servicing) (o : Option Choice) (b : Bool) → Inv m code region certs s → Goes Next s.live (move_by m es s o b)
  move_by_keeps s (Some t) true inv = enter_keeps s t inv
  move_by_keeps s None true inv = leave_or_body_keeps s s.live (s.pc == back) inv refl
  move_by_keeps s (Some t) false inv = leave_or_body_keeps s s.live (s.pc == back) inv refl
  move_by_keeps s None false inv = leave_or_body_keeps s s.live (s.pc == back) inv refl

  halted_keeps : (n : ℕ) (live : List Live) → Goes Next live (halted_with live n)
  halted_keeps n [] = tt
  halted_keeps n (v ∷ vs) = tt

  unless_halted_keeps : (s : Servicing) (o : Option ℕ) → Inv m code region certs s → Goes Next s.live (move_unless_halted m es s o)
  unless_halted_keeps s (Some c) inv = halted_keeps s.bodies s.live
  unless_halted_keeps s None inv = move_by_keeps s (top s.outside.clic) (is_enter_due s (top s.outside.clic)) inv

  move_keeps : (s : Servicing) → Inv m code region certs s → Goes Next s.live (move m es s)
  unfolding move
  move_keeps s inv = unless_halted_keeps s (m.halted s.outside.device) inv

  made_keeps : (live : List Live) (moved : Moved Move Servicing) (kind : Move) (t : Servicing) → Goes Next live moved → moved ≡ Makes kind t → Next t
  made_keeps live moved kind t h e = subst (Goes Next live) e h

  pub next_keeps : (s : Servicing) (kind : Move) (t : Servicing) → Inv m code region certs s → move m es s ≡ Makes kind t → Next t
  next_keeps s kind t inv e = made_keeps s.live (move m es s) kind t (move_keeps s inv) e

  -- ---- what follows
  kind_of : (live : List Live) (v : Live) (vs : List Live) (moved : Moved Move Servicing) (when : When) (kind : Broken) (n : ℕ) → Goes Next live moved → live ≡ v ∷ vs → moved ≡ Breaks when kind n → IsOther kind
  kind_of [] v vs moved when kind n h e f = absurd cc
  kind_of (w ∷ ws) v vs moved when kind n h e f = subst (Goes Next (w ∷ ws)) f h

  pointer_of : (live : List Live) (registers : List ℕ) (pc : ℕ) (ram : List ℕ) (dead : List Bool) (v : Live) (vs : List Live) (uses : ℕ) → Services code region certs live registers pc ram dead → live ≡ v ∷ vs → checked code (handler_of v) region (certs (handler_of v)) ≡ Some uses
      → (register registers 2 ≤ v.mark.frame) × (v.mark.frame ≤ register registers 2 + uses)
  pointer_of [] registers pc ram dead v vs uses h e y = absurd cc
  pointer_of (w ∷ ws) registers pc ram dead v vs uses h e y =
      let is : w ≡ v = cc in
      let r : Runs code region certs v registers pc ram dead = subst (λ (x : Live). Runs code region certs x registers pc ram dead) is h.0 in
      let yes = r.accepted in
      let same : r.uses ≡ uses = cc in
      let deep = r.deep in
      (r.top, omega arith)

  pub safe_at : (t : Servicing) → Inv m code region certs t → IsSafe m es code region certs t
  safe_at t now = record {
    kinds = λ v vs when kind n l f. kind_of t.live v vs (move m es t) when kind n (move_keeps t now) l f;
    pointer = λ v vs uses l y. pointer_of t.live t.registers t.pc t.memory.ram t.dead v vs uses now.services l y;
  }
