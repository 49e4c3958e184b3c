-- A body of a service keeps what is known.
use Rattle.std.proofs.Common.{◌≡◌, ℕ, zero, suc, ◌+◌, ◌-◌, ◌%◌, ◌<◌, ◌≤◌, ◌⊎◌, inl, inr, ⊎_elim, Bool, true, false, List, [], ◌∷◌, length, Some, None, Result, Ok, Err, refl, sym, ap, ◌∙◌, subst, arith}
use Rattle.std.specs.Prelude.{◌==◌, ◌&&◌, ◌||◌, not, nat_le, slice_index, slice_index_or}
use Rattle.std.proofs.lemmas.Bool.{eq-eqb, or_parts, or_from, and_from, and_left, and_right, not_from_true, true≢false, cases_Bool, ne_eqb, lt-leb, leb-true}
use Rattle.hart_words.specs.TwosComplement.{word}
use Rattle.hart_words.specs.Registers.{register}
use Rattle.device_model.specs.Meanings.{Meanings}
use Rattle.rv_encoding.specs.declared.instruction.Ins.{Ins}
use Rattle.rv_encoding.specs.declared.instruction.Ins.TheVariants.{Lui, Auipc, Jal, Jalr, Branch, Load, Store, Imm, Reg, Fence, Ecall, Ebreak, Mret, Wfi, Csr}
use Rattle.hart_exec.specs.Effect.{effect}
use Rattle.hart_memory.specs.Bytes.{number_at}
use Rattle.hart_memory.specs.Place.{holds, is_in_memory, is_in_rom}
use Rattle.hart_memory.specs.Fetch.{fetched, is_long}
use Rattle.hart_memory.specs.declared.address_map.TheConstants.{RAM_BASE, BANK_LEN}
use Rattle.hart_board.specs.State.{State}
use Rattle.hart_board.specs.Attempt.{performed}
use Rattle.hart_board.specs.Event.{with_events}
use Rattle.hart_board.specs.declared.event.Event.{Event}
use Rattle.hart_board.specs.declared.trap.Trap.{Trap}
use Rattle.hart_board.specs.declared.trap.TheConstants.{FETCH_FAULT}
use Rattle.chain_moves.specs.Slot.{back, in_slot}
use Rattle.chain_moves.specs.Servicing.{Live, Servicing, marks, is_foreground}
use Rattle.chain_moves.specs.Bytes.{some_byte, is_dead, is_hidden}
use Rattle.chain_moves.specs.Tests.{first_broken, first_tests, second_tests, instruction_tests, access_tests, return_tests, is_free, are_kept, is_lost}
use Rattle.chain_moves.specs.Enter.{word_or_zero}
use Rattle.chain_moves.specs.Body.{hart, with_hart, is_long_at, dead_after, retired, performed_by, decoded_by, fetched_by as body_fetched, body}
use Rattle.chain_moves.specs.Convention.{is_permitted}
use Rattle.chain_moves.specs.Machine.{Before, After, Makes}
use Rattle.chain_moves.specs.declared.broken.Broken.{Broken}
use Rattle.chain_moves.specs.declared.broken.Broken.TheVariants.{CsrTouched, RegisterLost, ReadsDispatch, EnteredDispatch, Exception}
use Rattle.chain_moves.specs.declared.moves.Move.TheVariants.{Body}
use Rattle.chain_certify.specs.Flow.{Flow}
use Rattle.chain_certify.specs.Transfer.{flow_after}
use Rattle.chain_certify.specs.Rules.{is_bad_half, is_outside, is_other_system, looked}
use Rattle.chain_certify.specs.Check.{Node, are_covered, checked}
use Rattle.chain_certify.specs.Soundness.{Certificates, handler_of}
use Rattle.chain_certify.specs.Rules.{Next}
use Rattle.chain_flow.specs.declared.region.Region.{Region}
use Rattle.chain_certify.proofs.Certified.{IsCertified, certified, lands_in}
use Rattle.chain_lint.proofs.Marking.{none_of, none_from}
use Rattle.hart_memory.proofs.PlaceLemmas.{place_rom}
use Rattle.chain_certify.proofs.Looks.{Looks, looks, keeps}
use Rattle.chain_lint.proofs.Fetches.{loaded_code, same_fetch, back_outside}
use Rattle.chain_certify.proofs.Handlers.{Knows, Lands, IsBack, Went, pointer_is}
use Rattle.chain_certify.proofs.Ones.{one, passes}
use Rattle.chain_lint.proofs.Roms.{performed_rom}
use Rattle.chain_certify.proofs.Services.{IsInCode, frames_from, suspended_stays}
use Rattle.chain_certify.proofs.Invariant.{Inv, hart_is, Goes, goes_unless, Keeps as Kept}

-- ---- the fetch
two_pass : (a b : Bool) (x y : Broken) → a ≡ false → b ≡ false → first_broken ((a, x) ∷ (b, y) ∷ []) ≡ None
unfolding first_broken
two_pass true b x y e f = absurd (true≢false e)
two_pass false true x y e f = absurd (true≢false f)
two_pass false false x y e f = refl

three_pass : (a b c : Bool) (x y z : Broken) → a ≡ false → b ≡ false → c ≡ false → first_broken ((a, x) ∷ (b, y) ∷ (c, z) ∷ []) ≡ None
unfolding first_broken
three_pass true b c x y z e f g = absurd (true≢false e)
three_pass false true c x y z e f g = absurd (true≢false f)
three_pass false false true x y z e f g = absurd (true≢false g)
three_pass false false false x y z e f g = refl

pub record GoodHalf (dead : List Bool) (at : ℕ) : Type 0 where
  pub slot : in_slot at ≡ false
  pub here : not (holds at 2) ≡ false
  pub shown : some_byte (is_hidden dead) at 2 ≡ false

rom_alive : (dead : List Bool) (j : ℕ) → j < RAM_BASE → is_dead dead j ≡ false
rom_alive dead j l = and_left (nat_le RAM_BASE j) (slice_index_or dead (j - RAM_BASE) false) (lt-leb RAM_BASE j l)

good_half : (dead : List Bool) (at : ℕ) → is_bad_half at ≡ false → GoodHalf dead at
good_half dead at e =
    let parts = or_parts (not (is_in_rom at 2)) (some_byte in_slot at 2) e in
    let within : at + 2 ≤ BANK_LEN = leb-true (at + 2) BANK_LEN (is_true (is_in_rom at 2) parts.0) in
    record {
      slot = none_of in_slot at 2 parts.1 at (omega arith) (omega arith);
      here = ap (λ p. not (is_in_memory p)) (place_rom at 2 within);
      shown = none_from (is_hidden dead) at 2 (λ j l r. or_from (in_slot j) (is_dead dead j) (none_of in_slot at 2 parts.1 j l r) (rom_alive dead j (omega arith)));
    }
  where
    is_true : (b : Bool) → not b ≡ false → b ≡ true
    is_true true n = refl
    is_true false n = absurd (true≢false n)

permitted : (live : Bool) (ins : Ins) → is_other_system ins ≡ false → not (is_permitted live ins) ≡ false
permitted live (Lui rd imm) e = refl
permitted live (Auipc rd imm) e = refl
permitted live (Jal rd offset) e = refl
permitted live (Jalr rd rs1 imm) e = refl
permitted live (Branch op rs1 rs2 offset) e = refl
permitted live (Load op rd rs1 imm) e = refl
permitted live (Store op rs1 rs2 imm) e = refl
permitted live (Imm op rd rs1 imm) e = refl
permitted live (Reg op rd rs1 rs2) e = refl
permitted live (Fence pred succ) e = refl
permitted live Wfi e = refl
permitted live Ecall e = absurd (true≢false e)
permitted live Ebreak e = absurd (true≢false e)
permitted live Mret e = absurd (true≢false e)
permitted live (Csr op rd source csr) e = absurd (true≢false e)

-- ---- the return
kept_from : (kept registers : List ℕ) (n : ℕ) → n ≤ 32 → ((r : ℕ) → r < 32 → is_free r ≡ false → register registers r ≡ register kept r) → are_kept kept registers n ≡ true
unfolding are_kept
kept_from kept registers zero l h = refl
kept_from kept registers (suc n) l h =
    and_from (is_free n || register registers n == register kept n) (are_kept kept registers n)
    (⊎_elim
    (λ (e : is_free n ≡ true). ap (λ b. b || register registers n == register kept n) e)
    (λ (e : is_free n ≡ false). ap (λ b. b || register registers n == register kept n) e ∙ eq-eqb (register registers n) (register kept n) (h n (omega arith) e))
    (cases_Bool (is_free n)))
    (kept_from kept registers n (omega arith) h)

pub not_at_back : (code : List ℕ) (region : Region) (handler uses : ℕ) (nodes : List Node) (kept : List ℕ) (frame : ℕ) (registers : List ℕ) (pc : ℕ) (ram : List ℕ) (dead : List Bool) → checked code handler region nodes ≡ Some uses → IsInCode nodes kept frame registers pc ram dead → pc ≡ back → ⊥
not_at_back code region handler uses nodes kept frame registers pc ram dead e c b =
    let g = (certified code handler region nodes uses e).good c.place c.node c.is_there in
    back_outside code (subst (λ a. is_outside code a ≡ false) (c.at ∙ b) (looks code region c.node.at c.node.flow g.next g.passes).inside)

module _ (m : Meanings) (es : List Event) (code : List ℕ) (region : Region) (certs : Certificates) (s : Servicing) (v : Live) (vs : List Live)
    (inv : Inv m code region certs (record s { live = v ∷ vs })) where
  abbrev now : Servicing
  now = record s { live = v ∷ vs }

  abbrev live : List Live
  live = v ∷ vs

  -- the state after an instruction that was carried out
  abbrev later : State → List Bool → Servicing
  later new dead = record (with_hart now new dead) { outside = (with_events m (s.bodies + 1) es (hart (with_hart now new dead))).outside }

  abbrev nodes : List Node
  nodes = certs (handler_of v)

  abbrev uses_now : ℕ
  uses_now = inv.services.0.uses

  cert : IsCertified code (handler_of v) region nodes uses_now
  cert = certified code (handler_of v) region nodes uses_now inv.services.0.accepted

  runs_on : (hints : List ℕ) (next : List Next) (new : State) (dead' : List Bool) → are_covered nodes hints next ≡ true → Went v.mark.kept region v.mark.frame s.memory.ram new.memory.ram s.dead dead' new.registers new.pc next
      → IsInCode nodes v.mark.kept v.mark.frame new.registers new.pc new.memory.ram dead' ⊎ IsBack v.mark.kept new.registers new.pc
  runs_on hints next new dead' c w =
      ⊎_elim
      (λ (l : Lands v.mark.kept v.mark.frame new.registers new.memory.ram dead' new.pc next). inl (lands_in nodes v.mark.kept v.mark.frame new.registers new.memory.ram dead' new.pc hints next c l))
      (λ (b : IsBack v.mark.kept new.registers new.pc). inr b)
      w.lands

  not_lost : (registers : List ℕ) (pc : ℕ) (ram : List ℕ) (dead : List Bool) → IsInCode nodes v.mark.kept v.mark.frame registers pc ram dead ⊎ IsBack v.mark.kept registers pc → is_lost (marks live) pc registers ≡ false
  unfolding is_lost marks
  not_lost registers pc ram dead h =
      ⊎_elim
      (λ (c : IsInCode nodes v.mark.kept v.mark.frame registers pc ram dead). and_left (pc == back) (not (are_kept v.mark.kept registers 32)) (ne_eqb pc back (not_at_back code region (handler_of v) uses_now nodes v.mark.kept v.mark.frame registers pc ram dead inv.services.0.accepted c)))
      (λ (b : IsBack v.mark.kept registers pc). and_right (pc == back) (not (are_kept v.mark.kept registers 32)) (not_from_true (are_kept v.mark.kept registers 32) (kept_from v.mark.kept registers 32 (omega arith) b.1)))
      h

  -- where the stack pointer is
  pub record IsPlaced (registers : List ℕ) : Type 0 where
    pub top : register registers 2 ≤ v.mark.frame
    pub deep : v.mark.frame ≤ register registers 2 + uses_now
    pub aligned : register registers 2 % 4 ≡ 0

  placed : (registers : List ℕ) (pc : ℕ) (ram : List ℕ) (dead : List Bool) → IsInCode nodes v.mark.kept v.mark.frame registers pc ram dead ⊎ IsBack v.mark.kept registers pc → IsPlaced registers
  placed registers pc ram dead h =
      let framed = inv.services.0.framed in
      ⊎_elim
      (λ (c : IsInCode nodes v.mark.kept v.mark.frame registers pc ram dead).
      let p = pointer_is region uses_now v.mark.kept v.mark.frame registers ram dead c.node.flow framed (cert.good c.place c.node c.is_there).pointer c.knows in
      let sum = p.0 in
      let deep = cert.deep c.place c.node c.is_there in
      record { top = omega arith; deep = omega arith; aligned = p.1 })
      (λ (b : IsBack v.mark.kept registers pc).
      let same : register registers 2 ≡ v.mark.frame = b.1 2 (omega arith) refl ∙ framed.pointer in
      let four = framed.aligned in
      record { top = omega arith; deep = omega arith; aligned = ap (λ x. x % 4) same ∙ four })
      h

  finishes : (hints : List ℕ) (next : List Next) (new : State) (dead' : List Bool) → are_covered nodes hints next ≡ true
      → Went v.mark.kept region v.mark.frame s.memory.ram new.memory.ram s.dead dead' new.registers new.pc next
      → new.memory.rom ≡ s.memory.rom → Kept m code region certs (later new dead')
  finishes hints next new dead' c w rom range =
      let old = inv.services.0 in
      let stands = runs_on hints next new dead' c w in
      let p = placed new.registers new.pc new.memory.ram dead' stands in
      record {
        range = range;
        has_code = λ k n. ap (λ r. slice_index r k) rom ∙ inv.has_code k n;
        dead_in = λ j d. inv.dead_in j (w.marks j d);
        services = (
          record {
            uses = old.uses;
            accepted = old.accepted;
            framed = old.framed;
            top = p.top;
            deep = p.deep;
            aligned = p.aligned;
            stands = stands;
          },
          suspended_stays code region certs v vs uses_now s.memory.ram new.memory.ram s.dead dead' old.framed w.stays inv.services.1,
        );
      }

  -- an instruction of the handler
  performs_by : (hints : List ℕ) (next : List Next) (bits length : ℕ) (ins : Ins) (r : Result State Trap) → are_covered nodes hints next ≡ true
      → first_broken (access_tests (marks live) s.dead (effect ins length s.registers s.pc)) ≡ None
      → ((new : State) → performed m (hart now) ins bits length ≡ Ok new → Went v.mark.kept region v.mark.frame s.memory.ram new.memory.ram s.dead (dead_after s.dead (effect ins length s.registers s.pc)) new.registers new.pc next)
      → performed m (hart now) ins bits length ≡ r → Goes (Kept m code region certs) live (performed_by m es now (effect ins length s.registers s.pc) r)
  performs_by hints next bits length ins (Err trap) c safe went e = tt
  performs_by hints next bits length ins (Ok new) c safe went e =
      let w = went new e in
      let dead' = dead_after s.dead (effect ins length s.registers s.pc) in
      goes_unless (Kept m code region certs) live Before (first_broken (access_tests (marks live) s.dead (effect ins length s.registers s.pc))) s.bodies (retired m es (with_hart now new dead')) safe
      (goes_unless (Kept m code region certs) live After (first_broken (return_tests (marks live) new.pc new.registers)) (s.bodies + 1) (Makes Body (later new dead'))
      (passes (is_lost (marks live) new.pc new.registers) RegisterLost (not_lost new.registers new.pc new.memory.ram dead' (runs_on hints next new dead' c w)))
      (finishes hints next new dead' c w (performed_rom m es now ins bits length new e)))

  pointer_low : region.low ≤ register s.registers 2
  pointer_low =
      let deep = inv.services.0.deep in
      let low = inv.services.0.framed.low in
      omega arith

  body_in_code : (f : Flow) (hints : List ℕ) (next : List Next) → Knows v.mark.kept v.mark.frame s.registers s.memory.ram s.dead f → are_covered nodes hints next ≡ true → Looks code region s.pc f next
      → Goes (Kept m code region certs) live (body_fetched m es now (fetched s.memory s.pc))
  body_in_code f hints next says c l =
      let old = inv.services.0 in
      let rules = keeps region f (flow_after code s.pc l.length f l.ins) l.ins l.passes in
      let here = one m now region uses_now v.mark.kept v.mark.frame f old.framed (hart_is m (hart now) inv.range.board) inv.dead_in (λ j e. frames_from code region certs v vs uses_now s.memory.ram s.dead j old.framed inv.services.1 e) old.top pointer_low says code inv.has_code l.ins l.bits l.length rules in
      subst (λ x. Goes (Kept m code region certs) live (body_fetched m es now x)) (sym (same_fetch code s.memory s.pc inv.has_code l.inside ∙ l.fetches))
      (subst (λ o. Goes (Kept m code region certs) live (decoded_by m es now l.bits l.length o)) (sym l.decodes)
      (goes_unless (Kept m code region certs) live Before (first_broken (instruction_tests (marks live) l.ins)) s.bodies (performed_by m es now (effect l.ins l.length s.registers s.pc) (performed m (hart now) l.ins l.bits l.length))
      (passes (not (is_permitted (is_foreground (marks live)) l.ins)) CsrTouched (permitted (is_foreground (marks live)) l.ins rules.system))
      (performs_by hints next l.bits l.length l.ins (performed m (hart now) l.ins l.bits l.length) c here.safe
      (λ new e. subst (λ (ns : List Next). Went v.mark.kept region v.mark.frame s.memory.ram new.memory.ram s.dead (dead_after s.dead (effect l.ins l.length s.registers s.pc)) new.registers new.pc ns) (sym l.is_next) (here.went new e))
      refl)))

  second_pass : (b : Bool) → (b && is_bad_half (word (s.pc + 2))) ≡ false → first_broken (second_tests b s.dead s.pc) ≡ None
  unfolding first_broken
  second_pass false e = refl
  second_pass true e =
      let h = good_half s.dead (word (s.pc + 2)) e in
      two_pass (not (holds (word (s.pc + 2)) 2)) (some_byte (is_hidden s.dead) (word (s.pc + 2)) 2) (Exception FETCH_FAULT) ReadsDispatch h.here h.shown

  pub handler_body : (s.pc ≡ back → ⊥) → Goes (Kept m code region certs) live (body m es now)
  unfolding body
  handler_body not_back = ⊎_elim in_code (λ (b : IsBack v.mark.kept s.registers s.pc). absurd (not_back b.0)) inv.services.0.stands
    where
      in_code : IsInCode nodes v.mark.kept v.mark.frame s.registers s.pc s.memory.ram s.dead → Goes (Kept m code region certs) live (body m es now)
      in_code i =
          let g = cert.good i.place i.node i.is_there in
          let l : Looks code region s.pc i.node.flow g.next = looks code region s.pc i.node.flow g.next (ap (λ a. looked code region a i.node.flow) (sym i.at) ∙ g.passes) in
          let parts = or_parts (is_bad_half s.pc) (is_long (number_at code s.pc 2) && is_bad_half (word (s.pc + 2))) l.inside in
          let h = good_half s.dead s.pc parts.0 in
          let long : is_long_at s.memory s.pc ≡ is_long (number_at code s.pc 2) = ap (λ o. is_long (word_or_zero o)) (loaded_code code s.memory s.pc inv.has_code parts.0) in
          goes_unless (Kept m code region certs) live Before (first_broken (first_tests s.dead s.pc)) s.bodies _
          (three_pass (in_slot s.pc) (not (holds s.pc 2)) (some_byte (is_hidden s.dead) s.pc 2) EnteredDispatch (Exception FETCH_FAULT) ReadsDispatch h.slot h.here h.shown)
          (goes_unless (Kept m code region certs) live Before (first_broken (second_tests (is_long_at s.memory s.pc) s.dead s.pc)) s.bodies _
          (ap (λ b. first_broken (second_tests b s.dead s.pc)) long ∙ second_pass (is_long (number_at code s.pc 2)) parts.1)
          (body_in_code i.node.flow i.node.hints g.next i.knows g.covered l))
