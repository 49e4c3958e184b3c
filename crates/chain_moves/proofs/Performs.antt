-- An instruction on the board and in the servicing machine.
use Rattle.std.proofs.Common.{◌≡◌, ℕ, ◌%◌, Bool, true, false, List, Option, Some, None, Result, Ok, Err, refl, sym, ap, ◌∙◌, subst, arith}
use Rattle.std.specs.Prelude.{◌==◌}
use Rattle.hart_words.specs.Registers.{with_register}
use Rattle.device_model.specs.Meanings.{Meanings}
use Rattle.csr_file.specs.CsrState.{CsrState}
use Rattle.rv_encoding.specs.declared.instruction.Ins.{Ins}
use Rattle.hart_exec.specs.Access.{extended}
use Rattle.hart_exec.specs.declared.effect.Effect.{Effect}
use Rattle.hart_exec.specs.declared.effect.Effect.TheVariants.{Go, Load, Store, System}
use Rattle.hart_memory.specs.Bytes.{with_number}
use Rattle.hart_memory.specs.Place.{place}
use Rattle.hart_memory.specs.declared.place.Place.{Place}
use Rattle.hart_memory.specs.declared.place.Place.TheVariants.{InRom, InRam, Elsewhere}
use Rattle.hart_memory.proofs.PlaceLemmas.{in_ram}
use Rattle.clic_trap.specs.Outcome.{SystemOutcome}
use Rattle.clic_trap.specs.System.{system}
use Rattle.clic_trap.specs.declared.system_end.SystemEnd.{SystemEnd}
use Rattle.clic_trap.specs.declared.system_end.SystemEnd.TheVariants.{Next, Jump, Raise}
use Rattle.hart_board.specs.State.{Outside, State}
use Rattle.hart_board.specs.Region.{region as region_of}
use Rattle.hart_board.specs.Outside.{loaded_in, stored_in}
use Rattle.hart_board.specs.Access.{load, load_at, load_answer, store, store_at, store_answer}
use Rattle.hart_board.specs.Attempt.{performed_by, after_load, after_store, after_system, after_system_outcome, with_outcome}
use Rattle.hart_board.specs.declared.trap.Trap.{Trap}
use Rattle.chain_moves.specs.Servicing.{Servicing, marks}
use Rattle.chain_moves.specs.Bytes.{some_byte, is_hidden, in_live_frame, revived_at}
use Rattle.chain_moves.specs.Body.{hart, dead_after}
use Rattle.chain_moves.specs.Convention.{is_permitted}
use Rattle.chain_moves.specs.Agreement.{Agree, Frames}
use Rattle.chain_moves.specs.Beside.{Rest, board_with}
use Rattle.chain_moves.specs.Related.{Stands}
use Rattle.chain_moves.specs.declared.dispatcher.Dispatcher.{Dispatcher}
use Rattle.chain_moves.proofs.Marking.{none_of}
use Rattle.chain_moves.proofs.Memories.{rom_same, ram_same, stored_agree, frames_stay}
use Rattle.chain_moves.proofs.Lifted.{outcome_with, AreLifted, keeps_fields}

-- a handler's instruction changes no field
abbrev pub KeepsFields : Bool → State → State → Type 0
KeepsFields true old new = Unit {0}
KeepsFields false old new = new.csrs ≡ old.csrs

same_fields : (foreground : Bool) (old new : State) → new.csrs ≡ old.csrs → KeepsFields foreground old new
same_fields true old new e = tt
same_fields false old new e = e

after_fields : (foreground : Bool) (old new newer : State) → newer.csrs ≡ new.csrs → KeepsFields foreground old new → KeepsFields foreground old newer
after_fields true old new newer e h = tt
after_fields false old new newer e h = e ∙ h

system_fields : (foreground : Bool) (t : State) (ins : Ins) (next : ℕ) → is_permitted foreground ins ≡ true → KeepsFields foreground t (with_outcome t (system ins t.registers t.csrs t.outside.clic) next)
system_fields true t ins next p = tt
system_fields false t ins next p = keeps_fields ins t.registers t.csrs t.outside.clic p

-- the board's fields are some of the hart's, and what is permitted does the same with both
module _ (m : Meanings) (d : Dispatcher) (s : Servicing) (x : Rest) (h : Stands d s x) (foreground : Bool) (fields : CsrState → CsrState) (lifts : AreLifted foreground fields) where
  abbrev b : State
  b = board_with fields x (hart s)

  -- the board made what the hart made, over a RAM of its own
  pub record Lifts (E : Type 0) (dead : List Bool) (ob : Result State E) (c : State) : Type 0 where
    pub ram : List ℕ
    pub is : ob ≡ Ok (board_with fields (record x { ram = ram }) c)
    pub rom : c.memory.rom ≡ s.memory.rom
    pub same : KeepsFields foreground (hart s) c
    pub agree : Agree ram c.memory.ram dead
    pub frames : Frames ram dead s.live

  -- by what the hart made: the same raise, or the same state
  abbrev pub Same : (E : Type 0) → List Bool → Result State E → Result State E → Type 0
  Same E dead ob (Ok c) = Lifts E dead ob c
  Same E dead ob (Err e) = ob ≡ Err e

  -- the state changed, memory not
  stays : (E : Type 0) (ob : Result State E) (c : State) → ob ≡ Ok (board_with fields x c) → c.memory ≡ s.memory → KeepsFields foreground (hart s) c → Lifts E s.dead ob c
  stays E ob c e q f = record {
    ram = x.ram;
    is = e;
    rom = ap (λ y. y.rom) q;
    same = f;
    agree = subst (λ y. Agree x.ram y.ram s.dead) (sym q) h.ram;
    frames = h.frames;
  }

  -- ---- loads
  abbrev LoadSame : Result (ℕ × State) ℕ → Result (ℕ × State) ℕ → Type 0
  LoadSame ob (Ok found) = (ob ≡ Ok (found.0, board_with fields x found.1)) × (found.1 ≡ record (hart s) { outside = found.1.outside })
  LoadSame ob (Err code) = ob ≡ Err code

  load_outside : (o : Option (ℕ × Outside)) → LoadSame (load_answer b o) (load_answer (hart s) o)
  load_outside (Some found) = (refl, refl)
  load_outside None = refl

  load_at_same : (at width : ℕ) (aligned : Bool) (p : Place) → place at width ≡ p → some_byte (is_hidden s.dead) at width ≡ false → LoadSame (load_at m b at width aligned p) (load_at m (hart s) at width aligned p)
  load_at_same at width false p e q = refl
  load_at_same at width true (InRom k) e q = (ap (λ n. Ok (n, b)) (rom_same x.rom s.memory.rom x.ram s.memory.ram s.dead h.rom h.ram at width k e q), refl)
  load_at_same at width true (InRam k) e q = (ap (λ n. Ok (n, b)) (ram_same x.rom s.memory.rom x.ram s.memory.ram s.dead h.rom h.ram at width k e q), refl)
  load_at_same at width true Elsewhere e q = load_outside (loaded_in m s.outside width (region_of at))

  load_same : (at width : ℕ) → some_byte (is_hidden s.dead) at width ≡ false → LoadSame (load m b at width) (load m (hart s) at width)
  unfolding load
  load_same at width q = load_at_same at width (at % width == 0) (place at width) refl q

  after_load_same : (rd at width : ℕ) (signed : Bool) (next : ℕ) (ob oh : Result (ℕ × State) ℕ) → LoadSame ob oh → Same Trap s.dead (after_load rd at width signed next ob) (after_load rd at width signed next oh)
  after_load_same rd at width signed next ob (Ok found) q = stays Trap (after_load rd at width signed next ob) (record found.1 { registers = with_register found.1.registers rd (extended found.0 width signed); pc = next }) (ap (after_load rd at width signed next) q.0) (ap (λ t. t.memory) q.1) (same_fields foreground (hart s) (record found.1 { registers = with_register found.1.registers rd (extended found.0 width signed); pc = next }) (ap (λ t. t.csrs) q.1))
  after_load_same rd at width signed next ob (Err code) q = ap (after_load rd at width signed next) q

  -- ---- stores
  store_outside : (o : Option Outside) → Same ℕ s.dead (store_answer b o) (store_answer (hart s) o)
  store_outside (Some outside) = stays ℕ (store_answer b (Some outside)) (record (hart s) { outside = outside }) refl refl (same_fields foreground (hart s) (record (hart s) { outside = outside }) refl)
  store_outside None = refl

  store_at_same : (at width value : ℕ) (aligned : Bool) (p : Place) → place at width ≡ p → some_byte (in_live_frame (marks s.live)) at width ≡ false → Same ℕ (revived_at p width s.dead) (store_at m b at width value aligned p) (store_at m (hart s) at width value aligned p)
  store_at_same at width value false p e q = refl
  store_at_same at width value true (InRom k) e q = refl
  store_at_same at width value true (InRam k) e q =
      let lies = in_ram at width k e in
      let long = h.ram.long in
      record {
        ram = with_number x.ram k width value;
        is = refl;
        rom = refl;
        same = same_fields foreground (hart s) (record (hart s) { memory = record s.memory { ram = with_number s.memory.ram k width value } }) refl;
        agree = stored_agree width x.ram s.memory.ram s.dead k value lies.ends h.ram;
        frames = frames_stay s.live x.ram s.dead at width k value lies.is (omega (arith, lies.ends, long)) (none_of (in_live_frame (marks s.live)) at width q) h.frames;
      }
  store_at_same at width value true Elsewhere e q = store_outside (stored_in m s.outside width value (region_of at))

  store_same : (at width value : ℕ) → some_byte (in_live_frame (marks s.live)) at width ≡ false → Same ℕ (revived_at (place at width) width s.dead) (store m b at width value) (store m (hart s) at width value)
  unfolding store
  store_same at width value q = store_at_same at width value (at % width == 0) (place at width) refl q

  after_store_same : (dead : List Bool) (at next : ℕ) (ob oh : Result State ℕ) → Same ℕ dead ob oh → Same Trap dead (after_store at next ob) (after_store at next oh)
  after_store_same dead at next ob (Ok c) q = record { ram = q.ram; is = ap (after_store at next) q.is; rom = q.rom; same = after_fields foreground (hart s) c (record c { pc = next }) refl q.same; agree = q.agree; frames = q.frames }
  after_store_same dead at next ob (Err code) q = ap (after_store at next) q

  -- ---- system
  outcome_same : (bits next : ℕ) (end : SystemEnd) (made : SystemOutcome) → KeepsFields foreground (hart s) (with_outcome (hart s) made next) → Same Trap s.dead (after_system b bits next end (outcome_with fields made)) (after_system (hart s) bits next end made)
  outcome_same bits next Next made f = stays Trap (Ok (with_outcome b (outcome_with fields made) next)) (with_outcome (hart s) made next) refl refl f
  outcome_same bits next (Jump target) made f = stays Trap (Ok (with_outcome b (outcome_with fields made) target)) (with_outcome (hart s) made target) refl refl (after_fields foreground (hart s) (with_outcome (hart s) made next) (with_outcome (hart s) made target) refl f)
  outcome_same bits next (Raise code) made f = refl

  system_same : (ins : Ins) (bits next : ℕ) → is_permitted foreground ins ≡ true → Same Trap s.dead (after_system_outcome b bits next (system ins b.registers b.csrs b.outside.clic)) (after_system_outcome (hart s) bits next (system ins s.registers (hart s).csrs s.outside.clic))
  system_same ins bits next p =
      let made = system ins s.registers (hart s).csrs s.outside.clic in
      subst (λ o. Same Trap s.dead (after_system_outcome b bits next o) (after_system_outcome (hart s) bits next made)) (sym (lifts ins p s.registers (hart s).csrs s.outside.clic))
      (outcome_same bits next made.answer made (system_fields foreground (hart s) ins next p))

  -- ---- by the effect
  -- no byte is read that is hidden, and none written that is a live frame's
  abbrev pub IsClean : Effect → Type 0
  IsClean (Go rd value next) = Unit {0}
  IsClean (Load rd at width signed) = some_byte (is_hidden s.dead) at width ≡ false
  IsClean (Store at width value) = some_byte (in_live_frame (marks s.live)) at width ≡ false
  IsClean System = Unit {0}

  pub performed_by_same : (ins : Ins) (bits next : ℕ) (e : Effect) → is_permitted foreground ins ≡ true → IsClean e → Same Trap (dead_after s.dead e) (performed_by m b ins bits next e) (performed_by m (hart s) ins bits next e)
  performed_by_same ins bits next (Go rd value target) p q = stays Trap (performed_by m b ins bits next (Go rd value target)) (record (hart s) { registers = with_register s.registers rd value; pc = target }) refl refl (same_fields foreground (hart s) (record (hart s) { registers = with_register s.registers rd value; pc = target }) refl)
  performed_by_same ins bits next (Load rd at width signed) p q = after_load_same rd at width signed next (load m b at width) (load m (hart s) at width) (load_same at width q)
  performed_by_same ins bits next (Store at width value) p q = after_store_same (revived_at (place at width) width s.dead) at next (store m b at width value) (store m (hart s) at width value) (store_same at width value q)
  performed_by_same ins bits next System p q = system_same ins bits next p
