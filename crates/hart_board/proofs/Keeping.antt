-- What each way to change a state keeps is kept by an instruction, and by the whole step. ROM, the lines of the controller and the kept states are such.
use Rattle.std.proofs.Common.{◌≡◌, ℕ, ◌+◌, ◌%◌, ◌==◌, Bool, true, false, Option, Some, None, Result, Ok, Err, refl, ap}
use Rattle.std.specs.Prelude.{⊤}
use Rattle.hart_words.specs.TwosComplement.{word}
use Rattle.hart_words.specs.Registers.{with_register}
use Rattle.device_model.specs.Meanings.{Meanings}
use Rattle.rv_encoding.specs.declared.instruction.Ins.{Ins}
use Rattle.hart_exec.specs.Access.{extended}
use Rattle.hart_exec.specs.Effect.{effect}
use Rattle.hart_exec.specs.declared.effect.Effect.{Effect}
use Rattle.hart_exec.specs.declared.effect.Effect.TheVariants.{Go, Load, Store, System}
use Rattle.hart_memory.specs.Fetch.{fetched}
use Rattle.hart_memory.specs.Bytes.{number_at, with_number}
use Rattle.hart_memory.specs.Access.{loaded, loaded_by}
use Rattle.hart_memory.specs.Place.{place}
use Rattle.hart_memory.specs.declared.fetched.Fetched.{Fetched}
use Rattle.hart_memory.specs.declared.fetched.Fetched.TheVariants.{Bits, Missing}
use Rattle.hart_memory.specs.declared.place.Place.{Place}
use Rattle.hart_memory.specs.declared.place.Place.TheVariants.{InRom, InRam, Elsewhere}
use Rattle.clic_select.specs.Top.{top}
use Rattle.clic_select.specs.declared.choice.Choice.{Choice}
use Rattle.clic_trap.specs.Due.{due}
use Rattle.clic_trap.specs.Entry.{entered}
use Rattle.clic_trap.specs.declared.entered.Entered.{Entered}
use Rattle.clic_trap.specs.declared.entered.Entered.TheVariants.{At, VectorFault as Faults}
use Rattle.clic_trap.specs.System.{system}
use Rattle.clic_trap.specs.declared.system_end.SystemEnd.{SystemEnd}
use Rattle.clic_trap.specs.declared.system_end.SystemEnd.TheVariants.{Next, Jump, Raise}
use Rattle.hart_board.specs.State.{Outside, State}
use Rattle.hart_board.specs.Region.{region}
use Rattle.hart_board.specs.Outside.{loaded_in, stored_in}
use Rattle.hart_board.specs.Access.{load_answer, load_at, load, store_answer, store_at, store}
use Rattle.hart_board.specs.Attempt.{after_load, after_store, after_system, with_outcome, performed_by, performed, with_encoding, attempted, attempt_of, attempt}
use Rattle.rvc_encoding.specs.Decoding.{decoded}
use Rattle.hart_board.specs.Step.{step, turn_or_halted, turn_by, settled, raised, entered_at}
use Rattle.hart_board.specs.declared.trap.Trap.{Trap}
use Rattle.rvc_encoding.specs.declared.encoding.Encoding.{Encoding}

-- what is said of states holds after the instruction at pc, however it changes this one
pub record Does (P : State → Type 0) (m : Meanings) (s : State) (ins : Ins) (length : ℕ) : Type 0 where
  pub goes : (rd value target : ℕ) → effect ins length s.registers s.pc ≡ Go rd value target
      → P (record s { registers = with_register s.registers rd value; pc = target })
  pub loads : (rd at width : ℕ) (signed : Bool) (value : ℕ) → effect ins length s.registers s.pc ≡ Load rd at width signed → loaded s.memory at width ≡ Some value
      → P (record s { registers = with_register s.registers rd (extended value width signed); pc = word (s.pc + length) })
  pub loads_outside : (rd at width : ℕ) (signed : Bool) (found : ℕ × Outside) → effect ins length s.registers s.pc ≡ Load rd at width signed → loaded_in m s.outside width (region at) ≡ Some found
      → P (record s { registers = with_register s.registers rd (extended found.0 width signed); pc = word (s.pc + length); outside = found.1 })
  pub stores : (at width value k : ℕ) → effect ins length s.registers s.pc ≡ Store at width value → place at width ≡ InRam k
      → P (record s { pc = word (s.pc + length); memory = record s.memory { ram = with_number s.memory.ram k width value } })
  pub stores_outside : (at width value : ℕ) (outside : Outside) → effect ins length s.registers s.pc ≡ Store at width value → stored_in m s.outside width value (region at) ≡ Some outside
      → P (record s { pc = word (s.pc + length); outside = outside })
  pub goes_on : effect ins length s.registers s.pc ≡ System → (system ins s.registers s.csrs s.outside.clic).answer ≡ Next
      → P (with_outcome s (system ins s.registers s.csrs s.outside.clic) (word (s.pc + length)))
  pub jumps : (target : ℕ) → effect ins length s.registers s.pc ≡ System → (system ins s.registers s.csrs s.outside.clic).answer ≡ Jump target
      → P (with_outcome s (system ins s.registers s.csrs s.outside.clic) target)

-- and it holds after whatever a step may be
pub record Holds (P : State → Type 0) (m : Meanings) (s : State) : Type 0 where
  pub now : P s
  pub does : (ins : Ins) (bits length : ℕ) → fetched s.memory s.pc ≡ Bits bits length → decoded bits length ≡ Some ins → Does P m s ins length
  pub raises : (trap : Trap) → attempt m s ≡ Err trap → P (raised s trap).state
  pub enters : (choice : Choice) (target : ℕ) → top s.outside.clic ≡ Some choice → due s.csrs (top s.outside.clic) ≡ true → (entered s.csrs s.outside.clic s.memory choice s.pc).answer ≡ At target
      → P (record s { csrs = (entered s.csrs s.outside.clic s.memory choice s.pc).csrs; pc = target; outside = record s.outside { clic = (entered s.csrs s.outside.clic s.memory choice s.pc).clic } })

-- it is said of the state that comes of something, where one does
abbrev pub Of : {E : Type 0} → (State → Type 0) → Result State E → Type 0
Of P (Ok s) = P s
Of P (Err e) = ⊤

abbrev pub OfSecond : {A E : Type 0} → (State → Type 0) → Result (A × State) E → Type 0
OfSecond P (Ok made) = P made.1
OfSecond P (Err e) = ⊤

module _ (P : State → Type 0) (m : Meanings) (s : State) where
  module _ (ins : Ins) (bits length : ℕ) (h : Does P m s ins length) where
    load_outside : (rd at width : ℕ) (signed : Bool) (found : Option (ℕ × Outside)) → effect ins length s.registers s.pc ≡ Load rd at width signed → loaded_in m s.outside width (region at) ≡ found → Of P (after_load rd at width signed (word (s.pc + length)) (load_answer s found))
    load_outside rd at width signed (Some found) f e = h.loads_outside rd at width signed found f e
    load_outside rd at width signed None f e = tt

    loads : (rd at width : ℕ) (signed aligned : Bool) (p : Place) → effect ins length s.registers s.pc ≡ Load rd at width signed → place at width ≡ p → Of P (after_load rd at width signed (word (s.pc + length)) (load_at m s at width aligned p))
    loads rd at width signed false p f e = tt
    loads rd at width signed true (InRom k) f e = h.loads rd at width signed (number_at s.memory.rom k width) f (ap (λ q. loaded_by q s.memory width) e)
    loads rd at width signed true (InRam k) f e = h.loads rd at width signed (number_at s.memory.ram k width) f (ap (λ q. loaded_by q s.memory width) e)
    loads rd at width signed true Elsewhere f e = load_outside rd at width signed (loaded_in m s.outside width (region at)) f refl

    load_holds : (rd at width : ℕ) (signed : Bool) → effect ins length s.registers s.pc ≡ Load rd at width signed → Of P (after_load rd at width signed (word (s.pc + length)) (load m s at width))
    unfolding load
    load_holds rd at width signed f = loads rd at width signed (at % width == 0) (place at width) f refl

    store_outside : (at width value : ℕ) (found : Option Outside) → effect ins length s.registers s.pc ≡ Store at width value → stored_in m s.outside width value (region at) ≡ found → Of P (after_store at (word (s.pc + length)) (store_answer s found))
    store_outside at width value (Some outside) f e = h.stores_outside at width value outside f e
    store_outside at width value None f e = tt

    stores : (at width value : ℕ) (aligned : Bool) (p : Place) → effect ins length s.registers s.pc ≡ Store at width value → place at width ≡ p → Of P (after_store at (word (s.pc + length)) (store_at m s at width value aligned p))
    stores at width value false p f e = tt
    stores at width value true (InRom k) f e = tt
    stores at width value true (InRam k) f e = h.stores at width value k f e
    stores at width value true Elsewhere f e = store_outside at width value (stored_in m s.outside width value (region at)) f refl

    store_holds : (at width value : ℕ) → effect ins length s.registers s.pc ≡ Store at width value → Of P (after_store at (word (s.pc + length)) (store m s at width value))
    unfolding store
    store_holds at width value f = stores at width value (at % width == 0) (place at width) f refl

    system_holds : (end : SystemEnd) → effect ins length s.registers s.pc ≡ System → (system ins s.registers s.csrs s.outside.clic).answer ≡ end → Of P (after_system s bits (word (s.pc + length)) end (system ins s.registers s.csrs s.outside.clic))
    system_holds Next f e = h.goes_on f e
    system_holds (Jump target) f e = h.jumps target f e
    system_holds (Raise code) f e = tt

    by_effect : (e : Effect) → effect ins length s.registers s.pc ≡ e → Of P (performed_by m s ins bits (word (s.pc + length)) e)
    by_effect (Go rd value target) f = h.goes rd value target f
    by_effect (Load rd at width signed) f = load_holds rd at width signed f
    by_effect (Store at width value) f = store_holds at width value f
    by_effect System f = system_holds (system ins s.registers s.csrs s.outside.clic).answer f refl

    pub performed_holds : Of P (performed m s ins bits length)
    unfolding performed
    performed_holds = by_effect (effect ins length s.registers s.pc) refl

  encoded_holds : (e : Encoding) (done : Result State Trap) → Of P done → OfSecond P (with_encoding e done)
  encoded_holds e (Ok new) h = h
  encoded_holds e (Err trap) h = tt

  attempted_holds : (bits length : ℕ) (ins : Option Ins) → ((i : Ins) → ins ≡ Some i → Does P m s i length) → OfSecond P (attempted m s bits length ins)
  attempted_holds bits length None h = tt
  attempted_holds bits length (Some ins) h = encoded_holds (record { bits = bits; length = length }) (performed m s ins bits length) (performed_holds ins bits length (h ins refl))

  attempt_of_holds : (f : Fetched) → fetched s.memory s.pc ≡ f → Holds P m s → OfSecond P (attempt_of m s f)
  attempt_of_holds (Missing at) f h = tt
  attempt_of_holds (Bits bits length) f h = attempted_holds bits length (decoded bits length) (λ ins d. h.does ins bits length f d)

  pub attempt_holds : Holds P m s → OfSecond P (attempt m s)
  unfolding attempt
  attempt_holds h = attempt_of_holds (fetched s.memory s.pc) refl h

  settled_holds : (made : Result (Encoding × State) Trap) → attempt m s ≡ made → Holds P m s → OfSecond P made → P (settled s made).state
  settled_holds (Ok made) e h of = of
  settled_holds (Err trap) e h of = h.raises trap e

  entry_holds : (choice : Choice) (e : Entered) → top s.outside.clic ≡ Some choice → due s.csrs (top s.outside.clic) ≡ true → (entered s.csrs s.outside.clic s.memory choice s.pc).answer ≡ e → Holds P m s → P (entered_at s choice.id (entered s.csrs s.outside.clic s.memory choice s.pc) e).state
  entry_holds choice (At target) t d e h = h.enters choice target t d e
  entry_holds choice (Faults input) t d e h = h.now

  turn_holds : (t : Option Choice) (d : Bool) → top s.outside.clic ≡ t → due s.csrs (top s.outside.clic) ≡ d → Holds P m s → P (turn_by m s t d).state
  turn_holds (Some choice) true t d h = entry_holds choice (entered s.csrs s.outside.clic s.memory choice s.pc).answer t d refl h
  turn_holds None true t d h = settled_holds (attempt m s) refl h (attempt_holds h)
  turn_holds (Some choice) false t d h = settled_holds (attempt m s) refl h (attempt_holds h)
  turn_holds None false t d h = settled_holds (attempt m s) refl h (attempt_holds h)

  halt_holds : (o : Option ℕ) → Holds P m s → P (turn_or_halted m s o).state
  halt_holds (Some code) h = h.now
  halt_holds None h = turn_holds (top s.outside.clic) (due s.csrs (top s.outside.clic)) refl refl h

  pub step_holds : Holds P m s → P (step m s).state
  unfolding step
  step_holds h = halt_holds (m.halted s.outside.device) h
