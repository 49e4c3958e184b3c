-- A step leads from a valid state to a valid one.
use Rattle.std.proofs.Common.{◌≡◌, ℕ, ◌+◌, ◌%◌, ◌^◌, ◌<◌, ◌==◌, Bool, true, false, cond, List, length, IsTrue, Option, Some, None, Result, Ok, Err, refl, sym, ◌∙◌, subst, arith}
use Rattle.std.specs.Option.{option_map}
use Rattle.hart_words.specs.TwosComplement.{word}
use Rattle.device_model.specs.Meanings.{Meanings, IsSound}
use Rattle.rv_encoding.specs.Fits.{can_be_spelled}
use Rattle.rv_encoding.specs.Rows.{spelled}
use Rattle.rv_encoding.specs.declared.instruction.Ins.{Ins}
use Rattle.rv_encoding.proofs.FieldsFit.{spelled-can_be_spelled}
use Rattle.rvc_encoding.specs.Rows.{spelled16}
use Rattle.rvc_encoding.specs.Expansion.{expansion}
use Rattle.rvc_encoding.specs.declared.compressed.Cins.{Cins}
use Rattle.rvc_encoding.proofs.Round.{spelled16-can_be_spelled}
use Rattle.hart_exec.specs.Access.{extended}
use Rattle.hart_exec.specs.Bounds.{IsInBounds, StaysEven, HasWord}
use Rattle.hart_exec.specs.Effect.{effect}
use Rattle.hart_exec.specs.declared.effect.Effect.{Effect}
use Rattle.hart_exec.specs.declared.effect.Effect.TheVariants.{Go, Load, Store, System}
use Rattle.hart_exec.proofs.Effects.{effect_in_bounds, effect_stays_even}
use Rattle.hart_exec.proofs.Words.{effect_has_word, extended-lt}
use Rattle.hart_memory.specs.Memory.{Memory, IsWhole}
use Rattle.hart_memory.specs.Access.{loaded}
use Rattle.hart_memory.specs.Bytes.{with_number}
use Rattle.hart_memory.specs.Place.{place}
use Rattle.hart_memory.specs.Fetch.{fetched, fetched_first, fetched_length, fetched_second, is_long, HasLength}
use Rattle.hart_memory.specs.declared.address_map.TheConstants.{BANK_LEN}
use Rattle.hart_memory.specs.declared.fetched.Fetched.{Fetched}
use Rattle.hart_memory.specs.declared.fetched.Fetched.TheVariants.{Bits, Missing}
use Rattle.hart_memory.specs.declared.place.Place.{Place}
use Rattle.hart_memory.specs.declared.place.Place.TheVariants.{InRom, InRam, Elsewhere}
use Rattle.hart_memory.proofs.FetchLemmas.{fetched-HasLength}
use Rattle.hart_memory.proofs.NumberLemmas.{length-with_number, with_number-bytes}
use Rattle.hart_memory.proofs.PlaceLemmas.{in_ram}
use Rattle.clic_trap.specs.Outcome.{SystemOutcome}
use Rattle.clic_trap.specs.System.{system}
use Rattle.clic_trap.specs.declared.system_end.SystemEnd.{SystemEnd}
use Rattle.clic_trap.specs.declared.system_end.SystemEnd.TheVariants.{Next, Jump, Raise}
use Rattle.hart_board.specs.State.{Outside, State}
use Rattle.hart_board.specs.Region.{region}
use Rattle.hart_board.specs.Outside.{loaded_in, stored_in}
use Rattle.hart_board.specs.Access.{load, load_at, load_answer, store, store_at, store_answer}
use Rattle.hart_board.specs.Attempt.{after_load, after_store, after_system, trap_value, performed_by, performed, with_encoding, attempted, attempt_of, attempt}
use Rattle.rvc_encoding.specs.Decoding.{decoded}
use Rattle.hart_board.specs.Step.{step, tried, kept_if_raised, Turn}
use Rattle.hart_board.specs.Event.{is_free, IsInput, AreEventsFrom, applied, with_events}
use Rattle.hart_board.specs.declared.what.What.{What}
use Rattle.hart_board.specs.declared.event.Event.{Event}
use Rattle.hart_board.specs.Valid.{IsBoard}
use Rattle.hart_board.specs.declared.trap.Trap.{Trap}
use Rattle.rvc_encoding.specs.declared.encoding.Encoding.{Encoding}
use Rattle.hart_report.specs.declared.stepped.Stepped.{Stepped}
use Rattle.hart_report.specs.declared.stepped.Stepped.TheVariants.{Retired, Interrupted, Raised, Halted, VectorFault}
use Rattle.hart_board.proofs.Keeping.{Does, Holds, step_holds}
use Rattle.hart_board.proofs.Outsides.{power-lt, load_valid, store_valid, applied_valid, events_valid}
use Rattle.hart_board.proofs.Privileged.{register_set, system-is, IsOutcome, EndsRight, loaded-lt, top_is_choice, entered-is, exception-is}

-- ---- what is decoded can be spelled

half-lt : (bits : ℕ) → bits % 2 ^ 16 < 2 ^ 16
half-lt bits = omega arith

short_fits : (h : ℕ) (o : Option Cins) (ins : Ins) → h < 2 ^ 16 → spelled16 h ≡ o → option_map expansion o ≡ Some ins → can_be_spelled ins ≡ true
short_fits h None ins l q e = absurd cc
short_fits h (Some c) ins l q e = let is : expansion c ≡ ins = cc in subst (λ i. can_be_spelled i ≡ true) is (spelled16-can_be_spelled h c l q)

by_length : (b : Bool) (bits : ℕ) (ins : Ins) → cond b (spelled bits) (option_map expansion (spelled16 (bits % 2 ^ 16))) ≡ Some ins → can_be_spelled ins ≡ true
by_length true bits ins e = spelled-can_be_spelled bits ins e
by_length false bits ins e = short_fits (bits % 2 ^ 16) (spelled16 (bits % 2 ^ 16)) ins (half-lt bits) refl e

pub decoded_fits : (bits length : ℕ) (ins : Ins) → decoded bits length ≡ Some ins → can_be_spelled ins ≡ true
decoded_fits bits length ins e = by_length (length == 4) bits ins e

-- ---- what is fetched

chosen_even : (b : Bool) → cond b 4 2 % 2 ≡ 0
chosen_even true = refl
chosen_even false = refl

pub length_even : (m : Memory) (pc bits length : ℕ) → fetched m pc ≡ Bits bits length → length % 2 ≡ 0
length_even m pc bits length e =
    let h : HasLength (Bits bits length) = subst (λ f. HasLength f) e (fetched-HasLength m pc) in
    subst (λ n. n % 2 ≡ 0) (sym h) (chosen_even (is_long bits))

abbrev FetchedWord : Fetched → Type 0
FetchedWord (Bits bits length) = bits < 2 ^ 32
FetchedWord (Missing at) = at < 2 ^ 32

second_word : (o : Option ℕ) (low next : ℕ) → low < 2 ^ 16 → next < 2 ^ 32 → ((high : ℕ) → o ≡ Some high → high < 2 ^ 16) → FetchedWord (fetched_second o low next)
second_word None low next l n h = n
second_word (Some high) low next l n h = omega (arith, l, h high refl)

length_word : (b : Bool) (m : Memory) (low pc : ℕ) → IsWhole m → low < 2 ^ 16 → FetchedWord (fetched_length b m low pc)
length_word false m low pc w l = omega (arith, l)
length_word true m low pc w l = second_word (loaded m (word (pc + 2)) 2) low (word (pc + 2)) l (omega arith) (λ high e. loaded-lt m (word (pc + 2)) 2 high w e)

first_word : (o : Option ℕ) (m : Memory) (pc : ℕ) → IsWhole m → pc < 2 ^ 32 → ((low : ℕ) → o ≡ Some low → low < 2 ^ 16) → FetchedWord (fetched_first o m pc)
first_word None m pc w p h = p
first_word (Some low) m pc w p h = length_word (is_long low) m low pc w (h low refl)

fetched_word : (m : Memory) (pc : ℕ) → IsWhole m → pc < 2 ^ 32 → FetchedWord (fetched m pc)
unfolding fetched
fetched_word m pc w p = first_word (loaded m pc 2) m pc w p (λ low e. loaded-lt m pc 2 low w e)

-- ---- what an exception tells is in range

pub record IsTrap (t : Trap) : Type 0 where
  pub code : t.code < 4096
  pub value : t.value < 2 ^ 32

module _ (m : Meanings) (s : State) (valid : IsBoard m s) where
  load_answer_code : (at : ℕ) (o : Option (ℕ × Outside)) (rd width : ℕ) (signed : Bool) (next : ℕ) (t : Trap) → at < 2 ^ 32 → after_load rd at width signed next (load_answer s o) ≡ Err t → IsTrap t
  load_answer_code at (Some found) rd width signed next t l e = absurd cc
  load_answer_code at None rd width signed next t l e = let is : record { code = 5; value = at } ≡ t = cc in subst (λ (x : Trap). IsTrap x) is (record { code = omega arith; value = l })

  load_code : (at : ℕ) (aligned : Bool) (p : Place) (rd width : ℕ) (signed : Bool) (next : ℕ) (t : Trap) → at < 2 ^ 32 → after_load rd at width signed next (load_at m s at width aligned p) ≡ Err t → IsTrap t
  load_code at false p rd width signed next t l e = let is : record { code = 4; value = at } ≡ t = cc in subst (λ (x : Trap). IsTrap x) is (record { code = omega arith; value = l })
  load_code at true (InRom k) rd width signed next t l e = absurd cc
  load_code at true (InRam k) rd width signed next t l e = absurd cc
  load_code at true Elsewhere rd width signed next t l e = load_answer_code at (loaded_in m s.outside width (region at)) rd width signed next t l e

  store_answer_code : (at : ℕ) (o : Option Outside) (next : ℕ) (t : Trap) → at < 2 ^ 32 → after_store at next (store_answer s o) ≡ Err t → IsTrap t
  store_answer_code at (Some outside) next t l e = absurd cc
  store_answer_code at None next t l e = let is : record { code = 7; value = at } ≡ t = cc in subst (λ (x : Trap). IsTrap x) is (record { code = omega arith; value = l })

  store_code : (at width value : ℕ) (aligned : Bool) (p : Place) (next : ℕ) (t : Trap) → at < 2 ^ 32 → after_store at next (store_at m s at width value aligned p) ≡ Err t → IsTrap t
  store_code at width value false p next t l e = let is : record { code = 6; value = at } ≡ t = cc in subst (λ (x : Trap). IsTrap x) is (record { code = omega arith; value = l })
  store_code at width value true (InRom k) next t l e = let is : record { code = 7; value = at } ≡ t = cc in subst (λ (x : Trap). IsTrap x) is (record { code = omega arith; value = l })
  store_code at width value true (InRam k) next t l e = absurd cc
  store_code at width value true Elsewhere next t l e = store_answer_code at (stored_in m s.outside width value (region at)) next t l e

  value-lt : (b : Bool) (bits : ℕ) → bits < 2 ^ 32 → cond b bits 0 < 2 ^ 32
  value-lt true bits l = l
  value-lt false bits l = omega arith

  system_code : (bits next : ℕ) (end : SystemEnd) (made : SystemOutcome) (t : Trap) → bits < 2 ^ 32 → made.answer ≡ end → IsOutcome made → after_system s bits next end made ≡ Err t → IsTrap t
  system_code bits next Next made t l a h e = absurd cc
  system_code bits next (Jump target) made t l a h e = absurd cc
  system_code bits next (Raise code) made t l a h e =
      let is : record { code = code; value = trap_value code bits } ≡ t = cc in
      subst (λ (x : Trap). IsTrap x) is (record { code = subst (λ x. EndsRight x) a h.answer; value = value-lt (code == 2) bits l })

  effect_code : (ins : Ins) (bits next : ℕ) (e : Effect) (t : Trap) → bits < 2 ^ 32 → can_be_spelled ins ≡ true → IsInBounds e → performed_by m s ins bits next e ≡ Err t → IsTrap t
  unfolding load store
  effect_code ins bits next (Go rd value target) t l f b e = absurd cc
  effect_code ins bits next (Load rd at width signed) t l f b e = load_code at (at % width == 0) (place at width) rd width signed next t b.1 e
  effect_code ins bits next (Store at width value) t l f b e = store_code at width value (at % width == 0) (place at width) next t b.0 e
  effect_code ins bits next System t l f b e = system_code bits next (system ins s.registers s.csrs s.outside.clic).answer (system ins s.registers s.csrs s.outside.clic) t l refl (system-is ins s.registers s.csrs s.outside.clic f valid.registers valid.csrs valid.outside.clic) e

  performed_code : (ins : Ins) (bits length : ℕ) (t : Trap) → bits < 2 ^ 32 → can_be_spelled ins ≡ true → performed m s ins bits length ≡ Err t → IsTrap t
  unfolding performed
  performed_code ins bits length t l f e = effect_code ins bits (word (s.pc + length)) (effect ins length s.registers s.pc) t l f (effect_in_bounds ins length s.registers s.pc f) e

  encoded_code : (enc : Encoding) (r : Result State Trap) (t : Trap) → ((u : Trap) → r ≡ Err u → IsTrap u) → with_encoding enc r ≡ Err t → IsTrap t
  encoded_code enc (Ok new) t h e = absurd cc
  encoded_code enc (Err u) t h e = let is : u ≡ t = cc in subst (λ (x : Trap). IsTrap x) is (h u refl)

  attempted_code : (bits length : ℕ) (o : Option Ins) (t : Trap) → decoded bits length ≡ o → bits < 2 ^ 32 → attempted m s bits length o ≡ Err t → IsTrap t
  attempted_code bits length None t d l e = let is : record { code = 2; value = bits } ≡ t = cc in subst (λ (x : Trap). IsTrap x) is (record { code = omega arith; value = l })
  attempted_code bits length (Some ins) t d l e = encoded_code (record { bits = bits; length = length }) (performed m s ins bits length) t (λ u q. performed_code ins bits length u l (decoded_fits bits length ins d) q) e

  fetched_code : (f : Fetched) (t : Trap) → FetchedWord f → attempt_of m s f ≡ Err t → IsTrap t
  fetched_code (Missing at) t l e = let is : record { code = 1; value = at } ≡ t = cc in subst (λ (x : Trap). IsTrap x) is (record { code = omega arith; value = l })
  fetched_code (Bits bits length) t l e = attempted_code bits length (decoded bits length) t refl l e

  pub attempt_code : (t : Trap) → attempt m s ≡ Err t → IsTrap t
  unfolding attempt
  attempt_code t e = fetched_code (fetched s.memory s.pc) t (fetched_word s.memory s.pc valid.memory valid.pc.1) e

-- ---- what an instruction makes

next_pc : (pc length : ℕ) → pc % 2 ≡ 0 → length % 2 ≡ 0 → (word (pc + length) % 2 ≡ 0) × (word (pc + length) < 2 ^ 32)
next_pc pc length p l = (omega arith, omega arith)

module _ (m : Meanings) (sound : IsSound m) (s : State) (valid : IsBoard m s) where
  module _ (ins : Ins) (length_ : ℕ) (fits : can_be_spelled ins ≡ true) (even : length_ % 2 ≡ 0) where
    bounds : (e : Effect) → effect ins length_ s.registers s.pc ≡ e → IsInBounds e
    bounds e q = subst (λ x. IsInBounds x) q (effect_in_bounds ins length_ s.registers s.pc fits)

    evens : (e : Effect) → effect ins length_ s.registers s.pc ≡ e → StaysEven e
    evens e q = subst (λ x. StaysEven x) q (effect_stays_even ins length_ s.registers s.pc fits even valid.pc.0)

    word_of : (e : Effect) → effect ins length_ s.registers s.pc ≡ e → HasWord e
    word_of e q = subst (λ x. HasWord x) q (effect_has_word ins length_ s.registers s.pc fits valid.registers.words)

    next : (word (s.pc + length_) % 2 ≡ 0) × (word (s.pc + length_) < 2 ^ 32)
    next = next_pc s.pc length_ valid.pc.0 even

    made : IsOutcome (system ins s.registers s.csrs s.outside.clic)
    made = system-is ins s.registers s.csrs s.outside.clic fits valid.registers valid.csrs valid.outside.clic

    pub does : Does (IsBoard m) m s ins length_
    does = record {
      goes = λ rd value target q. record {
        registers = register_set s.registers rd value valid.registers (word_of (Go rd value target) q);
        pc = (evens (Go rd value target) q, (bounds (Go rd value target) q).1);
        csrs = valid.csrs;
        memory = valid.memory;
        outside = valid.outside;
      };
      loads = λ rd at width signed value q l.
          let b = bounds (Load rd at width signed) q in
          let v = power-lt value width b.2 (loaded-lt s.memory at width value valid.memory l) in
          record { registers = register_set s.registers rd (extended value width signed) valid.registers (extended-lt value width signed v); pc = next; csrs = valid.csrs; memory = valid.memory; outside = valid.outside };
      loads_outside = λ rd at width signed found q l.
          let b = bounds (Load rd at width signed) q in
          let o = load_valid m sound s.outside width (region at) found b.2 valid.outside l in
          record { registers = register_set s.registers rd (extended found.0 width signed) valid.registers (extended-lt found.0 width signed o.0); pc = next; csrs = valid.csrs; memory = valid.memory; outside = o.1 };
      stores = λ at width value k q p.
          let w = valid.memory in
          let ends = (in_ram at width k p).ends in
          let len : length (with_number s.memory.ram k width value) ≡ BANK_LEN = length-with_number s.memory.ram k width value (omega (arith, ends, w.ram_len)) ∙ w.ram_len in
          record { registers = valid.registers; pc = next; csrs = valid.csrs; memory = record { rom_len = w.rom_len; ram_len = len; rom_bytes = w.rom_bytes; ram_bytes = with_number-bytes s.memory.ram k width value w.ram_bytes }; outside = valid.outside };
      stores_outside = λ at width value outside q l.
          let b = bounds (Store at width value) q in
          record { registers = valid.registers; pc = next; csrs = valid.csrs; memory = valid.memory; outside = store_valid m sound s.outside width value (region at) outside b.2 valid.outside l };
      goes_on = λ q a. record { registers = made.registers; pc = next; csrs = made.csrs; memory = valid.memory; outside = record { clic = made.clic; device = valid.outside.device; lines = valid.outside.lines } };
      jumps = λ target q a. record { registers = made.registers; pc = subst (λ x. EndsRight x) a made.answer; csrs = made.csrs; memory = valid.memory; outside = record { clic = made.clic; device = valid.outside.device; lines = valid.outside.lines } };
    }

  holds : Holds (IsBoard m) m s
  holds = record {
    now = valid;
    does = λ ins bits length f d. does ins length (decoded_fits bits length ins d) (length_even s.memory s.pc bits length f);
    raises = λ trap e.
        let t = attempt_code m s valid trap e in
        record { registers = valid.registers; pc = (omega (arith, valid.csrs.mtvec_base.0), valid.csrs.mtvec_base.1); csrs = exception-is s.csrs s.pc trap.code trap.value valid.csrs valid.pc t.code t.value; memory = valid.memory; outside = valid.outside };
    enters = λ choice target t d e.
        let n = entered-is s.csrs s.outside.clic s.memory choice s.pc target valid.memory valid.csrs valid.outside.clic (top_is_choice s.outside.clic choice valid.outside.clic t) valid.pc e in
        record { registers = valid.registers; pc = n.target; csrs = n.csrs; memory = valid.memory; outside = record { clic = n.clic; device = valid.outside.device; lines = valid.outside.lines } };
  }

  pub step_valid : IsBoard m (step m s).state
  step_valid = step_holds (IsBoard m) m s holds

  if_raised_valid : (turn : Turn) (told : Stepped) → IsBoard m turn.state → IsBoard m (kept_if_raised s turn told).state
  if_raised_valid turn (Raised pc code) h = valid
  if_raised_valid turn (Retired pc bits length) h = h
  if_raised_valid turn (Interrupted pc id) h = h
  if_raised_valid turn (Halted code) h = h
  if_raised_valid turn (VectorFault id) h = h

  pub tried_valid : IsBoard m (tried m s).state
  unfolding tried
  tried_valid = if_raised_valid (step m s) (step m s).told step_valid

module _ (m : Meanings) (sound : IsSound m) (s : State) where
  pub apply_valid : (what : What) → IsTrue (is_free s.outside.clic.shape.inputs what) → IsInput what → IsBoard m s → IsBoard m (applied m s what)
  unfolding applied
  apply_valid what f i v = record { registers = v.registers; pc = v.pc; csrs = v.csrs; memory = v.memory; outside = applied_valid m sound s.outside what f i v.outside }

  pub come_valid : (es : List Event) (count from : ℕ) → AreEventsFrom s.outside.clic.shape.inputs from es → IsBoard m s → IsBoard m (with_events m count es s)
  unfolding with_events
  come_valid es count from a v = record { registers = v.registers; pc = v.pc; csrs = v.csrs; memory = v.memory; outside = events_valid m sound es s.outside.clic.shape.inputs count from s.outside refl a v.outside }
