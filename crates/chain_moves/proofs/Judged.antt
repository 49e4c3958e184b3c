-- The tests of a body, made on the board, are the servicing machine's; and what passes them does the same in both.
use Rattle.std.proofs.Common.{◌≡◌, ℕ, ◌+◌, ◌%◌, ◌⊎◌, inl, inr, Bool, true, false, List, [], ◌∷◌, Option, Some, None, Result, Ok, Err, refl, sym, ap, ◌∙◌, subst}
use Rattle.std.specs.Prelude.{◌==◌, not}
use Rattle.std.proofs.lemmas.Bool.{false≢true, not-false}
use Rattle.hart_words.specs.TwosComplement.{word}
use Rattle.device_model.specs.Meanings.{Meanings}
use Rattle.csr_file.specs.CsrState.{CsrState}
use Rattle.rv_encoding.specs.declared.instruction.Ins.{Ins}
use Rattle.hart_exec.specs.Access.{IsWidth}
use Rattle.hart_exec.specs.Effect.{effect}
use Rattle.hart_exec.specs.declared.effect.Effect.{Effect}
use Rattle.hart_exec.specs.declared.effect.Effect.TheVariants.{Go, Load, Store, System}
use Rattle.hart_memory.specs.Bytes.{number_at, with_number}
use Rattle.hart_memory.specs.Place.{place, holds}
use Rattle.hart_memory.specs.Fetch.{fetched, is_long}
use Rattle.hart_memory.specs.declared.place.Place.{Place}
use Rattle.hart_memory.specs.declared.place.Place.TheVariants.{InRom, InRam, Elsewhere}
use Rattle.hart_memory.specs.declared.fetched.Fetched.{Fetched}
use Rattle.hart_memory.specs.declared.fetched.Fetched.TheVariants.{Bits, Missing}
use Rattle.hart_board.specs.State.{State}
use Rattle.hart_board.specs.Access.{load, load_at, store, store_at}
use Rattle.hart_board.specs.Attempt.{performed, performed_by, after_load, after_store, with_encoding, attempted, attempt_of, attempt}
use Rattle.rvc_encoding.specs.Decoding.{decoded}
use Rattle.hart_board.specs.declared.event.Event.{Event}
use Rattle.hart_board.specs.declared.trap.Trap.{Trap}
use Rattle.hart_board.specs.declared.trap.TheConstants.{FETCH_FAULT, LOAD_MISALIGNED, STORE_MISALIGNED}
use Rattle.rvc_encoding.specs.declared.encoding.Encoding.{Encoding}
use Rattle.chain_moves.specs.Slot.{in_slot}
use Rattle.chain_moves.specs.Servicing.{Servicing, marks, is_foreground}
use Rattle.chain_moves.specs.Bytes.{some_byte, is_hidden, in_live_frame, revived_at}
use Rattle.chain_moves.specs.Convention.{is_permitted}
use Rattle.chain_moves.specs.Tests.{first_broken, half_tests, first_tests, second_tests, instruction_tests, access_tests}
use Rattle.chain_moves.specs.Enter.{word_or_zero}
use Rattle.chain_moves.specs.Machine.{Before, Within, Moved, Breaks, unless_broken}
use Rattle.chain_moves.specs.Body.{hart, with_hart, is_long_at, dead_after, retired, performed_by as body_performed, decoded_by, fetched_by, body}
use Rattle.chain_moves.specs.Agreement.{Agree, Frames}
use Rattle.chain_moves.specs.Beside.{Rest, csrs_by, board_with, board_of}
use Rattle.chain_moves.specs.Related.{Stands}
use Rattle.chain_moves.specs.Watched.{watched_of}
use Rattle.chain_moves.specs.Judge.{refused_or, where_aligned, judge_effect, judge_instruction, judge_fetched, judge_body}
use Rattle.chain_moves.specs.declared.broken.Broken.{Broken}
use Rattle.chain_moves.specs.declared.broken.Broken.TheVariants.{CsrTouched, ReadsDispatch, WritesFrame, EnteredDispatch, Exception}
use Rattle.chain_moves.specs.declared.dispatcher.Dispatcher.{Dispatcher}
use Rattle.chain_moves.specs.declared.moves.Move.{Move}
use Rattle.chain_moves.specs.declared.verdict.Verdict.{Verdict}
use Rattle.chain_moves.specs.declared.verdict.Verdict.TheVariants.{Refused, Plain, Reviving}
use Rattle.chain_moves.proofs.Nested.{passed}
use Rattle.chain_moves.proofs.Memories.{loaded_same, fetched_same}
use Rattle.chain_moves.proofs.Lifted.{AreLifted, lifted}
use Rattle.chain_moves.proofs.Performs.{KeepsFields, Same, performed_by_same}
use Rattle.chain_moves.proofs.Meeting.{HasWidth, has_width, InMemory, InRamOnly, hidden_in_memory, frame_in_ram}

-- the one test of a list holds where it breaks
one_breaks : (b : Bool) (k kind : Broken) → first_broken ((b, k) ∷ []) ≡ Some kind → b ≡ true
unfolding first_broken
one_breaks true k kind e = refl
one_breaks false k kind e = absurd cc

one_passes : (b : Bool) (k : Broken) → first_broken ((b, k) ∷ []) ≡ None → b ≡ false
one_passes b k e = (passed b k [] e).0

-- the instruction raises, on the board and in a machine
module _ (K S : Type 0) (s : Servicing) where
  pub record IsRaised (ob : Result (Encoding × State) Trap) (moved : Moved K S) : Type 0 where
    pub trap : Trap
    pub board : ob ≡ Err trap
    pub breaks : moved ≡ Breaks Within (Exception trap.code) s.bodies

  -- the move by what the hart made: where no test of its access holds it is `settled`
  abbrev pub carried : (State → List Bool → Moved K S) → Effect → Result State Trap → Moved K S
  carried settled e (Err trap) = Breaks Within (Exception trap.code) s.bodies
  carried settled e (Ok new) = unless_broken Before (first_broken (access_tests (marks s.live) s.dead e)) s.bodies (settled new (dead_after s.dead e))

module _ (K S : Type 0) (s : Servicing) (x : Rest) (foreground : Bool) (fields : CsrState → CsrState) (settled : State → List Bool → Moved K S) where
  -- the instruction is carried out on both, and so many bytes are dead then
  pub record IsMade (ob : Result (Encoding × State) Trap) (moved : Moved K S) (dead : List Bool) : Type 0 where
    pub encoding : Encoding
    pub c : State
    pub ram : List ℕ
    pub board : ob ≡ Ok (encoding, board_with fields (record x { ram = ram }) c)
    pub rom : c.memory.rom ≡ s.memory.rom
    pub same : KeepsFields foreground (hart s) c
    pub agree : Agree ram c.memory.ram dead
    pub frames : Frames ram dead s.live
    pub settles : moved ≡ settled c dead

  abbrev pub Means : Result (Encoding × State) Trap → Moved K S → Verdict → Type 0
  Means ob moved (Refused k) = moved ≡ Breaks Before k s.bodies
  Means ob moved Plain = IsRaised K S s ob moved ⊎ IsMade ob moved s.dead
  Means ob moved (Reviving at width) = IsRaised K S s ob moved ⊎ IsMade ob moved (revived_at (place at width) width s.dead)

-- ---- an instruction that is permitted, on a board whose fields are some of the hart's
module _ (m : Meanings) (d : Dispatcher) (K S : Type 0) (s : Servicing) (x : Rest) (h : Stands d s x) (foreground : Bool) (fields : CsrState → CsrState) (lifts : AreLifted foreground fields) (settled : State → List Bool → Moved K S) where
  abbrev beside : State
  beside = board_with fields x (hart s)

  abbrev Raised : Result (Encoding × State) Trap → Moved K S → Type 0
  Raised ob moved = IsRaised K S s ob moved

  abbrev Made : Result (Encoding × State) Trap → Moved K S → List Bool → Type 0
  Made ob moved dead = IsMade K S s x foreground fields settled ob moved dead

  abbrev Meant : Result (Encoding × State) Trap → Moved K S → Verdict → Type 0
  Meant ob moved v = Means K S s x foreground fields settled ob moved v

  abbrev carried_out : Effect → Result State Trap → Moved K S
  carried_out e r = carried K S s settled e r

  -- ---- what the instruction does, where its access is clean
  made : (enc : Encoding) (e : Effect) (ob oh : Result State Trap) → first_broken (access_tests (marks s.live) s.dead e) ≡ None → Same m d s x h foreground fields lifts Trap (dead_after s.dead e) ob oh → Raised (with_encoding enc ob) (carried_out e oh) ⊎ Made (with_encoding enc ob) (carried_out e oh) (dead_after s.dead e)
  made enc e ob (Err trap) t q = inl (record { trap = trap; board = ap (with_encoding enc) q; breaks = refl })
  made enc e ob (Ok c) t q = inr (record {
    encoding = enc;
    c = c;
    ram = q.ram;
    board = ap (with_encoding enc) q.is;
    rom = q.rom;
    same = q.same;
    agree = q.agree;
    frames = q.frames;
    settles = ap (λ k. unless_broken Before k s.bodies (settled c (dead_after s.dead e))) t;
  })

  raised_both : (enc : Encoding) (e : Effect) (ob oh : Result State Trap) (trap : Trap) → ob ≡ Err trap → oh ≡ Err trap → Raised (with_encoding enc ob) (carried_out e oh)
  raised_both enc e ob oh trap p q = record { trap = trap; board = ap (with_encoding enc) p; breaks = ap (carried_out e) q }

  -- an access that a test refuses is one that doesn't raise
  refused : (e : Effect) (k : Broken) (oh : Result State Trap) (c : State) → oh ≡ Ok c → first_broken (access_tests (marks s.live) s.dead e) ≡ Some k → carried_out e oh ≡ Breaks Before k s.bodies
  refused e k oh c p q = ap (carried_out e) p ∙ ap (λ o. unless_broken Before o s.bodies (settled c (dead_after s.dead e))) q

  -- ---- loads
  load_misaligned : (t : State) (at width : ℕ) → (at % width == 0) ≡ false → load m t at width ≡ Err LOAD_MISALIGNED
  unfolding load
  load_misaligned t at width a = ap (λ y. load_at m t at width y (place at width)) a

  load_found : (at width : ℕ) (aligned : Bool) (p : Place) → aligned ≡ true → InMemory p → (n : ℕ) × (load_at m (hart s) at width aligned p ≡ Ok (n, hart s))
  load_found at width false p e q = absurd (false≢true e)
  load_found at width true (InRom k) e q = (number_at s.memory.rom k width, refl)
  load_found at width true (InRam k) e q = (number_at s.memory.ram k width, refl)
  load_found at width true Elsewhere e q = absurd q

  load_refused : (rd at width : ℕ) (signed : Bool) (next : ℕ) (kind : Broken) → (at % width == 0) ≡ true → InMemory (place at width) → first_broken (access_tests (marks s.live) s.dead (Load rd at width signed)) ≡ Some kind → carried_out (Load rd at width signed) (after_load rd at width signed next (load m (hart s) at width)) ≡ Breaks Before kind s.bodies
  unfolding load
  load_refused rd at width signed next kind a p q =
      let f = load_found at width (at % width == 0) (place at width) a p in
      refused (Load rd at width signed) kind _ _ (ap (after_load rd at width signed next) f.1) q

  load_means : (enc : Encoding) (ins : Ins) (bits next rd at width : ℕ) (signed : Bool) (aligned : Bool) (o : Option Broken) → IsWidth width → is_permitted foreground ins ≡ true → (at % width == 0) ≡ aligned → first_broken (access_tests (marks s.live) s.dead (Load rd at width signed)) ≡ o
      → Meant (with_encoding enc (performed_by m beside ins bits next (Load rd at width signed))) (carried_out (Load rd at width signed) (performed_by m (hart s) ins bits next (Load rd at width signed))) (refused_or (where_aligned aligned o) Plain)
  load_means enc ins bits next rd at width signed true (Some kind) w p a q = load_refused rd at width signed next kind a (hidden_in_memory s.dead at width h.ram.marks w a (one_breaks (some_byte (is_hidden s.dead) at width) ReadsDispatch kind q)) q
  load_means enc ins bits next rd at width signed true None w p a q =
      made enc (Load rd at width signed) (performed_by m beside ins bits next (Load rd at width signed)) (performed_by m (hart s) ins bits next (Load rd at width signed)) q
      (performed_by_same m d s x h foreground fields lifts ins bits next (Load rd at width signed) p (one_passes (some_byte (is_hidden s.dead) at width) ReadsDispatch q))
  load_means enc ins bits next rd at width signed false o w p a q =
      inl (raised_both enc (Load rd at width signed) (performed_by m beside ins bits next (Load rd at width signed)) (performed_by m (hart s) ins bits next (Load rd at width signed)) (record { code = LOAD_MISALIGNED; value = at })
      (ap (after_load rd at width signed next) (load_misaligned beside at width a)) (ap (after_load rd at width signed next) (load_misaligned (hart s) at width a)))

  -- ---- stores
  store_misaligned : (t : State) (at width value : ℕ) → (at % width == 0) ≡ false → store m t at width value ≡ Err STORE_MISALIGNED
  unfolding store
  store_misaligned t at width value a = ap (λ y. store_at m t at width value y (place at width)) a

  store_found : (at width value : ℕ) (aligned : Bool) (p : Place) → aligned ≡ true → InRamOnly p → (c : State) × (store_at m (hart s) at width value aligned p ≡ Ok c)
  store_found at width value false p e q = absurd (false≢true e)
  store_found at width value true (InRom k) e q = absurd q
  store_found at width value true (InRam k) e q = (record (hart s) { memory = record s.memory { ram = with_number s.memory.ram k width value } }, refl)
  store_found at width value true Elsewhere e q = absurd q

  store_refused : (at width value next : ℕ) (kind : Broken) → (at % width == 0) ≡ true → InRamOnly (place at width) → first_broken (access_tests (marks s.live) s.dead (Store at width value)) ≡ Some kind → carried_out (Store at width value) (after_store at next (store m (hart s) at width value)) ≡ Breaks Before kind s.bodies
  unfolding store
  store_refused at width value next kind a p q =
      let f = store_found at width value (at % width == 0) (place at width) a p in
      refused (Store at width value) kind _ _ (ap (after_store at next) f.1) q

  store_means : (enc : Encoding) (ins : Ins) (bits next at width value : ℕ) (aligned : Bool) (o : Option Broken) → IsWidth width → is_permitted foreground ins ≡ true → (at % width == 0) ≡ aligned → first_broken (access_tests (marks s.live) s.dead (Store at width value)) ≡ o
      → Meant (with_encoding enc (performed_by m beside ins bits next (Store at width value))) (carried_out (Store at width value) (performed_by m (hart s) ins bits next (Store at width value))) (refused_or (where_aligned aligned o) (Reviving at width))
  store_means enc ins bits next at width value true (Some kind) w p a q = store_refused at width value next kind a (frame_in_ram s.live x.ram s.dead at width h.frames w a (one_breaks (some_byte (in_live_frame (marks s.live)) at width) WritesFrame kind q)) q
  store_means enc ins bits next at width value true None w p a q =
      made enc (Store at width value) (performed_by m beside ins bits next (Store at width value)) (performed_by m (hart s) ins bits next (Store at width value)) q
      (performed_by_same m d s x h foreground fields lifts ins bits next (Store at width value) p (one_passes (some_byte (in_live_frame (marks s.live)) at width) WritesFrame q))
  store_means enc ins bits next at width value false o w p a q =
      inl (raised_both enc (Store at width value) (performed_by m beside ins bits next (Store at width value)) (performed_by m (hart s) ins bits next (Store at width value)) (record { code = STORE_MISALIGNED; value = at })
      (ap (after_store at next) (store_misaligned beside at width value a)) (ap (after_store at next) (store_misaligned (hart s) at width value a)))

  -- ---- by the effect
  no_tests : first_broken [] ≡ None
  unfolding first_broken
  no_tests = refl

  effect_means : (enc : Encoding) (ins : Ins) (bits next : ℕ) (e : Effect) → HasWidth e → is_permitted foreground ins ≡ true → Meant (with_encoding enc (performed_by m beside ins bits next e)) (carried_out e (performed_by m (hart s) ins bits next e)) (judge_effect (watched_of s) e)
  effect_means enc ins bits next (Go rd value target) w p = made enc (Go rd value target) (performed_by m beside ins bits next (Go rd value target)) (performed_by m (hart s) ins bits next (Go rd value target)) no_tests (performed_by_same m d s x h foreground fields lifts ins bits next (Go rd value target) p tt)
  effect_means enc ins bits next (Load rd at width signed) w p = load_means enc ins bits next rd at width signed (at % width == 0) (first_broken (access_tests (marks s.live) s.dead (Load rd at width signed))) w p refl refl
  effect_means enc ins bits next (Store at width value) w p = store_means enc ins bits next at width value (at % width == 0) (first_broken (access_tests (marks s.live) s.dead (Store at width value))) w p refl refl
  effect_means enc ins bits next System w p = made enc System (performed_by m beside ins bits next System) (performed_by m (hart s) ins bits next System) no_tests (performed_by_same m d s x h foreground fields lifts ins bits next System p tt)

  -- ---- the instruction
  abbrev encoded : ℕ → ℕ → Encoding
  encoded bits length = record { bits = bits; length = length }

  pub performed_means : (bits length : ℕ) (ins : Ins) → is_permitted foreground ins ≡ true → Meant (with_encoding (encoded bits length) (performed m beside ins bits length)) (carried_out (effect ins length s.registers s.pc) (performed m (hart s) ins bits length)) (judge_effect (watched_of s) (effect ins length s.registers s.pc))
  unfolding performed
  performed_means bits length ins p = effect_means (encoded bits length) ins bits (word (s.pc + length)) (effect ins length s.registers s.pc) (has_width ins length s.registers s.pc) p

-- ---- the fetch, on a board with such a memory
module _ (d : Dispatcher) (s : Servicing) (x : Rest) (h : Stands d s x) where
  -- a half-word of which no byte is hidden
  pub half_passes : (at : ℕ) → first_broken (half_tests s.dead at) ≡ None → some_byte (is_hidden s.dead) at 2 ≡ false
  half_passes at e = one_passes (some_byte (is_hidden s.dead) at 2) ReadsDispatch (passed (not (holds at 2)) (Exception FETCH_FAULT) _ e).1

  second_passes : (long : Bool) → first_broken (second_tests long s.dead s.pc) ≡ None → long ≡ true → some_byte (is_hidden s.dead) (word (s.pc + 2)) 2 ≡ false
  second_passes true e t = half_passes (word (s.pc + 2)) e
  second_passes false e t = absurd (false≢true t)

  pub same_fetch : some_byte (is_hidden s.dead) s.pc 2 ≡ false → first_broken (second_tests (is_long_at s.memory s.pc) s.dead s.pc) ≡ None → fetched (record { rom = x.rom; ram = x.ram }) s.pc ≡ fetched s.memory s.pc
  same_fetch q e = fetched_same x.rom s.memory.rom x.ram s.memory.ram s.dead h.rom h.ram s.pc q (second_passes (is_long_at s.memory s.pc) e)

  pub same_length : some_byte (is_hidden s.dead) s.pc 2 ≡ false → is_long_at (record { rom = x.rom; ram = x.ram }) s.pc ≡ is_long_at s.memory s.pc
  same_length q = ap (λ o. is_long (word_or_zero o)) (loaded_same x.rom s.memory.rom x.ram s.memory.ram s.dead h.rom h.ram s.pc 2 q)

-- ---- the servicing machine's own

-- the body retired, and so many bytes are dead then
abbrev pub settled_body : Meanings → List Event → Servicing → State → List Bool → Moved Move Servicing
settled_body m es s c dead = retired m es (with_hart s c dead)

module _ (m : Meanings) (es : List Event) (d : Dispatcher) (s : Servicing) (x : Rest) (h : Stands d s x) where
  abbrev b : State
  b = board_of s x

  abbrev BodyMeans : Result (Encoding × State) Trap → Moved Move Servicing → Verdict → Type 0
  BodyMeans ob moved v = Means Move Servicing s x (is_foreground (marks s.live)) (csrs_by (marks s.live) x) (settled_body m es s) ob moved v

  performed_same : (e : Effect) (r : Result State Trap) → carried Move Servicing s (settled_body m es s) e r ≡ body_performed m es s e r
  performed_same e (Err trap) = refl
  performed_same e (Ok new) = refl

  permitted_means : (bits length : ℕ) (ins : Ins) (o : Option Broken) → first_broken (instruction_tests (marks s.live) ins) ≡ o
      → BodyMeans (attempted m b bits length (Some ins)) (unless_broken Before o s.bodies (body_performed m es s (effect ins length s.registers s.pc) (performed m (hart s) ins bits length)))
      (refused_or o (judge_effect (watched_of s) (effect ins length s.registers s.pc)))
  permitted_means bits length ins (Some kind) e = refl
  permitted_means bits length ins None e =
      let does = effect ins length s.registers s.pc in
      subst (λ moved. BodyMeans (attempted m b bits length (Some ins)) moved (judge_effect (watched_of s) does)) (performed_same does (performed m (hart s) ins bits length))
      (performed_means m d Move Servicing s x h (is_foreground (marks s.live)) (csrs_by (marks s.live) x) (lifted x (marks s.live)) (settled_body m es s) bits length ins
      (not-false (is_permitted (is_foreground (marks s.live)) ins) (one_passes (not (is_permitted (is_foreground (marks s.live)) ins)) CsrTouched e)))

  instruction_means : (bits length : ℕ) (o : Option Ins) → BodyMeans (attempted m b bits length o) (decoded_by m es s bits length o) (judge_instruction b (watched_of s) length o)
  instruction_means bits length None = refl
  instruction_means bits length (Some ins) = permitted_means bits length ins (first_broken (instruction_tests (marks s.live) ins)) refl

  -- ---- the fetch
  fetched_means : (f : Fetched) → BodyMeans (attempt_of m b f) (fetched_by m es s f) (judge_fetched b (watched_of s) f)
  fetched_means (Missing at) = refl
  fetched_means (Bits bits length) = instruction_means bits length (decoded bits length)

  second_means : (o : Option Broken) → first_broken (second_tests (is_long_at s.memory s.pc) s.dead s.pc) ≡ o → some_byte (is_hidden s.dead) s.pc 2 ≡ false
      → BodyMeans (attempt m b) (unless_broken Before o s.bodies (fetched_by m es s (fetched s.memory s.pc))) (refused_or o (judge_fetched b (watched_of s) (fetched b.memory s.pc)))
  unfolding attempt
  second_means (Some k) e q = refl
  second_means None e q = subst (λ f. BodyMeans (attempt_of m b f) (fetched_by m es s (fetched s.memory s.pc)) (judge_fetched b (watched_of s) f)) (sym (same_fetch d s x h q e)) (fetched_means (fetched s.memory s.pc))

  first_means : (o : Option Broken) → first_broken (first_tests s.dead s.pc) ≡ o
      → BodyMeans (attempt m b) (unless_broken Before o s.bodies (unless_broken Before (first_broken (second_tests (is_long_at s.memory s.pc) s.dead s.pc)) s.bodies (fetched_by m es s (fetched s.memory s.pc))))
      (refused_or o (refused_or (first_broken (second_tests (is_long_at b.memory s.pc) s.dead s.pc)) (judge_fetched b (watched_of s) (fetched b.memory s.pc))))
  first_means (Some k) e = refl
  first_means None e =
      let q = half_passes d s x h s.pc (passed (in_slot s.pc) EnteredDispatch _ e).1 in
      subst (λ long. BodyMeans (attempt m b) (unless_broken Before (first_broken (second_tests (is_long_at s.memory s.pc) s.dead s.pc)) s.bodies (fetched_by m es s (fetched s.memory s.pc))) (refused_or (first_broken (second_tests long s.dead s.pc)) (judge_fetched b (watched_of s) (fetched b.memory s.pc)))) (sym (same_length d s x h q))
      (second_means (first_broken (second_tests (is_long_at s.memory s.pc) s.dead s.pc)) refl q)

  -- the body is refused, or raises, or is carried out, on the board as in the servicing machine
  pub body_means : BodyMeans (attempt m b) (body m es s) (judge_body b (watched_of s))
  unfolding body judge_body
  body_means = first_means (first_broken (first_tests s.dead s.pc)) refl
