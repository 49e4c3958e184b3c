-- Along a run the hart stays one that a board can have, so that levels are below 256.
use Rattle.std.proofs.Common.{◌≡◌, ℕ, zero, suc, ◌+◌, ◌%◌, ◌^◌, ◌<◌, ◌≤◌, Bool, true, List, [], ◌∷◌, length, Option, Some, None, Result, Ok, Err, refl, sym, ap, ◌∙◌, subst, arith}
use Rattle.std.specs.Prelude.{◌-◌, ◌++◌, take, drop, replicate}
use Rattle.std.proofs.lemmas.List.{length-append, length-drop, length-take, length-replicate}
use Rattle.std.proofs.lemmas.Bool.{not-false}
use Rattle.device_model.specs.Meanings.{Meanings, IsSound as IsSoundDevice}
use Rattle.hart_words.specs.TwosComplement.{word}
use Rattle.hart_words.specs.Registers.{AreRegisters, register}
use Rattle.rv_encoding.specs.declared.instruction.Ins.{Ins}
use Rattle.hart_exec.specs.Effect.{effect, even}
use Rattle.hart_memory.specs.Memory.{Memory, IsWhole, AreBytes, zeros}
use Rattle.hart_memory.specs.declared.address_map.TheConstants.{BANK_LEN}
use Rattle.hart_memory.specs.Place.{place}
use Rattle.hart_memory.specs.Access.{loaded_by}
use Rattle.hart_memory.specs.Fetch.{fetched}
use Rattle.hart_memory.specs.declared.place.Place.{Place}
use Rattle.hart_memory.specs.declared.place.Place.TheVariants.{InRom, InRam, Elsewhere}
use Rattle.hart_memory.specs.declared.fetched.Fetched.{Fetched}
use Rattle.hart_memory.specs.declared.fetched.Fetched.TheVariants.{Bits, Missing}
use Rattle.hart_memory.proofs.NumberLemmas.{number_at-lt}
use Rattle.clic_regs.proofs.Kept.{claimed-kept, claimed-shape}
use Rattle.clic_select.specs.Top.{top}
use Rattle.clic_select.specs.declared.choice.Choice.{Choice}
use Rattle.hart_board.specs.State.{State}
use Rattle.hart_board.specs.Valid.{IsBoard}
use Rattle.hart_board.specs.Region.{region}
use Rattle.hart_board.specs.Attempt.{performed}
use Rattle.rvc_encoding.specs.Decoding.{decoded}
use Rattle.hart_board.specs.Event.{AreEventsFrom, with_events}
use Rattle.hart_board.specs.declared.event.Event.{Event}
use Rattle.hart_board.specs.declared.trap.Trap.{Trap}
use Rattle.hart_board.proofs.Keeping.{Does, Of, performed_holds}
use Rattle.hart_board.proofs.Outsides.{load_shape, store_shape, events_shape}
use Rattle.hart_board.proofs.Privileged.{register_set, top_is_choice}
use Rattle.hart_board.proofs.Validity.{does, decoded_fits, length_even, come_valid}
use Rattle.chain_moves.specs.Slot.{base, slot_end, back}
use Rattle.chain_moves.specs.Start.{with_slot, begun_with, begun}
use Rattle.chain_moves.specs.Servicing.{Live, Servicing, marks, innermost_level, is_foreground}
use Rattle.chain_moves.specs.Convention.{is_permitted}
use Rattle.chain_moves.specs.Tests.{first_broken, first_tests, second_tests, instruction_tests, access_tests, return_tests}
use Rattle.chain_moves.specs.Machine.{Before, After, Makes, unless_broken}
use Rattle.chain_moves.specs.Enter.{new_frame, table_address, table_word, word_or_zero, scratch_after, enter_registers, entered}
use Rattle.chain_moves.specs.Leave.{leave_registers, raised_pointer, left}
use Rattle.chain_moves.specs.Body.{hart, with_hart, dead_after, is_long_at, retired, performed_by, decoded_by, fetched_by, body}
use Rattle.chain_moves.specs.Run.{Made, On, run_to}
use Rattle.chain_moves.specs.Moves.{servicing_machine}
use Rattle.chain_moves.specs.Kinds.{IsMoveBy}
use Rattle.chain_moves.specs.Ranges.{IsSuspended, AreSuspended, IsInRange}
use Rattle.chain_moves.specs.declared.broken.Broken.TheVariants.{CsrTouched}
use Rattle.chain_moves.specs.declared.mark.Mark.{Mark}
use Rattle.chain_moves.specs.declared.moves.Move.{Move}
use Rattle.chain_moves.specs.declared.moves.Move.TheVariants.{Enter, Leave, Body}
use Rattle.chain_moves.proofs.OneOfThree.{WhereMade, unless, at_made, is_one}
use Rattle.chain_moves.proofs.Leading.{run_is_list, along}
use Rattle.chain_moves.proofs.Nested.{passed, run_nests, depth_below}
use Rattle.chain_moves.proofs.Permitted.{permitted_leaves_controller}

pub word-lt : (n : ℕ) → word n < 2 ^ 32
word-lt n = omega arith

pub even-is : (n : ℕ) → n < 2 ^ 32 → (even n % 2 ≡ 0) × (even n < 2 ^ 32)
even-is n l = (omega arith, omega arith)

scratch_small : (live : List Mark) (sp scratch : ℕ) → sp < 2 ^ 32 → scratch < 2 ^ 32 → scratch_after live sp scratch < 2 ^ 32
scratch_small [] sp scratch l k = l
scratch_small (v ∷ vs) sp scratch l k = k

found_small : (m : Memory) (p : Place) → IsWhole m → word_or_zero (loaded_by p m 4) < 2 ^ 32
found_small m (InRom k) w = number_at-lt m.rom k 4 w.rom_bytes
found_small m (InRam k) w = number_at-lt m.ram k 4 w.ram_bytes
found_small m Elsewhere w = omega arith

pub table_small : (m : Memory) (at : ℕ) → IsWhole m → table_word m at < 2 ^ 32
unfolding table_word
table_small m at w = found_small m (place at 4) w

pub enter_are : (registers : List ℕ) (frame at target : ℕ) → AreRegisters registers → frame < 2 ^ 32 → at < 2 ^ 32 → target < 2 ^ 32 → AreRegisters (enter_registers registers frame at target)
unfolding enter_registers
enter_are registers frame at target h f a t = register_set _ 1 back (register_set _ 11 target (register_set _ 10 at (register_set registers 2 frame h f) a) t) (omega arith)

leave_are : (registers : List ℕ) (v : Live) (sp : ℕ) → AreRegisters registers → IsSuspended v → sp < 2 ^ 32 → AreRegisters (leave_registers registers v sp)
unfolding leave_registers
leave_are registers v sp h l s = register_set _ 2 sp (register_set _ 11 v.a1 (register_set _ 10 v.a0 (register_set registers 1 v.ra h l.ra) l.a0) l.a1) s

pub events_inputs : (m : Meanings) (es : List Event) (t : State) (count : ℕ) → (with_events m count es t).outside.clic.shape.inputs ≡ t.outside.clic.shape.inputs
unfolding with_events
events_inputs m es t count = ap (λ x. x.inputs) (events_shape m count es t.outside)

-- ---- an instruction that is permitted keeps the number of inputs
module _ (m : Meanings) (sound : IsSoundDevice m) (n : ℕ) where
  abbrev pub Keeps : State → Type 0
  Keeps t = IsBoard m t × (t.outside.clic.shape.inputs ≡ n)

  pub keeps_does : (t : State) (ins : Ins) (bits length : ℕ) (foreground : Bool) → Keeps t → fetched t.memory t.pc ≡ Bits bits length → decoded bits length ≡ Some ins → is_permitted foreground ins ≡ true → Does Keeps m t ins length
  keeps_does t ins bits length foreground h f d may =
      let x = does m sound t h.0 ins length (decoded_fits bits length ins d) (length_even t.memory t.pc bits length f) in
      let left = permitted_leaves_controller foreground ins t.registers t.csrs t.outside.clic may in
      record {
        goes = λ rd value target q. (x.goes rd value target q, h.1);
        loads = λ rd at width signed value q l. (x.loads rd at width signed value q l, h.1);
        loads_outside = λ rd at width signed found q l. (x.loads_outside rd at width signed found q l, ap (λ y. y.inputs) (load_shape m t.outside width (region at) found l) ∙ h.1);
        stores = λ at width value k q p. (x.stores at width value k q p, h.1);
        stores_outside = λ at width value outside q l. (x.stores_outside at width value outside q l, ap (λ y. y.inputs) (store_shape m t.outside width value (region at) outside l) ∙ h.1);
        goes_on = λ q a. (x.goes_on q a, ap (λ c. c.shape.inputs) left ∙ h.1);
        jumps = λ target q a. (x.jumps target q a, ap (λ c. c.shape.inputs) left ∙ h.1);
      }

module _ (m : Meanings) (es : List Event) (sound : IsSoundDevice m) (n from : ℕ) (events : AreEventsFrom n from es) where
  abbrev pub InRange : Move → Servicing → Type 0
  InRange kind t = IsInRange m t × (t.outside.clic.shape.inputs ≡ n)

  -- ---- Enter
  pub entered_range : (s : Servicing) (t : Choice) → top s.outside.clic ≡ Some t → InRange Enter s → InRange Enter (entered s t)
  unfolding entered
  entered_range s t e (h, same) =
      let at = table_address s.table t.id in
      let target = table_word s.memory at in
      let small = table_small s.memory at h.board.memory in
      let b = h.board in
      let words = b.registers.words in (
        record {
          board = record {
            registers = enter_are s.registers (new_frame s) at target b.registers (word-lt _) (word-lt _) small;
            pc = even-is target small;
            csrs = record { mtvec_base = b.csrs.mtvec_base; mtvt = b.csrs.mtvt; mscratch = scratch_small (marks s.live) (register s.registers 2) s.scratch (words 2) b.csrs.mscratch; mepc = b.csrs.mepc; mpil = b.csrs.mpil; exccode = b.csrs.exccode; mtval = b.csrs.mtval; mil = b.csrs.mil; th = b.csrs.th };
            memory = b.memory;
            outside = record { clic = claimed-kept s.outside.clic t.id b.outside.clic; device = b.outside.device; lines = b.outside.lines };
          };
          live = (record { pc = b.pc; ra = words 1; a0 = words 10; a1 = words 11; level = (top_is_choice s.outside.clic t b.outside.clic e).level }, h.live);
        },
        ap (λ y. y.inputs) (claimed-shape s.outside.clic t.id) ∙ same,
      )

  -- ---- Leave
  left_board : (s : Servicing) (v : Live) (sp scratch : ℕ) (live : List Live) → IsBoard m (hart s) → IsSuspended v → sp < 2 ^ 32 → scratch < 2 ^ 32 → IsBoard m (hart (record s { registers = leave_registers s.registers v sp; pc = v.pc; scratch = scratch; live = live }))
  left_board s v sp scratch live b l small c = record {
    registers = leave_are s.registers v sp b.registers l small;
    pc = l.pc;
    csrs = record { mtvec_base = b.csrs.mtvec_base; mtvt = b.csrs.mtvt; mscratch = c; mepc = b.csrs.mepc; mpil = b.csrs.mpil; exccode = b.csrs.exccode; mtval = b.csrs.mtval; mil = b.csrs.mil; th = b.csrs.th };
    memory = b.memory;
    outside = b.outside;
  }

  pub left_range : (s : Servicing) (v : Live) (vs : List Live) → s.live ≡ v ∷ vs → InRange Leave s → InRange Leave (left s v vs)
  unfolding left
  left_range s v [] e (h, same) =
      let l = subst AreSuspended e h.live in
      (record { board = left_board s v s.scratch (raised_pointer s.registers) [] h.board l.0 h.board.csrs.mscratch (word-lt _); live = tt }, same)
  left_range s v (w ∷ ws) e (h, same) =
      let l = subst AreSuspended e h.live in
      (record { board = left_board s v (raised_pointer s.registers) s.scratch (w ∷ ws) h.board l.0 (word-lt _) h.board.csrs.mscratch; live = l.1 }, same)

  -- ---- Body
  pub after_range : (s t : Servicing) (new : State) → IsInRange m s → Keeps m sound n new → t ≡ with_hart s new t.dead → InRange Body (record t { outside = (with_events m t.bodies es (hart t)).outside })
  after_range s t new h k e =
      let b = k.0 in
      subst (λ (u : Servicing). InRange Body (record u { outside = (with_events m u.bodies es (hart u)).outside })) (sym e)
      (let u = with_hart s new t.dead in
      let valid : IsBoard m (hart u) = record {
        registers = b.registers;
        pc = b.pc;
        csrs = record { mtvec_base = b.csrs.mtvec_base; mtvt = b.csrs.mtvt; mscratch = b.csrs.mscratch; mepc = h.board.csrs.mepc; mpil = h.board.csrs.mpil; exccode = h.board.csrs.exccode; mtval = h.board.csrs.mtval; mil = h.board.csrs.mil; th = b.csrs.th };
        memory = b.memory;
        outside = b.outside;
      } in
      let come = come_valid m sound (hart u) es u.bodies from (subst (λ i. AreEventsFrom i from es) (sym k.1) events) valid in
      (record { board = record { registers = valid.registers; pc = valid.pc; csrs = valid.csrs; memory = valid.memory; outside = come.outside }; live = h.live }, events_inputs m es (hart u) u.bodies ∙ k.1))

  performed_range : (s : Servicing) (ins : Ins) (bits length : ℕ) (r : Result State Trap) → InRange Body s → Of (Keeps m sound n) r → WhereMade InRange (performed_by m es s (effect ins length s.registers s.pc) r)
  performed_range s ins bits length (Err trap) h k = tt
  performed_range s ins bits length (Ok new) h k =
      let t = with_hart s new (dead_after s.dead (effect ins length s.registers s.pc)) in
      unless InRange Before (first_broken (access_tests (marks s.live) s.dead (effect ins length s.registers s.pc))) s.bodies (retired m es t)
      (λ none. unless InRange After (first_broken (return_tests (marks s.live) new.pc new.registers)) (s.bodies + 1) (Makes Body (record t { outside = (with_events m t.bodies es (hart t)).outside }))
      (λ kept. after_range s t new h.0 k refl))

  decoded_range : (s : Servicing) (bits length : ℕ) (o : Option Ins) → InRange Body s → fetched s.memory s.pc ≡ Bits bits length → decoded bits length ≡ o → WhereMade InRange (decoded_by m es s bits length o)
  decoded_range s bits length None h f d = tt
  decoded_range s bits length (Some ins) h f d =
      unless InRange Before (first_broken (instruction_tests (marks s.live) ins)) s.bodies (performed_by m es s (effect ins length s.registers s.pc) (performed m (hart s) ins bits length))
      (λ none.
      let may = not-false (is_permitted (is_foreground (marks s.live)) ins) (passed _ CsrTouched [] none).0 in
      performed_range s ins bits length (performed m (hart s) ins bits length) h
      (performed_holds (Keeps m sound n) m (hart s) ins bits length (keeps_does m sound n (hart s) ins bits length (is_foreground (marks s.live)) (h.0.board, h.1) f d may)))

  fetched_range : (s : Servicing) (f : Fetched) → InRange Body s → fetched s.memory s.pc ≡ f → WhereMade InRange (fetched_by m es s f)
  fetched_range s (Missing at) h e = tt
  fetched_range s (Bits bits length) h e = decoded_range s bits length (decoded bits length) h e refl

  pub body_range : (s : Servicing) → InRange Body s → WhereMade InRange (body m es s)
  unfolding body
  body_range s h =
      unless InRange Before (first_broken (first_tests s.dead s.pc)) s.bodies
      (unless_broken Before (first_broken (second_tests (is_long_at s.memory s.pc) s.dead s.pc)) s.bodies (fetched_by m es s (fetched s.memory s.pc)))
      (λ none. unless InRange Before (first_broken (second_tests (is_long_at s.memory s.pc) s.dead s.pc)) s.bodies (fetched_by m es s (fetched s.memory s.pc))
      (λ also. fetched_range s (fetched s.memory s.pc) h refl))

  -- ---- each move, and a run
  move_range : (s : Servicing) (kind : Move) (t : Servicing) → IsMoveBy m es s kind t → InRange kind s → InRange kind t
  move_range s Enter t is h = subst (λ u. InRange Enter u) (sym is.made) (entered_range s is.choice is.is_top h)
  move_range s Leave t is h = subst (λ u. InRange Leave u) (sym is.made) (left_range s is.innermost is.others is.is_live h)
  move_range s Body t is h = at_made InRange (body m es s) (body_range s h) Body t is.made

  pub run_range : (s t : Servicing) (k : ℕ) (made : List (Made Move)) → s.outside.clic.shape.inputs ≡ n → IsInRange m s → run_to (servicing_machine m es) s k ≡ On made t → IsInRange m t
  run_range s t k made same h e =
      (along (servicing_machine m es) s (InRange Body) (λ u w kind moves p. move_range u kind w (is_one m es u kind w moves).1 p) made t (run_is_list (servicing_machine m es) s k made t e) (h, same)).0

pub innermost_small : (live : List Live) → AreSuspended live → innermost_level (marks live) < 256
unfolding marks
innermost_small [] l = omega arith
innermost_small (v ∷ vs) l = l.0.level

pub depth_small : (m : Meanings) (es : List Event) → IsSoundDevice m → (s t : Servicing) (from n : ℕ) (made : List (Made Move)) → AreEventsFrom s.outside.clic.shape.inputs from es → IsInRange m s → s.live ≡ [] → run_to (servicing_machine m es) s n ≡ On made t → length t.live ≤ 255
depth_small m es sound s t from n made events h none e =
    let deep = depth_below t.live (run_nests m es s t n made none e).0 in
    let small = innermost_small t.live (run_range m es sound s.outside.clic.shape.inputs from events s t n made refl h e).live in
    omega (arith, deep, small)

-- ---- the start
bytes_append : (xs ys : List ℕ) → AreBytes xs → AreBytes ys → AreBytes (xs ++ ys)
bytes_append [] ys h k j = k j
bytes_append (x ∷ xs) ys h k zero = h 0
bytes_append (x ∷ xs) ys h k (suc j) = bytes_append xs ys (λ i. h (suc i)) k j

bytes_take : (n : ℕ) (xs : List ℕ) → AreBytes xs → AreBytes (take n xs)
bytes_take zero xs h j = omega arith
bytes_take (suc n) [] h j = h j
bytes_take (suc n) (x ∷ xs) h zero = h 0
bytes_take (suc n) (x ∷ xs) h (suc j) = bytes_take n xs (λ i. h (suc i)) j

bytes_drop : (n : ℕ) (xs : List ℕ) → AreBytes xs → AreBytes (drop n xs)
bytes_drop zero xs h = h
bytes_drop (suc n) [] h = h
bytes_drop (suc n) (x ∷ xs) h = bytes_drop n xs (λ i. h (suc i))

zero_bytes : (n : ℕ) → AreBytes (replicate n 0)
zero_bytes zero k = omega arith
zero_bytes (suc n) zero = omega arith
zero_bytes (suc n) (suc k) = zero_bytes n k

zeros_bytes : (n : ℕ) → AreBytes (zeros n)
unfolding zeros
zeros_bytes n = zero_bytes n

pub length-zeros : (n : ℕ) → length (zeros n) ≡ n
unfolding zeros
length-zeros n = length-replicate n 0

pub slot_len : (rom bytes : List ℕ) → length rom ≡ BANK_LEN → length bytes ≡ slot_end - base → length (with_slot bytes rom) ≡ BANK_LEN
unfolding with_slot
slot_len rom bytes l n =
    let front : length (take base rom) ≡ base = omega (arith, length-take base rom) in
    let back : length (drop slot_end rom) ≡ BANK_LEN - slot_end = omega (arith, length-drop slot_end rom) in
    length-append (take base rom) (bytes ++ drop slot_end rom) ∙ omega (arith, front, back, length-append bytes (drop slot_end rom))

pub slot_bytes_small : (rom bytes : List ℕ) → AreBytes rom → AreBytes bytes → AreBytes (with_slot bytes rom)
unfolding with_slot
slot_bytes_small rom bytes r b = bytes_append (take base rom) (bytes ++ drop slot_end rom) (bytes_take base rom r) (bytes_append bytes (drop slot_end rom) b (bytes_drop slot_end rom r))

with_range : (m : Meanings) (b : State) → IsBoard m b → IsInRange m (begun_with b)
with_range m b h = let w = h.memory in record {
  board = record {
    registers = h.registers;
    pc = h.pc;
    csrs = record { mtvec_base = h.csrs.mtvec_base; mtvt = h.csrs.mtvt; mscratch = h.csrs.mscratch; mepc = (refl, omega arith); mpil = omega arith; exccode = omega arith; mtval = omega arith; mil = omega arith; th = h.csrs.th };
    memory = record {
      rom_len = slot_len b.memory.rom (zeros (slot_end - base)) w.rom_len (length-zeros (slot_end - base));
      ram_len = w.ram_len;
      rom_bytes = slot_bytes_small b.memory.rom (zeros (slot_end - base)) w.rom_bytes (zeros_bytes (slot_end - base));
      ram_bytes = w.ram_bytes;
    };
    outside = h.outside;
  };
  live = tt;
}

pub start_range : (m : Meanings) (es : List Event) → IsSoundDevice m → (b : State) (from : ℕ) → AreEventsFrom b.outside.clic.shape.inputs from es → IsBoard m b → IsInRange m (begun m es b)
unfolding begun
start_range m es sound b from events h = with_range m (with_events m 0 es b) (come_valid m sound b es 0 from events h)
