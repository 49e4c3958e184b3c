-- After an Enter the board stands beside the servicing machine again, once the frame is made.
use Rattle.std.proofs.Common.{◌≡◌, ℕ, zero, suc, ◌+◌, ◌-◌, ◌*◌, ◌%◌, ◌^◌, ◌<◌, ◌≤◌, Bool, true, false, List, [], ◌∷◌, Some, None, refl, sym, ap, ◌∙◌, subst, arith}
use Rattle.std.specs.Prelude.{◌==◌, ◌||◌, nat_le}
use Rattle.std.proofs.lemmas.Bool.{and_parts, and_from, eqb-true, eq-eqb, leb-true, not-false}
use Rattle.device_model.specs.Meanings.{Meanings, IsSound as IsSoundDevice}
use Rattle.hart_words.specs.Bits.{bits}
use Rattle.hart_words.specs.TwosComplement.{word}
use Rattle.hart_words.specs.Registers.{register, AreRegisters}
use Rattle.hart_exec.specs.Effect.{even}
use Rattle.csr_file.specs.Views.{is_set}
use Rattle.hart_memory.specs.Memory.{AreBytes}
use Rattle.hart_memory.specs.Place.{holds}
use Rattle.hart_memory.specs.declared.address_map.TheConstants.{RAM_BASE, BANK_LEN}
use Rattle.clic_regs.proofs.Kept.{claimed-shape}
use Rattle.clic_select.specs.Top.{top}
use Rattle.clic_select.specs.declared.choice.Choice.{Choice}
use Rattle.clic_trap.specs.Due.{has_top_above}
use Rattle.chain_moves.specs.Slot.{base, frame_size}
use Rattle.chain_moves.specs.Servicing.{Live, Servicing, marks, innermost_level}
use Rattle.chain_moves.specs.Bytes.{some_byte, is_hidden, in_frame, in_live_frame, marked}
use Rattle.chain_moves.specs.Tests.{first_broken, enter_tests, is_free, are_kept}
use Rattle.chain_moves.specs.Leave.{leave_registers, raised_pointer}
use Rattle.chain_moves.specs.Enter.{is_enter_due, takes_interrupts, pointer_by, new_frame, table_address, table_word, enter_registers, entered}
use Rattle.chain_moves.specs.Words.{HasDispatcher}
use Rattle.chain_moves.specs.Agreement.{AgreeRom, Agree, Frame, Frames, framed}
use Rattle.chain_moves.specs.Beside.{Rest}
use Rattle.chain_moves.specs.Related.{Kept, Ons, Related}
use Rattle.chain_moves.specs.declared.dispatcher.Dispatcher.{Dispatcher}
use Rattle.chain_moves.proofs.Marking.{none_of, marked_other}
use Rattle.chain_moves.proofs.Memories.{frames_apart, marked_true, IsFramed, is_framed, framed_agree}
use Rattle.chain_moves.proofs.Registers.{enters, leave-enter}
use Rattle.chain_moves.proofs.Nested.{passed, new_level}
use Rattle.chain_moves.proofs.Depth.{word-lt, enter_are, table_small, entered_range}

same_kept : (registers : List ℕ) (n : ℕ) → are_kept registers registers n ≡ true
unfolding are_kept
same_kept registers zero = refl
same_kept registers (suc n) = and_from (is_free n || register registers n == register registers n) (are_kept registers registers n) (second (is_free n) (register registers n == register registers n) (eq-eqb (register registers n) (register registers n) refl)) (same_kept registers n)
  where
    second : (a b : Bool) → b ≡ true → (a || b) ≡ true
    second true b e = refl
    second false b e = e

-- ---- the tests of an Enter, once all are passed
abbrev pub IsUntested : Servicing → Choice → Type 0
IsUntested s t = first_broken (enter_tests (marks s.live) s.dead t.shv s.vector (new_frame s) (table_address s.table t.id)) ≡ None

pub record Passes (s : Servicing) (t : Choice) : Type 0 where
  pub soft : t.shv ≡ false
  pub vector : s.vector ≡ base
  pub aligned : new_frame s % 4 ≡ 0
  pub low : RAM_BASE ≤ new_frame s
  pub high : new_frame s + frame_size ≤ RAM_BASE + BANK_LEN
  pub apart : some_byte (in_live_frame (marks s.live)) (new_frame s) frame_size ≡ false
  pub there : (table_address s.table t.id == 0) ≡ false
  pub held : holds (table_address s.table t.id) 4 ≡ true
  pub shown : some_byte (is_hidden s.dead) (table_address s.table t.id) 4 ≡ false
  pub outside : some_byte (in_frame (new_frame s)) (table_address s.table t.id) 4 ≡ false

pub passes : (s : Servicing) (t : Choice) → IsUntested s t → Passes s t
passes s t e =
    let p1 = passed _ _ _ e in
    let p2 = passed _ _ _ p1.1 in
    let p3 = passed _ _ _ p2.1 in
    let p4 = passed _ _ _ p3.1 in
    let p5 = passed _ _ _ p4.1 in
    let p6 = passed _ _ _ p5.1 in
    let p7 = passed _ _ _ p6.1 in
    let p8 = passed _ _ _ p7.1 in
    let p9 = passed _ _ _ p8.1 in
    let room = and_parts (nat_le RAM_BASE (new_frame s)) (nat_le (new_frame s + frame_size) (RAM_BASE + BANK_LEN)) (not-false _ p4.0) in
    record {
      soft = p1.0;
      vector = eqb-true s.vector base (not-false _ p2.0);
      aligned = eqb-true (new_frame s % 4) 0 (not-false _ p3.0);
      low = leb-true RAM_BASE (new_frame s) room.0;
      high = leb-true (new_frame s + frame_size) (RAM_BASE + BANK_LEN) room.1;
      apart = p5.0;
      there = p6.0;
      held = not-false _ p7.0;
      shown = p8.0;
      outside = p9.0;
    }

-- interrupts are taken where an Enter is due
takes : (s : Servicing) (t : Choice) → is_enter_due s (Some t) ≡ true → takes_interrupts (marks s.live) s.on ≡ true
unfolding is_enter_due
takes s t e = (and_parts (takes_interrupts (marks s.live) s.on) (has_top_above (Some t) (innermost_level (marks s.live)) s.threshold) e).0

-- ---- what an Enter leaves alone

pub entered_inputs : (s : Servicing) (t : Choice) → (entered s t).outside.clic.shape.inputs ≡ s.outside.clic.shape.inputs
unfolding entered
entered_inputs s t = ap (λ y. y.inputs) (claimed-shape s.outside.clic t.id)

pub entered_bodies : (s : Servicing) (t : Choice) → (entered s t).bodies ≡ s.bodies
unfolding entered
entered_bodies s t = refl

-- ---- what the nested case brings back
kept_enter : (live : List Live) (registers : List ℕ) (scratch frame at target pc : ℕ) (v : Live) → AreRegisters registers → frame ≡ word (pointer_by (marks live) (register registers 2) scratch + (2 ^ 32 - frame_size))
    → v.ra ≡ register registers 1 → v.a0 ≡ register registers 10 → v.a1 ≡ register registers 11 → Kept registers pc live → Kept (leave_registers (enter_registers registers frame at target) v (raised_pointer (enter_registers registers frame at target))) pc live
unfolding marks
kept_enter [] registers scratch frame at target pc v w e ra a0 a1 h = tt
kept_enter (u ∷ us) registers scratch frame at target pc v w e ra a0 a1 h =
    let x = enters registers frame at target w.count in
    let small = w.words 2 in
    let same : raised_pointer (enter_registers registers frame at target) ≡ register registers 2 = ap (λ n. word (n + frame_size)) (x.sp ∙ e) ∙ wraps (register registers 2) small in
    subst (λ r. Kept r pc (u ∷ us)) (sym (leave-enter registers frame at target v (raised_pointer (enter_registers registers frame at target)) w.count ra a0 a1 same)) h
  where
    wraps : (sp : ℕ) → sp < 2 ^ 32 → word (word (sp + (2 ^ 32 - 32)) + 32) ≡ sp
    wraps sp l = omega arith

ons_enter : (live : List Live) (on was : Bool) → takes_interrupts (marks live) on ≡ true → Ons live on was → on ≡ true
unfolding marks
ons_enter [] on was e h = e
ons_enter (v ∷ vs) on was e h = h.0

module _ (m : Meanings) (d : Dispatcher) (s : Servicing) (x : Rest) (t : Choice) (h : Related m d s x) (untested : IsUntested s t) where
  ok : Passes s t
  ok = passes s t untested

  abbrev f : ℕ
  f = new_frame s

  abbrev k : ℕ
  k = new_frame s - RAM_BASE

  abbrev at : ℕ
  at = table_address s.table t.id

  -- the frame that the stores make
  pub stores_frame : (cause : ℕ) → IsFramed x.ram k (register s.registers 1) (register s.registers 10) (register s.registers 11) cause s.pc (framed x.ram k (register s.registers 1) (register s.registers 10) (register s.registers 11) cause s.pc)
  stores_frame cause =
      let low = ok.low in
      let high = ok.high in
      is_framed x.ram k (register s.registers 1) (register s.registers 10) (register s.registers 11) cause s.pc (omega (arith, h.stands.ram.long))

  module _ (cause : ℕ) (small : cause < 256 ^ 4) (enabled : is_set cause 27 ≡ true) (outer : bits cause 16 8 ≡ innermost_level (marks s.live))
      (y : Rest) (rom : y.rom ≡ x.rom) (made : IsFramed x.ram k (register s.registers 1) (register s.registers 10) (register s.registers 11) cause s.pc y.ram) where
    agree : Agree y.ram s.memory.ram (marked s.dead k frame_size true)
    agree = let low = ok.low in let high = ok.high in framed_agree x.ram s.memory.ram y.ram s.dead k (register s.registers 1) (register s.registers 10) (register s.registers 11) cause s.pc (omega arith) made h.stands.ram

    -- the service that begins
    abbrev target : ℕ
    target = table_word s.memory at

    abbrev begins : Live
    begins = record { number = t.id; mark = record { level = t.level; frame = f; kept = enter_registers s.registers f at target }; pc = s.pc; ra = register s.registers 1; a0 = register s.registers 10; a1 = register s.registers 11 }

    frame : Frame y.ram (marked s.dead k frame_size true) begins (innermost_level (marks s.live))
    frame =
        let low = ok.low in
        let high = ok.high in
        record {
          low = ok.low;
          high = ok.high;
          aligned = ok.aligned;
          hidden = λ j l r. marked_true frame_size s.dead k j (omega (arith, h.stands.ram.marks)) l r;
          ra = made.ra_is (h.serves.range.board.registers.words 1);
          a0 = made.a0_is (h.serves.range.board.registers.words 10);
          a1 = made.a1_is (h.serves.range.board.registers.words 11);
          cause = subst (λ n. n < 256 ^ 4) (sym (made.cause_is small)) small;
          enabled = ap (λ n. is_set n 27) (made.cause_is small) ∙ enabled;
          level = ap (λ n. bits n 16 8) (made.cause_is small) ∙ outer;
          pc = made.pc_is h.serves.range.board.pc.1;
        }

    frames : Frames y.ram (marked s.dead k frame_size true) (begins ∷ s.live)
    frames =
        let low = ok.low in
        (frame, frames_apart s.live x.ram y.ram s.dead (marked s.dead k frame_size true) f frame_size k (omega arith) made.others (λ j o. marked_other frame_size s.dead k true j o) (none_of (in_live_frame (marks s.live)) f frame_size ok.apart) h.stands.frames)

    kept : Kept (enter_registers s.registers f at target) (even target) (begins ∷ s.live)
    kept =
        let b = h.serves.range.board in
        let low = ok.low in
        let high = ok.high in
        let inside : f < 2 ^ 32 = omega arith in (
          record {
            kept = enter_are s.registers f at target b.registers inside (word-lt (s.table + 4 * t.id)) (table_small s.memory at b.memory);
            pointer = (enters s.registers f at target b.registers.count).sp;
            returns = λ q. same_kept (enter_registers s.registers f at target) 32;
          },
          kept_enter s.live s.registers s.scratch f at target s.pc begins b.registers refl refl refl refl h.serves.kept,
        )

    pub entered_related : IsSoundDevice m → top s.outside.clic ≡ Some t → is_enter_due s (Some t) ≡ true → Related m d (entered s t) y
    unfolding entered
    entered_related sound is_top due = record {
      serves = record {
        range = (entered_range m [] sound s.outside.clic.shape.inputs 0 tt s t is_top (h.serves.range, refl)).0;
        rising = new_level m [] s t due untested h.serves.rising;
        kept = kept;
        ons = (ons_enter s.live s.on s.was (takes s t due) h.serves.ons, refl);
      };
      stands = record {
        code = subst (λ q. HasDispatcher d q) (sym rom) h.stands.code;
        bytes = subst (λ q. AreBytes q) (sym rom) h.stands.bytes;
        rom = subst (λ q. AgreeRom q s.memory.rom) (sym rom) h.stands.rom;
        ram = agree;
        frames = frames;
      };
    }

  -- where the dispatcher's stores made the frame
  pub entered_framed : (cause : ℕ) → cause < 256 ^ 4 → is_set cause 27 ≡ true → bits cause 16 8 ≡ innermost_level (marks s.live) → (y : Rest) → y.rom ≡ x.rom
      → y.ram ≡ framed x.ram k (register s.registers 1) (register s.registers 10) (register s.registers 11) cause s.pc
      → IsSoundDevice m → top s.outside.clic ≡ Some t → is_enter_due s (Some t) ≡ true → Related m d (entered s t) y
  entered_framed cause small enabled outer y rom ram sound is_top due =
      entered_related cause small enabled outer y rom (subst (λ r. IsFramed x.ram k (register s.registers 1) (register s.registers 10) (register s.registers 11) cause s.pc r) (sym ram) (stores_frame cause)) sound is_top due
