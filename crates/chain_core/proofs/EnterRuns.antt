-- An Enter of the servicing machine is fourteen steps of the board, from the interrupt to the call of the handler.
use Rattle.std.proofs.Common.{◌≡◌, ◌≢◌, ℕ, ◌+◌, ◌-◌, ◌*◌, ◌%◌, ◌^◌, ◌<◌, ◌≤◌, ◌==◌, ⊎_elim, inl, inr, true, false, not, List, [], ◌∷◌, ◌++◌, length, Some, None, refl, ap, ap₂, ◌∙◌, arith}
use Rattle.std.specs.Bool.{beq}
use Rattle.std.proofs.lemmas.Bool.{and_parts}
use Rattle.std.proofs.lemmas.Bool.Decides.{nat_tests}
use Rattle.hart_words.specs.Bits.{bits}
use Rattle.hart_words.specs.TwosComplement.{word}
use Rattle.hart_words.specs.Registers.{register}
use Rattle.device_model.specs.Meanings.{Meanings}
use Rattle.hart_memory.specs.Access.{loaded}
use Rattle.hart_memory.specs.declared.address_map.TheConstants.{RAM_BASE, BANK_LEN}
use Rattle.csr_file.specs.CsrState.{CsrState, IsCsrState}
use Rattle.csr_file.specs.Views.{mcause, is_set}
use Rattle.csr_file.proofs.Bits.{mcause_bits}
use Rattle.clic_select.specs.Top.{top}
use Rattle.clic_select.specs.declared.choice.Choice.{Choice}
use Rattle.clic_select.proofs.Tops.{claimed_level}
use Rattle.clic_trap.specs.Due.{is_above}
use Rattle.clic_trap.specs.Swap.{swapped, swapped_by}
use Rattle.clic_trap.proofs.Quiet.{not_due}
use Rattle.hart_board.proofs.Privileged.{top_is_choice}
use Rattle.hart_report.specs.declared.stepped.Stepped.{Stepped}
use Rattle.hart_report.specs.declared.stepped.Stepped.TheVariants.{Retired, Interrupted}
use Rattle.chain_moves.specs.Slot.{base}
use Rattle.chain_moves.specs.Words.{dispatch_word}
use Rattle.chain_moves.specs.Servicing.{Servicing, marks, innermost_level}
use Rattle.chain_moves.specs.Tests.{first_broken, enter_tests}
use Rattle.chain_moves.specs.Enter.{takes_interrupts, is_enter_due, pointer_by, scratch_after, new_frame, table_address, table_word, enter_registers, entered_at, entered}
use Rattle.chain_moves.specs.Nesting.{AreRising}
use Rattle.chain_moves.specs.Agreement.{framed}
use Rattle.chain_moves.specs.Beside.{Rest, board_of}
use Rattle.chain_moves.specs.Related.{Related}
use Rattle.chain_core.specs.Walk.{walked}
use Rattle.chain_moves.specs.declared.mark.Mark.{Mark}
use Rattle.chain_moves.specs.declared.dispatcher.Dispatcher.{Dispatcher}
use Rattle.chain_moves.proofs.Decoding.{Fetches, fetches}
use Rattle.chain_core.proofs.OneStep.{twelve}
use Rattle.chain_moves.proofs.FrameBytes.{framed_outside, framed_words}
use Rattle.chain_moves.proofs.EnterTests.{may_enter}
use Rattle.chain_moves.proofs.TableWord.{table_reads, outside_frame}
use Rattle.chain_moves.proofs.Depth.{innermost_small, table_small}
use Rattle.chain_core.proofs.EnterSteps as raw

-- ---- sp and mscratch
not_zero : (n : ℕ) → n ≢ 0 → (n == 0) ≡ false
not_zero n h = grind (arith, nat_tests)

is_zero : (n : ℕ) → n ≡ 0 → (n == 0) ≡ true
is_zero n h = grind (arith, nat_tests)

-- the outermost service exchanges them, and an inner one doesn't
pub exchange : (live : List Mark) (c : CsrState) (sp : ℕ) → c.mpil ≡ innermost_level live → c.mil ≢ 0 → AreRising live
    → swapped true c sp ≡ record { answer = pointer_by live sp c.mscratch; csrs = record c { mscratch = scratch_after live sp c.mscratch } }
unfolding swapped
exchange [] c sp outer inner rising = ap₂ (λ a b. swapped_by (not (beq a b)) c sp) (is_zero c.mpil outer) (not_zero c.mil inner)
exchange (v ∷ vs) c sp outer inner rising =
    let some : c.mpil ≢ 0 = omega (arith, rising.0) in
    ap₂ (λ a b. swapped_by (not (beq a b)) c sp) (not_zero c.mpil some) (not_zero c.mil inner)

over_zero : (t : Choice) (a b : ℕ) → is_above t a b ≡ true → t.level ≢ 0
over_zero t a b e = grind (arith, nat_tests)

-- ---- what an Enter leaves on the board
-- the fields while the dispatcher saves what it needs
abbrev pub saved_csrs : Servicing → Choice → ℕ → CsrState
saved_csrs s t mtval = record { mie = false; mpie = true; mtvec_base = s.vector; mtvt = s.table; mscratch = s.scratch; mepc = s.pc; interrupt = true; mpil = innermost_level (marks s.live); exccode = t.id; mtval = mtval; mil = t.level; th = s.threshold }

-- the mcause that is saved
abbrev pub saved_cause : Servicing → Choice → ℕ
saved_cause s t = mcause (saved_csrs s t 0)

abbrev pub with_frame : Servicing → Rest → Choice → List ℕ → Rest
with_frame s x t ram = record { mepc = s.pc; interrupt = true; mpil = innermost_level (marks s.live); exccode = t.id; mtval = x.mtval; rom = x.rom; ram = ram; kept = x.kept }

abbrev pub rest_entered : Servicing → Rest → Choice → Rest
rest_entered s x t = with_frame s x t (framed x.ram (new_frame s - RAM_BASE) (register s.registers 1) (register s.registers 10) (register s.registers 11) (saved_cause s t) s.pc)

-- a word of the dispatcher retired
abbrev pub retired : Dispatcher → ℕ → Stepped
retired d i = Retired (base + 4 * i) (dispatch_word d i) 4

-- what becomes of the steps of an Enter: those before the call, and all
abbrev pub before_call : Dispatcher → Servicing → Choice → List Stepped
before_call d s t = Interrupted s.pc t.id ∷ retired d 0 ∷ retired d 1 ∷ retired d 2 ∷ retired d 3 ∷ retired d 4 ∷ retired d 5 ∷ retired d 6 ∷ retired d 7 ∷ retired d 8 ∷ retired d 9 ∷ retired d 10 ∷ retired d 11 ∷ []

abbrev pub enter_told : Dispatcher → Servicing → Choice → List Stepped
enter_told d s t = before_call d s t ++ retired d 12 ∷ []

-- the fourteen steps, and what the saved mcause says of what was left
pub record RunsEnter (m : Meanings) (d : Dispatcher) (s : Servicing) (x : Rest) (t : Choice) : Type 0 where
  pub walk : walked m 14 (board_of s x) ≡ record { told = enter_told d s t; state = board_of (entered s t) (rest_entered s x t) }
  pub small : saved_cause s t < 256 ^ 4
  pub enabled : is_set (saved_cause s t) 27 ≡ true
  pub level : bits (saved_cause s t) 16 8 ≡ innermost_level (marks s.live)
  pub number_is : (board_of (entered s t) (rest_entered s x t)).csrs.exccode ≡ t.id
  pub level_is : (board_of (entered s t) (rest_entered s x t)).csrs.mil ≡ t.level

module _ (m : Meanings) (d : Dispatcher) (s : Servicing) (x : Rest) (t : Choice) where
  abbrev with_registers : List ℕ → Servicing
  with_registers l = record s { registers = l }

  abbrev words_framed : List ℕ → ℕ → List ℕ
  words_framed l f = framed x.ram f (word (register l 1)) (word (register l 10)) (word (register l 11)) (word (saved_cause s t)) (word s.pc)

  fourteen : (f w : ℕ) → Fetches d x.rom → m.halted s.outside.device ≡ None → takes_interrupts (marks s.live) s.on ≡ true → s.vector ≡ base → AreRising (marks s.live) → f + 32 ≤ BANK_LEN → f % 4 ≡ 0 → top s.outside.clic ≡ Some t → t.shv ≡ false → is_above t (innermost_level (marks s.live)) s.threshold ≡ true → table_address s.table t.id ≢ 0 → table_address s.table t.id % 4 ≡ 0 → w < 2 ^ 32
      → (l : List ℕ) → 12 ≤ length l → register l 0 ≡ 0 → new_frame (with_registers l) ≡ RAM_BASE + f → loaded (record { rom = x.rom; ram = words_framed l f }) (table_address s.table t.id) 4 ≡ Some w
      → walked m 14 (board_of (with_registers l) x) ≡ record { told = enter_told d s t; state = board_of (entered_at (with_registers l) t (new_frame (with_registers l)) (table_address s.table t.id) w) (with_frame s x t (words_framed l f)) }
  unfolding enter_registers framed marks
  fourteen f w has goes on vector rising room even_f is_top soft over nonzero even_slot small =
      twelve (λ l. register l 0 ≡ 0 → new_frame (with_registers l) ≡ RAM_BASE + f → loaded (record { rom = x.rom; ram = words_framed l f }) (table_address s.table t.id) 4 ≡ Some w → walked m 14 (board_of (with_registers l) x) ≡ record { told = enter_told d s t; state = board_of (entered_at (with_registers l) t (new_frame (with_registers l)) (table_address s.table t.id) w) (with_frame s x t (words_framed l f)) })
      (λ x0 x1 x2 x3 x4 x5 x6 x7 x8 x9 x10 x11 rest zero frame reads.
      let live : List Mark = marks s.live in
      raw.fourteen m d x.rom has s.outside.device goes x0 x3 x4 x5 x6 x7 x8 x9 zero rest x.kept x1 x2 x10 x11 s.pc (pointer_by live x2 s.scratch) (scratch_after live x2 s.scratch) f (board_of s x).csrs t x.ram s.outside.clic on vector
      (exchange live (saved_csrs s t x.mtval) x2 refl (over_zero t _ _ over) rising)
      frame room even_f is_top soft over w (not_due _ _ (λ u e. claimed_level s.outside.clic t u is_top e)) nonzero even_slot reads small)

  pub enter_runs : Related m d s x → m.halted s.outside.device ≡ None → top s.outside.clic ≡ Some t → is_enter_due s (Some t) ≡ true → first_broken (enter_tests (marks s.live) s.dead t.shv s.vector (new_frame s) (table_address s.table t.id)) ≡ None
      → RunsEnter m d s x t
  unfolding entered is_enter_due marks
  enter_runs r goes is_top is_due none =
      let e = may_enter (marks s.live) s.dead t.shv s.vector (new_frame s) (table_address s.table t.id) none in
      let b = r.serves.range.board in
      let low = e.low in
      let high = e.high in
      let on = and_parts (takes_interrupts (marks s.live) s.on) (is_above t (innermost_level (marks s.live)) s.threshold) is_due in
      let f : ℕ = new_frame s - RAM_BASE in
      let frame : new_frame s ≡ RAM_BASE + f = omega arith in
      let room : f + 32 ≤ BANK_LEN = omega arith in
      let even_f : f % 4 ≡ 0 = omega (arith, e.aligned) in
      let even_slot : table_address s.table t.id % 4 ≡ 0 = omega (arith, b.csrs.mtvt.0) in
      let choice = top_is_choice s.outside.clic t b.outside.clic is_top in
      let fields : IsCsrState (saved_csrs s t 0) = record { mtvec_base = b.csrs.mtvec_base; mtvt = b.csrs.mtvt; mscratch = b.csrs.mscratch; mepc = b.pc; mpil = innermost_small s.live r.serves.range.live; exccode = omega (arith, choice.id); mtval = omega arith; mil = choice.level; th = b.csrs.th } in
      let cause = mcause_bits (saved_csrs s t 0) fields in
      let words = b.registers.words in
      let is_word : (n : ℕ) → n < 2 ^ 32 → word n ≡ n = λ n l. omega arith in
      let same = framed_words x.ram f (register s.registers 1) (register s.registers 10) (register s.registers 11) (saved_cause s t) s.pc (is_word _ (words 1)) (is_word _ (words 10)) (is_word _ (words 11)) (is_word _ cause.others.3) (is_word _ b.pc.1) in
      let reads = table_reads s.memory x.rom (words_framed s.registers f) s.dead (table_address s.table t.id) r.stands.rom
      (λ j l h alive. framed_outside x.ram f _ _ _ _ _ j (omega (arith, r.stands.ram.long))
      (⊎_elim (λ q. inl (omega (arith, frame))) (λ q. inr (omega (arith, frame))) (outside_frame (new_frame s) (RAM_BASE + j) (e.beside (RAM_BASE + j) l h)))
      ∙ r.stands.ram.at j alive)
      e.seen e.held in
      record {
        walk =
            fourteen f (table_word s.memory (table_address s.table t.id)) (fetches d x.rom r.stands.code r.stands.bytes) goes on.0 e.vector_is r.serves.rising room even_f is_top e.soft on.1 e.nonzero even_slot (table_small s.memory (table_address s.table t.id) b.memory) s.registers (omega (arith, b.registers.count)) b.registers.zero frame reads
            ∙ ap (λ ram. record { told = enter_told d s t; state = board_of (entered s t) (with_frame s x t ram) }) same;
        small = cause.others.3;
        enabled = ap (λ n. n == 1) cause.mpie;
        level = cause.mpil;
        number_is = refl;
        level_is = refl;
      }
