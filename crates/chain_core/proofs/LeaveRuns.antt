-- A Leave of the servicing machine is sixteen steps of the board, where the dispatcher claims no other input.
use Rattle.std.proofs.Common.{◌≡◌, ℕ, zero, suc, ◌+◌, ◌%◌, ◌<◌, ◌≤◌, ◌==◌, ⊎_elim, Bool, true, false, not, ◌&&◌, ◌||◌, List, [], ◌∷◌, length, Option, Some, None, refl, sym, ap, ap₂, ◌∙◌, subst, arith}
use Rattle.std.proofs.lemmas.Bool.{and_parts, cases_eq}
use Rattle.std.proofs.lemmas.Bool.Decides.{nat_tests}
use Rattle.hart_words.specs.Bits.{bits}
use Rattle.hart_words.specs.TwosComplement.{word}
use Rattle.hart_words.specs.Registers.{register}
use Rattle.device_model.specs.Meanings.{Meanings}
use Rattle.hart_memory.specs.Bytes.{number_at}
use Rattle.hart_memory.specs.declared.address_map.TheConstants.{RAM_BASE}
use Rattle.csr_file.specs.CsrState.{CsrState}
use Rattle.csr_file.specs.Views.{is_set, with_low_bits_clear}
use Rattle.clic_select.specs.Top.{top}
use Rattle.clic_select.specs.declared.choice.Choice.{Choice}
use Rattle.clic_trap.specs.Due.{is_above, has_top_above}
use Rattle.clic_trap.specs.NextInterrupt.{found, found_by}
use Rattle.hart_board.specs.State.{State}
use Rattle.hart_report.specs.declared.stepped.Stepped.{Stepped}
use Rattle.chain_moves.specs.Slot.{back}
use Rattle.chain_moves.specs.Servicing.{Live, Servicing, marks, innermost_level}
use Rattle.chain_moves.specs.Tests.{are_kept, is_free}
use Rattle.chain_moves.specs.Enter.{takes_interrupts, is_enter_due, pointer_by, scratch_after}
use Rattle.chain_moves.specs.Leave.{leave_registers, raised_pointer, left}
use Rattle.chain_moves.specs.Cost.{is_fused}
use Rattle.chain_moves.specs.Judge.{claims_above}
use Rattle.chain_moves.specs.Nesting.{AreRising}
use Rattle.chain_moves.specs.Agreement.{place_of, Frame}
use Rattle.chain_moves.specs.Beside.{Rest, board_of}
use Rattle.chain_moves.specs.Related.{Related, Ons}
use Rattle.chain_core.specs.Walk.{walked}
use Rattle.chain_moves.specs.declared.mark.Mark.{Mark}
use Rattle.chain_moves.specs.declared.dispatcher.Dispatcher.{Dispatcher}
use Rattle.chain_moves.specs.declared.dispatcher.Dispatcher.TheVariants.{Looping, Returning}
use Rattle.chain_moves.specs.declared.moves.Move.TheVariants.{Leave}
use Rattle.chain_moves.proofs.Decoding.{Fetches, fetches}
use Rattle.chain_core.proofs.OneStep.{twelve}
use Rattle.chain_core.proofs.EnterRuns.{exchange, retired}
use Rattle.chain_core.proofs.LeaveSteps as raw

-- ---- a Leave in one form for outer and inner services
abbrev pub left_form : Servicing → Live → List Live → Servicing
left_form s v vs = record s { registers = leave_registers s.registers v (pointer_by (marks vs) (raised_pointer s.registers) s.scratch); pc = v.pc; scratch = scratch_after (marks vs) (raised_pointer s.registers) s.scratch; live = vs }

pub left_is : (s : Servicing) (v : Live) (vs : List Live) → left s v vs ≡ left_form s v vs
unfolding left marks
left_is s v [] = refl
left_is s v (w ∷ ws) = refl

takes_true : (live : List Mark) → takes_interrupts live true ≡ true
takes_true [] = refl
takes_true (v ∷ vs) = refl

-- ---- what holds as a handler arrives where it returns
pub kept_register : (kept registers : List ℕ) (n r : ℕ) → are_kept kept registers n ≡ true → r < n → is_free r ≡ false → register registers r ≡ register kept r
unfolding are_kept
kept_register kept registers zero r e l free = absurd (omega arith)
kept_register kept registers (suc n) r e l free =
    let p = and_parts (is_free n || register registers n == register kept n) (are_kept kept registers n) e in
    ⊎_elim
    (λ (q : r ≡ n).
    let here : (false || register registers r == register kept r) ≡ true = ap (λ b. b || register registers r == register kept r) (sym free) ∙ (ap (λ i. is_free i || register registers i == register kept i) q ∙ p.0) in
    same here)
    (λ (q : r ≡ n → ⊥). kept_register kept registers n r p.1 (omega arith) free)
    (cases_eq r n)
  where
    same : {a b : ℕ} → (a == b) ≡ true → a ≡ b
    same h = grind (arith, nat_tests)

-- the claim finds none where no input would be fused
found_none : (t : Option Choice) (level threshold : ℕ) (c : CsrState) → c.mpil ≡ level → c.th ≡ threshold → claims_above t level threshold ≡ false → found t c ≡ None
found_none None level threshold c p q h = refl
found_none (Some u) level threshold c p q h = by (is_above u c.mpil c.th) u.shv (ap (λ b. b && not u.shv) (ap₂ (is_above u) p q) ∙ h)
  where
    by : (over hard : Bool) → (over && not hard) ≡ false → found_by over hard u ≡ None
    by true true e = refl
    by true false e = absurd cc
    by false hard e = refl

-- ---- what a Leave leaves on the board
-- the mcause that was saved
abbrev pub cause_of : Rest → Live → ℕ
cause_of x v = number_at x.ram (place_of v + 12) 4

abbrev pub rest_left : Rest → Live → List Live → Rest
rest_left x v vs = record { mepc = v.pc; interrupt = is_set (cause_of x v) 31; mpil = innermost_level (marks vs); exccode = bits (cause_of x v) 0 12; mtval = x.mtval; rom = x.rom; ram = x.ram; kept = x.kept }

-- what becomes of the steps of a Leave: those after the first, and all
abbrev pub after_back : Dispatcher → List Stepped
after_back d = retired d 14 ∷ retired d 15 ∷ retired d 16 ∷ retired d 17 ∷ retired d 18 ∷ retired d 19 ∷ retired d 20 ∷ retired d 21 ∷ retired d 22 ∷ retired d 23 ∷ retired d 24 ∷ retired d 25 ∷ retired d 26 ∷ retired d 27 ∷ retired d 28 ∷ []

abbrev pub leave_told : Dispatcher → List Stepped
leave_told d = retired d 13 ∷ after_back d

abbrev pub RunsLeave : Meanings → Dispatcher → Servicing → Rest → Live → List Live → Type 0
RunsLeave m d s x v vs = walked m 16 (board_of s x) ≡ record { told = leave_told d; state = board_of (left s v vs) (rest_left x v vs) }

module _ (m : Meanings) (s : Servicing) (x : Rest) (v : Live) (vs : List Live) where
  -- the state as the handler arrives there, with these registers
  abbrev pub arrived : List ℕ → Servicing
  arrived l = record s { registers = l; pc = back; live = v ∷ vs; on = true; was = true }

  -- the end of a Leave, but for MIE
  abbrev ends : List ℕ → Bool → State
  ends l b = record (board_of (left_form (arrived l) v vs) (rest_left x v vs)) { csrs = record (board_of (left_form (arrived l) v vs) (rest_left x v vs)).csrs { mie = b } }

  end : (l : List ℕ) → ends l true ≡ board_of (left (arrived l) v vs) (rest_left x v vs)
  end l = sym (ap (ends l) (takes_true (marks vs))) ∙ sym (ap (λ q. board_of q (rest_left x v vs)) (left_is (arrived l) v vs))

  epc : v.pc % 2 ≡ 0 → with_low_bits_clear v.pc 1 ≡ v.pc
  epc h = omega arith

  returning : Fetches Returning x.rom → m.halted s.outside.device ≡ None → Frame x.ram s.dead v (innermost_level (marks vs)) → AreRising (v.mark ∷ marks vs) → v.pc % 2 ≡ 0 → has_top_above (top s.outside.clic) v.mark.level s.threshold ≡ false
      → (l : List ℕ) → 12 ≤ length l → register l 0 ≡ 0 → register l 2 ≡ RAM_BASE + place_of v → walked m 16 (board_of (arrived l) x) ≡ record { told = leave_told Returning; state = ends l true }
  unfolding leave_registers marks
  returning has goes fr rising even_pc calm =
      twelve (λ l. register l 0 ≡ 0 → register l 2 ≡ RAM_BASE + place_of v → walked m 16 (board_of (arrived l) x) ≡ record { told = leave_told Returning; state = ends l true })
      (λ x0 x1 x2 x3 x4 x5 x6 x7 x8 x9 x10 x11 rest zero is_sp.
      let low = fr.low in let high = fr.high in let even_f = fr.aligned in
      raw.sixteen_returning m x.rom s.outside.device goes x0 x3 x4 x5 x6 x7 x8 x9 zero rest x.kept (board_of (arrived (x0 ∷ x1 ∷ x2 ∷ x3 ∷ x4 ∷ x5 ∷ x6 ∷ x7 ∷ x8 ∷ x9 ∷ x10 ∷ x11 ∷ rest)) x).csrs (place_of v) (innermost_level (marks vs)) x.ram s.outside.clic x2 v.ra v.a0 v.a1 (cause_of x v) v.pc refl is_sp (omega arith) (omega arith) fr.ra fr.a0 fr.a1 refl fr.pc fr.enabled fr.level calm
      x1 x10 x11 (pointer_by (marks vs) (word (x2 + 32)) s.scratch) (scratch_after (marks vs) (word (x2 + 32)) s.scratch) has (epc even_pc)
      (exchange (marks vs) _ (word (x2 + 32)) refl (omega (arith, rising.0)) rising.1))

  looping : Fetches Looping x.rom → m.halted s.outside.device ≡ None → claims_above (top s.outside.clic) (innermost_level (marks vs)) s.threshold ≡ false → Frame x.ram s.dead v (innermost_level (marks vs)) → AreRising (v.mark ∷ marks vs) → v.pc % 2 ≡ 0 → has_top_above (top s.outside.clic) v.mark.level s.threshold ≡ false
      → (l : List ℕ) → 12 ≤ length l → register l 0 ≡ 0 → register l 2 ≡ RAM_BASE + place_of v → walked m 16 (board_of (arrived l) x) ≡ record { told = leave_told Looping; state = ends l true }
  unfolding leave_registers marks
  looping has goes none fr rising even_pc calm =
      twelve (λ l. register l 0 ≡ 0 → register l 2 ≡ RAM_BASE + place_of v → walked m 16 (board_of (arrived l) x) ≡ record { told = leave_told Looping; state = ends l true })
      (λ x0 x1 x2 x3 x4 x5 x6 x7 x8 x9 x10 x11 rest zero is_sp.
      let low = fr.low in let high = fr.high in let even_f = fr.aligned in
      raw.sixteen_looping m x.rom s.outside.device goes x0 x3 x4 x5 x6 x7 x8 x9 zero rest x.kept (board_of (arrived (x0 ∷ x1 ∷ x2 ∷ x3 ∷ x4 ∷ x5 ∷ x6 ∷ x7 ∷ x8 ∷ x9 ∷ x10 ∷ x11 ∷ rest)) x).csrs (place_of v) (innermost_level (marks vs)) x.ram s.outside.clic x2 v.ra v.a0 v.a1 (cause_of x v) v.pc refl is_sp (omega arith) (omega arith) fr.ra fr.a0 fr.a1 refl fr.pc fr.enabled fr.level calm
      x1 x10 x11 (pointer_by (marks vs) (word (x2 + 32)) s.scratch) (scratch_after (marks vs) (word (x2 + 32)) s.scratch) has (found_none (top s.outside.clic) (innermost_level (marks vs)) s.threshold _ refl refl none) (epc even_pc)
      (exchange (marks vs) _ (word (x2 + 32)) refl (omega (arith, rising.0)) rising.1))

  -- the stack pointer is at the frame
  pub sp_is : {d : Dispatcher} (l : List ℕ) → Related m d (arrived l) x → register l 2 ≡ RAM_BASE + place_of v
  sp_is l r =
      let k = r.serves.kept.0 in
      let low = r.stands.frames.0.low in
      let is : register l 2 ≡ v.mark.frame = kept_register v.mark.kept l 32 2 (k.returns refl) (omega arith) refl ∙ k.pointer in
      omega arith

  pub calm_of : (l : List ℕ) → is_enter_due (arrived l) (top s.outside.clic) ≡ false → has_top_above (top s.outside.clic) v.mark.level s.threshold ≡ false
  unfolding is_enter_due marks
  calm_of l e = e

  by_dispatcher : (d : Dispatcher) (l : List ℕ) → Related m d (arrived l) x → m.halted s.outside.device ≡ None → is_enter_due (arrived l) (top s.outside.clic) ≡ false → is_fused d Leave (claims_above (top s.outside.clic) (innermost_level (marks vs)) s.threshold) ≡ false
      → walked m 16 (board_of (arrived l) x) ≡ record { told = leave_told d; state = ends l true }
  unfolding marks
  by_dispatcher Returning l r goes e none =
      let b = r.serves.range.board in
      returning (fetches Returning x.rom r.stands.code r.stands.bytes) goes r.stands.frames.0 r.serves.rising r.serves.range.live.0.pc.0 (calm_of l e) l (omega (arith, b.registers.count)) b.registers.zero (sp_is l r)
  by_dispatcher Looping l r goes e none =
      let b = r.serves.range.board in
      looping (fetches Looping x.rom r.stands.code r.stands.bytes) goes none r.stands.frames.0 r.serves.rising r.serves.range.live.0.pc.0 (calm_of l e) l (omega (arith, b.registers.count)) b.registers.zero (sp_is l r)

-- where a handler has arrived, the state has that form
pub arrives : (s : Servicing) (v : Live) (vs : List Live) → s.live ≡ v ∷ vs → s.pc ≡ back → Ons s.live s.on s.was → s ≡ record s { pc = back; live = v ∷ vs; on = true; was = true }
arrives s v vs live at ons =
    let on : (s.on ≡ true) × (s.was ≡ true) = subst (λ l. Ons l s.on s.was) live ons in
    ap (λ p. record s { pc = p }) at
    ∙ (ap (λ l. record s { pc = back; live = l }) live
    ∙ (ap (λ b. record s { pc = back; live = v ∷ vs; on = b }) on.0
    ∙ ap (λ b. record s { pc = back; live = v ∷ vs; on = true; was = b }) on.1))

pub leave_runs : (m : Meanings) (d : Dispatcher) (s : Servicing) (x : Rest) (v : Live) (vs : List Live) → Related m d s x → m.halted s.outside.device ≡ None → s.live ≡ v ∷ vs → s.pc ≡ back → is_enter_due s (top s.outside.clic) ≡ false → is_fused d Leave (claims_above (top s.outside.clic) (innermost_level (marks vs)) s.threshold) ≡ false
    → RunsLeave m d s x v vs
leave_runs m d s x v vs r goes live at no_enter none =
    subst (λ u. Related m d u x → is_enter_due u (top s.outside.clic) ≡ false → RunsLeave m d u x v vs) (sym (arrives s v vs live at r.serves.ons))
    (λ q e. by_dispatcher m s x v vs d s.registers q goes e none ∙ ap (λ b. record { told = leave_told d; state = b }) (end m s x v vs s.registers))
    r no_enter
