-- Where the looping dispatcher claims another input at the end of a handler, a Leave and the Enter after it are five steps and two.
use Rattle.std.proofs.Common.{◌≡◌, ◌≢◌, ℕ, ◌+◌, ◌%◌, ◌^◌, ◌<◌, ◌≤◌, ⊎_elim, true, false, List, [], ◌∷◌, length, Option, Some, None, refl, sym, ap, ap₂, ◌∙◌, subst, arith}
use Rattle.std.proofs.lemmas.Bool.{cases_eq}
use Rattle.hart_words.specs.TwosComplement.{word}
use Rattle.hart_words.specs.Registers.{register, with_register}
use Rattle.device_model.specs.Meanings.{Meanings}
use Rattle.hart_exec.specs.Effect.{even}
use Rattle.hart_memory.specs.Access.{loaded}
use Rattle.hart_memory.specs.declared.address_map.TheConstants.{RAM_BASE, BANK_LEN}
use Rattle.csr_file.specs.CsrState.{CsrState}
use Rattle.clic_regs.specs.LineChange.{claimed}
use Rattle.clic_select.specs.Top.{top}
use Rattle.clic_select.specs.declared.choice.Choice.{Choice}
use Rattle.clic_select.proofs.Tops.{claimed_level}
use Rattle.clic_trap.specs.Due.{is_above, has_top_above}
use Rattle.clic_trap.specs.NextInterrupt.{found, found_by}
use Rattle.clic_trap.proofs.Quiet.{not_due}
use Rattle.hart_board.specs.State.{State}
use Rattle.hart_report.specs.declared.stepped.Stepped.{Stepped}
use Rattle.chain_moves.specs.Slot.{back}
use Rattle.chain_moves.specs.Servicing.{Live, Servicing, marks, innermost_level}
use Rattle.chain_moves.specs.Tests.{first_broken, enter_tests}
use Rattle.chain_moves.specs.Enter.{is_enter_due, pointer_by, scratch_after, new_frame, table_address, table_word, enter_registers, entered}
use Rattle.chain_moves.specs.Leave.{leave_registers, left}
use Rattle.chain_moves.specs.Agreement.{place_of, Frame}
use Rattle.chain_moves.specs.Beside.{Rest, board_of}
use Rattle.chain_moves.specs.Related.{Related}
use Rattle.chain_core.specs.Walk.{walked}
use Rattle.chain_moves.specs.declared.dispatcher.Dispatcher.TheVariants.{Looping}
use Rattle.chain_moves.proofs.Decoding.{Fetches, fetches}
use Rattle.chain_core.proofs.OneStep.{twelve}
use Rattle.chain_moves.proofs.EnterTests.{may_enter}
use Rattle.chain_moves.proofs.TableWord.{table_reads}
use Rattle.chain_moves.proofs.Depth.{table_small}
use Rattle.chain_core.proofs.EnterRuns.{retired}
use Rattle.chain_core.proofs.LeaveRuns.{left_form, left_is, cause_of, arrived, arrives, sp_is, calm_of}
use Rattle.chain_core.proofs.LeaveSteps as raw

-- ---- the claim
-- an exchange of sp and mscratch, and one back
pointer_again : (vs : List Live) (r k : ℕ) → pointer_by (marks vs) (pointer_by (marks vs) r k) (scratch_after (marks vs) r k) ≡ r
unfolding marks
pointer_again [] r k = refl
pointer_again (v ∷ vs) r k = refl

scratch_again : (vs : List Live) (r k : ℕ) → scratch_after (marks vs) (pointer_by (marks vs) r k) (scratch_after (marks vs) r k) ≡ k
unfolding marks
scratch_again [] r k = refl
scratch_again (v ∷ vs) r k = refl

found_some : (o : Option Choice) (t : Choice) (level threshold : ℕ) (c : CsrState) → c.mpil ≡ level → c.th ≡ threshold → o ≡ Some t → t.shv ≡ false → is_above t level threshold ≡ true → found o c ≡ Some t
found_some o t level threshold c p q e soft over = ap (λ o. found o c) e ∙ ap₂ (λ a b. found_by a b t) (ap₂ (is_above t) p q ∙ over) soft

-- ---- the board between the two moves
abbrev pub mid : Servicing → Rest → List Live → Choice → State
mid s x vs t = record {
  registers = with_register s.registers 10 (table_address s.table t.id);
  pc = 0x6C;
  csrs = record { mie = true; mpie = true; mtvec_base = s.vector; mtvt = s.table; mscratch = s.scratch; mepc = x.mepc; interrupt = true; mpil = innermost_level (marks vs); exccode = t.id; mtval = x.mtval; mil = t.level; th = s.threshold };
  memory = record { rom = x.rom; ram = x.ram };
  outside = record s.outside { clic = claimed s.outside.clic t.id };
  kept = x.kept;
}

abbrev pub rest_fused : Rest → List Live → Choice → Rest
rest_fused x vs t = record { mepc = x.mepc; interrupt = true; mpil = innermost_level (marks vs); exccode = t.id; mtval = x.mtval; rom = x.rom; ram = x.ram; kept = x.kept }

-- what becomes of the five steps and of the two
abbrev pub five_told : List Stepped
five_told = retired Looping 13 ∷ retired Looping 14 ∷ retired Looping 15 ∷ retired Looping 16 ∷ retired Looping 17 ∷ []

abbrev pub two_told : List Stepped
two_told = retired Looping 11 ∷ retired Looping 12 ∷ []

-- none of the tests of an Enter holds
abbrev pub Untested : Choice → Servicing → Type 0
Untested t u = first_broken (enter_tests (marks u.live) u.dead t.shv u.vector (new_frame u) (table_address u.table t.id)) ≡ None

-- the five steps. Where the table word's address is 0 they are told as well, but the branch isn't taken
pub record RunsFive (m : Meanings) (s : Servicing) (x : Rest) (vs : List Live) (t : Choice) : Type 0 where
  pub told : (walked m 5 (board_of s x)).told ≡ five_told
  pub walk : table_address s.table t.id ≢ 0 → walked m 5 (board_of s x) ≡ record { told = five_told; state = mid s x vs t }

module _ (m : Meanings) (s : Servicing) (x : Rest) (v : Live) (vs : List Live) (t : Choice) where
  abbrev with_registers : List ℕ → Servicing
  with_registers l = record s { registers = l }

  abbrev Fives : List ℕ → Type 0
  Fives l = RunsFive m (arrived m s x v vs l) x vs t

  five : Fetches Looping x.rom → m.halted s.outside.device ≡ None → top s.outside.clic ≡ Some t → t.shv ≡ false → is_above t (innermost_level (marks vs)) s.threshold ≡ true → Frame x.ram s.dead v (innermost_level (marks vs)) → has_top_above (top s.outside.clic) v.mark.level s.threshold ≡ false
      → (l : List ℕ) → 12 ≤ length l → register l 0 ≡ 0 → register l 2 ≡ RAM_BASE + place_of v → Fives l
  unfolding marks
  five has goes is_top soft over fr calm =
      twelve (λ l. register l 0 ≡ 0 → register l 2 ≡ RAM_BASE + place_of v → Fives l)
      (λ x0 x1 x2 x3 x4 x5 x6 x7 x8 x9 x10 x11 rest zero is_sp.
      let low = fr.low in let high = fr.high in let even_f = fr.aligned in
      let b : State = board_of (arrived m s x v vs (x0 ∷ x1 ∷ x2 ∷ x3 ∷ x4 ∷ x5 ∷ x6 ∷ x7 ∷ x8 ∷ x9 ∷ x10 ∷ x11 ∷ rest)) x in
      let finds = found_some (top s.outside.clic) t (innermost_level (marks vs)) s.threshold (raw.cC m x.rom s.outside.device goes x0 x3 x4 x5 x6 x7 x8 x9 zero rest x.kept b.csrs (place_of v) (innermost_level (marks vs)) x.ram s.outside.clic x2 v.ra v.a0 v.a1 (cause_of x v) v.pc refl is_sp (omega arith) (omega arith) fr.ra fr.a0 fr.a1 refl fr.pc fr.enabled fr.level calm false) refl refl is_top soft over in
      let walk : table_address s.table t.id ≢ 0 → walked m 5 b ≡ record { told = five_told; state = mid (arrived m s x v vs b.registers) x vs t } =
      raw.five m x.rom s.outside.device goes x0 x3 x4 x5 x6 x7 x8 x9 zero rest x.kept b.csrs (place_of v) (innermost_level (marks vs)) x.ram s.outside.clic x2 v.ra v.a0 v.a1 (cause_of x v) v.pc refl is_sp (omega arith) (omega arith) fr.ra fr.a0 fr.a1 refl fr.pc fr.enabled fr.level calm
      x1 x10 x11 x2 s.scratch t has finds (not_due _ _ (λ u e. claimed_level s.outside.clic t u is_top e)) in
      record {
        told =
            ⊎_elim
            (λ (none : table_address s.table t.id ≡ 0). ap (λ w. w.told)
            (raw.five_zero m x.rom s.outside.device goes x0 x3 x4 x5 x6 x7 x8 x9 zero rest x.kept b.csrs (place_of v) (innermost_level (marks vs)) x.ram s.outside.clic x2 v.ra v.a0 v.a1 (cause_of x v) v.pc refl is_sp (omega arith) (omega arith) fr.ra fr.a0 fr.a1 refl fr.pc fr.enabled fr.level calm
            x1 x10 x11 x2 s.scratch t has finds (not_due _ _ (λ u e. claimed_level s.outside.clic t u is_top e)) none))
            (λ (some : table_address s.table t.id ≢ 0). ap (λ w. w.told) (walk some))
            (cases_eq (table_address s.table t.id) 0);
        walk = walk;
      })

  five_at : (l : List ℕ) → Related m Looping (arrived m s x v vs l) x → m.halted s.outside.device ≡ None → is_enter_due (arrived m s x v vs l) (top s.outside.clic) ≡ false → top s.outside.clic ≡ Some t → t.shv ≡ false → is_above t (innermost_level (marks vs)) s.threshold ≡ true → Fives l
  five_at l r goes e is_top soft over =
      let b = r.serves.range.board in
      five (fetches Looping x.rom r.stands.code r.stands.bytes) goes is_top soft over r.stands.frames.0 (calm_of m s x v vs l e) l (omega (arith, b.registers.count)) b.registers.zero (sp_is m s x v vs l r)

  -- ---- the two words after it
  abbrev after_leave : List ℕ → Servicing
  after_leave l = left_form (arrived m s x v vs l) v vs

  -- the end, but for sp and mscratch
  abbrev ends : List ℕ → ℕ → ℕ → ℕ → State
  ends l w sp scratch =
      let b : State = mid (with_registers (with_register (with_register (with_register l 1 back) 2 sp) 11 w)) x vs t in
      record b { pc = even w; csrs = record b.csrs { mscratch = scratch } }

  two : (w : ℕ) → Fetches Looping x.rom → m.halted s.outside.device ≡ None → top s.outside.clic ≡ Some t → table_address s.table t.id % 4 ≡ 0 → loaded (record { rom = x.rom; ram = x.ram }) (table_address s.table t.id) 4 ≡ Some w → w < 2 ^ 32
      → (l : List ℕ) → 12 ≤ length l → register l 0 ≡ 0 → walked m 2 (mid (with_registers l) x vs t) ≡ record { told = two_told; state = ends l w (register l 2) s.scratch }
  two w has goes is_top even_slot reads small =
      twelve (λ l. register l 0 ≡ 0 → walked m 2 (mid (with_registers l) x vs t) ≡ record { told = two_told; state = ends l w (register l 2) s.scratch })
      (λ x0 x1 x2 x3 x4 x5 x6 x7 x8 x9 x10 x11 rest zero.
      raw.last_two m x.rom s.outside.device goes x0 x3 x4 x5 x6 x7 x8 x9 zero rest x.kept Looping has x1 x2 (table_address s.table t.id) x11 w (mid s x vs t).csrs x.ram (claimed s.outside.clic t.id) (not_due _ _ (λ u e. claimed_level s.outside.clic t u is_top e)) (omega arith) even_slot reads small)

  -- it is the state after both moves
  both : (w : ℕ) (l : List ℕ) → 12 ≤ length l → register l 2 ≡ RAM_BASE + place_of v → v.mark.frame + 32 ≤ RAM_BASE + BANK_LEN → RAM_BASE ≤ v.mark.frame → table_word s.memory (table_address s.table t.id) ≡ w → ends l w (register l 2) s.scratch ≡ board_of (entered (after_leave l) t) (rest_fused x vs t)
  unfolding entered enter_registers leave_registers marks
  both w =
      twelve (λ l. register l 2 ≡ RAM_BASE + place_of v → v.mark.frame + 32 ≤ RAM_BASE + BANK_LEN → RAM_BASE ≤ v.mark.frame → table_word s.memory (table_address s.table t.id) ≡ w → ends l w (register l 2) s.scratch ≡ board_of (entered (after_leave l) t) (rest_fused x vs t))
      (λ x0 x1 x2 x3 x4 x5 x6 x7 x8 x9 x10 x11 rest is_sp room low is_word.
      let raised : ℕ = word (x2 + 32) in
      let at_frame : word (raised + 0xFFFFFFE0) ≡ x2 = omega arith in
      let frame : x2 ≡ word (pointer_by (marks vs) (pointer_by (marks vs) raised s.scratch) (scratch_after (marks vs) raised s.scratch) + 0xFFFFFFE0) = sym at_frame ∙ ap (λ p. word (p + 0xFFFFFFE0)) (sym (pointer_again vs raised s.scratch)) in
      ap₂ (ends (x0 ∷ x1 ∷ x2 ∷ x3 ∷ x4 ∷ x5 ∷ x6 ∷ x7 ∷ x8 ∷ x9 ∷ x10 ∷ x11 ∷ rest) w) frame (sym (scratch_again vs raised s.scratch))
      ∙ ap (λ w. ends (x0 ∷ x1 ∷ x2 ∷ x3 ∷ x4 ∷ x5 ∷ x6 ∷ x7 ∷ x8 ∷ x9 ∷ x10 ∷ x11 ∷ rest) w (new_frame (after_leave (x0 ∷ x1 ∷ x2 ∷ x3 ∷ x4 ∷ x5 ∷ x6 ∷ x7 ∷ x8 ∷ x9 ∷ x10 ∷ x11 ∷ rest))) (scratch_after (marks vs) (pointer_by (marks vs) raised s.scratch) (scratch_after (marks vs) raised s.scratch))) (sym is_word))

  two_at : (l : List ℕ) → Related m Looping (arrived m s x v vs l) x → m.halted s.outside.device ≡ None → top s.outside.clic ≡ Some t → Untested t (left (arrived m s x v vs l) v vs)
      → walked m 2 (mid (arrived m s x v vs l) x vs t) ≡ record { told = two_told; state = board_of (entered (left (arrived m s x v vs l) v vs) t) (rest_fused x vs t) }
  two_at l r goes is_top none =
      let is = left_is (arrived m s x v vs l) v vs in
      let u = after_leave l in
      let e = may_enter (marks u.live) u.dead t.shv u.vector (new_frame u) (table_address u.table t.id) (subst (Untested t) is none) in
      let b = r.serves.range.board in
      let fr = r.stands.frames.0 in
      let at : ℕ = table_address s.table t.id in
      let w : ℕ = table_word s.memory at in
      let even_slot : at % 4 ≡ 0 = omega (arith, b.csrs.mtvt.0) in
      let long : 12 ≤ length l = omega (arith, b.registers.count) in
      two w (fetches Looping x.rom r.stands.code r.stands.bytes) goes is_top even_slot
      (table_reads s.memory x.rom x.ram s.dead at r.stands.rom (λ j low high alive. r.stands.ram.at j alive) e.seen e.held)
      (table_small s.memory at b.memory) l long b.registers.zero
      ∙ ap (λ q. record { told = two_told; state = q }) (both w l long (sp_is m s x v vs l r) fr.high fr.low refl)
      ∙ ap (λ q. record { told = two_told; state = board_of (entered q t) (rest_fused x vs t) }) (sym is)

-- ---- the same from a state whose handler has arrived
module _ (m : Meanings) (s : Servicing) (x : Rest) (v : Live) (vs : List Live) (t : Choice) (r : Related m Looping s x) (goes : m.halted s.outside.device ≡ None) (live : s.live ≡ v ∷ vs) (at : s.pc ≡ back) (is_top : top s.outside.clic ≡ Some t) where
  pub five_runs : is_enter_due s (top s.outside.clic) ≡ false → t.shv ≡ false → is_above t (innermost_level (marks vs)) s.threshold ≡ true → RunsFive m s x vs t
  five_runs no_enter soft over =
      subst (λ u. Related m Looping u x → is_enter_due u (top s.outside.clic) ≡ false → RunsFive m u x vs t) (sym (arrives s v vs live at r.serves.ons))
      (λ q e. five_at m s x v vs t s.registers q goes e is_top soft over)
      r no_enter

  pub two_runs : Untested t (left s v vs) → walked m 2 (mid s x vs t) ≡ record { told = two_told; state = board_of (entered (left s v vs) t) (rest_fused x vs t) }
  two_runs none =
      subst (λ u. Related m Looping u x → Untested t (left u v vs) → walked m 2 (mid u x vs t) ≡ record { told = two_told; state = board_of (entered (left u v vs) t) (rest_fused x vs t) }) (sym (arrives s v vs live at r.serves.ons))
      (λ q e. two_at m s x v vs t s.registers q goes is_top e)
      r none
