-- The steps of an Enter, from the interrupt to the call of the handler.
use Rattle.std.proofs.Common.{◌≡◌, ◌≢◌, ℕ, ◌+◌, ◌*◌, ◌%◌, ◌^◌, ◌<◌, ◌≤◌, ◌==◌, true, false, List, [], ◌∷◌, Some, None, refl, ap, ap₂, ◌∙◌, arith}
use Rattle.std.proofs.lemmas.Bool.Decides.{nat_tests}
use Rattle.hart_words.specs.TwosComplement.{word}
use Rattle.device_model.specs.Meanings.{Meanings}
use Rattle.hart_exec.specs.Effect.{even}
use Rattle.hart_memory.specs.Bytes.{with_number}
use Rattle.hart_memory.specs.Access.{loaded}
use Rattle.hart_memory.specs.declared.address_map.TheConstants.{RAM_BASE, BANK_LEN}
use Rattle.csr_file.specs.CsrState.{CsrState}
use Rattle.csr_file.specs.Views.{mcause}
use Rattle.clic_regs.specs.ClicState.{ClicState}
use Rattle.clic_regs.specs.LineChange.{claimed}
use Rattle.clic_select.specs.Top.{top}
use Rattle.clic_select.specs.declared.choice.Choice.{Choice}
use Rattle.clic_trap.specs.Due.{due, is_above}
use Rattle.clic_trap.specs.Entry.{interrupted}
use Rattle.clic_trap.specs.Swap.{swapped}
use Rattle.clic_trap.specs.NextInterrupt.{found, found_by}
use Rattle.hart_board.specs.State.{State, Moment}
use Rattle.hart_board.specs.Step.{step}
use Rattle.hart_report.specs.declared.stepped.Stepped.{Stepped}
use Rattle.hart_report.specs.declared.stepped.Stepped.TheVariants.{Retired, Interrupted}
use Rattle.chain_moves.specs.Words.{dispatch_word}
use Rattle.chain_moves.specs.declared.dispatcher.Dispatcher.{Dispatcher}
use Rattle.chain_core.specs.Walk.{walked}
use Rattle.chain_moves.proofs.Decoding.{Fetches}
use Rattle.chain_moves.proofs.Decoding as spells
use Rattle.chain_core.proofs.OneStep.{runs, go_on, stop, masked, enters_is, sw_is, lw_is, addi_is, beq_is, jalr_is, read_cause_is, read_epc_is, swap_is, claim_is}

module _ (m : Meanings) (d : Dispatcher) (rom : List ℕ) (has : Fetches d rom) (device : List ℕ) (goes : m.halted device ≡ None) (x0 x3 x4 x5 x6 x7 x8 x9 : ℕ) (zero : x0 ≡ 0) (rest : List ℕ) (kept : List Moment) where
  -- the board while dispatch code runs
  abbrev pub at : (ra sp a0 a1 pc : ℕ) → CsrState → List ℕ → ClicState → State
  at ra sp a0 a1 pc c ram clic = record { registers = x0 ∷ ra ∷ sp ∷ x3 ∷ x4 ∷ x5 ∷ x6 ∷ x7 ∷ x8 ∷ x9 ∷ a0 ∷ a1 ∷ rest; pc = pc; csrs = c; memory = record { rom = rom; ram = ram }; outside = record { clic = clic; device = device }; kept = kept }

  -- a word of the dispatcher retired
  abbrev pub retired : ℕ → Stepped
  retired i = Retired (0x40 + 4 * i) (dispatch_word d i) 4

  module _ (ra sp a0 a1 pc p q f : ℕ) (c0 : CsrState) (t : Choice) (ram : List ℕ) (clic : ClicState) where
    -- the fields after the interrupt, after the exchange, and after the claim
    abbrev pub c1 : CsrState
    c1 = record (interrupted c0 t pc) { mpie = true }

    abbrev pub c2 : CsrState
    c2 = record c1 { mscratch = q }

    abbrev pub c3 : CsrState
    c3 = record c2 { mie = true; mil = t.level; exccode = t.id; interrupt = true }

    abbrev pub sp' : ℕ
    sp' = word (p + 0xFFFFFFE0)

    abbrev pub m1 : List ℕ
    m1 = with_number ram f 4 (word ra)

    abbrev pub m2 : List ℕ
    m2 = with_number m1 (f + 4) 4 (word a0)

    abbrev pub m3 : List ℕ
    m3 = with_number m2 (f + 8) 4 (word a1)

    abbrev pub m4 : List ℕ
    m4 = with_number m3 (f + 12) 4 (word (mcause c2))

    abbrev pub m5 : List ℕ
    m5 = with_number m4 (f + 16) 4 (word pc)

    abbrev pub slot : ℕ
    slot = word (c0.mtvt + 4 * t.id)

    module _ (mie : c0.mie ≡ true) (vector : c0.mtvec_base ≡ 0x40) (exchange : swapped true c1 sp ≡ record { answer = p; csrs = c2 }) (frame : sp' ≡ RAM_BASE + f) (room : f + 32 ≤ BANK_LEN) (aligned : f % 4 ≡ 0) (is_top : top clic ≡ Some t) (soft : t.shv ≡ false) (over : is_above t c0.mil c0.th ≡ true) where
      in_frame : (k : ℕ) → k < 32 → word (sp' + k) ≡ RAM_BASE + (f + k)
      in_frame k h = let e : word (sp' + k) ≡ word (RAM_BASE + f + k) = ap (λ x. word (x + k)) frame in e ∙ omega arith

      s0 : step m (at ra sp a0 a1 pc c0 ram clic) ≡ record { told = Interrupted pc t.id; state = at ra sp a0 a1 64 c1 ram clic }
      s0 = enters_is m (at ra sp a0 a1 pc c0 ram clic) t goes is_top soft mie over ∙ ap₂ (λ v b. record { told = Interrupted pc t.id; state = at ra sp a0 a1 v (record (interrupted c0 t pc) { mpie = b }) ram clic }) vector mie

      s1 : step m (at ra sp a0 a1 64 c1 ram clic) ≡ record { told = retired 0; state = at ra p a0 a1 68 c2 ram clic }
      s1 = runs m (at ra sp a0 a1 64 c1 ram clic) _ _ _ goes (masked c1 _ refl) (has ram 0 (omega arith)) spells.swap_sp (swap_is m (at ra sp a0 a1 64 c1 ram clic) _ p c2 exchange)

      s2 : step m (at ra p a0 a1 68 c2 ram clic) ≡ record { told = retired 1; state = at ra sp' a0 a1 72 c2 ram clic }
      s2 = runs m (at ra p a0 a1 68 c2 ram clic) _ _ _ goes (masked c2 _ refl) (has ram 1 (omega arith)) spells.lower_sp (addi_is m (at ra p a0 a1 68 c2 ram clic) 2 2 0xFFFFFFE0 _)

      s3 : step m (at ra sp' a0 a1 72 c2 ram clic) ≡ record { told = retired 2; state = at ra sp' a0 a1 76 c2 m1 clic }
      s3 = runs m (at ra sp' a0 a1 72 c2 ram clic) _ _ _ goes (masked c2 _ refl) (has ram 2 (omega arith)) spells.save_ra (sw_is m (at ra sp' a0 a1 72 c2 ram clic) 2 1 0 _ f (in_frame 0 (omega arith) ∙ omega arith) aligned (omega arith))

      s4 : step m (at ra sp' a0 a1 76 c2 m1 clic) ≡ record { told = retired 3; state = at ra sp' a0 a1 80 c2 m2 clic }
      s4 = runs m (at ra sp' a0 a1 76 c2 m1 clic) _ _ _ goes (masked c2 _ refl) (has m1 3 (omega arith)) spells.save_a0 (sw_is m (at ra sp' a0 a1 76 c2 m1 clic) 2 10 4 _ (f + 4) (in_frame 4 (omega arith)) (omega arith) (omega arith))

      s5 : step m (at ra sp' a0 a1 80 c2 m2 clic) ≡ record { told = retired 4; state = at ra sp' a0 a1 84 c2 m3 clic }
      s5 = runs m (at ra sp' a0 a1 80 c2 m2 clic) _ _ _ goes (masked c2 _ refl) (has m2 4 (omega arith)) spells.save_a1 (sw_is m (at ra sp' a0 a1 80 c2 m2 clic) 2 11 8 _ (f + 8) (in_frame 8 (omega arith)) (omega arith) (omega arith))

      s6 : step m (at ra sp' a0 a1 84 c2 m3 clic) ≡ record { told = retired 5; state = at ra sp' (mcause c2) a1 88 c2 m3 clic }
      s6 = runs m (at ra sp' a0 a1 84 c2 m3 clic) _ _ _ goes (masked c2 _ refl) (has m3 5 (omega arith)) spells.read_cause (read_cause_is m (at ra sp' a0 a1 84 c2 m3 clic) 10 _)

      s7 : step m (at ra sp' (mcause c2) a1 88 c2 m3 clic) ≡ record { told = retired 6; state = at ra sp' (mcause c2) a1 92 c2 m4 clic }
      s7 = runs m (at ra sp' (mcause c2) a1 88 c2 m3 clic) _ _ _ goes (masked c2 _ refl) (has m3 6 (omega arith)) spells.save_cause (sw_is m (at ra sp' (mcause c2) a1 88 c2 m3 clic) 2 10 12 _ (f + 12) (in_frame 12 (omega arith)) (omega arith) (omega arith))

      s8 : step m (at ra sp' (mcause c2) a1 92 c2 m4 clic) ≡ record { told = retired 7; state = at ra sp' pc a1 96 c2 m4 clic }
      s8 = runs m (at ra sp' (mcause c2) a1 92 c2 m4 clic) _ _ _ goes (masked c2 _ refl) (has m4 7 (omega arith)) spells.read_epc (read_epc_is m (at ra sp' (mcause c2) a1 92 c2 m4 clic) 10 _)

      s9 : step m (at ra sp' pc a1 96 c2 m4 clic) ≡ record { told = retired 8; state = at ra sp' pc a1 100 c2 m5 clic }
      s9 = runs m (at ra sp' pc a1 96 c2 m4 clic) _ _ _ goes (masked c2 _ refl) (has m4 8 (omega arith)) spells.save_epc (sw_is m (at ra sp' pc a1 96 c2 m4 clic) 2 10 16 _ (f + 16) (in_frame 16 (omega arith)) (omega arith) (omega arith))

      module _ (w : ℕ) (calm : due c3 (top (claimed clic t.id)) ≡ false) (nonzero : slot ≢ 0) (even_slot : slot % 4 ≡ 0) (reads : loaded (record { rom = rom; ram = m5 }) slot 4 ≡ Some w) where
        abbrev pub after : ClicState
        after = claimed clic t.id

        s10 : step m (at ra sp' pc a1 100 c2 m5 clic) ≡ record { told = retired 9; state = at ra sp' slot a1 104 c3 m5 after }
        s10 =
            let e : found (top clic) c2 ≡ Some t = ap (λ o. found o c2) is_top ∙ ap₂ (λ x y. found_by x y t) over soft in
            runs m (at ra sp' pc a1 100 c2 m5 clic) _ _ _ goes (masked c2 _ refl) (has m5 9 (omega arith)) spells.claim (claim_is m (at ra sp' pc a1 100 c2 m5 clic) 10 _ (Some t) e)

        s11 : step m (at ra sp' slot a1 104 c3 m5 after) ≡ record { told = retired 10; state = at ra sp' slot a1 108 c3 m5 after }
        s11 =
            let e : (slot == x0) ≡ false = grind (arith, nat_tests) in
            runs m (at ra sp' slot a1 104 c3 m5 after) _ _ _ goes calm (has m5 10 (omega arith)) spells.none_claimed (beq_is m (at ra sp' slot a1 104 c3 m5 after) 10 0 32 _ false e)

        s12 : step m (at ra sp' slot a1 108 c3 m5 after) ≡ record { told = retired 11; state = at ra sp' slot w 112 c3 m5 after }
        s12 =
            let v : word (slot + 0) ≡ slot = omega arith in
            runs m (at ra sp' slot a1 108 c3 m5 after) _ _ _ goes calm (has m5 11 (omega arith)) spells.load_target (lw_is m (at ra sp' slot a1 108 c3 m5 after) 11 10 0 _ slot w v even_slot reads)

        s13 : w < 2 ^ 32 → step m (at ra sp' slot w 112 c3 m5 after) ≡ record { told = retired 12; state = at 116 sp' slot w (even w) c3 m5 after }
        s13 l =
            let v : even (word (w + 0)) ≡ even w = omega arith in
            runs m (at ra sp' slot w 112 c3 m5 after) _ _ _ goes calm (has m5 12 (omega arith)) spells.call (jalr_is m (at ra sp' slot w 112 c3 m5 after) 1 11 0 _ (even w) v)

        pub fourteen : w < 2 ^ 32 → walked m 14 (at ra sp a0 a1 pc c0 ram clic)
            ≡ record { told = Interrupted pc t.id ∷ retired 0 ∷ retired 1 ∷ retired 2 ∷ retired 3 ∷ retired 4 ∷ retired 5 ∷ retired 6 ∷ retired 7 ∷ retired 8 ∷ retired 9 ∷ retired 10 ∷ retired 11 ∷ retired 12 ∷ []; state = at 116 sp' slot w (even w) c3 m5 after }
        fourteen l =
            go_on m _ _ _ _ _ s0 (go_on m _ _ _ _ _ s1 (go_on m _ _ _ _ _ s2 (go_on m _ _ _ _ _ s3 (go_on m _ _ _ _ _ s4 (go_on m _ _ _ _ _ s5 (go_on m _ _ _ _ _ s6 (go_on m _ _ _ _ _ s7 (go_on m _ _ _ _ _ s8 (go_on m _ _ _ _ _ s9 (go_on m _ _ _ _ _ s10 (go_on m _ _ _ _ _ s11 (go_on m _ _ _ _ _ s12 (go_on m _ _ _ _ _ (s13 l) (stop m _))))))))))))))
