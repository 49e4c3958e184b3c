-- The steps of a Leave, and of a Leave after which another input is claimed.
use Rattle.std.proofs.Common.{◌≡◌, ◌≢◌, ℕ, ◌+◌, ◌*◌, ◌%◌, ◌^◌, ◌<◌, ◌≤◌, ◌==◌, Bool, true, false, List, [], ◌∷◌, Some, None, refl, ap₂, ◌∙◌, arith}
use Rattle.std.proofs.lemmas.Bool.{and_right}
use Rattle.std.proofs.lemmas.Bool.Decides.{nat_tests}
use Rattle.hart_words.specs.Bits.{bits}
use Rattle.hart_words.specs.TwosComplement.{word}
use Rattle.device_model.specs.Meanings.{Meanings}
use Rattle.hart_exec.specs.Effect.{even}
use Rattle.hart_memory.specs.Bytes.{number_at}
use Rattle.hart_memory.specs.Access.{loaded}
use Rattle.hart_memory.specs.declared.address_map.TheConstants.{RAM_BASE, BANK_LEN}
use Rattle.csr_file.specs.CsrState.{CsrState}
use Rattle.csr_file.specs.Views.{with_mcause, is_set, with_low_bits_clear}
use Rattle.clic_regs.specs.ClicState.{ClicState}
use Rattle.clic_regs.specs.LineChange.{claimed}
use Rattle.clic_select.specs.Top.{top}
use Rattle.clic_select.specs.declared.choice.Choice.{Choice}
use Rattle.clic_trap.specs.Due.{due, has_top_above}
use Rattle.clic_trap.specs.Swap.{swapped}
use Rattle.clic_trap.specs.NextInterrupt.{found}
use Rattle.hart_board.specs.State.{State, Moment}
use Rattle.hart_board.specs.Step.{step}
use Rattle.hart_report.specs.declared.stepped.Stepped.{Stepped}
use Rattle.hart_report.specs.declared.stepped.Stepped.TheVariants.{Retired}
use Rattle.chain_moves.specs.Words.{dispatch_word}
use Rattle.chain_moves.specs.declared.dispatcher.Dispatcher.{Dispatcher}
use Rattle.chain_moves.specs.declared.dispatcher.Dispatcher.TheVariants.{Looping, Returning}
use Rattle.chain_core.specs.Walk.{walked}
use Rattle.chain_moves.proofs.Decoding.{Fetches}
use Rattle.chain_moves.proofs.Decoding as spells
use Rattle.chain_core.proofs.OneStep.{runs, go_on, stop, and_then, masked, lw_is, lw_ram, addi_is, bne_is, jalr_is, write_cause_is, write_epc_is, disable_is, swap_is, claim_is, mret_is}

module _ (m : Meanings) (rom : List ℕ) (device : List ℕ) (goes : m.halted device ≡ None) (x0 x3 x4 x5 x6 x7 x8 x9 : ℕ) (zero : x0 ≡ 0) (rest : List ℕ) (kept : List Moment) where
  -- the board while dispatch code runs
  abbrev pub at : (ra sp a0 a1 pc : ℕ) → CsrState → List ℕ → ClicState → State
  at ra sp a0 a1 pc c ram clic = record { registers = x0 ∷ ra ∷ sp ∷ x3 ∷ x4 ∷ x5 ∷ x6 ∷ x7 ∷ x8 ∷ x9 ∷ a0 ∷ a1 ∷ rest; pc = pc; csrs = c; memory = record { rom = rom; ram = ram }; outside = record { clic = clic; device = device }; kept = kept }

  -- a word of the dispatcher retired
  abbrev pub retired : Dispatcher → ℕ → Stepped
  retired d i = Retired (0x40 + 4 * i) (dispatch_word d i) 4

  -- the last two words of an Enter, from 0x6C on
  module _ (d : Dispatcher) (has : Fetches d rom) (ra sp slot a1 w : ℕ) (c : CsrState) (ram : List ℕ) (clic : ClicState) (calm : due c (top clic) ≡ false) (is_word : slot < 2 ^ 32) (aligned : slot % 4 ≡ 0) (reads : loaded (record { rom = rom; ram = ram }) slot 4 ≡ Some w) (small : w < 2 ^ 32) where
    e11 : step m (at ra sp slot a1 108 c ram clic) ≡ record { told = retired d 11; state = at ra sp slot w 112 c ram clic }
    e11 =
        let v : word (slot + 0) ≡ slot = omega arith in
        runs m (at ra sp slot a1 108 c ram clic) _ _ _ goes calm (has ram 11 (omega arith)) spells.load_target (lw_is m (at ra sp slot a1 108 c ram clic) 11 10 0 _ slot w v aligned reads)

    e12 : step m (at ra sp slot w 112 c ram clic) ≡ record { told = retired d 12; state = at 116 sp slot w (even w) c ram clic }
    e12 =
        let v : even (word (w + 0)) ≡ even w = omega arith in
        runs m (at ra sp slot w 112 c ram clic) _ _ _ goes calm (has ram 12 (omega arith)) spells.call (jalr_is m (at ra sp slot w 112 c ram clic) 1 11 0 _ (even w) v)

    pub last_two : walked m 2 (at ra sp slot a1 108 c ram clic) ≡ record { told = retired d 11 ∷ retired d 12 ∷ []; state = at 116 sp slot w (even w) c ram clic }
    last_two = go_on m _ _ _ _ _ e11 (go_on m _ _ _ _ _ e12 (stop m _))

  -- the fields and the frame's words as a handler returns
  module _ (cA : CsrState) (f outer : ℕ) (ram : List ℕ) (clic : ClicState) (sp vra va0 va1 cause vpc : ℕ) (mie : cA.mie ≡ true) (is_sp : sp ≡ RAM_BASE + f) (room : f + 32 ≤ BANK_LEN) (aligned : f % 4 ≡ 0) (is_ra : number_at ram f 4 ≡ vra) (is_a0 : number_at ram (f + 4) 4 ≡ va0) (is_a1 : number_at ram (f + 8) 4 ≡ va1) (is_cause : number_at ram (f + 12) 4 ≡ cause) (is_pc : number_at ram (f + 16) 4 ≡ vpc) (was_on : is_set cause 27 ≡ true) (was_level : bits cause 16 8 ≡ outer) (calm : has_top_above (top clic) cA.mil cA.th ≡ false) where
    abbrev pub cB : CsrState
    cB = record cA { mie = false }

    -- with the saved mcause
    abbrev pub cC : Bool → CsrState
    cC b = record cA { mie = b; mpie = true; interrupt = is_set cause 31; mpil = outer; exccode = bits cause 0 12 }

    abbrev pub cD : CsrState
    cD = record (cC false) { mepc = vpc }

    in_frame : (k : ℕ) → k < 32 → word (sp + k) ≡ RAM_BASE + (f + k)
    in_frame k h = omega arith

    quiet_with : (b : Bool) → due (cC b) (top clic) ≡ false
    unfolding due
    quiet_with b = and_right b (has_top_above (top clic) cA.mil cA.th) calm

    quiet_first : due cA (top clic) ≡ false
    unfolding due
    quiet_first = and_right cA.mie (has_top_above (top clic) cA.mil cA.th) calm

    cause_back : (c : CsrState) → with_mcause c cause ≡ record c { interrupt = is_set cause 31; mpie = true; mpil = outer; exccode = bits cause 0 12 }
    cause_back c = ap₂ (λ p l. record c { interrupt = is_set cause 31; mpie = p; mpil = l; exccode = bits cause 0 12 }) was_on was_level

    module _ (d : Dispatcher) (has : Fetches d rom) (ra : ℕ) where
      l0 : (a0 a1 : ℕ) → step m (at ra sp a0 a1 116 cA ram clic) ≡ record { told = retired d 13; state = at ra sp a0 a1 120 cB ram clic }
      l0 a0 a1 = runs m (at ra sp a0 a1 116 cA ram clic) _ _ _ goes (quiet_first) (has ram 13 (omega arith)) spells.disable (disable_is m (at ra sp a0 a1 116 cA ram clic) _)

      l1 : (a0 a1 : ℕ) → step m (at ra sp a0 a1 120 cB ram clic) ≡ record { told = retired d 14; state = at ra sp cause a1 124 cB ram clic }
      l1 a0 a1 = runs m (at ra sp a0 a1 120 cB ram clic) _ _ _ goes (masked cB _ refl) (has ram 14 (omega arith)) spells.load_cause (lw_ram m (at ra sp a0 a1 120 cB ram clic) 10 2 12 _ (f + 12) cause (in_frame 12 (omega arith)) (omega arith) (omega arith) is_cause)

      l2 : (a1 : ℕ) → step m (at ra sp cause a1 124 cB ram clic) ≡ record { told = retired d 15; state = at ra sp cause a1 128 (cC false) ram clic }
      l2 a1 = runs m (at ra sp cause a1 124 cB ram clic) _ _ _ goes (masked cB _ refl) (has ram 15 (omega arith)) spells.write_cause (write_cause_is m (at ra sp cause a1 124 cB ram clic) 10 _ (cC false) (cause_back cB))

      pub first_three : (a0 a1 : ℕ) → walked m 3 (at ra sp a0 a1 116 cA ram clic) ≡ record { told = retired d 13 ∷ retired d 14 ∷ retired d 15 ∷ []; state = at ra sp cause a1 128 (cC false) ram clic }
      first_three a0 a1 = go_on m _ _ _ _ _ (l0 a0 a1) (go_on m _ _ _ _ _ (l1 a0 a1) (go_on m _ _ _ _ _ (l2 a1) (stop m _)))

      -- from 0x88 on, whatever MIE and a0 are
      l5 : (b : Bool) (a a1 : ℕ) → step m (at ra sp a a1 136 (cC b) ram clic) ≡ record { told = retired d 18; state = at ra sp a a1 140 (cC false) ram clic }
      l5 b a a1 = runs m (at ra sp a a1 136 (cC b) ram clic) _ _ _ goes (quiet_with b) (has ram 18 (omega arith)) spells.disable (disable_is m (at ra sp a a1 136 (cC b) ram clic) _)

      l6 : (a a1 : ℕ) → step m (at ra sp a a1 140 (cC false) ram clic) ≡ record { told = retired d 19; state = at ra sp vpc a1 144 (cC false) ram clic }
      l6 a a1 = runs m (at ra sp a a1 140 (cC false) ram clic) _ _ _ goes (masked (cC false) _ refl) (has ram 19 (omega arith)) spells.load_epc (lw_ram m (at ra sp a a1 140 (cC false) ram clic) 10 2 16 _ (f + 16) vpc (in_frame 16 (omega arith)) (omega arith) (omega arith) is_pc)

      module _ (epc : with_low_bits_clear vpc 1 ≡ vpc) (a1 : ℕ) where
        l7 : step m (at ra sp vpc a1 144 (cC false) ram clic) ≡ record { told = retired d 20; state = at ra sp vpc a1 148 cD ram clic }
        l7 = runs m (at ra sp vpc a1 144 (cC false) ram clic) _ _ _ goes (masked (cC false) _ refl) (has ram 20 (omega arith)) spells.write_epc (write_epc_is m (at ra sp vpc a1 144 (cC false) ram clic) 10 _ vpc epc)

        l8 : step m (at ra sp vpc a1 148 cD ram clic) ≡ record { told = retired d 21; state = at ra sp cause a1 152 cD ram clic }
        l8 = runs m (at ra sp vpc a1 148 cD ram clic) _ _ _ goes (masked cD _ refl) (has ram 21 (omega arith)) spells.load_cause (lw_ram m (at ra sp vpc a1 148 cD ram clic) 10 2 12 _ (f + 12) cause (in_frame 12 (omega arith)) (omega arith) (omega arith) is_cause)

        l9 : step m (at ra sp cause a1 152 cD ram clic) ≡ record { told = retired d 22; state = at ra sp cause a1 156 cD ram clic }
        l9 = runs m (at ra sp cause a1 152 cD ram clic) _ _ _ goes (masked cD _ refl) (has ram 22 (omega arith)) spells.write_cause (write_cause_is m (at ra sp cause a1 152 cD ram clic) 10 _ cD (cause_back cD))

        l10 : step m (at ra sp cause a1 156 cD ram clic) ≡ record { told = retired d 23; state = at vra sp cause a1 160 cD ram clic }
        l10 = runs m (at ra sp cause a1 156 cD ram clic) _ _ _ goes (masked cD _ refl) (has ram 23 (omega arith)) spells.load_ra (lw_ram m (at ra sp cause a1 156 cD ram clic) 1 2 0 _ f vra (in_frame 0 (omega arith) ∙ omega arith) aligned (omega arith) is_ra)

        l11 : step m (at vra sp cause a1 160 cD ram clic) ≡ record { told = retired d 24; state = at vra sp va0 a1 164 cD ram clic }
        l11 = runs m (at vra sp cause a1 160 cD ram clic) _ _ _ goes (masked cD _ refl) (has ram 24 (omega arith)) spells.load_a0 (lw_ram m (at vra sp cause a1 160 cD ram clic) 10 2 4 _ (f + 4) va0 (in_frame 4 (omega arith)) (omega arith) (omega arith) is_a0)

        l12 : step m (at vra sp va0 a1 164 cD ram clic) ≡ record { told = retired d 25; state = at vra sp va0 va1 168 cD ram clic }
        l12 = runs m (at vra sp va0 a1 164 cD ram clic) _ _ _ goes (masked cD _ refl) (has ram 25 (omega arith)) spells.load_a1 (lw_ram m (at vra sp va0 a1 164 cD ram clic) 11 2 8 _ (f + 8) va1 (in_frame 8 (omega arith)) (omega arith) (omega arith) is_a1)

        l13 : step m (at vra sp va0 va1 168 cD ram clic) ≡ record { told = retired d 26; state = at vra (word (sp + 32)) va0 va1 172 cD ram clic }
        l13 = runs m (at vra sp va0 va1 168 cD ram clic) _ _ _ goes (masked cD _ refl) (has ram 26 (omega arith)) spells.raise_sp (addi_is m (at vra sp va0 va1 168 cD ram clic) 2 2 32 _)

        -- the stack is handed back, or not
        module _ (p q : ℕ) (exchange : swapped true cD (word (sp + 32)) ≡ record { answer = p; csrs = record cD { mscratch = q } }) where
          abbrev pub cE : CsrState
          cE = record cD { mscratch = q }

          abbrev pub cF : CsrState
          cF = record cE { mie = true; mil = outer }

          l14 : step m (at vra (word (sp + 32)) va0 va1 172 cD ram clic) ≡ record { told = retired d 27; state = at vra p va0 va1 176 cE ram clic }
          l14 = runs m (at vra (word (sp + 32)) va0 va1 172 cD ram clic) _ _ _ goes (masked cD _ refl) (has ram 27 (omega arith)) spells.swap_sp (swap_is m (at vra (word (sp + 32)) va0 va1 172 cD ram clic) _ p cE exchange)

          l15 : step m (at vra p va0 va1 176 cE ram clic) ≡ record { told = retired d 28; state = at vra p va0 va1 vpc cF ram clic }
          l15 = runs m (at vra p va0 va1 176 cE ram clic) _ _ _ goes (masked cE _ refl) (has ram 28 (omega arith)) spells.return (mret_is m (at vra p va0 va1 176 cE ram clic) _)

          pub last_eleven : (b : Bool) (a : ℕ) → walked m 11 (at ra sp a a1 136 (cC b) ram clic)
              ≡ record { told = retired d 18 ∷ retired d 19 ∷ retired d 20 ∷ retired d 21 ∷ retired d 22 ∷ retired d 23 ∷ retired d 24 ∷ retired d 25 ∷ retired d 26 ∷ retired d 27 ∷ retired d 28 ∷ []; state = at vra p va0 va1 vpc cF ram clic }
          last_eleven b a =
              go_on m _ _ _ _ _ (l5 b a a1) (go_on m _ _ _ _ _ (l6 a a1) (go_on m _ _ _ _ _ l7 (go_on m _ _ _ _ _ l8 (go_on m _ _ _ _ _ l9 (go_on m _ _ _ _ _ l10 (go_on m _ _ _ _ _ l11 (go_on m _ _ _ _ _ l12 (go_on m _ _ _ _ _ l13 (go_on m _ _ _ _ _ l14 (go_on m _ _ _ _ _ l15 (stop m _)))))))))))

    -- ---- the two words that differ
    module _ (ra a1 : ℕ) where
      pub nops : Fetches Returning rom → walked m 2 (at ra sp cause a1 128 (cC false) ram clic) ≡ record { told = retired Returning 16 ∷ retired Returning 17 ∷ []; state = at ra sp cause a1 136 (cC false) ram clic }
      nops has =
          go_on m _ _ (at ra sp cause a1 132 (cC false) ram clic) _ _ (runs m (at ra sp cause a1 128 (cC false) ram clic) _ _ _ goes (masked (cC false) _ refl) (has ram 16 (omega arith)) spells.nop (addi_is m (at ra sp cause a1 128 (cC false) ram clic) 0 0 0 _))
          (go_on m _ _ (at ra sp cause a1 136 (cC false) ram clic) _ _ (runs m (at ra sp cause a1 132 (cC false) ram clic) _ _ _ goes (masked (cC false) _ refl) (has ram 17 (omega arith)) spells.nop (addi_is m (at ra sp cause a1 132 (cC false) ram clic) 0 0 0 _)) (stop m _))

      -- the claim finds none
      pub no_claim : Fetches Looping rom → found (top clic) (cC false) ≡ None → walked m 2 (at ra sp cause a1 128 (cC false) ram clic) ≡ record { told = retired Looping 16 ∷ retired Looping 17 ∷ []; state = at ra sp 0 a1 136 (cC true) ram clic }
      no_claim has e =
          let z : (0 == x0) ≡ true = grind (arith, nat_tests) in
          go_on m _ _ (at ra sp 0 a1 132 (cC true) ram clic) _ _ (runs m (at ra sp cause a1 128 (cC false) ram clic) _ _ _ goes (masked (cC false) _ refl) (has ram 16 (omega arith)) spells.claim (claim_is m (at ra sp cause a1 128 (cC false) ram clic) 10 _ None e))
          (go_on m _ _ (at ra sp 0 a1 136 (cC true) ram clic) _ _ (runs m (at ra sp 0 a1 132 (cC true) ram clic) _ _ _ goes (quiet_with true) (has ram 17 (omega arith)) spells.one_claimed (bne_is m (at ra sp 0 a1 132 (cC true) ram clic) 10 0 0xFFFFFFE8 _ true z)) (stop m _))

      -- the claim finds an input
      module _ (t : Choice) (has : Fetches Looping rom) (finds : found (top clic) (cC false) ≡ Some t) where
        abbrev pub slot : ℕ
        slot = word (cA.mtvt + 4 * t.id)

        abbrev pub cG : CsrState
        cG = record (cC true) { mil = t.level; exccode = t.id; interrupt = true }

        module _ (calm' : due cG (top (claimed clic t.id)) ≡ false) where
          g3 : step m (at ra sp cause a1 128 (cC false) ram clic) ≡ record { told = retired Looping 16; state = at ra sp slot a1 132 cG ram (claimed clic t.id) }
          g3 = runs m (at ra sp cause a1 128 (cC false) ram clic) _ _ _ goes (masked (cC false) _ refl) (has ram 16 (omega arith)) spells.claim (claim_is m (at ra sp cause a1 128 (cC false) ram clic) 10 _ (Some t) finds)

          -- and the code goes back to 0x6C
          pub one_claim : slot ≢ 0 → walked m 2 (at ra sp cause a1 128 (cC false) ram clic) ≡ record { told = retired Looping 16 ∷ retired Looping 17 ∷ []; state = at ra sp slot a1 108 cG ram (claimed clic t.id) }
          one_claim nonzero =
              let z : (slot == x0) ≡ false = grind (arith, nat_tests) in
              go_on m _ _ (at ra sp slot a1 132 cG ram (claimed clic t.id)) _ _ g3
              (go_on m _ _ (at ra sp slot a1 108 cG ram (claimed clic t.id)) _ _ (runs m (at ra sp slot a1 132 cG ram (claimed clic t.id)) _ _ _ goes calm' (has ram 17 (omega arith)) spells.one_claimed (bne_is m (at ra sp slot a1 132 cG ram (claimed clic t.id)) 10 0 0xFFFFFFE8 _ false z)) (stop m _))

          -- where the table word's address is 0 it goes on as if none were claimed
          pub zero_claim : slot ≡ 0 → walked m 2 (at ra sp cause a1 128 (cC false) ram clic) ≡ record { told = retired Looping 16 ∷ retired Looping 17 ∷ []; state = at ra sp slot a1 136 cG ram (claimed clic t.id) }
          zero_claim none =
              let z : (slot == x0) ≡ true = grind (arith, nat_tests) in
              go_on m _ _ (at ra sp slot a1 132 cG ram (claimed clic t.id)) _ _ g3
              (go_on m _ _ (at ra sp slot a1 136 cG ram (claimed clic t.id)) _ _ (runs m (at ra sp slot a1 132 cG ram (claimed clic t.id)) _ _ _ goes calm' (has ram 17 (omega arith)) spells.one_claimed (bne_is m (at ra sp slot a1 132 cG ram (claimed clic t.id)) 10 0 0xFFFFFFE8 _ true z)) (stop m _))

    -- ---- the whole
    module _ (ra a0 a1 p q : ℕ) where
      -- what becomes of the steps of a Leave
      abbrev pub leave_told : Dispatcher → List Stepped
      leave_told d = retired d 13 ∷ retired d 14 ∷ retired d 15 ∷ retired d 16 ∷ retired d 17 ∷ retired d 18 ∷ retired d 19 ∷ retired d 20 ∷ retired d 21 ∷ retired d 22 ∷ retired d 23 ∷ retired d 24 ∷ retired d 25 ∷ retired d 26 ∷ retired d 27 ∷ retired d 28 ∷ []

      abbrev pub after : State
      after = at vra p va0 va1 vpc (record cD { mscratch = q; mie = true; mil = outer }) ram clic

      pub sixteen_returning : Fetches Returning rom → with_low_bits_clear vpc 1 ≡ vpc → swapped true cD (word (sp + 32)) ≡ record { answer = p; csrs = record cD { mscratch = q } } → walked m 16 (at ra sp a0 a1 116 cA ram clic) ≡ record { told = leave_told Returning; state = after }
      sixteen_returning has epc exchange = and_then m 3 13 _ _ _ (first_three Returning has ra a0 a1) (and_then m 2 11 _ _ _ (nops ra a1 has) (last_eleven Returning has ra epc a1 p q exchange false cause))

      pub sixteen_looping : Fetches Looping rom → found (top clic) (cC false) ≡ None → with_low_bits_clear vpc 1 ≡ vpc → swapped true cD (word (sp + 32)) ≡ record { answer = p; csrs = record cD { mscratch = q } } → walked m 16 (at ra sp a0 a1 116 cA ram clic) ≡ record { told = leave_told Looping; state = after }
      sixteen_looping has none epc exchange = and_then m 3 13 _ _ _ (first_three Looping has ra a0 a1) (and_then m 2 11 _ _ _ (no_claim ra a1 has none) (last_eleven Looping has ra epc a1 p q exchange true 0))

      pub five : (t : Choice) → Fetches Looping rom → found (top clic) (cC false) ≡ Some t → due (record (cC true) { mil = t.level; exccode = t.id; interrupt = true }) (top (claimed clic t.id)) ≡ false → word (cA.mtvt + 4 * t.id) ≢ 0
          → walked m 5 (at ra sp a0 a1 116 cA ram clic) ≡ record { told = retired Looping 13 ∷ retired Looping 14 ∷ retired Looping 15 ∷ retired Looping 16 ∷ retired Looping 17 ∷ []; state = at ra sp (word (cA.mtvt + 4 * t.id)) a1 108 (record (cC true) { mil = t.level; exccode = t.id; interrupt = true }) ram (claimed clic t.id) }
      five t has finds calm' nonzero = and_then m 3 2 _ _ _ (first_three Looping has ra a0 a1) (one_claim ra a1 t has finds calm' nonzero)

      -- where the table word's address is 0 the steps are the same, up to where the code goes then
      pub five_zero : (t : Choice) → Fetches Looping rom → found (top clic) (cC false) ≡ Some t → due (record (cC true) { mil = t.level; exccode = t.id; interrupt = true }) (top (claimed clic t.id)) ≡ false → word (cA.mtvt + 4 * t.id) ≡ 0
          → walked m 5 (at ra sp a0 a1 116 cA ram clic) ≡ record { told = retired Looping 13 ∷ retired Looping 14 ∷ retired Looping 15 ∷ retired Looping 16 ∷ retired Looping 17 ∷ []; state = at ra sp (word (cA.mtvt + 4 * t.id)) a1 136 (record (cC true) { mil = t.level; exccode = t.id; interrupt = true }) ram (claimed clic t.id) }
      five_zero t has finds calm' none = and_then m 3 2 _ _ _ (first_three Looping has ra a0 a1) (zero_claim ra a1 t has finds calm' none)
