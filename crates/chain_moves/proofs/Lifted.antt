-- System instructions that the convention permits do the same on the board and in the servicing machine.
use Rattle.std.proofs.Common.{◌≡◌, ℕ, ⊎_elim, Bool, true, false, List, [], ◌∷◌, refl, sym, subst}
use Rattle.std.specs.Prelude.{◌==◌, ◌&&◌, ◌||◌}
use Rattle.std.proofs.lemmas.Bool.{eqb-true, and_parts, or_cases, false≢true}
use Rattle.rv_encoding.specs.declared.instruction.Ins.{Ins}
use Rattle.rv_encoding.specs.declared.instruction.Ins.TheVariants.{Lui, Auipc, Jal, Jalr, Branch, Load, Store, Imm, Reg, Fence, Ecall, Ebreak, Mret, Wfi, Csr}
use Rattle.rv_encoding.specs.declared.operations.CsrOp.{CsrOp}
use Rattle.rv_encoding.specs.declared.operations.CsrOp.TheVariants.{Csrrw, Csrrs, Csrrc, Csrrwi, Csrrsi, Csrrci}
use Rattle.csr_file.specs.CsrState.{CsrState}
use Rattle.csr_file.specs.Table.{read, written}
use Rattle.clic_regs.specs.ClicState.{ClicState}
use Rattle.clic_trap.specs.CsrAccess.{accessed}
use Rattle.clic_trap.specs.CsrInstruction.{csr_instruction}
use Rattle.clic_trap.specs.CsrRequest.{request}
use Rattle.clic_trap.specs.Outcome.{SystemOutcome}
use Rattle.clic_trap.specs.System.{system}
use Rattle.chain_moves.specs.Servicing.{is_foreground}
use Rattle.chain_moves.specs.Convention.{is_permitted, is_permitted_csr}
use Rattle.chain_moves.specs.Beside.{Rest, csrs_by}
use Rattle.chain_moves.specs.declared.mark.Mark.{Mark}

-- an outcome on the board by that of the servicing machine's hart
abbrev pub outcome_with : (CsrState → CsrState) → SystemOutcome → SystemOutcome
outcome_with fields made = record { answer = made.answer; registers = made.registers; csrs = fields made.csrs; clic = made.clic }

-- what an instruction does to the hart it does on the board, whose fields are these of the hart's
abbrev IsLifted : (CsrState → CsrState) → Ins → Type 0
IsLifted fields ins = (r : List ℕ) (c : CsrState) (clic : ClicState) → system ins r (fields c) clic ≡ outcome_with fields (system ins r c clic)

-- and so do all that the foreground may execute, or all that a handler may
abbrev pub AreLifted : Bool → (CsrState → CsrState) → Type 0
AreLifted foreground fields = (ins : Ins) → is_permitted foreground ins ≡ true → IsLifted fields ins

pub foreground : (live : List Mark) → is_foreground live ≡ true → live ≡ []
foreground [] e = refl
foreground (v ∷ vs) e = absurd (false≢true e)

-- the six CSR instructions that the foreground may execute
pub by_permitted : (P : CsrOp → ℕ → ℕ → ℕ → Type 0)
    → P Csrrsi 0 8 0x300 → P Csrrci 0 8 0x300
    → ((source : ℕ) → P Csrrw 0 source 0x347) → ((source : ℕ) → P Csrrw 0 source 0x305) → ((source : ℕ) → P Csrrw 0 source 0x307) → ((source : ℕ) → P Csrrw 0 source 0x340)
    → (op : CsrOp) (rd source csr : ℕ) → is_permitted_csr op rd source csr ≡ true → P op rd source csr
by_permitted P sets clears threshold vector table scratch Csrrs rd source csr p = absurd (false≢true p)
by_permitted P sets clears threshold vector table scratch Csrrc rd source csr p = absurd (false≢true p)
by_permitted P sets clears threshold vector table scratch Csrrwi rd source csr p = absurd (false≢true p)
by_permitted P sets clears threshold vector table scratch Csrrw rd source csr p =
    let parts = and_parts (rd == 0) (csr == 0x347 || csr == 0x305 || csr == 0x307 || csr == 0x340) p in
    subst (λ d. P Csrrw d source csr) (sym (eqb-true rd 0 parts.0))
    (⊎_elim
    (λ (n1 : (csr == 0x347 || csr == 0x305 || csr == 0x307) ≡ true). ⊎_elim
    (λ (n2 : (csr == 0x347 || csr == 0x305) ≡ true). ⊎_elim
    (λ (a : (csr == 0x347) ≡ true). subst (λ k. P Csrrw 0 source k) (sym (eqb-true csr 0x347 a)) (threshold source))
    (λ (a : (csr == 0x305) ≡ true). subst (λ k. P Csrrw 0 source k) (sym (eqb-true csr 0x305 a)) (vector source))
    (or_cases (csr == 0x347) (csr == 0x305) n2))
    (λ (a : (csr == 0x307) ≡ true). subst (λ k. P Csrrw 0 source k) (sym (eqb-true csr 0x307 a)) (table source))
    (or_cases (csr == 0x347 || csr == 0x305) (csr == 0x307) n1))
    (λ (a : (csr == 0x340) ≡ true). subst (λ k. P Csrrw 0 source k) (sym (eqb-true csr 0x340 a)) (scratch source))
    (or_cases (csr == 0x347 || csr == 0x305 || csr == 0x307) (csr == 0x340) parts.1))
by_permitted P sets clears threshold vector table scratch Csrrsi rd source csr p =
    let all = and_parts (rd == 0 && csr == 0x300) (source == 8) p in
    let two = and_parts (rd == 0) (csr == 0x300) all.0 in
    subst (λ d. P Csrrsi d source csr) (sym (eqb-true rd 0 two.0)) (subst (λ v. P Csrrsi 0 v csr) (sym (eqb-true source 8 all.1)) (subst (λ k. P Csrrsi 0 8 k) (sym (eqb-true csr 0x300 two.1)) sets))
by_permitted P sets clears threshold vector table scratch Csrrci rd source csr p =
    let all = and_parts (rd == 0 && csr == 0x300) (source == 8) p in
    let two = and_parts (rd == 0) (csr == 0x300) all.0 in
    subst (λ d. P Csrrci d source csr) (sym (eqb-true rd 0 two.0)) (subst (λ v. P Csrrci 0 v csr) (sym (eqb-true source 8 all.1)) (subst (λ k. P Csrrci 0 8 k) (sym (eqb-true csr 0x300 two.1)) clears))

-- those that are on no control register do so whatever the fields are
lifted_by : (foreground : Bool) (fields : CsrState → CsrState) → ((op : CsrOp) (rd source csr : ℕ) → is_permitted foreground (Csr op rd source csr) ≡ true → IsLifted fields (Csr op rd source csr)) → AreLifted foreground fields
unfolding system
lifted_by foreground fields csr (Lui rd imm) p = λ r c clic. refl
lifted_by foreground fields csr (Auipc rd imm) p = λ r c clic. refl
lifted_by foreground fields csr (Jal rd offset) p = λ r c clic. refl
lifted_by foreground fields csr (Jalr rd rs1 imm) p = λ r c clic. refl
lifted_by foreground fields csr (Branch op rs1 rs2 offset) p = λ r c clic. refl
lifted_by foreground fields csr (Load op rd rs1 imm) p = λ r c clic. refl
lifted_by foreground fields csr (Store op rs1 rs2 imm) p = λ r c clic. refl
lifted_by foreground fields csr (Imm op rd rs1 imm) p = λ r c clic. refl
lifted_by foreground fields csr (Reg op rd rs1 rs2) p = λ r c clic. refl
lifted_by foreground fields csr (Fence pred succ) p = λ r c clic. refl
lifted_by foreground fields csr Ecall p = λ r c clic. refl
lifted_by foreground fields csr Ebreak p = λ r c clic. refl
lifted_by foreground fields csr Wfi p = λ r c clic. refl
lifted_by foreground fields csr Mret p = absurd (false≢true p)
lifted_by foreground fields csr (Csr op rd source number) p = csr op rd source number p

pub handlers_lifted : (fields : CsrState → CsrState) → AreLifted false fields
handlers_lifted fields = lifted_by false fields (λ op rd source csr p. absurd (false≢true p))

module _ (x : Rest) where
  abbrev Lifted : List Mark → Ins → Type 0
  Lifted live ins = IsLifted (csrs_by live x) ins

  sets : Lifted [] (Csr Csrrsi 0 8 0x300)
  unfolding system csr_instruction request accessed read written
  sets = λ r c clic. refl

  clears : Lifted [] (Csr Csrrci 0 8 0x300)
  unfolding system csr_instruction request accessed read written
  clears = λ r c clic. refl

  writes_threshold : (source : ℕ) → Lifted [] (Csr Csrrw 0 source 0x347)
  unfolding system csr_instruction request accessed read written
  writes_threshold source = λ r c clic. refl

  writes_vector : (source : ℕ) → Lifted [] (Csr Csrrw 0 source 0x305)
  unfolding system csr_instruction request accessed read written
  writes_vector source = λ r c clic. refl

  writes_table : (source : ℕ) → Lifted [] (Csr Csrrw 0 source 0x307)
  unfolding system csr_instruction request accessed read written
  writes_table source = λ r c clic. refl

  writes_scratch : (source : ℕ) → Lifted [] (Csr Csrrw 0 source 0x340)
  unfolding system csr_instruction request accessed read written
  writes_scratch source = λ r c clic. refl

  permitted_csr : (op : CsrOp) (rd source csr : ℕ) → is_permitted_csr op rd source csr ≡ true → Lifted [] (Csr op rd source csr)
  permitted_csr op rd source csr p = by_permitted (λ o d v k. Lifted [] (Csr o d v k)) sets clears writes_threshold writes_vector writes_table writes_scratch op rd source csr p

  pub lifted : (live : List Mark) → AreLifted (is_foreground live) (csrs_by live x)
  lifted live = lifted_by (is_foreground live) (csrs_by live x) (λ op rd source csr p.
      let parts = and_parts (is_foreground live) (is_permitted_csr op rd source csr) p in
      subst (λ l. Lifted l (Csr op rd source csr)) (sym (foreground live parts.0)) (permitted_csr op rd source csr parts.1))

-- in a handler such instructions change no field
pub keeps_fields : (ins : Ins) (r : List ℕ) (c : CsrState) (clic : ClicState) → is_permitted false ins ≡ true → (system ins r c clic).csrs ≡ c
unfolding system
keeps_fields (Lui rd imm) r c clic p = refl
keeps_fields (Auipc rd imm) r c clic p = refl
keeps_fields (Jal rd offset) r c clic p = refl
keeps_fields (Jalr rd rs1 imm) r c clic p = refl
keeps_fields (Branch op rs1 rs2 offset) r c clic p = refl
keeps_fields (Load op rd rs1 imm) r c clic p = refl
keeps_fields (Store op rs1 rs2 imm) r c clic p = refl
keeps_fields (Imm op rd rs1 imm) r c clic p = refl
keeps_fields (Reg op rd rs1 rs2) r c clic p = refl
keeps_fields (Fence pred succ) r c clic p = refl
keeps_fields Ecall r c clic p = refl
keeps_fields Ebreak r c clic p = refl
keeps_fields Wfi r c clic p = refl
keeps_fields Mret r c clic p = absurd (false≢true p)
keeps_fields (Csr op rd source csr) r c clic p = absurd (false≢true p)
