-- An instruction that the convention permits leaves the controller, where it is no load and no store.
use Rattle.std.proofs.Common.{◌≡◌, ℕ, ◌⊎◌, inl, inr, ⊎_elim, Bool, true, false, List, refl, sym, subst}
use Rattle.std.specs.Prelude.{◌==◌, ◌&&◌, ◌||◌}
use Rattle.std.proofs.lemmas.Bool.{eqb-true, and_parts, or_cases, false≢true}
use Rattle.rv_encoding.specs.declared.instruction.Ins.{Ins}
use Rattle.rv_encoding.specs.declared.instruction.Ins.TheVariants.{Ecall, Ebreak, Mret, Wfi, Csr}
use Rattle.rv_encoding.specs.declared.operations.CsrOp.{CsrOp}
use Rattle.rv_encoding.specs.declared.operations.CsrOp.TheVariants.{Csrrw, Csrrs, Csrrc, Csrrwi, Csrrsi, Csrrci}
use Rattle.csr_file.specs.CsrState.{CsrState}
use Rattle.csr_file.specs.Table.{read, written}
use Rattle.clic_regs.specs.ClicState.{ClicState}
use Rattle.clic_trap.specs.CsrAccess.{accessed}
use Rattle.clic_trap.specs.CsrInstruction.{csr_instruction}
use Rattle.clic_trap.specs.CsrRequest.{request}
use Rattle.clic_trap.specs.System.{system}
use Rattle.chain_moves.specs.Convention.{is_permitted, is_permitted_csr}

module _ (r : List ℕ) (c : CsrState) (s : ClicState) where
  abbrev Leaves : Ins → Type 0
  Leaves ins = (system ins r c s).clic ≡ s

  set_leaves : (op : CsrOp) (rd source csr : ℕ) → (op ≡ Csrrsi) ⊎ (op ≡ Csrrci) → rd ≡ 0 → csr ≡ 0x300 → source ≡ 8 → Leaves (Csr op rd source csr)
  unfolding system csr_instruction request accessed read written
  set_leaves op rd source csr o z n e =
      subst (λ d. Leaves (Csr op d source csr)) (sym z)
      (subst (λ k. Leaves (Csr op 0 source k)) (sym n)
      (subst (λ v. Leaves (Csr op 0 v 0x300)) (sym e)
      (⊎_elim
      (λ (a : op ≡ Csrrsi). subst (λ p. Leaves (Csr p 0 8 0x300)) (sym a) refl)
      (λ (a : op ≡ Csrrci). subst (λ p. Leaves (Csr p 0 8 0x300)) (sym a) refl)
      o)))

  write_leaves : (rd source csr : ℕ) → rd ≡ 0 → ((csr == 0x347) || ((csr == 0x305) || ((csr == 0x307) || (csr == 0x340)))) ≡ true → Leaves (Csr Csrrw rd source csr)
  unfolding system csr_instruction request accessed read written
  write_leaves rd source csr z n =
      subst (λ d. Leaves (Csr Csrrw d source csr)) (sym z)
      (⊎_elim
      (λ (a : (csr == 0x347) ≡ true). subst (λ k. Leaves (Csr Csrrw 0 source k)) (sym (eqb-true csr 0x347 a)) refl)
      (λ (n1 : ((csr == 0x305) || ((csr == 0x307) || (csr == 0x340))) ≡ true). ⊎_elim
      (λ (a : (csr == 0x305) ≡ true). subst (λ k. Leaves (Csr Csrrw 0 source k)) (sym (eqb-true csr 0x305 a)) refl)
      (λ (n2 : ((csr == 0x307) || (csr == 0x340)) ≡ true). ⊎_elim
      (λ (a : (csr == 0x307) ≡ true). subst (λ k. Leaves (Csr Csrrw 0 source k)) (sym (eqb-true csr 0x307 a)) refl)
      (λ (a : (csr == 0x340) ≡ true). subst (λ k. Leaves (Csr Csrrw 0 source k)) (sym (eqb-true csr 0x340 a)) refl)
      (or_cases (csr == 0x307) (csr == 0x340) n2))
      (or_cases (csr == 0x305) ((csr == 0x307) || (csr == 0x340)) n1))
      (or_cases (csr == 0x347) ((csr == 0x305) || ((csr == 0x307) || (csr == 0x340))) n))

  regroup : (a b d e : Bool) → (a || b || d || e) ≡ true → (a || (b || (d || e))) ≡ true
  regroup true b d e h = refl
  regroup false true d e h = refl
  regroup false false true e h = refl
  regroup false false false e h = h

  permitted_leaves : (foreground : Bool) (ins : Ins) → is_permitted foreground ins ≡ true → Leaves ins
  unfolding system
  permitted_leaves foreground (Csr Csrrs rd source csr) p = absurd (false≢true (and_parts foreground false p).1)
  permitted_leaves foreground (Csr Csrrc rd source csr) p = absurd (false≢true (and_parts foreground false p).1)
  permitted_leaves foreground (Csr Csrrwi rd source csr) p = absurd (false≢true (and_parts foreground false p).1)
  permitted_leaves foreground (Csr Csrrw rd source csr) p =
      let parts = and_parts (rd == 0) _ (and_parts foreground (is_permitted_csr Csrrw rd source csr) p).1 in
      write_leaves rd source csr (eqb-true rd 0 parts.0) (regroup (csr == 0x347) (csr == 0x305) (csr == 0x307) (csr == 0x340) parts.1)
  permitted_leaves foreground (Csr Csrrsi rd source csr) p =
      let all = and_parts (rd == 0 && csr == 0x300) (source == 8) (and_parts foreground (is_permitted_csr Csrrsi rd source csr) p).1 in
      let two = and_parts (rd == 0) (csr == 0x300) all.0 in
      set_leaves Csrrsi rd source csr (inl refl) (eqb-true rd 0 two.0) (eqb-true csr 0x300 two.1) (eqb-true source 8 all.1)
  permitted_leaves foreground (Csr Csrrci rd source csr) p =
      let all = and_parts (rd == 0 && csr == 0x300) (source == 8) (and_parts foreground (is_permitted_csr Csrrci rd source csr) p).1 in
      let two = and_parts (rd == 0) (csr == 0x300) all.0 in
      set_leaves Csrrci rd source csr (inr refl) (eqb-true rd 0 two.0) (eqb-true csr 0x300 two.1) (eqb-true source 8 all.1)
  permitted_leaves foreground Mret p = refl
  permitted_leaves foreground Ecall p = refl
  permitted_leaves foreground Ebreak p = refl
  permitted_leaves foreground Wfi p = refl
  permitted_leaves foreground _ p = refl

pub permitted_leaves_controller : (foreground : Bool) (ins : Ins) (r : List ℕ) (c : CsrState) (s : ClicState) → is_permitted foreground ins ≡ true → (system ins r c s).clic ≡ s
permitted_leaves_controller foreground ins r c s p = permitted_leaves r c s foreground ins p
