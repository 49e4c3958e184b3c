-- The word of each instruction spells it, and no other canonical word does.
use Rattle.std.proofs.Common.{◌≡◌, ℕ, ◌+◌, ◌*◌, ◌^◌, ◌<◌, arith, true, nat_lt, ◌&&◌, ap, ◌∙◌, refl, bit_and}
use Rattle.std.proofs.lemmas.Bool.{and_parts, ltb-true}
use Rattle.hart_words.specs.Bits.{bits}
use Rattle.rv_encoding.proofs.Masks.{function}
use Rattle.rv_encoding.proofs.Round.{spells_at, r_spells, shift_spells, i_spells, s_spells, b_spells, u_spells, j_spells, csr_spells}
use Rattle.rv_encoding.specs.Fits.{can_be_spelled}
use Rattle.rv_encoding.specs.Rows.{rows, Spells}
use Rattle.rv_encoding.specs.Words.{word_of}
use Rattle.rv_encoding.specs.declared.instruction.Ins.{Ins}
use Rattle.rv_encoding.specs.declared.instruction.Ins.TheVariants.{Lui, Auipc, Jal, Jalr, Branch, Load, Store, Imm, Reg, Fence, Ecall, Ebreak, Mret, Wfi, Csr}
use Rattle.rv_encoding.specs.declared.operations.BranchOp.TheVariants.{Beq, Bne, Blt, Bge, Bltu, Bgeu}
use Rattle.rv_encoding.specs.declared.operations.LoadOp.TheVariants.{Lb, Lh, Lw, Lbu, Lhu}
use Rattle.rv_encoding.specs.declared.operations.StoreOp.TheVariants.{Sb, Sh, Sw}
use Rattle.rv_encoding.specs.declared.operations.ImmOp.TheVariants.{Addi, Slti, Sltiu, Xori, Ori, Andi, Slli, Srli, Srai}
use Rattle.rv_encoding.specs.declared.operations.RegOp.TheVariants.{Add, Sub, Sll, Slt, Sltu, Xor, Srl, Sra, Or, And, Mul, Mulh, Mulhsu, Mulhu, Div, Divu, Rem, Remu}
use Rattle.rv_encoding.specs.declared.operations.CsrOp.TheVariants.{Csrrw, Csrrs, Csrrc, Csrrwi, Csrrsi, Csrrci}

fence_spells : (pred succ : ℕ) → (nat_lt pred 16 && nat_lt succ 16) ≡ true → (0x0000000F + (pred * 2 ^ 24 + succ * 2 ^ 20) < 2 ^ 32) × Spells (0x0000000F + (pred * 2 ^ 24 + succ * 2 ^ 20)) (Fence pred succ)
unfolding rows
fence_spells pred succ fit =
    let both = and_parts (nat_lt pred 16) (nat_lt succ 16) fit in
    let p : pred < 16 = ltb-true _ _ both.0 in
    let s : succ < 16 = ltb-true _ _ both.1 in
    let w : ℕ = 0x0000000F + (pred * 2 ^ 24 + succ * 2 ^ 20) in
    let here : bit_and w 0x707F ≡ 0x0000000F = omega (arith, function w) in
    let e1 : bits w 24 4 ≡ pred = omega arith in
    let e2 : bits w 20 4 ≡ succ = omega arith in
    (omega arith, spells_at 0x707F 0x0000000F w (Fence pred succ) (Fence (bits w 24 4) (bits w 20 4)) refl here (ap (λ x. Fence x (bits w 20 4)) e1 ∙ ap (Fence pred) e2))

pub word_spells : (i : Ins) → can_be_spelled i ≡ true → (word_of i < 2 ^ 32) × Spells (word_of i) i
unfolding rows word_of
word_spells (Lui rd imm) fit = u_spells 0x00000037 Lui (λ _. refl) (omega arith) rd imm fit
word_spells (Auipc rd imm) fit = u_spells 0x00000017 Auipc (λ _. refl) (omega arith) rd imm fit
word_spells (Jal rd offset) fit = j_spells 0x0000006F Jal (λ _. refl) (omega arith) rd offset fit
word_spells (Jalr rd rs1 imm) fit = i_spells 0x00000067 Jalr (λ _. refl) refl rd rs1 imm fit
word_spells (Branch Beq rs1 rs2 offset) fit = b_spells 0x00000063 (Branch Beq) (λ _. refl) refl rs1 rs2 offset fit
word_spells (Branch Bne rs1 rs2 offset) fit = b_spells 0x00001063 (Branch Bne) (λ _. refl) refl rs1 rs2 offset fit
word_spells (Branch Blt rs1 rs2 offset) fit = b_spells 0x00004063 (Branch Blt) (λ _. refl) refl rs1 rs2 offset fit
word_spells (Branch Bge rs1 rs2 offset) fit = b_spells 0x00005063 (Branch Bge) (λ _. refl) refl rs1 rs2 offset fit
word_spells (Branch Bltu rs1 rs2 offset) fit = b_spells 0x00006063 (Branch Bltu) (λ _. refl) refl rs1 rs2 offset fit
word_spells (Branch Bgeu rs1 rs2 offset) fit = b_spells 0x00007063 (Branch Bgeu) (λ _. refl) refl rs1 rs2 offset fit
word_spells (Load Lb rd rs1 imm) fit = i_spells 0x00000003 (Load Lb) (λ _. refl) refl rd rs1 imm fit
word_spells (Load Lh rd rs1 imm) fit = i_spells 0x00001003 (Load Lh) (λ _. refl) refl rd rs1 imm fit
word_spells (Load Lw rd rs1 imm) fit = i_spells 0x00002003 (Load Lw) (λ _. refl) refl rd rs1 imm fit
word_spells (Load Lbu rd rs1 imm) fit = i_spells 0x00004003 (Load Lbu) (λ _. refl) refl rd rs1 imm fit
word_spells (Load Lhu rd rs1 imm) fit = i_spells 0x00005003 (Load Lhu) (λ _. refl) refl rd rs1 imm fit
word_spells (Store Sb rs1 rs2 imm) fit = s_spells 0x00000023 (Store Sb) (λ _. refl) refl rs1 rs2 imm fit
word_spells (Store Sh rs1 rs2 imm) fit = s_spells 0x00001023 (Store Sh) (λ _. refl) refl rs1 rs2 imm fit
word_spells (Store Sw rs1 rs2 imm) fit = s_spells 0x00002023 (Store Sw) (λ _. refl) refl rs1 rs2 imm fit
word_spells (Imm Addi rd rs1 imm) fit = i_spells 0x00000013 (Imm Addi) (λ _. refl) refl rd rs1 imm fit
word_spells (Imm Slti rd rs1 imm) fit = i_spells 0x00002013 (Imm Slti) (λ _. refl) refl rd rs1 imm fit
word_spells (Imm Sltiu rd rs1 imm) fit = i_spells 0x00003013 (Imm Sltiu) (λ _. refl) refl rd rs1 imm fit
word_spells (Imm Xori rd rs1 imm) fit = i_spells 0x00004013 (Imm Xori) (λ _. refl) refl rd rs1 imm fit
word_spells (Imm Ori rd rs1 imm) fit = i_spells 0x00006013 (Imm Ori) (λ _. refl) refl rd rs1 imm fit
word_spells (Imm Andi rd rs1 imm) fit = i_spells 0x00007013 (Imm Andi) (λ _. refl) refl rd rs1 imm fit
word_spells (Imm Slli rd rs1 imm) fit = shift_spells 0x00001013 (Imm Slli) (λ _. refl) refl rd rs1 imm fit
word_spells (Imm Srli rd rs1 imm) fit = shift_spells 0x00005013 (Imm Srli) (λ _. refl) refl rd rs1 imm fit
word_spells (Imm Srai rd rs1 imm) fit = shift_spells 0x40005013 (Imm Srai) (λ _. refl) refl rd rs1 imm fit
word_spells (Reg Add rd rs1 rs2) fit = r_spells 0x00000033 (Reg Add) (λ _. refl) refl rd rs1 rs2 fit
word_spells (Reg Sub rd rs1 rs2) fit = r_spells 0x40000033 (Reg Sub) (λ _. refl) refl rd rs1 rs2 fit
word_spells (Reg Sll rd rs1 rs2) fit = r_spells 0x00001033 (Reg Sll) (λ _. refl) refl rd rs1 rs2 fit
word_spells (Reg Slt rd rs1 rs2) fit = r_spells 0x00002033 (Reg Slt) (λ _. refl) refl rd rs1 rs2 fit
word_spells (Reg Sltu rd rs1 rs2) fit = r_spells 0x00003033 (Reg Sltu) (λ _. refl) refl rd rs1 rs2 fit
word_spells (Reg Xor rd rs1 rs2) fit = r_spells 0x00004033 (Reg Xor) (λ _. refl) refl rd rs1 rs2 fit
word_spells (Reg Srl rd rs1 rs2) fit = r_spells 0x00005033 (Reg Srl) (λ _. refl) refl rd rs1 rs2 fit
word_spells (Reg Sra rd rs1 rs2) fit = r_spells 0x40005033 (Reg Sra) (λ _. refl) refl rd rs1 rs2 fit
word_spells (Reg Or rd rs1 rs2) fit = r_spells 0x00006033 (Reg Or) (λ _. refl) refl rd rs1 rs2 fit
word_spells (Reg And rd rs1 rs2) fit = r_spells 0x00007033 (Reg And) (λ _. refl) refl rd rs1 rs2 fit
word_spells (Fence pred succ) fit = fence_spells pred succ fit
word_spells Ecall fit = (omega arith, spells_at 0xFFFFFFFF 0x00000073 0x00000073 Ecall Ecall refl refl refl)
word_spells Ebreak fit = (omega arith, spells_at 0xFFFFFFFF 0x00100073 0x00100073 Ebreak Ebreak refl refl refl)
word_spells (Csr Csrrw rd source csr) fit = csr_spells 0x00001073 (Csr Csrrw) (λ _. refl) refl rd source csr fit
word_spells (Csr Csrrs rd source csr) fit = csr_spells 0x00002073 (Csr Csrrs) (λ _. refl) refl rd source csr fit
word_spells (Csr Csrrc rd source csr) fit = csr_spells 0x00003073 (Csr Csrrc) (λ _. refl) refl rd source csr fit
word_spells (Csr Csrrwi rd source csr) fit = csr_spells 0x00005073 (Csr Csrrwi) (λ _. refl) refl rd source csr fit
word_spells (Csr Csrrsi rd source csr) fit = csr_spells 0x00006073 (Csr Csrrsi) (λ _. refl) refl rd source csr fit
word_spells (Csr Csrrci rd source csr) fit = csr_spells 0x00007073 (Csr Csrrci) (λ _. refl) refl rd source csr fit
word_spells (Reg Mul rd rs1 rs2) fit = r_spells 0x02000033 (Reg Mul) (λ _. refl) refl rd rs1 rs2 fit
word_spells (Reg Mulh rd rs1 rs2) fit = r_spells 0x02001033 (Reg Mulh) (λ _. refl) refl rd rs1 rs2 fit
word_spells (Reg Mulhsu rd rs1 rs2) fit = r_spells 0x02002033 (Reg Mulhsu) (λ _. refl) refl rd rs1 rs2 fit
word_spells (Reg Mulhu rd rs1 rs2) fit = r_spells 0x02003033 (Reg Mulhu) (λ _. refl) refl rd rs1 rs2 fit
word_spells (Reg Div rd rs1 rs2) fit = r_spells 0x02004033 (Reg Div) (λ _. refl) refl rd rs1 rs2 fit
word_spells (Reg Divu rd rs1 rs2) fit = r_spells 0x02005033 (Reg Divu) (λ _. refl) refl rd rs1 rs2 fit
word_spells (Reg Rem rd rs1 rs2) fit = r_spells 0x02006033 (Reg Rem) (λ _. refl) refl rd rs1 rs2 fit
word_spells (Reg Remu rd rs1 rs2) fit = r_spells 0x02007033 (Reg Remu) (λ _. refl) refl rd rs1 rs2 fit
word_spells Mret fit = (omega arith, spells_at 0xFFFFFFFF 0x30200073 0x30200073 Mret Mret refl refl refl)
word_spells Wfi fit = (omega arith, spells_at 0xFFFFFFFF 0x10500073 0x10500073 Wfi Wfi refl refl refl)
