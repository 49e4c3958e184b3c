-- One step of a dispatcher, by its kind, and walks that are joined.
use Rattle.std.proofs.Common.{◌≡◌, ℕ, suc, zero, [], ◌∷◌, ◌++◌, length, ◌+◌, ◌-◌, ◌%◌, ◌^◌, ◌≤◌, ◌==◌, ◌&&◌, Bool, true, false, not, cond, List, Option, Some, None, Result, Ok, refl, sym, ap, ap₂, ◌∙◌, arith}
use Rattle.std.specs.Prelude.{bit_and}
use Rattle.std.proofs.lemmas.Bool.Decides.{nat_tests}
use Rattle.hart_words.specs.TwosComplement.{word}
use Rattle.hart_words.specs.Registers.{register, with_register}
use Rattle.device_model.specs.Meanings.{Meanings}
use Rattle.rv_encoding.specs.Rows.{spelled}
use Rattle.rv_encoding.specs.declared.instruction.Ins.{Ins}
use Rattle.rv_encoding.specs.declared.instruction.Ins.TheVariants.{Jalr, Branch, Load, Store, Imm, Mret, Csr}
use Rattle.rv_encoding.specs.declared.operations.BranchOp.TheVariants.{Beq, Bne}
use Rattle.rv_encoding.specs.declared.operations.LoadOp.TheVariants.{Lw}
use Rattle.rv_encoding.specs.declared.operations.StoreOp.TheVariants.{Sw}
use Rattle.rv_encoding.specs.declared.operations.ImmOp.TheVariants.{Addi}
use Rattle.rv_encoding.specs.declared.operations.CsrOp.TheVariants.{Csrrw, Csrrs, Csrrsi, Csrrci}
use Rattle.hart_exec.specs.Effect.{effect, even}
use Rattle.hart_memory.specs.Bytes.{number_at, with_number}
use Rattle.hart_memory.specs.Place.{place}
use Rattle.hart_memory.specs.Access.{loaded, loaded_by}
use Rattle.hart_memory.specs.Fetch.{fetched}
use Rattle.hart_memory.proofs.PlaceLemmas.{place_ram_from}
use Rattle.hart_memory.specs.declared.place.Place.{Place}
use Rattle.hart_memory.specs.declared.place.Place.TheVariants.{InRom, InRam, Elsewhere}
use Rattle.hart_memory.specs.declared.fetched.Fetched.TheVariants.{Bits}
use Rattle.hart_memory.specs.declared.address_map.TheConstants.{RAM_BASE, BANK_LEN}
use Rattle.csr_file.specs.CsrState.{CsrState}
use Rattle.csr_file.specs.Views.{mcause, mstatus, with_mstatus, with_mcause, with_low_bits_clear}
use Rattle.csr_file.specs.Table.{read, written}
use Rattle.clic_select.specs.Top.{top}
use Rattle.clic_select.specs.declared.choice.Choice.{Choice}
use Rattle.clic_trap.specs.Due.{due, has_top_above, is_above}
use Rattle.clic_trap.specs.System.{system}
use Rattle.clic_trap.specs.CsrInstruction.{csr_instruction}
use Rattle.clic_trap.specs.CsrRequest.{request}
use Rattle.clic_trap.specs.CsrAccess.{Accessed, accessed}
use Rattle.clic_trap.specs.Swap.{swapped}
use Rattle.clic_trap.specs.Return.{returned}
use Rattle.clic_trap.specs.NextInterrupt.{next_interrupt, found, claiming}
use Rattle.hart_board.specs.State.{State}
use Rattle.hart_board.specs.Access.{load, load_at, store, store_at}
use Rattle.hart_board.specs.Attempt.{attempt, attempt_of, attempted, performed, with_encoding, after_store, after_load}
use Rattle.hart_board.specs.Step.{Turn, step, settled, turn_or_halted, turn_by}
use Rattle.hart_board.specs.Step.{interrupted as interrupt}
use Rattle.hart_board.specs.declared.trap.Trap.{Trap}
use Rattle.hart_report.specs.declared.stepped.Stepped.TheVariants.{Retired, Interrupted}
use Rattle.hart_report.specs.declared.stepped.Stepped.{Stepped}
use Rattle.hart_board.proofs.OneKind.{by_nothing}
use Rattle.clic_trap.specs.Entry.{entered, entered_by, interrupted}
use Rattle.chain_core.specs.Walk.{Walk, walked, with_told}

-- a list of at least twelve registers
pub twelve : (P : List ℕ → Type 0) → ((x0 x1 x2 x3 x4 x5 x6 x7 x8 x9 x10 x11 : ℕ) (rest : List ℕ) → P (x0 ∷ x1 ∷ x2 ∷ x3 ∷ x4 ∷ x5 ∷ x6 ∷ x7 ∷ x8 ∷ x9 ∷ x10 ∷ x11 ∷ rest)) → (l : List ℕ) → 12 ≤ length l → P l
twelve P f (x0 ∷ x1 ∷ x2 ∷ x3 ∷ x4 ∷ x5 ∷ x6 ∷ x7 ∷ x8 ∷ x9 ∷ x10 ∷ x11 ∷ rest) h = f x0 x1 x2 x3 x4 x5 x6 x7 x8 x9 x10 x11 rest
twelve P f _ h = absurd (omega arith)

-- what an instruction makes of a state
abbrev pub made : State → Result State Trap
made s = Ok s

-- an instruction where nothing is due
pub runs : (m : Meanings) (s : State) (w : ℕ) (i : Ins) (c : State) → m.halted s.outside.device ≡ None → due s.csrs (top s.outside.clic) ≡ false → fetched s.memory s.pc ≡ Bits w 4 → spelled w ≡ Some i → performed m s i w 4 ≡ Ok c → step m s ≡ record { told = Retired s.pc w 4; state = c }
unfolding step attempt
runs m s w i c goes nothing fetch spells does =
    ap (turn_or_halted m s) goes
    ∙ (ap (turn_by m s (top s.outside.clic)) nothing
    ∙ (by_nothing m s (top s.outside.clic)
    ∙ (ap (λ f. settled s (attempt_of m s f)) fetch
    ∙ (ap (λ o. settled s (attempted m s w 4 o)) spells
    ∙ ap (λ r. settled s (with_encoding (record { bits = w; length = 4 }) r)) does))))

-- one step on, and more after it
pub go_on : (m : Meanings) (n : ℕ) (a b : State) (t : Stepped) (w : Walk) → step m a ≡ record { told = t; state = b } → walked m n b ≡ w → walked m (suc n) a ≡ with_told t w
unfolding walked
go_on m n a b t w e h = ap (λ (u : Turn). with_told u.told (walked m n u.state)) e ∙ ap (with_told t) h

pub stop : (m : Meanings) (a : State) → walked m 0 a ≡ record { told = []; state = a }
unfolding walked
stop m a = refl

abbrev pub joined : List Stepped → Walk → Walk
joined ts w = record { told = ts ++ w.told; state = w.state }

pub walked-add : (m : Meanings) (n k : ℕ) (a : State) → walked m (n + k) a ≡ joined (walked m n a).told (walked m k (walked m n a).state)
unfolding walked
walked-add m zero k a = let e : 0 + k ≡ k = omega arith in ap (λ i. walked m i a) e
walked-add m (suc n) k a = let e : suc n + k ≡ suc (n + k) = omega arith in ap (λ i. walked m i a) e ∙ ap (with_told (step m a).told) (walked-add m n k (step m a).state)

pub and_then : (m : Meanings) (n k : ℕ) (a : State) (u w : Walk) → walked m n a ≡ u → walked m k u.state ≡ w → walked m (n + k) a ≡ joined u.told w
and_then m n k a u w e h = walked-add m n k a ∙ (ap (λ (u : Walk). joined u.told (walked m k u.state)) e ∙ ap (joined u.told) h)

-- ---- whether an interrupt is due
pub masked : (c : CsrState) (t : Option Choice) → c.mie ≡ false → due c t ≡ false
unfolding due
masked c t e = ap (λ b. b && has_top_above t c.mil c.th) e

-- entry of a software-vectored top
pub enters_is : (m : Meanings) (s : State) (t : Choice) → m.halted s.outside.device ≡ None → top s.outside.clic ≡ Some t → t.shv ≡ false → s.csrs.mie ≡ true → is_above t s.csrs.mil s.csrs.th ≡ true
    → step m s ≡ record { told = Interrupted s.pc t.id; state = record s { csrs = interrupted s.csrs t s.pc; pc = s.csrs.mtvec_base } }
unfolding step due entered
enters_is m s t goes is_top soft on over =
    ap (turn_or_halted m s) goes
    ∙ (ap (λ o. turn_by m s o (due s.csrs o)) is_top
    ∙ (ap₂ (λ x y. turn_by m s (Some t) (x && y)) on over
    ∙ ap (λ b. interrupt s t (entered_by b s.csrs s.outside.clic s.memory t s.pc)) soft))

-- ---- memory
aligned_is : (a : ℕ) → a % 4 ≡ 0 → (a % 4 == 0) ≡ true
aligned_is a h = grind (arith, nat_tests)

pub sw_is : (m : Meanings) (s : State) (rs1 rs2 imm w f : ℕ) → word (register s.registers rs1 + imm) ≡ RAM_BASE + f → f % 4 ≡ 0 → f + 4 ≤ BANK_LEN
    → performed m s (Store Sw rs1 rs2 imm) w 4 ≡ made (record s { memory = record s.memory { ram = with_number s.memory.ram f 4 (word (register s.registers rs2)) }; pc = word (s.pc + 4) })
unfolding performed effect store
sw_is m s rs1 rs2 imm w f e even room =
    let v : ℕ = word (register s.registers rs2) in
    let a : ℕ = RAM_BASE + f in
    ap (λ a. after_store a (word (s.pc + 4)) (store_at m s a 4 v (a % 4 == 0) (place a 4))) e
    ∙ ap₂ (λ t p. after_store a (word (s.pc + 4)) (store_at m s a 4 v t p)) (aligned_is a (omega arith)) (place_ram_from f 4 room)

word_loaded : (m : Meanings) (s : State) (rd a v next : ℕ) (p : Place) → loaded_by p s.memory 4 ≡ Some v → after_load rd a 4 false next (load_at m s a 4 true p) ≡ made (record s { registers = with_register s.registers rd v; pc = next })
word_loaded m s rd a v next (InRom k) e = let h : number_at s.memory.rom k 4 ≡ v = cc in ap (λ x. made (record s { registers = with_register s.registers rd x; pc = next })) h
word_loaded m s rd a v next (InRam k) e = let h : number_at s.memory.ram k 4 ≡ v = cc in ap (λ x. made (record s { registers = with_register s.registers rd x; pc = next })) h
word_loaded m s rd a v next Elsewhere e = absurd cc

-- a word, wherever in memory it lies
pub lw_is : (m : Meanings) (s : State) (rd rs1 imm w a v : ℕ) → word (register s.registers rs1 + imm) ≡ a → a % 4 ≡ 0 → loaded s.memory a 4 ≡ Some v
    → performed m s (Load Lw rd rs1 imm) w 4 ≡ made (record s { registers = with_register s.registers rd v; pc = word (s.pc + 4) })
unfolding performed effect load
lw_is m s rd rs1 imm w a v e even h =
    ap (λ a. after_load rd a 4 false (word (s.pc + 4)) (load_at m s a 4 (a % 4 == 0) (place a 4))) e
    ∙ (ap (λ t. after_load rd a 4 false (word (s.pc + 4)) (load_at m s a 4 t (place a 4))) (aligned_is a even)
    ∙ word_loaded m s rd a v (word (s.pc + 4)) (place a 4) h)

-- a word of RAM
pub lw_ram : (m : Meanings) (s : State) (rd rs1 imm w f v : ℕ) → word (register s.registers rs1 + imm) ≡ RAM_BASE + f → f % 4 ≡ 0 → f + 4 ≤ BANK_LEN → number_at s.memory.ram f 4 ≡ v
    → performed m s (Load Lw rd rs1 imm) w 4 ≡ made (record s { registers = with_register s.registers rd v; pc = word (s.pc + 4) })
lw_ram m s rd rs1 imm w f v e even room h =
    lw_is m s rd rs1 imm w (RAM_BASE + f) v e (omega arith) (ap (λ p. loaded_by p s.memory 4) (place_ram_from f 4 room) ∙ ap (λ x. Some x) h)

-- ---- registers and jumps
pub addi_is : (m : Meanings) (s : State) (rd rs1 imm w : ℕ) → performed m s (Imm Addi rd rs1 imm) w 4 ≡ made (record s { registers = with_register s.registers rd (word (register s.registers rs1 + imm)); pc = word (s.pc + 4) })
unfolding performed effect
addi_is m s rd rs1 imm w = refl

pub beq_is : (m : Meanings) (s : State) (rs1 rs2 offset w : ℕ) (t : Bool) → (register s.registers rs1 == register s.registers rs2) ≡ t → performed m s (Branch Beq rs1 rs2 offset) w 4 ≡ made (record s { pc = cond t (word (s.pc + offset)) (word (s.pc + 4)) })
unfolding performed effect
beq_is m s rs1 rs2 offset w t e = ap (λ t. made (record s { pc = cond t (word (s.pc + offset)) (word (s.pc + 4)) })) e

pub bne_is : (m : Meanings) (s : State) (rs1 rs2 offset w : ℕ) (t : Bool) → (register s.registers rs1 == register s.registers rs2) ≡ t → performed m s (Branch Bne rs1 rs2 offset) w 4 ≡ made (record s { pc = cond (not t) (word (s.pc + offset)) (word (s.pc + 4)) })
unfolding performed effect
bne_is m s rs1 rs2 offset w t e = ap (λ t. made (record s { pc = cond (not t) (word (s.pc + offset)) (word (s.pc + 4)) })) e

pub jalr_is : (m : Meanings) (s : State) (rd rs1 imm w target : ℕ) → even (word (register s.registers rs1 + imm)) ≡ target → performed m s (Jalr rd rs1 imm) w 4 ≡ made (record s { registers = with_register s.registers rd (word (s.pc + 4)); pc = target })
unfolding performed effect
jalr_is m s rd rs1 imm w target e = ap (λ t. made (record s { registers = with_register s.registers rd (word (s.pc + 4)); pc = t })) e

-- ---- control registers
pub read_cause_is : (m : Meanings) (s : State) (rd w : ℕ) → performed m s (Csr Csrrs rd 0 0x342) w 4 ≡ made (record s { registers = with_register s.registers rd (mcause s.csrs); pc = word (s.pc + 4) })
unfolding performed effect system csr_instruction request accessed read
read_cause_is m s rd w = refl

pub read_epc_is : (m : Meanings) (s : State) (rd w : ℕ) → performed m s (Csr Csrrs rd 0 0x341) w 4 ≡ made (record s { registers = with_register s.registers rd s.csrs.mepc; pc = word (s.pc + 4) })
unfolding performed effect system csr_instruction request accessed read
read_epc_is m s rd w = refl

pub write_cause_is : (m : Meanings) (s : State) (rs1 w : ℕ) (c : CsrState) → with_mcause s.csrs (register s.registers rs1) ≡ c → performed m s (Csr Csrrw 0 rs1 0x342) w 4 ≡ made (record s { csrs = c; pc = word (s.pc + 4) })
unfolding performed effect system csr_instruction request accessed read written
write_cause_is m s rs1 w c e = ap (λ c. made (record s { csrs = c; pc = word (s.pc + 4) })) e

pub write_epc_is : (m : Meanings) (s : State) (rs1 w epc : ℕ) → with_low_bits_clear (register s.registers rs1) 1 ≡ epc → performed m s (Csr Csrrw 0 rs1 0x341) w 4 ≡ made (record s { csrs = record s.csrs { mepc = epc }; pc = word (s.pc + 4) })
unfolding performed effect system csr_instruction request accessed read written
write_epc_is m s rs1 w epc e = ap (λ x. made (record s { csrs = record s.csrs { mepc = x }; pc = word (s.pc + 4) })) e

disabled : (c : CsrState) (mie mpie : Bool) → c.mie ≡ mie → c.mpie ≡ mpie → with_mstatus c (bit_and (mstatus c) (2 ^ 32 - 1 - 8)) ≡ record c { mie = false }
disabled c mie mpie e f = ap₂ (λ x y. with_mstatus c (bit_and (mstatus (record c { mie = x; mpie = y })) (2 ^ 32 - 1 - 8))) e f ∙ by mie mpie e f
  where
    by : (x y : Bool) → c.mie ≡ x → c.mpie ≡ y → with_mstatus c (bit_and (mstatus (record c { mie = x; mpie = y })) (2 ^ 32 - 1 - 8)) ≡ record c { mie = false }
    by true true p q = ap (λ b. record c { mie = false; mpie = b }) (sym q)
    by true false p q = ap (λ b. record c { mie = false; mpie = b }) (sym q)
    by false true p q = ap (λ b. record c { mie = false; mpie = b }) (sym q)
    by false false p q = ap (λ b. record c { mie = false; mpie = b }) (sym q)

-- interrupts are disabled
pub disable_is : (m : Meanings) (s : State) (w : ℕ) → performed m s (Csr Csrrci 0 8 0x300) w 4 ≡ made (record s { csrs = record s.csrs { mie = false }; pc = word (s.pc + 4) })
unfolding performed effect system csr_instruction request accessed read written
disable_is m s w = ap (λ c. made (record s { csrs = c; pc = word (s.pc + 4) })) (disabled s.csrs s.csrs.mie s.csrs.mpie refl refl)

-- sp and mscratch are exchanged, where exactly one of mpil and mil is 0
pub swap_is : (m : Meanings) (s : State) (w p : ℕ) (c : CsrState) → swapped true s.csrs (register s.registers 2) ≡ record { answer = p; csrs = c }
    → performed m s (Csr Csrrw 2 2 0x349) w 4 ≡ made (record s { registers = with_register s.registers 2 p; csrs = c; pc = word (s.pc + 4) })
unfolding performed effect system csr_instruction request
swap_is m s w p c e = ap (λ (a : Accessed). made (record s { registers = with_register s.registers 2 a.answer; csrs = a.csrs; pc = word (s.pc + 4) })) e

-- an input is claimed, or none
pub claim_is : (m : Meanings) (s : State) (rd w : ℕ) (t : Option Choice) → found (top s.outside.clic) s.csrs ≡ t
    → performed m s (Csr Csrrsi rd 8 0x345) w 4 ≡ made (record s { registers = with_register s.registers rd (claiming (record s.csrs { mie = true }) s.outside.clic t).answer; csrs = (claiming (record s.csrs { mie = true }) s.outside.clic t).csrs; outside = record s.outside { clic = (claiming (record s.csrs { mie = true }) s.outside.clic t).clic }; pc = word (s.pc + 4) })
unfolding performed effect system csr_instruction request next_interrupt
claim_is m s rd w t e = ap (λ t. made (record s { registers = with_register s.registers rd (claiming (record s.csrs { mie = true }) s.outside.clic t).answer; csrs = (claiming (record s.csrs { mie = true }) s.outside.clic t).csrs; outside = record s.outside { clic = (claiming (record s.csrs { mie = true }) s.outside.clic t).clic }; pc = word (s.pc + 4) })) e

pub mret_is : (m : Meanings) (s : State) (w : ℕ) → performed m s Mret w 4 ≡ made (record s { csrs = record s.csrs { mie = s.csrs.mpie; mpie = true; mil = s.csrs.mpil }; pc = s.csrs.mepc })
unfolding performed effect system returned
mret_is m s w = refl
