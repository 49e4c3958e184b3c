-- What a system instruction, an entry and an exception make of a valid state is valid again.
use Rattle.std.proofs.Common.{◌≡◌, ◌≢◌, ℕ, ◌-◌, ◌%◌, ◌^◌, ◌<◌, ◌≤◌, Bool, true, false, cond, List, length, get_or, set, Option, Some, None, refl, sym, ◌∙◌, subst, arith, length-set, ⊎_elim}
use Rattle.std.specs.Prelude.{◌==◌, ◌&&◌, nat_eq, nat_lt, ⊤}
use Rattle.std.proofs.lemmas.Nat.{or_of_32, and_le_l}
use Rattle.std.proofs.lemmas.Bool.{and_parts, eqb-false, ltb-true, cases_eq, cases_lt}
use Rattle.std.proofs.lemmas.List.{get_or-set_same, get_or-set_other, set_past}
use Rattle.hart_words.specs.Registers.{AreRegisters, register, with_register}
use Rattle.hart_exec.specs.Bounds.{AreWords}
use Rattle.rv_encoding.specs.Fits.{can_be_spelled, is_register}
use Rattle.rv_encoding.specs.declared.instruction.Ins.{Ins}
use Rattle.rv_encoding.specs.declared.instruction.Ins.TheVariants.{Ecall, Ebreak, Mret, Wfi, Csr}
use Rattle.rv_encoding.specs.declared.operations.CsrOp.{CsrOp}
use Rattle.rv_encoding.specs.declared.operations.CsrOp.TheVariants.{Csrrw, Csrrs, Csrrc, Csrrwi, Csrrsi, Csrrci}
use Rattle.hart_memory.specs.Memory.{Memory, IsWhole}
use Rattle.hart_memory.specs.Access.{loaded, loaded_by}
use Rattle.hart_memory.specs.Bytes.{number_at}
use Rattle.hart_memory.specs.Place.{place}
use Rattle.hart_memory.specs.declared.place.Place.{Place}
use Rattle.hart_memory.specs.declared.place.Place.TheVariants.{InRom, InRam, Elsewhere}
use Rattle.hart_memory.proofs.NumberLemmas.{number_at-lt}
use Rattle.csr_file.specs.CsrState.{CsrState, IsCsrState}
use Rattle.csr_file.specs.Views.{bit}
use Rattle.csr_file.specs.Table.{read, written}
use Rattle.clic_regs.specs.ClicState.{ClicState, IsClicState}
use Rattle.clic_regs.proofs.Kept.{claimed-kept}
use Rattle.clic_select.specs.Top.{top}
use Rattle.clic_select.specs.declared.choice.Choice.{Choice}
use Rattle.clic_select.proofs.Tops.{top_id-lt, top_level-lt}
use Rattle.clic_trap.specs.CsrAccess.{Accessed, operand, new_value, with_old, accessed_by, accessed}
use Rattle.clic_trap.specs.CsrInstruction.{after_try, csr_done, csr_instruction}
use Rattle.clic_trap.specs.CsrRequest.{request}
use Rattle.clic_trap.specs.Due.{is_above}
use Rattle.clic_trap.specs.Entry.{Entry, entered, entered_by, entered_through, interrupted, vector_address}
use Rattle.clic_trap.specs.Exception.{exception_entered}
use Rattle.clic_trap.specs.NextInterrupt.{answer_of, next_interrupt, next_by, claiming, found, found_by}
use Rattle.clic_trap.specs.Outcome.{SystemOutcome}
use Rattle.clic_trap.specs.Return.{returned}
use Rattle.clic_trap.specs.Swap.{swapped, swapped_by}
use Rattle.clic_trap.specs.System.{system}
use Rattle.clic_trap.specs.declared.claim.Claim.{Claim}
use Rattle.clic_trap.specs.declared.claim.Claim.TheVariants.{Read, Set, Clear}
use Rattle.clic_trap.specs.declared.csr_request.CsrRequest.{CsrRequest}
use Rattle.clic_trap.specs.declared.csr_request.CsrRequest.TheVariants.{Illegal, NextInterrupt, Swap, Plain}
use Rattle.clic_trap.specs.declared.entered.Entered.TheVariants.{At}
use Rattle.clic_trap.specs.declared.system_end.SystemEnd.{SystemEnd}
use Rattle.clic_trap.specs.declared.system_end.SystemEnd.TheVariants.{Next, Jump, Raise}

-- ---- registers

words_set : (xs : List ℕ) (i x : ℕ) → AreWords xs → x < 2 ^ 32 → AreWords (set xs i x)
words_set xs i x w l r =
    ⊎_elim
    (λ (e : r ≡ i). ⊎_elim
    (λ (h : i < length xs). subst (λ j. get_or (set xs i x) j 0 < 2 ^ 32) (sym e) (subst (λ y. y < 2 ^ 32) (sym (get_or-set_same xs i x 0 h)) l))
    (λ (h : length xs ≤ i). subst (λ ys. get_or ys r 0 < 2 ^ 32) (sym (set_past xs i x h)) (w r))
    (cases_lt i (length xs)))
    (λ (n : r ≡ i → ⊥). subst (λ y. y < 2 ^ 32) (sym (get_or-set_other xs i r x 0 n)) (w r))
    (cases_eq r i)

set_by : (b : Bool) (rs : List ℕ) (rd x : ℕ) → nat_eq rd 0 ≡ b → AreRegisters rs → x < 2 ^ 32 → AreRegisters (cond b rs (set rs rd x))
set_by true rs rd x e h l = h
set_by false rs rd x e h l =
    let n : 0 ≢ rd = λ z. eqb-false rd 0 e (sym z) in
    record { count = length-set rs rd x ∙ h.count; words = words_set rs rd x h.words l; zero = get_or-set_other rs rd 0 x 0 n ∙ h.zero }

pub register_set : (rs : List ℕ) (rd x : ℕ) → AreRegisters rs → x < 2 ^ 32 → AreRegisters (with_register rs rd x)
register_set rs rd x h l = set_by (nat_eq rd 0) rs rd x refl h l

-- ---- what a control register reads is a word

bit-lt : (b : Bool) → bit b < 2
bit-lt true = omega arith
bit-lt false = omega arith

row_read : (test : Bool) (shown w : ℕ) (other : Option ℕ) → shown < 2 ^ 32 → (other ≡ Some w → w < 2 ^ 32) → cond test (Some shown) other ≡ Some w → w < 2 ^ 32
row_read true shown w other l there e = let is : shown ≡ w = cc in subst (λ x. x < 2 ^ 32) is l
row_read false shown w other l there e = there e

pub read-lt : (c : CsrState) (number w : ℕ) → IsCsrState c → read c number ≡ Some w → w < 2 ^ 32
unfolding read
read-lt c number w h e =
    let i = bit-lt c.interrupt in
    let p = bit-lt c.mpie in
    let m = bit-lt c.mie in
    row_read (number == 0x300) _ w _ (omega arith)
    (row_read (number == 0x301) _ w _ (omega arith)
    (row_read (number == 0x304) _ w _ (omega arith)
    (row_read (number == 0x305) _ w _ (let f = h.mtvec_base in omega (arith, f.0, f.1))
    (row_read (number == 0x307) _ w _ h.mtvt.1
    (row_read (number == 0x340) _ w _ h.mscratch
    (row_read (number == 0x341) _ w _ h.mepc.1
    (row_read (number == 0x342) _ w _ (omega (arith, h.mpil, h.exccode))
    (row_read (number == 0x343) _ w _ h.mtval
    (row_read (number == 0x344) _ w _ (omega arith)
    (row_read (number == 0x347) _ w _ (omega (arith, h.th))
    (row_read (number == 0xFB1) _ w _ (omega (arith, h.mil))
    (row_read (number == 0xF11) _ w _ (omega arith)
    (row_read (number == 0xF12) _ w _ (omega arith)
    (row_read (number == 0xF13) _ w _ (omega arith)
    (row_read (number == 0xF14) _ w _ (omega arith) (λ n. absurd cc)))))))))))))))) e

-- ---- what is written keeps each field in its range

row_written : (test : Bool) (new d : CsrState) (other : Option CsrState) → IsCsrState new → (other ≡ Some d → IsCsrState d) → cond test (Some new) other ≡ Some d → IsCsrState d
row_written true new d other l there e = let is : new ≡ d = cc in subst (λ x. IsCsrState x) is l
row_written false new d other l there e = there e

pub written-kept : (c d : CsrState) (number w : ℕ) → IsCsrState c → w < 2 ^ 32 → written c number w ≡ Some d → IsCsrState d
unfolding written
written-kept c d number w h l e =
    row_written (number == 0x300) _ d _ (record { mtvec_base = h.mtvec_base; mtvt = h.mtvt; mscratch = h.mscratch; mepc = h.mepc; mpil = h.mpil; exccode = h.exccode; mtval = h.mtval; mil = h.mil; th = h.th })
    (row_written (number == 0x301) _ d _ h
    (row_written (number == 0x304) _ d _ h
    (row_written (number == 0x305) _ d _ (record { mtvec_base = (omega arith, omega arith); mtvt = h.mtvt; mscratch = h.mscratch; mepc = h.mepc; mpil = h.mpil; exccode = h.exccode; mtval = h.mtval; mil = h.mil; th = h.th })
    (row_written (number == 0x307) _ d _ (record { mtvec_base = h.mtvec_base; mtvt = (omega arith, omega arith); mscratch = h.mscratch; mepc = h.mepc; mpil = h.mpil; exccode = h.exccode; mtval = h.mtval; mil = h.mil; th = h.th })
    (row_written (number == 0x340) _ d _ (record { mtvec_base = h.mtvec_base; mtvt = h.mtvt; mscratch = l; mepc = h.mepc; mpil = h.mpil; exccode = h.exccode; mtval = h.mtval; mil = h.mil; th = h.th })
    (row_written (number == 0x341) _ d _ (record { mtvec_base = h.mtvec_base; mtvt = h.mtvt; mscratch = h.mscratch; mepc = (omega arith, omega arith); mpil = h.mpil; exccode = h.exccode; mtval = h.mtval; mil = h.mil; th = h.th })
    (row_written (number == 0x342) _ d _ (record { mtvec_base = h.mtvec_base; mtvt = h.mtvt; mscratch = h.mscratch; mepc = h.mepc; mpil = omega arith; exccode = omega arith; mtval = h.mtval; mil = h.mil; th = h.th })
    (row_written (number == 0x343) _ d _ (record { mtvec_base = h.mtvec_base; mtvt = h.mtvt; mscratch = h.mscratch; mepc = h.mepc; mpil = h.mpil; exccode = h.exccode; mtval = l; mil = h.mil; th = h.th })
    (row_written (number == 0x344) _ d _ h
    (row_written (number == 0x347) _ d _ (record { mtvec_base = h.mtvec_base; mtvt = h.mtvt; mscratch = h.mscratch; mepc = h.mepc; mpil = h.mpil; exccode = h.exccode; mtval = h.mtval; mil = h.mil; th = omega arith })
    (λ n. absurd cc))))))))))) e

-- ---- accesses

pub record IsAccessed (a : Accessed) : Type 0 where
  pub answer : a.answer < 2 ^ 32
  pub csrs : IsCsrState a.csrs

abbrev IfAccessed : Option Accessed → Type 0
IfAccessed None = ⊤
IfAccessed (Some a) = IsAccessed a

new_value-lt : (op : CsrOp) (old x : ℕ) → old < 2 ^ 32 → x < 2 ^ 32 → new_value op old x < 2 ^ 32
new_value-lt Csrrw old x o l = l
new_value-lt Csrrs old x o l = or_of_32 old x o l
new_value-lt Csrrc old x o l = let le = and_le_l old (2 ^ 32 - 1 - x) in omega (arith, le, o)
new_value-lt Csrrwi old x o l = l
new_value-lt Csrrsi old x o l = or_of_32 old x o l
new_value-lt Csrrci old x o l = let le = and_le_l old (2 ^ 32 - 1 - x) in omega (arith, le, o)

with_old-is : (old number w : ℕ) (c : CsrState) (o : Option CsrState) → IsCsrState c → old < 2 ^ 32 → w < 2 ^ 32 → written c number w ≡ o → IfAccessed (with_old old o)
with_old-is old number w c None h l v e = tt
with_old-is old number w c (Some d) h l v e = record { answer = l; csrs = written-kept c d number w h v e }

accessed_by-is : (o : Option ℕ) (writes : Bool) (op : CsrOp) (csr x : ℕ) (c : CsrState) → IsCsrState c → x < 2 ^ 32 → read c csr ≡ o → IfAccessed (accessed_by o writes op csr x c)
accessed_by-is None writes op csr x c h l e = tt
accessed_by-is (Some old) false op csr x c h l e = record { answer = read-lt c csr old h e; csrs = h }
accessed_by-is (Some old) true op csr x c h l e =
    let old_lt = read-lt c csr old h e in
    with_old-is old csr (new_value op old x) c (written c csr (new_value op old x)) h old_lt (new_value-lt op old x old_lt l) refl

accessed-is : (writes : Bool) (op : CsrOp) (csr x : ℕ) (c : CsrState) → IsCsrState c → x < 2 ^ 32 → IfAccessed (accessed writes op csr x c)
unfolding accessed
accessed-is writes op csr x c h l = accessed_by-is (read c csr) writes op csr x c h l refl

operand-lt : (op : CsrOp) (rs : List ℕ) (source : ℕ) → AreRegisters rs → source < 32 → operand op rs source < 2 ^ 32
operand-lt Csrrw rs source h l = h.words source
operand-lt Csrrs rs source h l = h.words source
operand-lt Csrrc rs source h l = h.words source
operand-lt Csrrwi rs source h l = omega (arith, l)
operand-lt Csrrsi rs source h l = omega (arith, l)
operand-lt Csrrci rs source h l = omega (arith, l)

swapped_by-is : (b : Bool) (c : CsrState) (value : ℕ) → IsCsrState c → value < 2 ^ 32 → IsAccessed (swapped_by b c value)
swapped_by-is true c value h l = record { answer = h.mscratch; csrs = record { mtvec_base = h.mtvec_base; mtvt = h.mtvt; mscratch = l; mepc = h.mepc; mpil = h.mpil; exccode = h.exccode; mtval = h.mtval; mil = h.mil; th = h.th } }
swapped_by-is false c value h l = record { answer = l; csrs = h }

swapped-is : (by_level : Bool) (c : CsrState) (value : ℕ) → IsCsrState c → value < 2 ^ 32 → IsAccessed (swapped by_level c value)
unfolding swapped
swapped-is by_level c value h l = swapped_by-is _ c value h l

-- ---- the top

pub record IsChoice (t : Choice) : Type 0 where
  pub id : t.id < 1025
  pub level : t.level < 256

pub top_is_choice : (s : ClicState) (t : Choice) → IsClicState s → top s ≡ Some t → IsChoice t
top_is_choice s t h e = record {
  id = let l = top_id-lt s t e in omega (arith, l, h.pending, h.shape.most);
  level = top_level-lt s t h.nlbits h.controls e;
}

vector-lt : (c : CsrState) (id : ℕ) → vector_address c id < 2 ^ 32
vector-lt c id = omega arith

-- ---- the claim

pub record IsClaimed (word : ℕ) (c : CsrState) (s : ClicState) : Type 0 where
  pub answer : word < 2 ^ 32
  pub csrs : IsCsrState c
  pub clic : IsClicState s

with_mie : (c : CsrState) (b : Bool) → IsCsrState c → IsCsrState (record c { mie = b })
with_mie c b h = record { mtvec_base = h.mtvec_base; mtvt = h.mtvt; mscratch = h.mscratch; mepc = h.mepc; mpil = h.mpil; exccode = h.exccode; mtval = h.mtval; mil = h.mil; th = h.th }

claiming-is : (c : CsrState) (s : ClicState) (t : Option Choice) → IsCsrState c → IsClicState s → ((u : Choice) → t ≡ Some u → IsChoice u) → IsClaimed (claiming c s t).answer (claiming c s t).csrs (claiming c s t).clic
claiming-is c s None h k f = record { answer = omega arith; csrs = h; clic = k }
claiming-is c s (Some t) h k f =
    let choice = f t refl in
    record {
      answer = vector-lt c t.id;
      csrs = record { mtvec_base = h.mtvec_base; mtvt = h.mtvt; mscratch = h.mscratch; mepc = h.mepc; mpil = h.mpil; exccode = omega (arith, choice.id); mtval = h.mtval; mil = choice.level; th = h.th };
      clic = claimed-kept s t.id k;
    }

answer-lt : (c : CsrState) (t : Option Choice) → answer_of c t < 2 ^ 32
answer-lt c None = omega arith
answer-lt c (Some t) = vector-lt c t.id

next_by-is : (form : Claim) (c : CsrState) (s : ClicState) (t : Option Choice) → IsCsrState c → IsClicState s → ((u : Choice) → t ≡ Some u → IsChoice u) → IsClaimed (next_by form c s t).answer (next_by form c s t).csrs (next_by form c s t).clic
next_by-is Read c s t h k f = record { answer = answer-lt c t; csrs = h; clic = k }
next_by-is Set c s t h k f = claiming-is (record c { mie = true }) s t (with_mie c true h) k f
next_by-is Clear c s t h k f = claiming-is (record c { mie = false }) s t (with_mie c false h) k f

found_by-top : (a shv : Bool) (t u : Choice) → found_by a shv t ≡ Some u → t ≡ u
found_by-top true false t u e = cc
found_by-top true true t u e = absurd cc
found_by-top false shv t u e = absurd cc

found-choice : (s : ClicState) (c : CsrState) (o : Option Choice) (u : Choice) → IsClicState s → top s ≡ o → found o c ≡ Some u → IsChoice u
found-choice s c None u k e f = absurd cc
found-choice s c (Some t) u k e f = subst (λ x. IsChoice x) (found_by-top (is_above t c.mpil c.th) t.shv t u f) (top_is_choice s t k e)

next-is : (form : Claim) (c : CsrState) (s : ClicState) → IsCsrState c → IsClicState s → IsClaimed (next_interrupt form c s).answer (next_interrupt form c s).csrs (next_interrupt form c s).clic
unfolding next_interrupt
next-is form c s h k = next_by-is form c s (found (top s) c) h k (λ u e. found-choice s c (top s) u k refl e)

-- ---- a system instruction

abbrev pub EndsRight : SystemEnd → Type 0
EndsRight Next = ⊤
EndsRight (Jump target) = (target % 2 ≡ 0) × (target < 2 ^ 32)
EndsRight (Raise code) = code < 4096

pub record IsOutcome (made : SystemOutcome) : Type 0 where
  pub answer : EndsRight made.answer
  pub registers : AreRegisters made.registers
  pub csrs : IsCsrState made.csrs
  pub clic : IsClicState made.clic

after_try-is : (a : Option Accessed) (rd : ℕ) (r : List ℕ) (c : CsrState) (s : ClicState) → AreRegisters r → IsCsrState c → IsClicState s → IfAccessed a → IsOutcome (after_try a rd r c s)
after_try-is None rd r c s g h k a = record { answer = omega arith; registers = g; csrs = h; clic = k }
after_try-is (Some x) rd r c s g h k a = record { answer = tt; registers = register_set r rd x.answer g a.answer; csrs = a.csrs; clic = k }

csr-is : (q : CsrRequest) (op : CsrOp) (rd source csr : ℕ) (r : List ℕ) (c : CsrState) (s : ClicState) → source < 32 → AreRegisters r → IsCsrState c → IsClicState s → IsOutcome (csr_done q op rd source csr r c s)
csr-is Illegal op rd source csr r c s l g h k = record { answer = omega arith; registers = g; csrs = h; clic = k }
csr-is (NextInterrupt form) op rd source csr r c s l g h k = let n = next-is form c s h k in record { answer = tt; registers = register_set r rd _ g n.answer; csrs = n.csrs; clic = n.clic }
csr-is (Swap by_level) op rd source csr r c s l g h k = let a = swapped-is by_level c (register r source) h (g.words source) in record { answer = tt; registers = register_set r rd _ g a.answer; csrs = a.csrs; clic = k }
csr-is (Plain writes) op rd source csr r c s l g h k = after_try-is (accessed writes op csr (operand op r source) c) rd r c s g h k (accessed-is writes op csr (operand op r source) c h (operand-lt op r source g l))

source-lt : (op : CsrOp) (rd source csr : ℕ) → can_be_spelled (Csr op rd source csr) ≡ true → source < 32
source-lt op rd source csr f = ltb-true source 32 (and_parts (is_register rd) (nat_lt source 32) (and_parts (is_register rd && nat_lt source 32) (nat_lt csr 4096) f).0).1

pub system-is : (i : Ins) (r : List ℕ) (c : CsrState) (s : ClicState) → can_be_spelled i ≡ true → AreRegisters r → IsCsrState c → IsClicState s → IsOutcome (system i r c s)
unfolding system csr_instruction returned
system-is Ecall r c s f g h k = record { answer = omega arith; registers = g; csrs = h; clic = k }
system-is Ebreak r c s f g h k = record { answer = omega arith; registers = g; csrs = h; clic = k }
system-is Mret r c s f g h k = record { answer = h.mepc; registers = g; csrs = record { mtvec_base = h.mtvec_base; mtvt = h.mtvt; mscratch = h.mscratch; mepc = h.mepc; mpil = h.mpil; exccode = h.exccode; mtval = h.mtval; mil = h.mpil; th = h.th }; clic = k }
system-is Wfi r c s f g h k = record { answer = tt; registers = g; csrs = h; clic = k }
system-is (Csr op rd source csr) r c s f g h k = csr-is (request op rd source csr) op rd source csr r c s (source-lt op rd source csr f) g h k
system-is _ r c s f g h k = record { answer = omega arith; registers = g; csrs = h; clic = k }

-- ---- entries

loaded-lt_by : (p : Place) (m : Memory) (width v : ℕ) → IsWhole m → loaded_by p m width ≡ Some v → v < 256 ^ width
loaded-lt_by (InRom k) m width v w e = let is : number_at m.rom k width ≡ v = cc in subst (λ x. x < 256 ^ width) is (number_at-lt m.rom k width w.rom_bytes)
loaded-lt_by (InRam k) m width v w e = let is : number_at m.ram k width ≡ v = cc in subst (λ x. x < 256 ^ width) is (number_at-lt m.ram k width w.ram_bytes)
loaded-lt_by Elsewhere m width v w e = absurd cc

pub loaded-lt : (m : Memory) (at width v : ℕ) → IsWhole m → loaded m at width ≡ Some v → v < 256 ^ width
loaded-lt m at width v w e = loaded-lt_by (place at width) m width v w e

pub record IsEntry (at : ℕ) (e : Entry) : Type 0 where
  pub target : (at % 2 ≡ 0) × (at < 2 ^ 32)
  pub csrs : IsCsrState e.csrs
  pub clic : IsClicState e.clic

interrupted-is : (c : CsrState) (t : Choice) (pc : ℕ) → IsCsrState c → IsChoice t → (pc % 2 ≡ 0) × (pc < 2 ^ 32) → IsCsrState (interrupted c t pc)
interrupted-is c t pc h i p = record { mtvec_base = h.mtvec_base; mtvt = h.mtvt; mscratch = h.mscratch; mepc = p; mpil = h.mil; exccode = omega (arith, i.id); mtval = h.mtval; mil = i.level; th = h.th }

through-is : (o : Option ℕ) (c : CsrState) (s : ClicState) (t : Choice) (pc target : ℕ) → ((v : ℕ) → o ≡ Some v → v < 2 ^ 32) → IsCsrState c → IsClicState s → IsChoice t → (pc % 2 ≡ 0) × (pc < 2 ^ 32) → (entered_through o c s t pc).answer ≡ At target → IsEntry target (entered_through o c s t pc)
through-is None c s t pc target v h k i p e = absurd cc
through-is (Some vector) c s t pc target v h k i p e =
    let is : vector - vector % 2 ^ 1 ≡ target = cc in
    let l = v vector refl in
    record { target = subst (λ x. (x % 2 ≡ 0) × (x < 2 ^ 32)) is (omega arith, omega (arith, l)); csrs = interrupted-is c t pc h i p; clic = claimed-kept s t.id k }

base_even : (base : ℕ) → base % 64 ≡ 0 → base % 2 ≡ 0
base_even base h = omega (arith, h)

entered_by-is : (shv : Bool) (c : CsrState) (s : ClicState) (m : Memory) (t : Choice) (pc target : ℕ) → IsWhole m → IsCsrState c → IsClicState s → IsChoice t → (pc % 2 ≡ 0) × (pc < 2 ^ 32) → (entered_by shv c s m t pc).answer ≡ At target → IsEntry target (entered_by shv c s m t pc)
entered_by-is false c s m t pc target w h k i p e =
    let is : c.mtvec_base ≡ target = cc in
    record { target = subst (λ x. (x % 2 ≡ 0) × (x < 2 ^ 32)) is (base_even c.mtvec_base h.mtvec_base.0, h.mtvec_base.1); csrs = interrupted-is c t pc h i p; clic = k }
entered_by-is true c s m t pc target w h k i p e = through-is (loaded m (vector_address c t.id) 4) c s t pc target (λ v l. loaded-lt m (vector_address c t.id) 4 v w l) h k i p e

pub entered-is : (c : CsrState) (s : ClicState) (m : Memory) (t : Choice) (pc target : ℕ) → IsWhole m → IsCsrState c → IsClicState s → IsChoice t → (pc % 2 ≡ 0) × (pc < 2 ^ 32) → (entered c s m t pc).answer ≡ At target → IsEntry target (entered c s m t pc)
unfolding entered
entered-is c s m t pc target w h k i p e = entered_by-is t.shv c s m t pc target w h k i p e

pub exception-is : (c : CsrState) (pc code value : ℕ) → IsCsrState c → (pc % 2 ≡ 0) × (pc < 2 ^ 32) → code < 4096 → value < 2 ^ 32 → IsCsrState (exception_entered c pc code value)
unfolding exception_entered
exception-is c pc code value h p l v = record { mtvec_base = h.mtvec_base; mtvt = h.mtvt; mscratch = h.mscratch; mepc = p; mpil = h.mil; exccode = l; mtval = v; mil = h.mil; th = h.th }
