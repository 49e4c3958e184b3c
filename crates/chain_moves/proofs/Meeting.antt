-- An aligned access that meets a hidden byte, or a live frame, is in memory.
use Rattle.std.proofs.Common.{◌≡◌, ℕ, zero, suc, ◌+◌, ◌-◌, ◌%◌, ◌<◌, ◌≤◌, ◌⊎◌, inl, inr, ⊎_elim, Bool, true, false, List, [], ◌∷◌, length, refl, sym, ◌∙◌, subst, arith}
use Rattle.std.specs.Prelude.{◌==◌, nat_le, nat_lt, slice_index_or}
use Rattle.std.proofs.lemmas.List.{get_or_past}
use Rattle.std.proofs.lemmas.Bool.{or_cases, and_parts, leb-true, ltb-true, eqb-true, cases_lt, false≢true}
use Rattle.rv_encoding.specs.declared.instruction.Ins.{Ins}
use Rattle.rv_encoding.specs.declared.instruction.Ins.TheVariants.{Lui, Auipc, Jal, Jalr, Branch, Load as LoadIns, Store as StoreIns, Imm, Reg, Fence, Ecall, Ebreak, Mret, Wfi, Csr}
use Rattle.rv_encoding.specs.declared.operations.LoadOp.{LoadOp}
use Rattle.rv_encoding.specs.declared.operations.LoadOp.TheVariants.{Lb, Lh, Lw, Lbu, Lhu}
use Rattle.rv_encoding.specs.declared.operations.StoreOp.{StoreOp}
use Rattle.rv_encoding.specs.declared.operations.StoreOp.TheVariants.{Sb, Sh, Sw}
use Rattle.hart_exec.specs.Access.{IsWidth, load_width, store_width}
use Rattle.hart_exec.specs.Effect.{effect}
use Rattle.hart_exec.specs.declared.effect.Effect.{Effect}
use Rattle.hart_exec.specs.declared.effect.Effect.TheVariants.{Go, Load, Store, System}
use Rattle.hart_memory.specs.Place.{place}
use Rattle.hart_memory.specs.declared.place.Place.{Place}
use Rattle.hart_memory.specs.declared.place.Place.TheVariants.{InRom, InRam, Elsewhere}
use Rattle.hart_memory.specs.declared.address_map.TheConstants.{RAM_BASE, BANK_LEN}
use Rattle.hart_memory.proofs.PlaceLemmas.{place_rom, place_ram}
use Rattle.chain_moves.specs.Slot.{in_slot, frame_size}
use Rattle.chain_moves.specs.Servicing.{Live, marks}
use Rattle.chain_moves.specs.Bytes.{some_byte, is_dead, is_hidden, in_frame, in_live_frame}
use Rattle.chain_moves.specs.Agreement.{Frames}

-- ---- widths
abbrev pub HasWidth : Effect → Type 0
HasWidth (Go rd value next) = Unit {0}
HasWidth (Load rd at width signed) = IsWidth width
HasWidth (Store at width value) = IsWidth width
HasWidth System = Unit {0}

load_widths : (op : LoadOp) → IsWidth (load_width op)
load_widths Lb = inl refl
load_widths Lh = inr (inl refl)
load_widths Lw = inr (inr refl)
load_widths Lbu = inl refl
load_widths Lhu = inr (inl refl)

store_widths : (op : StoreOp) → IsWidth (store_width op)
store_widths Sb = inl refl
store_widths Sh = inr (inl refl)
store_widths Sw = inr (inr refl)

pub has_width : (ins : Ins) (length : ℕ) (registers : List ℕ) (pc : ℕ) → HasWidth (effect ins length registers pc)
unfolding effect
has_width (Lui rd imm) length registers pc = tt
has_width (Auipc rd imm) length registers pc = tt
has_width (Jal rd offset) length registers pc = tt
has_width (Jalr rd rs1 imm) length registers pc = tt
has_width (Branch op rs1 rs2 offset) length registers pc = tt
has_width (LoadIns op rd rs1 imm) length registers pc = load_widths op
has_width (StoreIns op rs1 rs2 imm) length registers pc = store_widths op
has_width (Imm op rd rs1 imm) length registers pc = tt
has_width (Reg op rd rs1 rs2) length registers pc = tt
has_width (Fence pred succ) length registers pc = tt
has_width Ecall length registers pc = tt
has_width Ebreak length registers pc = tt
has_width Mret length registers pc = tt
has_width Wfi length registers pc = tt
has_width (Csr op rd source csr) length registers pc = tt

-- ---- one of several bytes
pub record Among (test : ℕ → Bool) (at n : ℕ) : Type 0 where
  pub j : ℕ
  pub low : at ≤ j
  pub high : j < at + n
  pub holds : test j ≡ true

pub among : (test : ℕ → Bool) (at n : ℕ) → some_byte test at n ≡ true → Among test at n
unfolding some_byte
among test at zero e = absurd (false≢true e)
among test at (suc n) e =
    ⊎_elim
    (λ (h : test at ≡ true). record { j = at; low = omega arith; high = omega arith; holds = h })
    (λ (h : some_byte test (at + 1) n ≡ true). let r = among test (at + 1) n h in let l = r.low in let u = r.high in record { j = r.j; low = omega arith; high = omega arith; holds = r.holds })
    (or_cases (test at) (some_byte test (at + 1) n) e)

-- ---- places
abbrev pub InMemory : Place → Type 0
InMemory (InRom k) = Unit {0}
InMemory (InRam k) = Unit {0}
InMemory Elsewhere = ⊥

abbrev pub InRamOnly : Place → Type 0
InRamOnly (InRom k) = ⊥
InRamOnly (InRam k) = Unit {0}
InRamOnly Elsewhere = ⊥

-- an aligned access that meets a byte of an aligned range of such lies in it
record Covered (at width base : ℕ) : Type 0 where
  low : base ≤ at
  high : at + width ≤ base + BANK_LEN

covered : (at width base j : ℕ) → IsWidth width → base % 4 ≡ 0 → (at % width == 0) ≡ true → at ≤ j → j < at + width → base ≤ j → j < base + BANK_LEN → Covered at width base
covered at width base j w b a l u q r =
    ⊎_elim
    (λ (e : width ≡ 1). record { low = omega arith; high = omega arith })
    (λ (o : (width ≡ 2) ⊎ (width ≡ 4)). ⊎_elim
    (λ (e : width ≡ 2). let z : at % 2 ≡ 0 = eqb-true (at % 2) 0 (subst (λ n. (at % n == 0) ≡ true) e a) in record { low = omega arith; high = omega arith })
    (λ (e : width ≡ 4). let z : at % 4 ≡ 0 = eqb-true (at % 4) 0 (subst (λ n. (at % n == 0) ≡ true) e a) in record { low = omega arith; high = omega arith })
    o)
    w

ram_place : (at width j : ℕ) → IsWidth width → (at % width == 0) ≡ true → at ≤ j → j < at + width → RAM_BASE ≤ j → j < RAM_BASE + BANK_LEN → place at width ≡ InRam (at - RAM_BASE)
ram_place at width j w a l u q r = let c = covered at width RAM_BASE j w refl a l u q r in place_ram at width c.low c.high

rom_place : (at width j : ℕ) → IsWidth width → (at % width == 0) ≡ true → at ≤ j → j < at + width → j < BANK_LEN → place at width ≡ InRom at
rom_place at width j w a l u r = let c = covered at width 0 j w refl a l u (omega arith) (omega arith) in place_rom at width c.high

-- a dead byte lies in RAM
dead-lt : (dead : List Bool) (j : ℕ) → slice_index_or dead j false ≡ true → j < length dead
dead-lt dead j h = ⊎_elim (λ (l : j < length dead). l) (λ (l : length dead ≤ j). absurd (false≢true (sym (get_or_past dead j false l) ∙ h))) (cases_lt j (length dead))

pub hidden_in_memory : (dead : List Bool) (at width : ℕ) → length dead ≡ BANK_LEN → IsWidth width → (at % width == 0) ≡ true → some_byte (is_hidden dead) at width ≡ true → InMemory (place at width)
hidden_in_memory dead at width n w a h =
    let r = among (is_hidden dead) at width h in
    ⊎_elim
    (λ (e : in_slot r.j ≡ true).
    let below = ltb-true r.j 0xC0 (and_parts (nat_le 0x40 r.j) (nat_lt r.j 0xC0) e).1 in
    subst (λ p. InMemory p) (sym (rom_place at width r.j w a r.low r.high (omega arith))) tt)
    (λ (e : is_dead dead r.j ≡ true).
    let parts = and_parts (nat_le RAM_BASE r.j) (slice_index_or dead (r.j - RAM_BASE) false) e in
    let low = leb-true RAM_BASE r.j parts.0 in
    let high = dead-lt dead (r.j - RAM_BASE) parts.1 in
    subst (λ p. InMemory p) (sym (ram_place at width r.j w a r.low r.high low (omega (arith, n, low, high)))) tt)
    (or_cases (in_slot r.j) (is_dead dead r.j) r.holds)

-- a byte of a live frame lies in RAM
record InBank (j : ℕ) : Type 0 where
  low : RAM_BASE ≤ j
  high : j < RAM_BASE + BANK_LEN

framed : (vs : List Live) (ram : List ℕ) (dead : List Bool) (j : ℕ) → Frames ram dead vs → in_live_frame (marks vs) j ≡ true → InBank j
unfolding in_live_frame marks
framed [] ram dead j f e = absurd (false≢true e)
framed (v ∷ vs) ram dead j f e =
    ⊎_elim
    (λ (h : in_frame v.mark.frame j ≡ true).
    let parts = and_parts (nat_le v.mark.frame j) (nat_lt j (v.mark.frame + frame_size)) h in
    let l = leb-true v.mark.frame j parts.0 in
    let u = ltb-true j (v.mark.frame + frame_size) parts.1 in
    let low = f.0.low in
    let high = f.0.high in
    record { low = omega arith; high = omega arith })
    (λ (h : in_live_frame (marks vs) j ≡ true). framed vs ram dead j f.1 h)
    (or_cases (in_frame v.mark.frame j) (in_live_frame (marks vs) j) e)

pub frame_in_ram : (vs : List Live) (ram : List ℕ) (dead : List Bool) (at width : ℕ) → Frames ram dead vs → IsWidth width → (at % width == 0) ≡ true → some_byte (in_live_frame (marks vs)) at width ≡ true → InRamOnly (place at width)
frame_in_ram vs ram dead at width f w a h =
    let r = among (in_live_frame (marks vs)) at width h in
    let b = framed vs ram dead r.j f r.holds in
    subst (λ p. InRamOnly p) (sym (ram_place at width r.j w a r.low r.high b.low b.high)) tt
