-- Loads and stores of a handler.
use Rattle.std.proofs.Common.{◌≡◌, ℕ, ◌+◌, ◌-◌, ◌*◌, ◌%◌, ◌^◌, ◌<◌, ◌≤◌, ◌⊎◌, inl, inr, ⊎_elim, Bool, true, false, cond, List, Option, Some, None, Ok, refl, sym, ap, ◌∙◌, subst, arith}
use Rattle.std.specs.Prelude.{◌==◌, ◌&&◌, not, nat_le, nat_lt, slice_index, slice_index_or}
use Rattle.std.proofs.lemmas.Bool.{eqb-true, eq-eqb, leb-true, le-leb, lt-ltb, and_parts, and_from, or_parts, or_from, not-false, true≢false, false≢true, false_from_ne_true, cases_lt, le-ltb, and_right, and_left, lt-leb, or_cases, cond_both, cases_Bool}
use Rattle.hart_words.specs.TwosComplement.{word}
use Rattle.hart_words.specs.Registers.{register}
use Rattle.device_model.specs.Meanings.{Meanings}
use Rattle.rv_encoding.specs.declared.operations.LoadOp.{LoadOp}
use Rattle.rv_encoding.specs.declared.operations.LoadOp.TheVariants.{Lb, Lh, Lw, Lbu, Lhu}
use Rattle.rv_encoding.specs.declared.operations.StoreOp.{StoreOp}
use Rattle.rv_encoding.specs.declared.operations.StoreOp.TheVariants.{Sb, Sh, Sw}
use Rattle.hart_exec.specs.Access.{load_width, extends_sign, store_width, extended}
use Rattle.hart_memory.specs.Bytes.{number_at, with_number}
use Rattle.hart_memory.specs.Memory.{Memory}
use Rattle.hart_memory.specs.Place.{place, is_in_memory, is_in_rom}
use Rattle.hart_memory.specs.declared.place.Place.{Place}
use Rattle.hart_memory.specs.declared.place.Place.TheVariants.{InRom, InRam, Elsewhere}
use Rattle.hart_memory.specs.declared.address_map.TheConstants.{RAM_BASE, BANK_LEN}
use Rattle.hart_memory.proofs.PlaceLemmas.{in_ram, place_ram, place_rom}
use Rattle.hart_memory.proofs.NumberLemmas.{slice_index-with_number, number_at-lt, number_same}
use Rattle.hart_memory.specs.Memory.{AreBytes}
use Rattle.hart_board.specs.State.{Outside, State}
use Rattle.hart_board.specs.Region.{region as region_of}
use Rattle.hart_board.specs.Outside.{loaded_in, stored_in}
use Rattle.hart_board.specs.Access.{load, load_at, load_answer, store, store_at, store_answer}
use Rattle.chain_moves.specs.Slot.{in_slot, base, slot_end}
use Rattle.chain_moves.specs.declared.mark.Mark.{Mark}
use Rattle.chain_moves.specs.Bytes.{some_byte, is_dead, is_hidden, in_live_frame, marked, revived_at}
use Rattle.chain_certify.specs.Flow.{Flow, value_of, depth, found, with_stack_word}
use Rattle.chain_certify.specs.declared.value.Value.{Value}
use Rattle.chain_certify.specs.declared.value.Value.TheVariants.{Entry, Const, Stack, Range, Unknown}
use Rattle.chain_certify.specs.declared.stack_word.StackWord.{StackWord}
use Rattle.chain_certify.specs.Transfer.{loaded_value, stored_words, value_or_unknown, is_memory, by_width}
use Rattle.chain_certify.specs.Rules.{first_why, access_rules_at, is_bad_stack, is_bad_far, meets, is_own_word, is_absent, in_region}
use Rattle.chain_flow.specs.declared.region.Region.{Region}
use Rattle.chain_certify.proofs.Values.{Holds}
use Rattle.chain_lint.specs.Soundness.{HasCode}
use Rattle.chain_lint.proofs.Marking.{none_of, none_from, marked_stays, alive_from, alive_at}
use Rattle.chain_certify.proofs.Words.{AreOwn, Stays, stays_within, words_stay, found_own, stored_own}
use Rattle.chain_certify.proofs.Looks.{none_first}
use Rattle.chain_certify.proofs.Handlers.{IsHart, IsFramed, Knows}

-- ---- what a load leaves
pub record Leaves (t : State) (found : ℕ × State) : Type 0 where
  pub registers : found.1.registers ≡ t.registers
  pub memory : found.1.memory ≡ t.memory

answer_leaves : (t : State) (o : Option (ℕ × Outside)) (found : ℕ × State) → load_answer t o ≡ Ok found → Leaves t found
answer_leaves t (Some got) found e =
    let is : (got.0, record t { outside = got.1 }) ≡ found = cc in
    subst (λ x. Leaves t x) is (record { registers = refl; memory = refl })
answer_leaves t None found e = absurd cc

load_at_leaves : (m : Meanings) (t : State) (at width : ℕ) (aligned : Bool) (p : Place) (found : ℕ × State) → load_at m t at width aligned p ≡ Ok found → Leaves t found
load_at_leaves m t at width false p found e = absurd cc
load_at_leaves m t at width true (InRom k) found e = let is : (number_at t.memory.rom k width, t) ≡ found = cc in subst (λ x. Leaves t x) is (record { registers = refl; memory = refl })
load_at_leaves m t at width true (InRam k) found e = let is : (number_at t.memory.ram k width, t) ≡ found = cc in subst (λ x. Leaves t x) is (record { registers = refl; memory = refl })
load_at_leaves m t at width true Elsewhere found e = answer_leaves t (loaded_in m t.outside width (region_of at)) found e

pub load_leaves : (m : Meanings) (t : State) (at width : ℕ) (found : ℕ × State) → load m t at width ≡ Ok found → Leaves t found
unfolding load
load_leaves m t at width found e = load_at_leaves m t at width (at % width == 0) (place at width) found e

load_at_ram : (m : Meanings) (t : State) (at width k : ℕ) (aligned : Bool) (p : Place) → aligned ≡ true → p ≡ InRam k → load_at m t at width aligned p ≡ Ok (number_at t.memory.ram k width, t)
load_at_ram m t at width k aligned p a e = ap (λ b. load_at m t at width b p) a ∙ ap (λ q. load_at m t at width true q) e

pub load_ram : (m : Meanings) (t : State) (at : ℕ) → at % 4 ≡ 0 → RAM_BASE ≤ at → at + 4 ≤ RAM_BASE + BANK_LEN → load m t at 4 ≡ Ok (number_at t.memory.ram (at - RAM_BASE) 4, t)
unfolding load
load_ram m t at a l u = load_at_ram m t at 4 (at - RAM_BASE) (at % 4 == 0) (place at 4) (eq-eqb (at % 4) 0 a) (place_ram at 4 l u)

store_at_ram : (m : Meanings) (t : State) (at width value k : ℕ) (aligned : Bool) (p : Place) → aligned ≡ true → p ≡ InRam k
    → store_at m t at width value aligned p ≡ Ok (record t { memory = record t.memory { ram = with_number t.memory.ram k width value } })
store_at_ram m t at width value k aligned p a e = ap (λ b. store_at m t at width value b p) a ∙ ap (λ q. store_at m t at width value true q) e

pub store_ram : (m : Meanings) (t : State) (at value : ℕ) → at % 4 ≡ 0 → RAM_BASE ≤ at → at + 4 ≤ RAM_BASE + BANK_LEN
    → store m t at 4 value ≡ Ok (record t { memory = record t.memory { ram = with_number t.memory.ram (at - RAM_BASE) 4 value } })
unfolding store
store_ram m t at value a l u = store_at_ram m t at 4 value (at - RAM_BASE) (at % 4 == 0) (place at 4) (eq-eqb (at % 4) 0 a) (place_ram at 4 l u)

-- ---- an own word
pub record IsOwnPlace (frame sp width k : ℕ) : Type 0 where
  pub four : width ≡ 4
  pub aligned : depth k % 4 ≡ 0
  pub deep : 4 ≤ depth k
  pub above : sp + depth k ≤ frame

word_depth : (frame q sp : ℕ) → sp ≤ frame → frame < 2 ^ 31 → sp ≡ word (frame + q) → sp + depth q ≡ frame
word_depth frame q sp l u e = omega arith

pub own_place : (kept : List ℕ) (frame sp width k : ℕ) (v : Value) → register kept 2 ≡ frame → sp ≤ frame → frame < 2 ^ 31 → Holds kept v sp → is_own_word v width k ≡ true → IsOwnPlace frame sp width k
own_place kept frame sp width k (Entry r) p l u h e = absurd (false≢true e)
own_place kept frame sp width k (Const c) p l u h e = absurd (false≢true e)
own_place kept frame sp width k Unknown p l u h e = absurd (false≢true e)
own_place kept frame sp width k (Range a b) p l u h e = absurd (false≢true e)
own_place kept frame sp width k (Stack q) p l u h e =
    let a = and_parts (width == 4) _ e in
    let b = and_parts (depth k % 4 == 0) _ a.1 in
    let c = and_parts (nat_le 4 (depth k)) (nat_le (depth k) (depth q)) b.1 in
    let le : depth k ≤ depth q = leb-true (depth k) (depth q) c.1 in
    let sum : sp + depth q ≡ frame = word_depth frame q sp l u (h ∙ ap (λ y. word (y + q)) p) in
    record { four = eqb-true width 4 a.0; aligned = eqb-true (depth k % 4) 0 b.0; deep = leb-true 4 (depth k) c.0; above = omega arith }

pub place_sum : (frame k at : ℕ) → depth k ≤ frame → frame < 2 ^ 31 → at ≡ word (frame + k) → at + depth k ≡ frame
place_sum frame k at l u e = omega arith

-- a mark that was not set is not set afterwards
pub revived_alive : (dead : List Bool) (p : Place) (width j : ℕ) → is_dead dead j ≡ false → RAM_BASE ≤ j → is_dead (revived_at p width dead) j ≡ false
revived_alive dead (InRom k) width j h l = h
revived_alive dead Elsewhere width j h l = h
revived_alive dead (InRam k) width j h l = alive_from (marked dead k width false) j (marked_stays width dead k (j - RAM_BASE) (alive_at dead j l h))

pub revived_dead : (dead : List Bool) (p : Place) (width j : ℕ) → is_dead (revived_at p width dead) j ≡ true → is_dead dead j ≡ true
revived_dead dead p width j h =
    let parts = and_parts (nat_le RAM_BASE j) (slice_index_or (revived_at p width dead) (j - RAM_BASE) false) h in
    ⊎_elim (λ (e : is_dead dead j ≡ true). e) (λ (e : is_dead dead j ≡ false). absurd (true≢false (sym h ∙ revived_alive dead p width j e (leb-true RAM_BASE j parts.0)))) (cases_Bool (is_dead dead j))

-- the number of a place in the stack is a word
abbrev pub IsSmall : Value → Type 0
IsSmall (Stack k) = k < 2 ^ 32
IsSmall _ = Unit {0}

-- ---- what a load gives from memory
small_by : (m : Meanings) (t : State) (at width : ℕ) (aligned : Bool) (p : Place) (found : ℕ × State) → AreBytes t.memory.rom → AreBytes t.memory.ram → is_in_memory p ≡ true → load_at m t at width aligned p ≡ Ok found → found.0 < 256 ^ width
small_by m t at width false p found r a i e = absurd cc
small_by m t at width true (InRom k) found r a i e = let is : (number_at t.memory.rom k width, t) ≡ found = cc in subst (λ x. x.0 < 256 ^ width) is (number_at-lt t.memory.rom k width r)
small_by m t at width true (InRam k) found r a i e = let is : (number_at t.memory.ram k width, t) ≡ found = cc in subst (λ x. x.0 < 256 ^ width) is (number_at-lt t.memory.ram k width a)
small_by m t at width true Elsewhere found r a i e = absurd (false≢true i)

loaded_small : (m : Meanings) (t : State) (at width : ℕ) (found : ℕ × State) → AreBytes t.memory.rom → AreBytes t.memory.ram → is_in_memory (place at width) ≡ true → load m t at width ≡ Ok found → found.0 < 256 ^ width
unfolding load
loaded_small m t at width found r a i e = small_by m t at width (at % width == 0) (place at width) found r a i e

rom_by : (m : Meanings) (t : State) (at width : ℕ) (aligned : Bool) (p : Place) (found : ℕ × State) → p ≡ InRom at → load_at m t at width aligned p ≡ Ok found → found.0 ≡ number_at t.memory.rom at width
rom_by m t at width false p found q e = absurd cc
rom_by m t at width true (InRom k) found q e = let is : (number_at t.memory.rom k width, t) ≡ found = cc in let same : k ≡ at = cc in sym (ap (λ x. x.0) is) ∙ ap (λ i. number_at t.memory.rom i width) same
rom_by m t at width true (InRam k) found q e = absurd cc
rom_by m t at width true Elsewhere found q e = absurd cc

loaded_rom : (m : Meanings) (t : State) (at width : ℕ) (found : ℕ × State) → at + width ≤ BANK_LEN → load m t at width ≡ Ok found → found.0 ≡ number_at t.memory.rom at width
unfolding load
loaded_rom m t at width found l e = rom_by m t at width (at % width == 0) (place at width) found (place_rom at width l) e

in_memory : (least greatest at width : ℕ) → least ≤ at → at ≤ greatest → is_memory least greatest width ≡ true → is_in_memory (place at width) ≡ true
in_memory least greatest at width l g e =
    ⊎_elim
    (λ (r : nat_le (greatest + width) BANK_LEN ≡ true). let n = leb-true (greatest + width) BANK_LEN r in ap is_in_memory (place_rom at width (omega arith)))
    (λ (r : (nat_le RAM_BASE least && nat_le (greatest + width) (RAM_BASE + BANK_LEN)) ≡ true).
    let parts = and_parts (nat_le RAM_BASE least) (nat_le (greatest + width) (RAM_BASE + BANK_LEN)) r in
    let n = leb-true RAM_BASE least parts.0 in
    let o = leb-true (greatest + width) (RAM_BASE + BANK_LEN) parts.1 in
    ap is_in_memory (place_ram at width (omega arith) (omega arith)))
    (or_cases (nat_le (greatest + width) BANK_LEN) (nat_le RAM_BASE least && nat_le (greatest + width) (RAM_BASE + BANK_LEN)) e)

width_holds : (kept : List ℕ) (op : LoadOp) (x : ℕ) → x < 256 ^ load_width op → Holds kept (by_width op) (extended x (load_width op) (extends_sign op))
width_holds kept Lb x l = tt
width_holds kept Lh x l = tt
width_holds kept Lw x l = tt
width_holds kept Lbu x l = ((omega arith), (omega arith))
width_holds kept Lhu x l = ((omega arith), (omega arith))

-- ---- numbers that are apart from some addresses
meets_apart : (a b c d : ℕ) → meets a b c d ≡ false → (d ≤ a) ⊎ (b ≤ c)
meets_apart a b c d e =
    ⊎_elim
    (λ (l : a < d). ⊎_elim (λ (k : c < b). absurd (true≢false (sym (and_from (nat_lt a d) (nat_lt c b) (lt-ltb a d l) (lt-ltb c b k)) ∙ e))) (λ (k : b ≤ c). inr k) (cases_lt c b))
    (λ (l : d ≤ a). inl l)
    (cases_lt a d)

apart_at : (a b c d j : ℕ) → (d ≤ a) ⊎ (b ≤ c) → a ≤ j → j < b → (nat_le c j && nat_lt j d) ≡ false
apart_at a b c d j o l r =
    ⊎_elim
    (λ (u : d ≤ a). and_right (nat_le c j) (nat_lt j d) (le-ltb j d (omega arith)))
    (λ (u : b ≤ c). and_left (nat_le c j) (nat_lt j d) (lt-leb c j (omega arith)))
    o

-- ---- the accesses of one handler
module _ (m : Meanings) (t : State) (live : List Mark) (dead : List Bool) (region : Region) (uses : ℕ) (kept : List ℕ) (frame : ℕ) (f : Flow)
    (framed : IsFramed region uses kept frame) (hart : IsHart t) (dead_in : (j : ℕ) → is_dead dead j ≡ true → in_region region j ≡ true)
    (frames_in : (j : ℕ) → in_live_frame live j ≡ true → (frame ≤ j) × (in_region region j ≡ true)) (top : register t.registers 2 ≤ frame) (low : region.low ≤ register t.registers 2)
    (knows : Knows kept frame t.registers t.memory.ram dead f) (code : List ℕ) (has_code : HasCode code t.memory.rom) where
  not_dead : (j : ℕ) → in_region region j ≡ false → is_dead dead j ≡ false
  not_dead j n = false_from_ne_true (is_dead dead j) (λ d. true≢false (sym (dead_in j d) ∙ n))

  not_framed : (j : ℕ) → in_region region j ≡ false → in_live_frame live j ≡ false
  not_framed j n = false_from_ne_true (in_live_frame live j) (λ d. true≢false (sym (frames_in j d).1 ∙ n))

  below_frame : (j : ℕ) → j < frame → in_live_frame live j ≡ false
  below_frame j l = false_from_ne_true (in_live_frame live j) (λ d. let a = (frames_in j d).0 in absurd (omega arith))

  high_frame : frame < 2 ^ 31
  high_frame = let a = framed.high in let b = framed.highest in omega arith

  not_in_slot : (j : ℕ) → RAM_BASE ≤ j → in_slot j ≡ false
  not_in_slot j l = and_right (nat_le 0x40 j) (nat_lt j 0xC0) (le-ltb j 0xC0 (omega arith))

  pub record Loads (width : ℕ) (signed : Bool) (at : ℕ) (v : Value) : Type 0 where
    pub safe : some_byte (is_hidden dead) at width ≡ false
    pub says : (found : ℕ × State) → load m t at width ≡ Ok found → Holds kept v (extended found.0 width signed)

  load_word : (k at : ℕ) (o : Option Value) → IsOwnPlace frame (register t.registers 2) 4 k → at ≡ word (register kept 2 + k) → found k f.words ≡ o → is_absent o ≡ false → Loads 4 false at (value_or_unknown o)
  load_word k at None own e g a = absurd (true≢false a)
  load_word k at (Some v) own e g a =
      let w = found_own kept t.memory.ram dead (register t.registers 2) frame k f.words v knows.words g in
      let deep = own.deep in
      let above = own.above in
      let aligned = own.aligned in
      let lowest = framed.lowest in
      let high = framed.high in
      let highest = framed.highest in
      let four = framed.aligned in
      let sum : at + depth k ≡ frame = place_sum frame k at (omega arith) high_frame (e ∙ ap (λ y. word (y + k)) framed.pointer) in
      let is : load m t at 4 ≡ Ok (number_at t.memory.ram (at - RAM_BASE) 4, t) = load_ram m t at (omega arith) (omega arith) (omega arith) in
      let same : frame - depth k - RAM_BASE ≡ at - RAM_BASE = omega arith in
      record {
        safe = none_from (is_hidden dead) at 4 (λ j l r. or_from (in_slot j) (is_dead dead j) (not_in_slot j (omega arith)) (w.alive j (omega arith) (omega arith)));
        says = λ got h. let pair : (number_at t.memory.ram (at - RAM_BASE) 4, t) ≡ got = cc in
            subst (λ x. Holds kept v x.0) pair (subst (λ i. Holds kept v (number_at t.memory.ram i 4)) same w.is);
      }

  load_stack : (op : LoadOp) (k at : ℕ) → at ≡ word (register kept 2 + k) → is_bad_stack f true (load_width op) (Stack k) ≡ false → Loads (load_width op) (extends_sign op) at (loaded_value code f.words op (Stack k))
  load_stack Lw k at e b =
      let parts = or_parts (not (is_own_word (value_of f.values 2) 4 k)) (is_absent (found k f.words)) b in
      load_word k at (found k f.words) (own_place kept frame (register t.registers 2) 4 k (value_of f.values 2) framed.pointer top high_frame (knows.values 2) (not-false _ parts.0)) e refl parts.1
  load_stack Lb k at e b = let w = (own_place kept frame (register t.registers 2) 1 k (value_of f.values 2) framed.pointer top high_frame (knows.values 2) (not-false _ (or_parts (not (is_own_word (value_of f.values 2) 1 k)) (is_absent (found k f.words)) b).0)).four in absurd (omega arith)
  load_stack Lh k at e b = let w = (own_place kept frame (register t.registers 2) 2 k (value_of f.values 2) framed.pointer top high_frame (knows.values 2) (not-false _ (or_parts (not (is_own_word (value_of f.values 2) 2 k)) (is_absent (found k f.words)) b).0)).four in absurd (omega arith)
  load_stack Lbu k at e b = let w = (own_place kept frame (register t.registers 2) 1 k (value_of f.values 2) framed.pointer top high_frame (knows.values 2) (not-false _ (or_parts (not (is_own_word (value_of f.values 2) 1 k)) (is_absent (found k f.words)) b).0)).four in absurd (omega arith)
  load_stack Lhu k at e b = let w = (own_place kept frame (register t.registers 2) 2 k (value_of f.values 2) framed.pointer top high_frame (knows.values 2) (not-false _ (or_parts (not (is_own_word (value_of f.values 2) 2 k)) (is_absent (found k f.words)) b).0)).four in absurd (omega arith)

  -- ---- a load by a number
  -- no byte is in the region, nor in the slot
  pub record IsFar (at width : ℕ) : Type 0 where
    pub region_apart : (j : ℕ) → at ≤ j → j < at + width → in_region region j ≡ false
    pub slot_apart : (j : ℕ) → at ≤ j → j < at + width → in_slot j ≡ false

  far : (width least greatest at : ℕ) → least ≤ at → at ≤ greatest → is_bad_far region true width least greatest ≡ false → IsFar at width
  far width least greatest at l g b =
      let parts = or_parts (meets least (greatest + width) region.low region.high) (meets least (greatest + width) base slot_end) b in
      record {
        region_apart = λ j m n. apart_at least (greatest + width) region.low region.high j (meets_apart least (greatest + width) region.low region.high parts.0) (omega arith) (omega arith);
        slot_apart = λ j m n. apart_at least (greatest + width) base slot_end j (meets_apart least (greatest + width) base slot_end parts.1) (omega arith) (omega arith);
      }

  far_safe : (width at : ℕ) → IsFar at width → some_byte (is_hidden dead) at width ≡ false
  far_safe width at i = none_from (is_hidden dead) at width (λ j l r. or_from (in_slot j) (is_dead dead j) (i.slot_apart j l r) (not_dead j (i.region_apart j l r)))

  memory_holds : (op : LoadOp) (least greatest at : ℕ) → least ≤ at → at ≤ greatest → (found : ℕ × State) → load m t at (load_width op) ≡ Ok found
      → Holds kept (cond (is_memory least greatest (load_width op)) (by_width op) Unknown) (extended found.0 (load_width op) (extends_sign op))
  memory_holds op least greatest at l g got e =
      cond_both (is_memory least greatest (load_width op)) (by_width op) Unknown (λ w. Holds kept w (extended got.0 (load_width op) (extends_sign op)))
      (λ i. width_holds kept op got.0 (loaded_small m t at (load_width op) got hart.rom_bytes hart.ram_bytes (in_memory least greatest at (load_width op) l g i) e))
      (λ i. tt)

  rom_holds : (op : LoadOp) (c : ℕ) → IsFar c (load_width op) → is_in_rom c (load_width op) ≡ true → (found : ℕ × State) → load m t c (load_width op) ≡ Ok found
      → extended found.0 (load_width op) (extends_sign op) ≡ extended (number_at code c (load_width op)) (load_width op) (extends_sign op)
  rom_holds op c i r got e =
      ap (λ n. extended n (load_width op) (extends_sign op))
      (loaded_rom m t c (load_width op) got (leb-true (c + load_width op) BANK_LEN r) e ∙ number_same t.memory.rom code c (load_width op) (λ j l n. has_code j (i.slot_apart j l n)))

  load_const : (op : LoadOp) (c at : ℕ) → at ≡ c → is_bad_far region true (load_width op) c c ≡ false → Loads (load_width op) (extends_sign op) at (loaded_value code f.words op (Const c))
  load_const op c at e b =
      subst (λ a. Loads (load_width op) (extends_sign op) a (loaded_value code f.words op (Const c))) (sym e)
      (let i = far (load_width op) c c c (omega arith) (omega arith) b in
      record {
        safe = far_safe (load_width op) c i;
        says = λ got h.
            cond_both (is_in_rom c (load_width op)) (Const (extended (number_at code c (load_width op)) (load_width op) (extends_sign op))) (cond (is_memory c c (load_width op)) (by_width op) Unknown)
            (λ w. Holds kept w (extended got.0 (load_width op) (extends_sign op)))
            (λ r. rom_holds op c i r got h)
            (λ r. memory_holds op c c c (omega arith) (omega arith) got h);
      })

  load_range : (op : LoadOp) (least greatest at : ℕ) → least ≤ at → at ≤ greatest → is_bad_far region true (load_width op) least greatest ≡ false
      → Loads (load_width op) (extends_sign op) at (loaded_value code f.words op (Range least greatest))
  load_range op least greatest at l g b = record {
    safe = far_safe (load_width op) at (far (load_width op) least greatest at l g b);
    says = λ got h. memory_holds op least greatest at l g got h;
  }

  pub loads : (op : LoadOp) (p : Value) (at : ℕ) → Holds kept p at → first_why (access_rules_at region f true (load_width op) p) ≡ None → Loads (load_width op) (extends_sign op) at (loaded_value code f.words op p)
  loads op (Entry r) at h e = absurd (true≢false (none_first _ _ _ e).0)
  loads op Unknown at h e = absurd (true≢false (none_first _ _ _ e).0)
  loads op (Const c) at h e = load_const op c at h (none_first _ _ _ (none_first _ _ _ (none_first _ _ _ e).1).1).0
  loads op (Range l g) at h e = load_range op l g at h.0 h.1 (none_first _ _ _ (none_first _ _ _ (none_first _ _ _ e).1).1).0
  loads op (Stack k) at h e = load_stack op k at h (none_first _ _ _ (none_first _ _ _ e).1).0

  -- ---- stores
  pub record Stores (width value at : ℕ) (ws : List StackWord) : Type 0 where
    pub safe : some_byte (in_live_frame live) at width ≡ false
    pub registers : (new : State) → store m t at width value ≡ Ok new → new.registers ≡ t.registers
    pub words : (new : State) → store m t at width value ≡ Ok new → AreOwn kept new.memory.ram (revived_at (place at width) width dead) (register t.registers 2) frame ws
    pub stays : (new : State) → store m t at width value ≡ Ok new → Stays frame region.high t.memory.ram new.memory.ram dead (revived_at (place at width) width dead)
    pub marks : (j : ℕ) → is_dead (revived_at (place at width) width dead) j ≡ true → is_dead dead j ≡ true

  -- a store outside the region
  outside_answer : (o : Option Outside) (new : State) → store_answer t o ≡ Ok new → (new.registers ≡ t.registers) × (new.memory ≡ t.memory)
  outside_answer (Some outside) new e = let is : record t { outside = outside } ≡ new = cc in subst (λ x. (x.registers ≡ t.registers) × (x.memory ≡ t.memory)) is (refl, refl)
  outside_answer None new e = absurd cc

  pub record Apart (at width : ℕ) (new : State) : Type 0 where
    pub registers : new.registers ≡ t.registers
    pub bytes : (j : ℕ) → RAM_BASE ≤ j → (j < at) ⊎ (at + width ≤ j) → slice_index t.memory.ram (j - RAM_BASE) ≡ slice_index new.memory.ram (j - RAM_BASE)

  store_at_apart : (at width value : ℕ) (aligned : Bool) (p : Place) (new : State) → place at width ≡ p → store_at m t at width value aligned p ≡ Ok new → Apart at width new
  store_at_apart at width value false p new q e = absurd cc
  store_at_apart at width value true (InRom k) new q e = absurd cc
  store_at_apart at width value true (InRam k) new q e =
      let is : record t { memory = record t.memory { ram = with_number t.memory.ram k width value } } ≡ new = cc in
      let lies = in_ram at width k q in
      let begins = lies.is in
      let ends = lies.ends in
      let long = hart.ram in
      subst (λ x. Apart at width x) is (record {
        registers = refl;
        bytes = λ j l out. sym (slice_index-with_number t.memory.ram k width value (j - RAM_BASE) (omega arith) (⊎_elim (λ a. inl (omega arith)) (λ a. inr (omega arith)) out));
      })
  store_at_apart at width value true Elsewhere new q e =
      let same = outside_answer (stored_in m t.outside width value (region_of at)) new e in
      record { registers = same.0; bytes = λ j l out. ap (λ (x : Memory). slice_index x.ram (j - RAM_BASE)) (sym same.1) }

  pub store_apart : (at width value : ℕ) (new : State) → store m t at width value ≡ Ok new → Apart at width new
  unfolding store
  store_apart at width value new e = store_at_apart at width value (at % width == 0) (place at width) new refl e

  -- an address in the region is apart from an access that has no byte in it
  apart_from : (c width j : ℕ) → some_byte (in_region region) c width ≡ false → region.low ≤ j → j < region.high → (j < c) ⊎ (c + width ≤ j)
  apart_from c width j e l h =
      ⊎_elim
      (λ (a : j < c). inl a)
      (λ (a : c ≤ j). ⊎_elim
      (λ (b : j < c + width). absurd (true≢false (sym (and_from (nat_le region.low j) (nat_lt j region.high) (le-leb region.low j l) (lt-ltb j region.high h)) ∙ none_of (in_region region) c width e j a b)))
      (λ (b : c + width ≤ j). inr b)
      (cases_lt j (c + width)))
      (cases_lt j c)

  store_const : (width value c : ℕ) → some_byte (in_region region) c width ≡ false → Stores width value c f.words
  store_const width value c b =
      let lowest = framed.lowest in
      let lo = framed.low in
      let high = framed.high in
      let all : (new : State) → store m t c width value ≡ Ok new → Stays region.low region.high t.memory.ram new.memory.ram dead (revived_at (place c width) width dead) =
      λ new e. record {
        bytes = λ j l h. (store_apart c width value new e).bytes j (omega arith) (apart_from c width j b l h);
        marks = λ j l h d. revived_alive dead (place c width) width j d (omega arith);
      } in
      record {
        safe = none_from (in_live_frame live) c width (λ j l r. not_framed j (none_of (in_region region) c width b j l r));
        registers = λ new e. (store_apart c width value new e).registers;
        words = λ new e. words_stay kept t.memory.ram new.memory.ram dead (revived_at (place c width) width dead) (register t.registers 2) frame f.words (omega arith)
            (stays_within region.low region.high (register t.registers 2) frame t.memory.ram new.memory.ram dead (revived_at (place c width) width dead) low (omega arith) (all new e)) knows.words;
        stays = λ new e. stays_within region.low region.high frame region.high t.memory.ram new.memory.ram dead (revived_at (place c width) width dead) (omega arith) (omega arith) (all new e);
        marks = revived_dead dead (place c width) width;
      }

  store_word : (k value at : ℕ) (v : Value) → k < 2 ^ 32 → value < 256 ^ 4 → Holds kept v value → IsOwnPlace frame (register t.registers 2) 4 k → at ≡ word (register kept 2 + k) → Stores 4 value at (with_stack_word k v f.words)
  store_word k value at v small lt h own e =
      let deep = own.deep in
      let above = own.above in
      let aligned = own.aligned in
      let lowest = framed.lowest in
      let high = framed.high in
      let highest = framed.highest in
      let four = framed.aligned in
      let long = hart.ram in
      let sum : at + depth k ≡ frame = place_sum frame k at (omega arith) high_frame (e ∙ ap (λ y. word (y + k)) framed.pointer) in
      let is : store m t at 4 value ≡ Ok (record t { memory = record t.memory { ram = with_number t.memory.ram (at - RAM_BASE) 4 value } }) = store_ram m t at value (omega arith) (omega arith) (omega arith) in
      let here : place at 4 ≡ InRam (at - RAM_BASE) = place_ram at 4 (omega arith) (omega arith) in
      let same : frame - depth k - RAM_BASE ≡ at - RAM_BASE = omega arith in
      record {
        safe = none_from (in_live_frame live) at 4 (λ j l r. below_frame j (omega arith));
        registers = λ new g. (store_apart at 4 value new g).registers;
        words = λ new g. let pair : record t { memory = record t.memory { ram = with_number t.memory.ram (at - RAM_BASE) 4 value } } ≡ new = cc in
            subst (λ (x : State). AreOwn kept x.memory.ram (revived_at (place at 4) 4 dead) (register t.registers 2) frame (with_stack_word k v f.words)) pair
            (subst (λ q. AreOwn kept (with_number t.memory.ram (at - RAM_BASE) 4 value) (revived_at q 4 dead) (register t.registers 2) frame (with_stack_word k v f.words)) (sym here)
            (subst (λ i. AreOwn kept (with_number t.memory.ram i 4 value) (marked dead i 4 false) (register t.registers 2) frame (with_stack_word k v f.words)) same
            (stored_own kept t.memory.ram dead (register t.registers 2) frame k value (omega arith) (omega arith) long small deep aligned above v f.words lt h knows.words)));
        stays = λ new g. record {
          bytes = λ j l r. (store_apart at 4 value new g).bytes j (omega arith) (inr (omega arith));
          marks = λ j l r d. revived_alive dead (place at 4) 4 j d (omega arith);
        };
        marks = revived_dead dead (place at 4) 4;
      }

  store_stack : (op : StoreOp) (k value at : ℕ) (v : Value) → k < 2 ^ 32 → value < 256 ^ 4 → Holds kept v value → at ≡ word (register kept 2 + k) → is_bad_stack f false (store_width op) (Stack k) ≡ false
      → Stores (store_width op) (value % 2 ^ (8 * store_width op)) at (stored_words f.words (store_width op) (Stack k) v)
  store_stack Sw k value at v small lt h e b =
      let parts = or_parts (not (is_own_word (value_of f.values 2) 4 k)) false b in
      let same : value % 2 ^ 32 ≡ value = omega arith in
      subst (λ x. Stores 4 x at (with_stack_word k v f.words)) (sym same)
      (store_word k value at v small lt h (own_place kept frame (register t.registers 2) 4 k (value_of f.values 2) framed.pointer top high_frame (knows.values 2) (not-false _ parts.0)) e)
  store_stack Sb k value at v small lt h e b = let w = (own_place kept frame (register t.registers 2) 1 k (value_of f.values 2) framed.pointer top high_frame (knows.values 2) (not-false _ (or_parts (not (is_own_word (value_of f.values 2) 1 k)) false b).0)).four in absurd (omega arith)
  store_stack Sh k value at v small lt h e b = let w = (own_place kept frame (register t.registers 2) 2 k (value_of f.values 2) framed.pointer top high_frame (knows.values 2) (not-false _ (or_parts (not (is_own_word (value_of f.values 2) 2 k)) false b).0)).four in absurd (omega arith)

  far_store : (width least greatest at : ℕ) → least ≤ at → at ≤ greatest → is_bad_far region false width least greatest ≡ false → some_byte (in_region region) at width ≡ false
  far_store width least greatest at l g b =
      let parts = or_parts (meets least (greatest + width) region.low region.high) false b in
      none_from (in_region region) at width (λ j m n. apart_at least (greatest + width) region.low region.high j (meets_apart least (greatest + width) region.low region.high parts.0) (omega arith) (omega arith))

  pub stores : (op : StoreOp) (p v : Value) (value at : ℕ) → IsSmall p → value < 256 ^ 4 → Holds kept v value → Holds kept p at → first_why (access_rules_at region f false (store_width op) p) ≡ None
      → Stores (store_width op) (value % 2 ^ (8 * store_width op)) at (stored_words f.words (store_width op) p v)
  stores op (Entry r) v value at s lt hv h e = absurd (true≢false (none_first _ _ _ e).0)
  stores op Unknown v value at s lt hv h e = absurd (true≢false (none_first _ _ _ e).0)
  stores op (Const c) v value at s lt hv h e = subst (λ a. Stores (store_width op) (value % 2 ^ (8 * store_width op)) a f.words) (sym h) (store_const (store_width op) (value % 2 ^ (8 * store_width op)) c (far_store (store_width op) c c c (omega arith) (omega arith) (none_first _ _ _ (none_first _ _ _ (none_first _ _ _ e).1).1).0))
  stores op (Range l g) v value at s lt hv h e = store_const (store_width op) (value % 2 ^ (8 * store_width op)) at (far_store (store_width op) l g at h.0 h.1 (none_first _ _ _ (none_first _ _ _ (none_first _ _ _ e).1).1).0)
  stores op (Stack k) v value at s lt hv h e = store_stack op k value at v s lt hv h (none_first _ _ _ (none_first _ _ _ e).1).0
