-- What is known while a handler runs, and what an instruction has to keep of it.
use Rattle.std.proofs.Common.{◌≡◌, ℕ, ◌+◌, ◌%◌, ◌^◌, ◌<◌, ◌≤◌, ◌⊎◌, Bool, true, false, List, [], ◌∷◌, length, refl, ap, ◌∙◌, arith}
use Rattle.std.specs.Prelude.{◌==◌, nat_le}
use Rattle.std.proofs.lemmas.Bool.{eqb-true, leb-true, and_parts, not-false, true≢false}
use Rattle.hart_words.specs.TwosComplement.{word}
use Rattle.hart_words.specs.Registers.{register, with_register}
use Rattle.hart_memory.specs.Memory.{AreBytes}
use Rattle.hart_memory.specs.declared.address_map.TheConstants.{RAM_BASE, BANK_LEN}
use Rattle.hart_board.specs.State.{State}
use Rattle.chain_moves.specs.Slot.{back}
use Rattle.chain_moves.specs.Bytes.{is_dead}
use Rattle.chain_moves.specs.Tests.{is_free}
use Rattle.chain_certify.specs.Flow.{Flow, value_of, set_value, depth, are_below, words_below, flow_below}
use Rattle.chain_certify.specs.declared.value.Value.{Value}
use Rattle.chain_certify.specs.declared.value.Value.TheVariants.{Entry, Const, Stack, Range, Unknown}
use Rattle.chain_certify.specs.declared.stack_word.StackWord.{StackWord}
use Rattle.chain_certify.specs.Transfer.{words_kept}
use Rattle.chain_certify.specs.Rules.{is_bad_pointer}
use Rattle.chain_certify.specs.Check.{depth_of}
use Rattle.chain_flow.specs.declared.region.Region.{Region}
use Rattle.chain_certify.proofs.Values.{Holds, Fits, AreWords, below_at, length-below, fits_set, length_set}
use Rattle.chain_certify.specs.Rules.{Next}
use Rattle.chain_certify.proofs.Words.{AreOwn, Stays, words_below_own, above_own}

-- the hart holds words
pub record IsHart (t : State) : Type 0 where
  pub zero : register t.registers 0 ≡ 0
  pub count : length t.registers ≡ 32
  pub words : AreWords t.registers
  pub ram : length t.memory.ram ≡ BANK_LEN
  pub ram_bytes : AreBytes t.memory.ram
  pub rom_bytes : AreBytes t.memory.rom

-- a service began with its frame, in the region together with the bytes that it uses
pub record IsFramed (region : Region) (uses : ℕ) (kept : List ℕ) (frame : ℕ) : Type 0 where
  pub zero : register kept 0 ≡ 0
  pub count : length kept ≡ 32
  pub pointer : register kept 2 ≡ frame
  pub ra : register kept 1 ≡ back
  pub words : AreWords kept
  pub aligned : frame % 4 ≡ 0
  pub lowest : RAM_BASE ≤ region.low
  pub low : region.low + uses ≤ frame
  pub high : frame + 32 ≤ region.high
  pub highest : region.high ≤ RAM_BASE + BANK_LEN

-- the registers and the own stack words are values of a flow state
pub record Knows (kept : List ℕ) (frame : ℕ) (registers ram : List ℕ) (dead : List Bool) (f : Flow) : Type 0 where
  pub long : length f.values ≤ length registers
  pub values : Fits kept f.values registers
  pub words : AreOwn kept ram dead (register registers 2) frame f.words

pub knows_below : (kept : List ℕ) (frame : ℕ) (registers ram : List ℕ) (dead : List Bool) (f g : Flow) → flow_below f g ≡ true → Knows kept frame registers ram dead f → Knows kept frame registers ram dead g
knows_below kept frame registers ram dead f g e h =
    let parts = and_parts (are_below f.values g.values) (words_below f.words g.words) e in
    let long = h.long in
    let shorter = length-below f.values g.values parts.0 in
    record {
      long = omega arith;
      values = λ r. below_at kept f.values g.values r (register registers r) parts.0 (h.values r);
      words = words_below_own kept ram dead (register registers 2) frame f.words g.words h.words parts.1;
    }

-- the handler has returned, and the registers that are not free are as they were
abbrev pub IsBack : List ℕ → List ℕ → ℕ → Type 0
IsBack kept registers pc = (pc ≡ back) × ((r : ℕ) → r < 32 → is_free r ≡ false → register registers r ≡ register kept r)

-- one of these is at pc, and what is known there holds
abbrev pub Lands : List ℕ → ℕ → List ℕ → List ℕ → List Bool → ℕ → List Next → Type 0
Lands kept frame registers ram dead pc [] = ⊥
Lands kept frame registers ram dead pc (n ∷ ns) = ((n.at ≡ pc) × Knows kept frame registers ram dead n.flow) ⊎ Lands kept frame registers ram dead pc ns

-- an instruction went on from an address
pub record Went (kept : List ℕ) (region : Region) (frame : ℕ) (ram ram' : List ℕ) (dead dead' : List Bool) (registers : List ℕ) (pc : ℕ) (next : List Next) : Type 0 where
  pub lands : Lands kept frame registers ram' dead' pc next ⊎ IsBack kept registers pc
  pub stays : Stays frame region.high ram ram' dead dead'
  pub marks : (j : ℕ) → is_dead dead' j ≡ true → is_dead dead j ≡ true

-- ---- the stack pointer
stack_address : (frame k x : ℕ) → 4096 ≤ frame → frame < 2 ^ 31 → depth k ≤ 4096 → x ≡ word (frame + k) → x + depth k ≡ frame
stack_address frame k x l u d e = omega arith

pub record Settled (kept ram : List ℕ) (dead : List Bool) (frame x : ℕ) (v : Value) (ws : List StackWord) : Type 0 where
  pub words : AreOwn kept ram dead x frame (words_kept v ws)
  pub pointer : x + depth_of v ≡ frame
  pub aligned : x % 4 ≡ 0

aligned_sum : (x d frame : ℕ) → x + d ≡ frame → d % 4 ≡ 0 → frame % 4 ≡ 0 → x % 4 ≡ 0
aligned_sum x d frame e p q = omega arith

pub settled : (region : Region) (uses : ℕ) (kept : List ℕ) (frame : ℕ) (ram : List ℕ) (dead : List Bool) (sp x : ℕ) (v : Value) (ws : List StackWord)
    → IsFramed region uses kept frame → Holds kept v x → is_bad_pointer v ≡ false → AreOwn kept ram dead sp frame ws → Settled kept ram dead frame x v ws
settled region uses kept frame ram dead sp x (Entry r) ws i h b o = absurd (true≢false b)
settled region uses kept frame ram dead sp x (Const c) ws i h b o = absurd (true≢false b)
settled region uses kept frame ram dead sp x Unknown ws i h b o = absurd (true≢false b)
settled region uses kept frame ram dead sp x (Range l g) ws i h b o = absurd (true≢false b)
settled region uses kept frame ram dead sp x (Stack k) ws i h b o =
    let parts = and_parts (depth k % 4 == 0) (nat_le (depth k) 4096) (not-false _ b) in
    let multiple : depth k % 4 ≡ 0 = eqb-true (depth k % 4) 0 parts.0 in
    let small : depth k ≤ 4096 = leb-true (depth k) 4096 parts.1 in
    let at : x ≡ word (frame + k) = h ∙ ap (λ y. word (y + k)) i.pointer in
    let lowest = i.lowest in
    let low = i.low in
    let high = i.high in
    let highest = i.highest in
    let sum : x + depth k ≡ frame = stack_address frame k x (omega arith) (omega arith) small at in
    record { words = above_own kept ram dead sp x frame (depth k) ws sum o; pointer = sum; aligned = aligned_sum x (depth k) frame sum multiple i.aligned }

-- where so much is known, and the pointer is a good one
pub pointer_is : (region : Region) (uses : ℕ) (kept : List ℕ) (frame : ℕ) (registers ram : List ℕ) (dead : List Bool) (f : Flow)
    → IsFramed region uses kept frame → is_bad_pointer (value_of f.values 2) ≡ false → Knows kept frame registers ram dead f
    → (register registers 2 + depth_of (value_of f.values 2) ≡ frame) × (register registers 2 % 4 ≡ 0)
pointer_is region uses kept frame registers ram dead f i b k =
    let end = settled region uses kept frame ram dead (register registers 2) (register registers 2) (value_of f.values 2) f.words i (k.values 2) b k.words in
    (end.pointer, end.aligned)

-- what any instruction has to show
pub goes : (region : Region) (uses : ℕ) (kept : List ℕ) (frame : ℕ) (values : List Value) (ws : List StackWord) (registers ram ram' : List ℕ) (dead dead' : List Bool) (sp pc : ℕ) (next : List Next)
    → IsFramed region uses kept frame → length values ≤ length registers → Fits kept values registers → is_bad_pointer (value_of values 2) ≡ false → AreOwn kept ram' dead' sp frame ws
    → (Knows kept frame registers ram' dead' (record { values = values; words = words_kept (value_of values 2) ws }) → Lands kept frame registers ram' dead' pc next ⊎ IsBack kept registers pc)
    → Stays frame region.high ram ram' dead dead' → ((j : ℕ) → is_dead dead' j ≡ true → is_dead dead j ≡ true)
    → Went kept region frame ram ram' dead dead' registers pc next
goes region uses kept frame values ws registers ram ram' dead dead' sp pc next i long fits b own lands stays marks =
    let end = settled region uses kept frame ram' dead' sp (register registers 2) (value_of values 2) ws i (fits 2) b own in
    record {
      lands = lands (record { long = long; values = fits; words = end.words });
      stays = stays;
      marks = marks;
    }

pub same_stays : (low high : ℕ) (ram : List ℕ) (dead : List Bool) → Stays low high ram ram dead dead
same_stays low high ram dead = record { bytes = λ j l r. refl; marks = λ j l r h. h }

-- no register changes
pub keeps_going : (region : Region) (uses : ℕ) (kept : List ℕ) (frame : ℕ) (f : Flow) (registers ram : List ℕ) (dead : List Bool) (pc : ℕ) (next : List Next)
    → IsFramed region uses kept frame → Knows kept frame registers ram dead f → is_bad_pointer (value_of f.values 2) ≡ false
    → (Knows kept frame registers ram dead (record { values = f.values; words = words_kept (value_of f.values 2) f.words }) → Lands kept frame registers ram dead pc next ⊎ IsBack kept registers pc)
    → Went kept region frame ram ram dead dead registers pc next
keeps_going region uses kept frame f registers ram dead pc next i k b lands =
    goes region uses kept frame f.values f.words registers ram ram dead dead (register registers 2) pc next i k.long k.values b k.words lands (same_stays frame region.high ram dead) (λ j h. h)

-- a register gets a word that a value says
pub sets_going : (region : Region) (uses : ℕ) (kept : List ℕ) (frame : ℕ) (f : Flow) (registers ram : List ℕ) (dead : List Bool) (rd : ℕ) (v : Value) (x pc : ℕ) (next : List Next)
    → IsFramed region uses kept frame → Knows kept frame registers ram dead f → Holds kept v x → is_bad_pointer (value_of (set_value f.values rd v) 2) ≡ false
    → (Knows kept frame (with_register registers rd x) ram dead (record { values = set_value f.values rd v; words = words_kept (value_of (set_value f.values rd v) 2) f.words }) → Lands kept frame (with_register registers rd x) ram dead pc next ⊎ IsBack kept (with_register registers rd x) pc)
    → Went kept region frame ram ram dead dead (with_register registers rd x) pc next
sets_going region uses kept frame f registers ram dead rd v x pc next i k h b lands =
    goes region uses kept frame (set_value f.values rd v) f.words (with_register registers rd x) ram ram dead dead (register registers 2) pc next i
    (length_set f.values registers rd v x k.long) (fits_set kept f.values registers rd v x k.long k.values h) b k.words lands (same_stays frame region.high ram dead) (λ j d. d)
