-- What is known while a handler runs, and what an instruction has to keep of it.
use Rattle.std.proofs.Common.{◌≡◌, ℕ, ◌+◌, ◌%◌, ◌^◌, ◌<◌, ◌≤◌, ◌⊎◌, Bool, true, false, List, length, refl, ap, ◌∙◌, arith}
use Rattle.std.specs.Prelude.{◌==◌, nat_le}
use Rattle.std.proofs.lemmas.Bool.{eqb-true, leb-true, and_parts, not-false, true≢false}
use Rattle.hart_words.specs.TwosComplement.{word}
use Rattle.hart_words.specs.Registers.{register, with_register}
use Rattle.hart_memory.specs.declared.address_map.TheConstants.{RAM_BASE, BANK_LEN}
use Rattle.hart_board.specs.State.{State}
use Rattle.chain_moves.specs.Slot.{back}
use Rattle.chain_moves.specs.Bytes.{is_dead}
use Rattle.chain_moves.specs.Tests.{is_free}
use Rattle.chain_flow.specs.Flow.{Flow, value_of, set_value, depth}
use Rattle.chain_flow.specs.declared.value.Value.{Value}
use Rattle.chain_flow.specs.declared.value.Value.TheVariants.{Entry, Const, Stack, Unknown}
use Rattle.chain_flow.specs.declared.stack_word.StackWord.{StackWord}
use Rattle.chain_flow.specs.Transfer.{words_kept}
use Rattle.chain_flow.specs.Rules.{is_bad_pointer}
use Rattle.chain_flow.specs.Walk.{depth_of}
use Rattle.chain_flow.specs.declared.region.Region.{Region}
use Rattle.chain_lint.proofs.Values.{Holds, Fits, AreWords, left_at, right_at, length-joined_left, length-joined_right, fits_set, length_set}
use Rattle.chain_lint.proofs.Walks.{Weakens, IsOf}
use Rattle.chain_lint.proofs.Words.{AreOwn, Stays, joined_left, joined_right, above_own}

-- the hart holds words
pub record IsHart (t : State) : Type 0 where
  pub zero : register t.registers 0 ≡ 0
  pub count : length t.registers ≡ 32
  pub words : AreWords t.registers
  pub ram : length t.memory.ram ≡ BANK_LEN

-- a service began with its frame, in the region together with the bytes that it uses
pub record IsFramed (region : Region) (uses : ℕ) (kept : List ℕ) (frame : ℕ) : Type 0 where
  pub zero : register kept 0 ≡ 0
  pub count : length kept ≡ 32
  pub pointer : register kept 2 ≡ frame
  pub ra : register kept 1 ≡ back
  pub words : AreWords kept
  pub aligned : frame % 4 ≡ 0
  pub lowest : RAM_BASE ≤ region.low
  pub low : region.low + uses ≤ frame
  pub high : frame + 32 ≤ region.high
  pub highest : region.high ≤ RAM_BASE + BANK_LEN

-- the registers and the own stack words are values of a flow state
pub record Knows (kept : List ℕ) (frame : ℕ) (registers ram : List ℕ) (dead : List Bool) (f : Flow) : Type 0 where
  pub long : length f.values ≤ length registers
  pub values : Fits kept f.values registers
  pub words : AreOwn kept ram dead (register registers 2) frame f.words

pub weakens : (kept : List ℕ) (frame : ℕ) (registers ram : List ℕ) (dead : List Bool) → Weakens (λ f. Knows kept frame registers ram dead f)
weakens kept frame registers ram dead = record {
  left = λ f g h. record {
    long = length-joined_left f.values g.values (length registers) h.long;
    values = λ r. left_at kept f.values g.values r (register registers r) (h.values r);
    words = joined_left kept ram dead (register registers 2) frame f.words g.words h.words;
  };
  right = λ f g h. record {
    long = length-joined_right f.values g.values (length registers) h.long;
    values = λ r. right_at kept f.values g.values r (register registers r) (h.values r);
    words = joined_right kept ram dead (register registers 2) frame f.words g.words h.words;
  };
}

-- the handler has returned, and the registers that are not free are as they were
abbrev pub IsBack : List ℕ → List ℕ → ℕ → Type 0
IsBack kept registers pc = (pc ≡ back) × ((r : ℕ) → r < 32 → is_free r ≡ false → register registers r ≡ register kept r)

-- an instruction went on from an address
pub record Went (kept : List ℕ) (region : Region) (frame : ℕ) (ram ram' : List ℕ) (dead dead' : List Bool) (registers : List ℕ) (pc : ℕ) (after : Flow) (next : List ℕ) : Type 0 where
  pub knows : Knows kept frame registers ram' dead' after
  pub pointer : register registers 2 + depth_of (value_of after.values 2) ≡ frame
  pub aligned : register registers 2 % 4 ≡ 0
  pub lands : IsOf pc next ⊎ IsBack kept registers pc
  pub stays : Stays frame region.high ram ram' dead dead'
  pub marks : (j : ℕ) → is_dead dead' j ≡ true → is_dead dead j ≡ true

-- ---- the stack pointer
stack_address : (frame k x : ℕ) → 4096 ≤ frame → frame < 2 ^ 31 → depth k ≤ 4096 → x ≡ word (frame + k) → x + depth k ≡ frame
stack_address frame k x l u d e = omega arith

pub record Settled (kept ram : List ℕ) (dead : List Bool) (frame x : ℕ) (v : Value) (ws : List StackWord) : Type 0 where
  pub words : AreOwn kept ram dead x frame (words_kept v ws)
  pub pointer : x + depth_of v ≡ frame
  pub aligned : x % 4 ≡ 0

aligned_sum : (x d frame : ℕ) → x + d ≡ frame → d % 4 ≡ 0 → frame % 4 ≡ 0 → x % 4 ≡ 0
aligned_sum x d frame e p q = omega arith

pub settled : (region : Region) (uses : ℕ) (kept : List ℕ) (frame : ℕ) (ram : List ℕ) (dead : List Bool) (sp x : ℕ) (v : Value) (ws : List StackWord)
    → IsFramed region uses kept frame → Holds kept v x → is_bad_pointer v ≡ false → AreOwn kept ram dead sp frame ws → Settled kept ram dead frame x v ws
settled region uses kept frame ram dead sp x (Entry r) ws i h b o = absurd (true≢false b)
settled region uses kept frame ram dead sp x (Const c) ws i h b o = absurd (true≢false b)
settled region uses kept frame ram dead sp x Unknown ws i h b o = absurd (true≢false b)
settled region uses kept frame ram dead sp x (Stack k) ws i h b o =
    let parts = and_parts (depth k % 4 == 0) (nat_le (depth k) 4096) (not-false _ b) in
    let multiple : depth k % 4 ≡ 0 = eqb-true (depth k % 4) 0 parts.0 in
    let small : depth k ≤ 4096 = leb-true (depth k) 4096 parts.1 in
    let at : x ≡ word (frame + k) = h ∙ ap (λ y. word (y + k)) i.pointer in
    let lowest = i.lowest in
    let low = i.low in
    let high = i.high in
    let highest = i.highest in
    let sum : x + depth k ≡ frame = stack_address frame k x (omega arith) (omega arith) small at in
    record { words = above_own kept ram dead sp x frame (depth k) ws sum o; pointer = sum; aligned = aligned_sum x (depth k) frame sum multiple i.aligned }

-- what any instruction has to show
pub goes : (region : Region) (uses : ℕ) (kept : List ℕ) (frame : ℕ) (values : List Value) (ws : List StackWord) (registers ram ram' : List ℕ) (dead dead' : List Bool) (sp pc : ℕ) (next : List ℕ)
    → IsFramed region uses kept frame → length values ≤ length registers → Fits kept values registers → is_bad_pointer (value_of values 2) ≡ false → AreOwn kept ram' dead' sp frame ws
    → IsOf pc next ⊎ IsBack kept registers pc → Stays frame region.high ram ram' dead dead' → ((j : ℕ) → is_dead dead' j ≡ true → is_dead dead j ≡ true)
    → Went kept region frame ram ram' dead dead' registers pc (record { values = values; words = words_kept (value_of values 2) ws }) next
goes region uses kept frame values ws registers ram ram' dead dead' sp pc next i long fits b own lands stays marks =
    let end = settled region uses kept frame ram' dead' sp (register registers 2) (value_of values 2) ws i (fits 2) b own in
    record {
      knows = record { long = long; values = fits; words = end.words };
      pointer = end.pointer;
      aligned = end.aligned;
      lands = lands;
      stays = stays;
      marks = marks;
    }

pub same_stays : (low high : ℕ) (ram : List ℕ) (dead : List Bool) → Stays low high ram ram dead dead
same_stays low high ram dead = record { bytes = λ j l r. refl; marks = λ j l r h. h }

-- no register changes
pub keeps_going : (region : Region) (uses : ℕ) (kept : List ℕ) (frame : ℕ) (f : Flow) (registers ram : List ℕ) (dead : List Bool) (pc : ℕ) (next : List ℕ)
    → IsFramed region uses kept frame → Knows kept frame registers ram dead f → is_bad_pointer (value_of f.values 2) ≡ false → IsOf pc next ⊎ IsBack kept registers pc
    → Went kept region frame ram ram dead dead registers pc (record { values = f.values; words = words_kept (value_of f.values 2) f.words }) next
keeps_going region uses kept frame f registers ram dead pc next i k b lands =
    goes region uses kept frame f.values f.words registers ram ram dead dead (register registers 2) pc next i k.long k.values b k.words lands (same_stays frame region.high ram dead) (λ j h. h)

-- a register gets a word that a value says
pub sets_going : (region : Region) (uses : ℕ) (kept : List ℕ) (frame : ℕ) (f : Flow) (registers ram : List ℕ) (dead : List Bool) (rd : ℕ) (v : Value) (x pc : ℕ) (next : List ℕ)
    → IsFramed region uses kept frame → Knows kept frame registers ram dead f → Holds kept v x → is_bad_pointer (value_of (set_value f.values rd v) 2) ≡ false → IsOf pc next ⊎ IsBack kept (with_register registers rd x) pc
    → Went kept region frame ram ram dead dead (with_register registers rd x) pc (record { values = set_value f.values rd v; words = words_kept (value_of (set_value f.values rd v) 2) f.words }) next
sets_going region uses kept frame f registers ram dead rd v x pc next i k h b lands =
    goes region uses kept frame (set_value f.values rd v) f.words (with_register registers rd x) ram ram dead dead (register registers 2) pc next i
    (length_set f.values registers rd v x k.long) (fits_set kept f.values registers rd v x k.long k.values h) b k.words lands (same_stays frame region.high ram dead) (λ j d. d)
