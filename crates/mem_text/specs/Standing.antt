-- Where a reader stands, and which bytes it has read.
use Rattle.std.specs.Prelude.{◌≡◌, ℕ, ◌≤◌, List, ◌++◌, length, Option, Some, None, Result, Ok, Err}
use Rattle.hart_memory.specs.Image.{ImageView}
use Rattle.mem_text.specs.Moves.{IsShort}
use Rattle.mem_text.specs.Laying.{why_not}
use Rattle.mem_text.specs.Reading.{Fault, State, fresh, reads, read_text}
use Rattle.mem_text.specs.declared.token.Token.{Token}
use Rattle.mem_text.specs.declared.token.Token.TheVariants.{Between, AfterSlash, LineComment, BlockComment, AfterStar, AfterAt, Address, Number}
use Rattle.mem_text.specs.declared.mem_why.MemWhy.{MemWhy}
use Rattle.mem_text.specs.declared.mem_error.MemError.{MemError}
use Rattle.mem_text.specs.declared.mem_error.MemError.TheVariants.{Memory, Refused}

-- a number's byte may stand at the place
abbrev pub IsBegun : Token → Option MemWhy → Type 0
IsBegun Between why = Unit {0}
IsBegun AfterSlash why = Unit {0}
IsBegun LineComment why = Unit {0}
IsBegun BlockComment why = Unit {0}
IsBegun AfterStar why = Unit {0}
IsBegun AfterAt why = Unit {0}
IsBegun (Address n v) why = Unit {0}
IsBegun (Number n v) why = why ≡ None

-- what every state has that reading comes to
pub record IsKept (s : State) : Type 0 where
  pub short : IsShort s.token
  pub begun : IsBegun s.token (why_not s.laying)

-- ---- what a function answers

-- it refused what reading refuses, or memory was wanting
abbrev pub Fails : {A : Type 0} → MemError → Result A Fault → Type 0
Fails Memory read = Unit {0}
Fails (Refused place why) read = read ≡ Err (record { place = place; why = why })

-- it answered what reading gives, unless memory was wanting
abbrev pub Gives : {X Y : Type 0} → (X → Y) → Result X MemError → Result Y Fault → Type 0
Gives view (Ok x) read = read ≡ Ok (view x)
Gives view (Err e) read = Fails e read

-- after an Ok this is what reading comes to
abbrev pub Becomes : {X Y : Type 0} → Result X MemError → Y → Result Y Fault → Type 0
Becomes (Ok x) new read = read ≡ Ok new
Becomes (Err e) new read = Fails e read

-- ---- a reader
-- reading goes on, or was refused, or memory was wanting
pub data Standing : Type 0 where
  Live : State → Standing
  Over : Fault → Standing
  Wanting : Standing

-- how many bytes were read, and where reading stands
pub record ReaderView : Type 0 where
  pub read : ℕ
  pub standing : Standing

abbrev pub standing_of : Option MemError → State → Standing
standing_of None s = Live s
standing_of (Some Memory) s = Wanting
standing_of (Some (Refused place why)) s = Over (record { place = place; why = why })

-- reading all these bytes leads here
abbrev pub LeadsTo : ℕ → Standing → Result State Fault → ℕ → Type 0
LeadsTo count (Live s) read n = (read ≡ Ok s) × (n ≡ count)
LeadsTo count (Over f) read n = read ≡ Err f
LeadsTo count Wanting read n = Unit {0}

-- these bytes were read so far, for an image with this entry
pub record HasRead (entry : ℕ) (bytes : List ℕ) (r : ReaderView) : Type 0 where
  pub few : r.read ≤ length bytes
  pub leads : LeadsTo (length bytes) r.standing (reads 0 (fresh entry) bytes) r.read

-- a refusal is that of every continuation; where reading goes on, some continuation is read
abbrev pub Foretells : ℕ → List ℕ → Standing → Type 0
Foretells entry bytes (Live s) = (more : List ℕ) × (i : ImageView) × (read_text entry (bytes ++ more) ≡ Ok i)
Foretells entry bytes (Over f) = (more : List ℕ) → read_text entry (bytes ++ more) ≡ Err f
Foretells entry bytes Wanting = Unit {0}

-- what a call answers that leads here
abbrev pub answer_of : Standing → Result (Unit {0}) MemError
answer_of (Live s) = Ok tt
answer_of (Over f) = Err (Refused f.place f.why)
answer_of Wanting = Err Memory

abbrev pub IsLive : Standing → Type 0
IsLive (Live s) = Unit {0}
IsLive (Over f) = ⊥
IsLive Wanting = ⊥

-- a reader that has failed is as it was
abbrev pub stays_by : Standing → ReaderView → ReaderView → Type 0
stays_by (Live s) old new = Unit {0}
stays_by (Over f) old new = new ≡ old
stays_by Wanting old new = new ≡ old

abbrev pub Stays : ReaderView → ReaderView → Type 0
Stays old new = stays_by old.standing old new

-- a reader that has failed answers what it answered
abbrev pub Repeats : {X : Type 0} → Standing → Result X MemError → Type 0
Repeats (Live s) answer = Unit {0}
Repeats (Over f) answer = answer ≡ Err (Refused f.place f.why)
Repeats Wanting answer = answer ≡ Err Memory
