-- What the checker's yes and the bound mean for runs of the servicing machine.
use Rattle.std.specs.Prelude.{◌≡◌, ◌⊎◌, ℕ, suc, ◌+◌, ◌≤◌, ◌<◌, false, List, [], ◌∷◌, Some, slice_index}
use Rattle.device_model.specs.Meanings.{Meanings}
use Rattle.hart_words.specs.Registers.{register}
use Rattle.hart_exec.specs.Effect.{even}
use Rattle.hart_memory.specs.declared.address_map.TheConstants.{RAM_BASE, BANK_LEN}
use Rattle.hart_board.specs.State.{State}
use Rattle.hart_board.specs.Valid.{IsBoard}
use Rattle.hart_board.specs.Event.{AreEventsFrom}
use Rattle.hart_board.specs.declared.event.Event.{Event}
use Rattle.chain_moves.specs.Slot.{in_slot, frame_size}
use Rattle.chain_moves.specs.Servicing.{Live, Servicing}
use Rattle.chain_moves.specs.Enter.{pointer}
use Rattle.chain_moves.specs.Machine.{When, Breaks}
use Rattle.chain_moves.specs.Run.{after_moves}
use Rattle.chain_moves.specs.Moves.{move, servicing_machine}
use Rattle.chain_moves.specs.Start.{begun}
use Rattle.chain_moves.specs.declared.broken.Broken.{Broken}
use Rattle.chain_moves.specs.declared.broken.Broken.TheVariants.{CsrTouched, RegisterLost, ReadsDispatch, WritesFrame}
use Rattle.chain_flow.specs.Walk.{verdict}
use Rattle.chain_lint.specs.Bound.{Use, bound}
use Rattle.chain_flow.specs.declared.region.Region.{Region}
use Rattle.chain_flow.specs.declared.verdict.Verdict.TheVariants.{Yes}

-- ---- the premises

-- ROM is the code outside the slot
abbrev pub HasCode : List ℕ → List ℕ → Type 0
HasCode code rom = (k : ℕ) → in_slot k ≡ false → slice_index rom k ≡ slice_index code k

-- the region lies in RAM
pub record IsRegion (region : Region) : Type 0 where
  pub lowest : RAM_BASE ≤ region.low
  pub highest : region.high ≤ RAM_BASE + BANK_LEN

-- a valid board with this code, and a scenario for it
pub record Premises (m : Meanings) (es : List Event) (code : List ℕ) (region : Region) (b : State) : Type 0 where
  pub is_board : IsBoard m b
  pub scenario : (from : ℕ) × AreEventsFrom b.outside.clic.shape.inputs from es
  pub has_code : HasCode code b.memory.rom
  pub in_ram : IsRegion region

-- the state after the first n moves of the run that begins on the board
abbrev pub IsAfter : Meanings → List Event → State → ℕ → Servicing → Type 0
IsAfter m es b n t = after_moves (servicing_machine m es) (begun m es b) n ≡ Some t

-- the address of a service's handler: its word in the table, which is in a1 as it begins
abbrev pub handler_of : Live → ℕ
handler_of v = even (register v.mark.kept 11)

-- a service's handler is accepted, and its frame lies in the region together with the bytes below it that the handler uses
pub record IsAccepted (code : List ℕ) (region : Region) (v : Live) : Type 0 where
  pub uses : ℕ
  pub verdict_is : verdict code (handler_of v) region ≡ Yes uses
  pub low : region.low + uses ≤ v.mark.frame
  pub high : v.mark.frame + frame_size ≤ region.high

-- so it is of the innermost service
abbrev pub HasAccepted : List ℕ → Region → List Live → Type 0
HasAccepted code region [] = Unit {0}
HasAccepted code region (v ∷ vs) = IsAccepted code region v

-- and of each one in the first n moves
abbrev pub AcceptsTo : Meanings → List Event → List ℕ → Region → State → ℕ → Type 0
AcceptsTo m es code region b n = (j : ℕ) → j ≤ n → (t : Servicing) → IsAfter m es b j t → HasAccepted code region t.live

-- ---- what follows

-- none of the four kinds
abbrev pub IsOther : Broken → Type 0
IsOther CsrTouched = ⊥
IsOther RegisterLost = ⊥
IsOther ReadsDispatch = ⊥
IsOther WritesFrame = ⊥
IsOther _ = Unit {0}

-- while a service is live, no move breaks in one of the four kinds, and the stack pointer is between the innermost frame's address and that less the bytes that its handler uses
pub record IsSafe (m : Meanings) (es : List Event) (code : List ℕ) (region : Region) (t : Servicing) : Type 0 where
  pub kinds : (v : Live) (vs : List Live) (when : When) (kind : Broken) (n : ℕ) → t.live ≡ v ∷ vs → move m es t ≡ Breaks when kind n → IsOther kind
  pub pointer : (v : Live) (vs : List Live) (uses : ℕ) → t.live ≡ v ∷ vs → verdict code (handler_of v) region ≡ Yes uses → (register t.registers 2 ≤ v.mark.frame) × (v.mark.frame ≤ register t.registers 2 + uses)

-- a yes is sound
abbrev pub YesIsSound : Meanings → Type 0
YesIsSound m =
    (es : List Event) (code : List ℕ) (region : Region) (b : State) (n : ℕ) (t : Servicing)
    → Premises m es code region b → AcceptsTo m es code region b n → IsAfter m es b n t → IsSafe m es code region t

-- ---- the bound

-- the list has a use of that level and so many bytes
abbrev pub Lists : ℕ → ℕ → List Use → Type 0
Lists level uses [] = ⊥
Lists level uses (u ∷ us) = ((u.level ≡ level) × (u.uses ≡ uses)) ⊎ Lists level uses us

-- a service's handler is accepted, and the list has its level with the bytes that it uses
pub record IsListed (code : List ℕ) (region : Region) (us : List Use) (v : Live) : Type 0 where
  pub uses : ℕ
  pub verdict_is : verdict code (handler_of v) region ≡ Yes uses
  pub listed : Lists v.mark.level uses us

-- a service begins with move j + 1, from one state to the other
pub record Begins (m : Meanings) (es : List Event) (b : State) (j : ℕ) (s t : Servicing) (v : Live) : Type 0 where
  pub before : IsAfter m es b j s
  pub after : IsAfter m es b (suc j) t
  pub live : t.live ≡ v ∷ s.live

-- each service that begins in the first n moves is listed, and from the foreground its pointer has room for the bound in the region
pub record IsListedTo (m : Meanings) (es : List Event) (code : List ℕ) (region : Region) (us : List Use) (b : State) (n : ℕ) : Type 0 where
  pub listed : (j : ℕ) (s t : Servicing) (v : Live) → j < n → Begins m es b j s t v → IsListed code region us v
  pub room : (j : ℕ) (s t : Servicing) (v : Live) → j < n → Begins m es b j s t v → s.live ≡ [] → (region.low + bound us ≤ pointer s) × (pointer s ≤ region.high)

-- the pointer of the latest Enter from the foreground: the end of the outermost frame
abbrev pub outermost : List Live → ℕ
outermost [] = 0
outermost (v ∷ []) = v.mark.frame + frame_size
outermost (v ∷ (w ∷ ws)) = outermost (w ∷ ws)

-- each live service's handler is accepted, with its frame and the bytes that it uses in the region
abbrev pub AreAccepted : List ℕ → Region → List Live → Type 0
AreAccepted code region [] = Unit {0}
AreAccepted code region (v ∷ vs) = IsAccepted code region v × AreAccepted code region vs

-- while a service is live, the stack pointer is never lower than that pointer less the bound, and every frame lies in the region with the bytes that its handler uses
pub record IsBounded (code : List ℕ) (region : Region) (us : List Use) (t : Servicing) : Type 0 where
  pub pointer : (v : Live) (vs : List Live) → t.live ≡ v ∷ vs → outermost t.live ≤ register t.registers 2 + bound us
  pub frames : AreAccepted code region t.live

-- what follows in a run whose services are listed
abbrev pub WhereListed : Meanings → (List Event → List ℕ → Region → List Use → Servicing → Type 0) → Type 0
WhereListed m P =
    (es : List Event) (code : List ℕ) (region : Region) (us : List Use) (b : State) (n : ℕ) (t : Servicing)
    → Premises m es code region b → IsListedTo m es code region us b n → IsAfter m es b n t → P es code region us t

-- the bound is sound
abbrev pub BoundIsSound : Meanings → Type 0
BoundIsSound m = WhereListed m (λ es code region us t. IsBounded code region us t)

-- and no service breaks in one of the four kinds
abbrev pub ListedIsSafe : Meanings → Type 0
ListedIsSafe m = WhereListed m (λ es code region us t. IsSafe m es code region t)
