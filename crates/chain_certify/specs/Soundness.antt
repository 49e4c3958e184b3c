-- What the checker's yes and the bound mean for runs of the servicing machine.
use Rattle.std.specs.Prelude.{◌≡◌, ℕ, ◌+◌, ◌≤◌, ◌<◌, List, [], ◌∷◌, Some}
use Rattle.device_model.specs.Meanings.{Meanings}
use Rattle.hart_words.specs.Registers.{register}
use Rattle.hart_board.specs.State.{State}
use Rattle.hart_board.specs.declared.event.Event.{Event}
use Rattle.chain_moves.specs.Slot.{frame_size}
use Rattle.chain_moves.specs.Servicing.{Live, Servicing}
use Rattle.chain_moves.specs.Enter.{pointer}
use Rattle.chain_moves.specs.Machine.{When, Breaks}
use Rattle.chain_moves.specs.Moves.{move}
use Rattle.chain_moves.specs.declared.broken.Broken.{Broken}
use Rattle.chain_lint.specs.Bound.{bound}
use Rattle.chain_lint.specs.declared.uses.Use.{Use}
pub use Rattle.chain_lint.specs.Soundness.{HasCode, IsRegion, Premises, IsAfter, handler_of, IsOther, Lists, outermost}
use Rattle.chain_lint.specs.Soundness.{Begins}
use Rattle.chain_certify.specs.Check.{Node, checked}
use Rattle.chain_flow.specs.declared.region.Region.{Region}

-- a certificate for each handler's address
abbrev pub Certificates : Type 0
Certificates = ℕ → List Node

-- a service's handler is accepted, and its frame lies in the region together with the bytes below it that the handler uses
pub record IsAccepted (code : List ℕ) (region : Region) (certs : Certificates) (v : Live) : Type 0 where
  pub uses : ℕ
  pub checked_is : checked code (handler_of v) region (certs (handler_of v)) ≡ Some uses
  pub low : region.low + uses ≤ v.mark.frame
  pub high : v.mark.frame + frame_size ≤ region.high

-- so it is of the innermost service
abbrev pub HasAccepted : List ℕ → Region → Certificates → List Live → Type 0
HasAccepted code region certs [] = Unit {0}
HasAccepted code region certs (v ∷ vs) = IsAccepted code region certs v

-- and of each one in the first n moves
abbrev pub AcceptsTo : Meanings → List Event → List ℕ → Region → Certificates → State → ℕ → Type 0
AcceptsTo m es code region certs b n = (j : ℕ) → j ≤ n → (t : Servicing) → IsAfter m es b j t → HasAccepted code region certs t.live

-- ---- what follows

-- while a service is live, no move breaks in one of the four kinds, and the stack pointer is between the innermost frame's address and that less the bytes that its handler uses
pub record IsSafe (m : Meanings) (es : List Event) (code : List ℕ) (region : Region) (certs : Certificates) (t : Servicing) : Type 0 where
  pub kinds : (v : Live) (vs : List Live) (when : When) (kind : Broken) (n : ℕ) → t.live ≡ v ∷ vs → move m es t ≡ Breaks when kind n → IsOther kind
  pub pointer : (v : Live) (vs : List Live) (uses : ℕ) → t.live ≡ v ∷ vs → checked code (handler_of v) region (certs (handler_of v)) ≡ Some uses → (register t.registers 2 ≤ v.mark.frame) × (v.mark.frame ≤ register t.registers 2 + uses)

-- a yes is sound
abbrev pub YesIsSound : Meanings → Type 0
YesIsSound m =
    (es : List Event) (code : List ℕ) (region : Region) (certs : Certificates) (b : State) (n : ℕ) (t : Servicing)
    → Premises m es code region b → AcceptsTo m es code region certs b n → IsAfter m es b n t → IsSafe m es code region certs t

-- ---- the bound

-- a service's handler is accepted, and the list has its level with the bytes that it uses
pub record IsListed (code : List ℕ) (region : Region) (certs : Certificates) (us : List Use) (v : Live) : Type 0 where
  pub uses : ℕ
  pub checked_is : checked code (handler_of v) region (certs (handler_of v)) ≡ Some uses
  pub listed : Lists v.mark.level uses us

-- each service that begins in the first n moves is listed, and from the foreground its pointer has room for the bound in the region
pub record IsListedTo (m : Meanings) (es : List Event) (code : List ℕ) (region : Region) (certs : Certificates) (us : List Use) (b : State) (n : ℕ) : Type 0 where
  pub listed : (j : ℕ) (s t : Servicing) (v : Live) → j < n → Begins m es b j s t v → IsListed code region certs us v
  pub room : (j : ℕ) (s t : Servicing) (v : Live) → j < n → Begins m es b j s t v → s.live ≡ [] → (region.low + bound us ≤ pointer s) × (pointer s ≤ region.high)

-- each live service's handler is accepted, with its frame and the bytes that it uses in the region
abbrev pub AreAccepted : List ℕ → Region → Certificates → List Live → Type 0
AreAccepted code region certs [] = Unit {0}
AreAccepted code region certs (v ∷ vs) = IsAccepted code region certs v × AreAccepted code region certs vs

-- while a service is live, the stack pointer is never lower than that pointer less the bound, and every frame lies in the region with the bytes that its handler uses
pub record IsBounded (code : List ℕ) (region : Region) (certs : Certificates) (us : List Use) (t : Servicing) : Type 0 where
  pub pointer : (v : Live) (vs : List Live) → t.live ≡ v ∷ vs → outermost t.live ≤ register t.registers 2 + bound us
  pub frames : AreAccepted code region certs t.live

-- what follows in a run whose services are listed
abbrev pub WhereListed : Meanings → (List Event → List ℕ → Region → Certificates → List Use → Servicing → Type 0) → Type 0
WhereListed m P =
    (es : List Event) (code : List ℕ) (region : Region) (certs : Certificates) (us : List Use) (b : State) (n : ℕ) (t : Servicing)
    → Premises m es code region b → IsListedTo m es code region certs us b n → IsAfter m es b n t → P es code region certs us t

-- the bound is sound
abbrev pub BoundIsSound : Meanings → Type 0
BoundIsSound m = WhereListed m (λ es code region certs us t. IsBounded code region certs us t)

-- and no service breaks in one of the four kinds
abbrev pub ListedIsSafe : Meanings → Type 0
ListedIsSafe m = WhereListed m (λ es code region certs us t. IsSafe m es code region certs t)
