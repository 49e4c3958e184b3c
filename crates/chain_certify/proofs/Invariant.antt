-- What holds between two moves, and what a move may come to.
pub use Rattle.chain_certify.specs.Soundness.{IsOther}
use Rattle.std.proofs.Common.{◌≡◌, ℕ, true, List, [], ◌∷◌, Option, Some, None}
use Rattle.device_model.specs.Meanings.{Meanings}
use Rattle.hart_board.specs.State.{State}
use Rattle.hart_board.specs.Valid.{IsBoard}
use Rattle.chain_moves.specs.Servicing.{Live, Servicing}
use Rattle.chain_moves.specs.Bytes.{is_dead}
use Rattle.chain_moves.specs.Machine.{When, Moved, Makes, Breaks, Ends, unless_broken}
use Rattle.chain_moves.specs.Ranges.{IsInRange}
use Rattle.chain_moves.specs.declared.broken.Broken.{Broken}
use Rattle.chain_moves.specs.declared.moves.Move.{Move}
use Rattle.chain_certify.specs.Rules.{in_region}
use Rattle.chain_certify.specs.Soundness.{Certificates, HasCode}
use Rattle.chain_flow.specs.declared.region.Region.{Region}
use Rattle.chain_certify.proofs.Handlers.{IsHart}
use Rattle.chain_certify.proofs.Services.{Services}

pub record Inv (m : Meanings) (code : List ℕ) (region : Region) (certs : Certificates) (s : Servicing) : Type 0 where
  pub range : IsInRange m s
  pub has_code : HasCode code s.memory.rom
  pub dead_in : (j : ℕ) → is_dead s.dead j ≡ true → in_region region j ≡ true
  pub services : Services code region certs s.live s.registers s.pc s.memory.ram s.dead

pub hart_is : (m : Meanings) (t : State) → IsBoard m t → IsHart t
hart_is m t b = record { zero = b.registers.zero; count = b.registers.count; words = b.registers.words; ram = b.memory.ram_len; ram_bytes = b.memory.ram_bytes; rom_bytes = b.memory.rom_bytes }

-- while a service is live
abbrev pub IsAllowed : List Live → Broken → Type 0
IsAllowed [] kind = Unit {0}
IsAllowed (v ∷ vs) kind = IsOther kind

-- a move is made to a state of which it is said, or breaks in an allowed way, or none is made
abbrev pub Goes : (Servicing → Type 0) → List Live → Moved Move Servicing → Type 0
Goes P live (Makes kind s) = P s
Goes P live (Breaks when kind bodies) = IsAllowed live kind
Goes P live Ends = Unit {0}

pub goes_unless : (P : Servicing → Type 0) (live : List Live) (when : When) (o : Option Broken) (n : ℕ) (moved : Moved Move Servicing) → o ≡ None → Goes P live moved → Goes P live (unless_broken when o n moved)
goes_unless P live when None n moved e h = h
goes_unless P live when (Some kind) n moved e h = absurd cc

-- of a state whose numbers are in range
abbrev pub Keeps : Meanings → List ℕ → Region → Certificates → Servicing → Type 0
Keeps m code region certs t = IsInRange m t → Inv m code region certs t
