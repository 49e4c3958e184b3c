-- The bodies that a service makes itself.
use Rattle.std.specs.Prelude.{◌≤◌, ℕ, ◌+◌, List, [], ◌∷◌}
use Rattle.device_model.specs.Meanings.{Meanings}
use Rattle.hart_board.specs.State.{State}
use Rattle.hart_board.specs.declared.event.Event.{Event}
use Rattle.chain_moves.specs.Servicing.{Live, Servicing}
use Rattle.chain_moves.specs.Run.{Made}
use Rattle.chain_moves.specs.declared.moves.Move.{Move}
use Rattle.chain_moves.specs.declared.moves.Move.TheVariants.{Enter, Leave, Body}
use Rattle.chain_flow.specs.declared.region.Region.{Region}
use Rattle.chain_lint.specs.declared.uses.Use.{Use}
use Rattle.chain_lint.specs.Soundness.{Premises, IsListedTo, handler_of}
use Rattle.chain_time.specs.Path.{path}
use Rattle.chain_time.specs.Stretch.{RunsTo}

-- how many bodies each live service has made itself, the innermost one first, after one move more
abbrev pub own_after : Move → List ℕ → List ℕ
own_after Enter ks = 0 ∷ ks
own_after Leave [] = []
own_after Leave (k ∷ ks) = ks
own_after Body [] = []
own_after Body (k ∷ ks) = (k + 1) ∷ ks

-- of a list of moves, the latest first; the last number is the foreground's
abbrev pub own_bodies : List (Made Move) → List ℕ
own_bodies [] = 0 ∷ []
own_bodies (m ∷ made) = own_after m.kind (own_bodies made)

-- of each live service: its own bodies and the longest way from where it stands are at most the longest way of its handler
abbrev pub AreWithin : List ℕ → List ℕ → ℕ → List Live → Type 0
AreWithin code ks pc [] = Unit {0}
AreWithin code [] pc (v ∷ vs) = ⊥
AreWithin code (k ∷ ks) pc (v ∷ vs) = (k + path code pc ≤ path code (handler_of v)) × AreWithin code ks v.pc vs

abbrev pub PathIsBound : Meanings → Type 0
PathIsBound m =
    (es : List Event) (code : List ℕ) (region : Region) (us : List Use) (b : State) (n : ℕ) (made : List (Made Move)) (t : Servicing)
    → Premises m es code region b → IsListedTo m es code region us b n → RunsTo m es b n made t
    → AreWithin code (own_bodies made) t.pc t.live
