-- How long an input waits, until its service begins and until it ends, by the counts of one burst.
use Rattle.std.specs.Prelude.{◌≡◌, ◌⊎◌, ◌≤◌, ℕ, suc, ◌+◌, List, [], ◌∷◌, ◌++◌}
use Rattle.device_model.specs.Meanings.{Meanings}
use Rattle.hart_board.specs.State.{State}
use Rattle.hart_board.specs.declared.event.Event.{Event}
use Rattle.chain_moves.specs.Servicing.{Live, Service, Servicing}
use Rattle.chain_moves.specs.Run.{Made}
use Rattle.chain_moves.specs.Cost.{cost}
use Rattle.chain_moves.specs.Moves.{servicing_machine}
use Rattle.chain_moves.specs.declared.dispatcher.Dispatcher.{Dispatcher}
use Rattle.chain_moves.specs.declared.moves.Move.{Move}
use Rattle.chain_flow.specs.declared.region.Region.{Region}
use Rattle.chain_lint.specs.declared.uses.Use.{Use}
use Rattle.chain_lint.specs.Soundness.{IsAfter, Begins, handler_of}
use Rattle.chain_time.specs.Path.{path}
use Rattle.chain_time.specs.Waiting.{Waits}
use Rattle.chain_time.specs.Stretch.{RunsTo, Throughout, IsTimedRun, IsBurst}
use Rattle.chain_time.specs.Counts.{Timed, Has, AreFew, response, latency, burst}

-- ---- counts

-- the list has each of these services: its input, with at least its level and at least the longest way of its handler
abbrev pub AreOfRows : (ℕ → ℕ) → List Timed → List Service → Type 0
AreOfRows paths rs [] = Unit {0}
AreOfRows paths rs (e ∷ begun) = Has e.level e.number (paths e.number) rs × AreOfRows paths rs begun

-- no service was live after h moves; those that began since are of the list, and no input more often than it says
pub record IsCounted (m : Meanings) (es : List Event) (paths : ℕ → ℕ) (rs : List Timed) (b : State) (h : ℕ) (t : Servicing) : Type 0 where
  pub start : Servicing
  pub at_start : IsAfter m es b h start
  pub foreground : start.live ≡ []
  pub begun : List Service
  pub services : t.services ≡ start.services ++ begun
  pub of_rows : AreOfRows paths rs begun
  pub few : AreFew rs begun

-- two points i and n of a run, with the moves up to them and the states there, and the services counted from h on
pub record IsCountedRun (m : Meanings) (es : List Event) (code : List ℕ) (region : Region) (us : List Use) (paths : ℕ → ℕ) (rs : List Timed) (b : State) (h i n : ℕ) (before made : List (Made Move)) (s t : Servicing) : Type 0 where
  pub first : h ≤ i
  pub later : i ≤ n
  pub run : IsTimedRun m es code region us paths b n
  pub counted : IsCounted m es paths rs b h t
  pub from : RunsTo m es b i before s
  pub to : RunsTo m es b n made t

-- ---- what is bounded

-- a service of at least that level is live
abbrev pub HasLive : ℕ → List Live → Type 0
HasLive level [] = ⊥
HasLive level (v ∷ vs) = (level ≤ v.mark.level) ⊎ HasLive level vs

-- an input waits, or a service of at least that level is live
abbrev pub IsPending : ℕ → ℕ → Servicing → Type 0
IsPending input level s = Waits input level s ⊎ HasLive level s.live

-- an input waits, and then its service is live, each at the level of a row: together that is at most the row's response
abbrev pub ResponseIsBounded : Meanings → Type 0
ResponseIsBounded m =
    (es : List Event) (d : Dispatcher) (code : List ℕ) (region : Region) (us : List Use) (paths : ℕ → ℕ) (rs : List Timed) (b : State) (r : Timed) (h i n : ℕ) (before made : List (Made Move)) (s t : Servicing)
    → IsCountedRun m es code region us paths rs b h i n before made s t → Throughout m es b i n (λ u. IsPending r.input r.level u)
    → cost (servicing_machine m es) d made ≤ cost (servicing_machine m es) d before + response rs r

-- an input waits until a service of at least its level begins whose handler has the row's longest way, as its own does: that is at most the row's latency
abbrev pub LatencyIsBounded : Meanings → Type 0
LatencyIsBounded m =
    (es : List Event) (d : Dispatcher) (code : List ℕ) (region : Region) (us : List Use) (paths : ℕ → ℕ) (rs : List Timed) (b : State) (r : Timed) (h i n : ℕ) (before made : List (Made Move)) (s u t : Servicing) (v : Live)
    → IsCountedRun m es code region us paths rs b h i (suc n) before made s t → Throughout m es b i (suc n) (λ w. Waits r.input r.level w)
    → Begins m es b n u t v → r.level ≤ v.mark.level → path code (handler_of v) ≡ r.path
    → cost (servicing_machine m es) d made ≤ cost (servicing_machine m es) d before + latency rs r

-- the foreground stands still for at most the burst
abbrev pub BurstIsBounded : Meanings → Type 0
BurstIsBounded m =
    (es : List Event) (d : Dispatcher) (code : List ℕ) (region : Region) (us : List Use) (paths : ℕ → ℕ) (rs : List Timed) (b : State) (i n : ℕ) (before made : List (Made Move)) (s t : Servicing)
    → IsCountedRun m es code region us paths rs b i i n before made s t → IsBurst m es b i n s
    → cost (servicing_machine m es) d made ≤ cost (servicing_machine m es) d before + burst rs
