-- What a stretch of a run costs at most.
use Rattle.std.specs.Prelude.{◌≡◌, ◌<◌, ◌≤◌, ℕ, ◌+◌, nat_le, List, [], ◌∷◌, ◌++◌, if◌then◌else◌}
use Rattle.device_model.specs.Meanings.{Meanings}
use Rattle.hart_board.specs.State.{State}
use Rattle.hart_board.specs.declared.event.Event.{Event}
use Rattle.chain_moves.specs.Servicing.{Live, Service, Servicing}
use Rattle.chain_moves.specs.Machine.{Makes}
use Rattle.chain_moves.specs.Run.{Made, On, run_to}
use Rattle.chain_moves.specs.Cost.{enter_cost, leave_cost, cost}
use Rattle.chain_moves.specs.Moves.{move, servicing_machine}
use Rattle.chain_moves.specs.Start.{begun}
use Rattle.chain_moves.specs.declared.dispatcher.Dispatcher.{Dispatcher}
use Rattle.chain_moves.specs.declared.moves.Move.{Move}
use Rattle.chain_moves.specs.declared.moves.Move.TheVariants.{Enter, Leave, Body}
use Rattle.chain_flow.specs.declared.region.Region.{Region}
use Rattle.chain_lint.specs.declared.uses.Use.{Use}
use Rattle.chain_lint.specs.Soundness.{Premises, IsAfter, IsListedTo, Begins, handler_of}
use Rattle.chain_time.specs.Path.{path}
use Rattle.chain_time.specs.Waiting.{HasInnermost, Waits}

-- ---- moves of a run

-- the run after n moves: those that were made, the latest first, and the state
abbrev pub RunsTo : Meanings → List Event → State → ℕ → List (Made Move) → Servicing → Type 0
RunsTo m es b n made t = run_to (servicing_machine m es) (begun m es b) n ≡ On made t

-- in each state after i moves or more, and fewer than n
abbrev pub Throughout : Meanings → List Event → State → ℕ → ℕ → (Servicing → Type 0) → Type 0
Throughout m es b i n P = (j : ℕ) → i ≤ j → j < n → (s : Servicing) → IsAfter m es b j s → P s

-- a Leave or a Body is made by a service of at least that level
abbrev pub IsMadeBy : ℕ → Move → Servicing → Type 0
IsMadeBy level Enter s = Unit {0}
IsMadeBy level Leave s = HasInnermost level s.live
IsMadeBy level Body s = HasInnermost level s.live

-- so is each Leave and each Body of the stretch
abbrev pub AreMadeBy : Meanings → List Event → State → ℕ → ℕ → ℕ → Type 0
AreMadeBy m es b i n level = Throughout m es b i n (λ s. (kind : Move) (t : Servicing) → move m es s ≡ Makes kind t → IsMadeBy level kind s)

-- ---- what services need

-- the steps that live services of at least a level still need, from where they stand: the longest way, and a Leave
abbrev pub rest_of : List ℕ → ℕ → ℕ → List Live → ℕ
rest_of code level pc [] = 0
rest_of code level pc (v ∷ vs) = (if nat_le level v.mark.level then path code pc + leave_cost else 0) + rest_of code level v.pc vs

abbrev pub rest : List ℕ → ℕ → Servicing → ℕ
rest code level s = rest_of code level s.pc s.live

-- what these services take at most, by the longest way of each input's handler: an Enter, the way, and a Leave
abbrev pub total : (ℕ → ℕ) → List Service → ℕ
total paths [] = 0
total paths (e ∷ begun) = (enter_cost + paths e.number + leave_cost) + total paths begun

-- the longest way of each handler that is entered in the first n moves is at most the one of its input
abbrev pub AreTimedTo : Meanings → List Event → List ℕ → (ℕ → ℕ) → State → ℕ → Type 0
AreTimedTo m es code paths b n = (j : ℕ) (s t : Servicing) (v : Live) → j < n → Begins m es b j s t v → path code (handler_of v) ≤ paths v.number

-- a run of accepted handlers with these ways, up to move n
pub record IsTimedRun (m : Meanings) (es : List Event) (code : List ℕ) (region : Region) (us : List Use) (paths : ℕ → ℕ) (b : State) (n : ℕ) : Type 0 where
  pub premises : Premises m es code region b
  pub listed : IsListedTo m es code region us b n
  pub timed : AreTimedTo m es code paths b n

-- ---- what a stretch costs

-- the services that begin in it pay for what the moves cost and for what is left
pub record Takes (m : Meanings) (es : List Event) (d : Dispatcher) (code : List ℕ) (paths : ℕ → ℕ) (level : ℕ) (before made : List (Made Move)) (s t : Servicing) : Type 0 where
  pub begun : List Service
  pub services : t.services ≡ s.services ++ begun
  pub steps : cost (servicing_machine m es) d made + rest code level t ≤ cost (servicing_machine m es) d before + rest code level s + total paths begun

-- where each Leave and each Body is made by a service of at least a level
abbrev pub StretchIsTimed : Meanings → Type 0
StretchIsTimed m =
    (es : List Event) (d : Dispatcher) (code : List ℕ) (region : Region) (us : List Use) (paths : ℕ → ℕ) (b : State) (level i n : ℕ) (before made : List (Made Move)) (s t : Servicing)
    → i ≤ n → IsTimedRun m es code region us paths b n → RunsTo m es b i before s → RunsTo m es b n made t → AreMadeBy m es b i n level
    → Takes m es d code paths level before made s t

-- where an input waits
abbrev pub WaitIsTimed : Meanings → Type 0
WaitIsTimed m =
    (es : List Event) (d : Dispatcher) (code : List ℕ) (region : Region) (us : List Use) (paths : ℕ → ℕ) (b : State) (input level i n : ℕ) (before made : List (Made Move)) (s t : Servicing)
    → i ≤ n → IsTimedRun m es code region us paths b n → RunsTo m es b i before s → RunsTo m es b n made t → Throughout m es b i n (λ u. Waits input level u)
    → Takes m es d code paths level before made s t

-- ---- a burst

-- the services that begin in a burst pay for it
pub record Bursts (m : Meanings) (es : List Event) (d : Dispatcher) (paths : ℕ → ℕ) (before made : List (Made Move)) (s t : Servicing) : Type 0 where
  pub begun : List Service
  pub services : t.services ≡ s.services ++ begun
  pub steps : cost (servicing_machine m es) d made ≤ cost (servicing_machine m es) d before + total paths begun

-- a move is no instruction of the foreground
abbrev pub IsNoForeground : Meanings → List Event → Servicing → Type 0
IsNoForeground m es s = s.live ≡ [] → (kind : Move) (t : Servicing) → move m es s ≡ Makes kind t → kind ≡ Enter

-- no service is live as a stretch begins, and no move of it is an instruction of the foreground
pub record IsBurst (m : Meanings) (es : List Event) (b : State) (i n : ℕ) (s : Servicing) : Type 0 where
  pub begins : s.live ≡ []
  pub still : Throughout m es b i n (λ u. IsNoForeground m es u)

abbrev pub BurstIsTimed : Meanings → Type 0
BurstIsTimed m =
    (es : List Event) (d : Dispatcher) (code : List ℕ) (region : Region) (us : List Use) (paths : ℕ → ℕ) (b : State) (i n : ℕ) (before made : List (Made Move)) (s t : Servicing)
    → i ≤ n → IsTimedRun m es code region us paths b n → RunsTo m es b i before s → RunsTo m es b n made t → IsBurst m es b i n s
    → Bursts m es d paths before made s t
