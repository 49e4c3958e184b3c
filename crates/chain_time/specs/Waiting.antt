-- Who runs while an input waits.
use Rattle.std.specs.Prelude.{◌≡◌, ◌<◌, ◌≤◌, ◌+◌, ℕ, true, List, [], ◌∷◌, Some}
use Rattle.device_model.specs.Meanings.{Meanings}
use Rattle.clic_regs.specs.Level.{level_of}
use Rattle.clic_select.specs.Top.{is_waiting, top}
use Rattle.clic_select.specs.declared.choice.Choice.{Choice}
use Rattle.hart_board.specs.declared.event.Event.{Event}
use Rattle.chain_moves.specs.Servicing.{Live, Servicing, marks, innermost_level}
use Rattle.chain_moves.specs.Enter.{takes_interrupts}
use Rattle.chain_moves.specs.Machine.{Makes}
use Rattle.chain_moves.specs.Run.{Made}
use Rattle.chain_moves.specs.Cost.{enter_cost, cost}
use Rattle.chain_moves.specs.Moves.{move, servicing_machine}
use Rattle.chain_moves.specs.declared.dispatcher.Dispatcher.{Dispatcher}
use Rattle.chain_moves.specs.declared.moves.Move.{Move}
use Rattle.chain_moves.specs.declared.moves.Move.TheVariants.{Enter, Leave, Body}

-- a service of at least that level is the innermost one
abbrev pub HasInnermost : ℕ → List Live → Type 0
HasInnermost level [] = ⊥
HasInnermost level (v ∷ vs) = level ≤ v.mark.level

-- an input is pending and enabled, its level is at least that one, which is above the threshold, and interrupts are taken
pub record Waits (input level : ℕ) (s : Servicing) : Type 0 where
  pub waiting : is_waiting s.outside.clic input ≡ true
  pub high : level ≤ level_of s.outside.clic input
  pub above : s.threshold < level
  pub taken : takes_interrupts (marks s.live) s.on ≡ true

-- ---- no inversion

-- a move is made by a service of at least that level, or is the Enter of one
abbrev pub Serves : ℕ → Move → Servicing → Servicing → Type 0
Serves level Enter s t = HasInnermost level t.live
Serves level Leave s t = HasInnermost level s.live
Serves level Body s t = HasInnermost level s.live

-- while an input waits, each move is
abbrev pub NoInversion : Meanings → Type 0
NoInversion m =
    (es : List Event) (input level : ℕ) (s t : Servicing) (kind : Move)
    → Waits input level s → move m es s ≡ Makes kind t → Serves level kind s t

-- and where no service is live the next move is an Enter
abbrev pub EntersAtOnce : Meanings → Type 0
EntersAtOnce m =
    (es : List Event) (input level : ℕ) (s t : Servicing) (kind : Move)
    → Waits input level s → s.live ≡ [] → move m es s ≡ Makes kind t → kind ≡ Enter

-- ---- the input that is the top

-- a service of this input begins
pub record IsEnterOf (input : ℕ) (kind : Move) (s t : Servicing) : Type 0 where
  pub kind_is : kind ≡ Enter
  pub service : Live
  pub live : t.live ≡ service ∷ s.live
  pub number : service.number ≡ input

-- the top waits, and its level is above the innermost one: the move that is made is its Enter
abbrev pub TopBegins : Meanings → Type 0
TopBegins m =
    (es : List Event) (level : ℕ) (choice : Choice) (s t : Servicing) (kind : Move)
    → top s.outside.clic ≡ Some choice → Waits choice.id level s → innermost_level (marks s.live) < level → move m es s ≡ Makes kind t
    → IsEnterOf choice.id kind s t

-- which costs no more than one that isn't fused
abbrev pub EnterIsShort : Meanings → Type 0
EnterIsShort m =
    (es : List Event) (d : Dispatcher) (k : Made Move) (made : List (Made Move))
    → k.kind ≡ Enter → cost (servicing_machine m es) d (k ∷ made) ≤ cost (servicing_machine m es) d made + enter_cost
