-- The four moves as relations between a state and the state after.
use Rattle.std.specs.Prelude.{◌≡◌, ◌⊎◌, true, List, Some, None}
use Rattle.device_model.specs.Meanings.{Meanings}
use Rattle.clic_select.specs.Top.{top}
use Rattle.clic_select.specs.declared.choice.Choice.{Choice}
use Rattle.hart_board.specs.declared.event.Event.{Event}
use Rattle.chain_moves.specs.Servicing.{Servicing}
use Rattle.chain_moves.specs.Tests.{first_broken}
use Rattle.chain_moves.specs.Enter.{is_enter_due, table_address}
use Rattle.chain_moves.specs.Machine.{Makes}
use Rattle.chain_moves.specs.Kinds.{IsMove}
use Rattle.chain_moves.specs.declared.moves.Move.{Move}
use Rattle.chain_moves.specs.declared.moves.Move.TheVariants.{Body}
use Rattle.chain_direct.specs.Directed.{Direct, Directed, listed_after}
use Rattle.chain_direct.specs.Kind.{Kind, Begin, Plain}
use Rattle.chain_direct.specs.DirectBody.{direct_body}
use Rattle.chain_direct.specs.DirectMoves.{begin_tests, vectored}

-- no direct service is live, an Enter of the top would be due, the top is hardware-vectored, none of the tests holds, and its service begins
pub record Begins (m : Meanings) (s t : Directed) : Type 0 where
  pub halted : m.halted s.chained.outside.device ≡ None
  pub none : s.direct ≡ None
  pub choice : Choice
  pub is_top : top s.chained.outside.clic ≡ Some choice
  pub is_due : is_enter_due s.chained (top s.chained.outside.clic) ≡ true
  pub hard : choice.shv ≡ true
  pub untested : first_broken (begin_tests s.chained.dead (table_address s.chained.table choice.id)) ≡ None
  pub made : t ≡ vectored s choice

-- no direct service is live, and the move is one of the servicing machine's; where it is an Enter its service is listed
pub record Chains (m : Meanings) (es : List Event) (s : Directed) (kind : Move) (t : Directed) : Type 0 where
  pub none : s.direct ≡ None
  pub new : Servicing
  pub is : IsMove m es s.chained kind new
  pub made : t ≡ record s { chained = new; services = listed_after kind s.services new.live }

-- a direct service is live, and one of its instructions is carried out
pub record Carries (m : Meanings) (es : List Event) (s t : Directed) : Type 0 where
  pub halted : m.halted s.chained.outside.device ≡ None
  pub direct : Direct
  pub is_live : s.direct ≡ Some direct
  pub made : direct_body m es s direct ≡ Makes (Plain Body) t

abbrev pub IsDirectMove : Meanings → List Event → Directed → Kind → Directed → Type 0
IsDirectMove m es s Begin t = Begins m s t
IsDirectMove m es s (Plain Body) t = Chains m es s Body t ⊎ Carries m es s t
IsDirectMove m es s (Plain kind) t = Chains m es s kind t
