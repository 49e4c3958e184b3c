-- Both dispatchers, with direct services.
use Rattle.std.specs.Prelude.{◌≡◌, ◌+◌, ◌*◌, ℕ, false, List, slice_index_or}
use Rattle.device_model.specs.Meanings.{Meanings}
use Rattle.hart_board.specs.State.{State}
use Rattle.hart_board.specs.declared.event.Event.{Event}
use Rattle.chain_moves.specs.Machine.{Ends}
use Rattle.chain_moves.specs.Run.{Made, Leads}
use Rattle.chain_core.specs.Counts.{counts}
use Rattle.chain_core.specs.Both.{SameBoards}
use Rattle.chain_moves.specs.declared.dispatcher.Dispatcher.TheVariants.{Looping, Returning}
use Rattle.chain_direct.specs.Kind.{Kind}
use Rattle.chain_direct.specs.Directed.{Directed}
use Rattle.chain_direct.specs.DirectCounts.{as_moves}
use Rattle.chain_direct.specs.DirectMoves.{direct_machine, direct_move, direct_start}
use Rattle.chain_direct.specs.DirectText.{direct_end, direct_board}
use Rattle.chain_direct.specs.DirectChain.{begun_to}

-- both chains made the same moves and came to one state, and the returning one is 23 steps longer for each Enter straight after a Leave; the services read off both boards' runs are that state's, and both boards are the same but for dispatch code, dead bytes, and what the last trap saved
pub record BothDirectAgree (m : Meanings) (es : List Event) (b c : State) (one other : ℕ) (steps more bodies bodies' services services' : ℕ) : Type 0 where
  pub made : List (Made Kind)
  pub state : Directed
  pub leads : Leads (direct_machine m es) made (direct_start m es b) state
  pub over : direct_move m es state ≡ Ends
  pub steps_are : more ≡ steps + 23 * (counts (as_moves made)).pairs
  pub bodies_are : bodies ≡ bodies'
  pub services_are : services ≡ services'
  pub listed : begun_to m es b (direct_end m es Looping one b).steps ≡ state.services
  pub other_listed : begun_to m es c (direct_end m es Returning other c).steps ≡ state.services
  pub boards : SameBoards (λ j. slice_index_or state.chained.dead j false ≡ false) (direct_board m es Looping one b) (direct_board m es Returning other c)
