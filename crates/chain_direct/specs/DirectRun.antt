-- The services that are read off the board's own run, direct ones among them. Bodies and events are counted as in every chain.
use Rattle.std.specs.Prelude.{ℕ, suc, ◌==◌, Bool, true, false, List, [], ◌∷◌, Option, Some, None}
use Rattle.device_model.specs.Meanings.{Meanings}
use Rattle.clic_select.specs.Top.{top}
use Rattle.clic_select.specs.declared.choice.Choice.{Choice}
use Rattle.hart_board.specs.State.{State}
use Rattle.hart_board.specs.Step.{Turn, step}
use Rattle.hart_board.specs.Steps.{board_at}
use Rattle.hart_board.specs.declared.event.Event.{Event}
use Rattle.hart_report.specs.declared.stepped.Stepped.{Stepped}
use Rattle.hart_report.specs.declared.stepped.Stepped.TheVariants.{Retired, Interrupted}
use Rattle.chain_moves.specs.Slot.{call}
use Rattle.chain_core.specs.ChainRun.{is_body, read_to}
use Rattle.chain_direct.specs.Directed.{Listed, as_chained}

-- the input that an interrupt takes is the top
abbrev pub is_vectored : Option Choice → Bool
is_vectored None = false
is_vectored (Some t) = t.shv

-- by whether the instruction is the dispatcher's call
abbrev pub called : ℕ → State → Bool → List Listed
called depth new true = as_chained (record { number = new.csrs.exccode; level = new.csrs.mil; depth = suc depth }) ∷ []
called depth new false = []

-- by whether the input that is entered is hardware-vectored
abbrev pub entered_directly : ℕ → State → ℕ → Bool → List Listed
entered_directly depth new id true = record { direct = true; service = record { number = id; level = new.csrs.mil; depth = suc depth } } ∷ []
entered_directly depth new id false = []

abbrev pub begins_by : ℕ → State → State → Stepped → List Listed
begins_by depth old new (Retired pc bits length) = called depth new (pc == call)
begins_by depth old new (Interrupted pc id) = entered_directly depth new id (is_vectored (top old.outside.clic))
begins_by depth old new told = []

-- the service that begins with a step of the board, where frames are live to that depth
abbrev pub begins : ℕ → State → Turn → List Listed
begins depth old turn = begins_by depth old turn.state turn.told

-- those that begin with the step after the first k of a chain; the depth is the calls less the returns so far
unfoldable pub begins_after : Meanings → List Event → State → ℕ → List Listed
begins_after m es b k = begins (read_to m es b k).depth (board_at m is_body es b k) (step m (board_at m is_body es b k))
