-- The two chains that the command `gen` makes.
use Rattle.std.specs.Prelude.{◌≡◌, ℕ, false, List, ◌++◌, Some, None, codes}
use Rattle.hart_words.specs.Decimal.{decimal}
use Rattle.hart_board.specs.State.{State}
use Rattle.hart_board.specs.Event.{EventList}
use Rattle.chain_moves.specs.Words.{HasDispatcher}
use Rattle.chain_moves.specs.Watched.{nothing_watched}
use Rattle.chain_core.specs.Chain.{chain_end, board_after}
use Rattle.chain_core.specs.Text.{end_line}
use Rattle.chain_moves.specs.declared.dispatcher.Dispatcher.{Dispatcher}
use Rattle.chain_moves.specs.declared.dispatcher.Dispatcher.TheVariants.{Looping, Returning}
use Rattle.chain_core.specs.declared.chain_end.ChainEnd.{ChainEnd}
use Rattle.chain_core.specs.declared.chain_end.ChainEnd.TheVariants.{Done as done, BudgetSpent as budget_spent, SinkFailed as sink_failed, Broken as broken}
use Rattle.tool_frame.specs.Due.{Due, at_once}
use Rattle.tool_frame.specs.Plan.{Plan, Makes}
use Rattle.tool_work.specs.Shipped.{shipped_meanings}
use Rattle.tool_work.specs.Bench.{Bench}
use Rattle.tool_work.specs.Chain.{chain_board, status_of, IsServed, DoAgree}
use Rattle.tool_work.specs.GenImage.{gen_image}
use Rattle.tool_work.specs.GenEvents.{gen_events}
use Rattle.tool_work.specs.declared.prepared.Prepared.{Prepared}
use Rattle.tool_words.specs.Gen.{GenWords}

-- ---- the chains

-- the most steps of each
abbrev pub gen_bound : ℕ
gen_bound = 1_000_000

-- the board from which one starts: at reset, with the image's bytes and its entry, and the dispatcher in the slot
abbrev pub gen_board : Dispatcher → ℕ → State
gen_board d n = chain_board d (gen_image n) (gen_events n)

-- what a chain with these events asks of its board and of what it keeps beside it
pub record IsPrepared (d : Dispatcher) (events : EventList) (p : Prepared) : Type 0 where
  pub has : HasDispatcher d p.board.memory.rom
  pub level : p.board.csrs.mil ≡ 0
  pub new : p.watch ≡ nothing_watched
  pub shape : events.shape ≡ p.board.outside.clic.shape

-- how it ends
unfoldable pub gen_end : Dispatcher → ℕ → ChainEnd
gen_end d n = (chain_end shipped_meanings (gen_events n).list d gen_bound (gen_board d n)).end

-- the board where it ends
unfoldable pub gen_after : Dispatcher → ℕ → State
gen_after d n = board_after shipped_meanings (gen_events n).list d gen_bound (gen_board d n)

-- ---- what is told of them

-- the number, the services, and the steps of both
unfoldable pub summary_line : ℕ → ℕ → ℕ → ℕ → List ℕ
summary_line n services looping returning =
    codes "gen " ++ decimal n ++ codes " services " ++ decimal services ++ codes " looping " ++ decimal looping ++ codes " returning " ++ decimal returning ++ codes "\n"

-- after a looping chain that is done: the summary, where the returning one is done too, and else how that one ends
abbrev pub line_after : ℕ → ℕ → ℕ → ChainEnd → List ℕ
line_after n services looping (done returning bodies same) = summary_line n services looping returning
line_after n services looping budget_spent = end_line budget_spent None
line_after n services looping (broken kind bodies) = end_line (broken kind bodies) None
line_after n services looping sink_failed = end_line sink_failed None

-- by the ends of the looping chain and of the returning one
abbrev pub gen_line : ℕ → ChainEnd → ChainEnd → List ℕ
gen_line n (done looping bodies services) returning = line_after n services looping returning
gen_line n budget_spent returning = end_line budget_spent None
gen_line n (broken kind bodies) returning = end_line (broken kind bodies) None
gen_line n sink_failed returning = end_line sink_failed None

-- the first end that isn't that of a chain which is done, or else the second
abbrev pub deciding : ChainEnd → ChainEnd → ChainEnd
deciding (done steps bodies services) second = second
deciding budget_spent second = budget_spent
deciding (broken kind bodies) second = broken kind bodies
deciding sink_failed second = sink_failed

-- the end by which the status goes
abbrev pub gen_decides : ℕ → ChainEnd
gen_decides n = deciding (gen_end Looping n) (gen_end Returning n)

-- what is due of it
abbrev pub gen_due : ℕ → Due
gen_due n = at_once (gen_line n (gen_end Looping n) (gen_end Returning n)) (status_of (gen_decides n))

-- both boards are left where their chains end
abbrev pub gen_left : ℕ → Bench
gen_left n = record { first = Some (gen_after Looping n); second = Some (gen_after Returning n) }

-- no file is read
abbrev pub gen_plan : GenWords → Plan Bench
gen_plan words = Makes (gen_due words.number_is) (gen_left words.number_is)

-- both chains do what the servicing machine does, which knows no dispatcher, and where both are done they agree
pub record AreServed (n : ℕ) : Type 0 where
  pub looping : IsServed false Looping gen_bound (gen_events n) (gen_board Looping n)
  pub returning : IsServed false Returning gen_bound (gen_events n) (gen_board Returning n)
  pub agree : DoAgree false (gen_image n) (gen_events n)
