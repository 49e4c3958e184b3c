-- Words that the program doesn't take.
use Rattle.std.specs.Prelude.{ℕ, List, codes}
use Rattle.board_outside.specs.Shelf.{ShelfView}
use Rattle.board_outside.specs.Sink.{SinkView}
use Rattle.tool_frame.specs.Due.{Due, usage_due as due_by}
use Rattle.tool_frame.specs.Answers.{Misuses as MisusesBy}
use Rattle.tool_frame.specs.declared.status.Status.{Status}

-- the usage line
unfoldable pub usage_line : List ℕ
usage_line = codes "usage: template_tool run | looping | returning IMAGE SCENARIO BOUND\n"

abbrev pub usage_due : Due
usage_due = due_by usage_line

-- nothing is fetched, and the usage line is written
abbrev pub Misuses : Status → ShelfView → ShelfView → SinkView → SinkView → Type 0
Misuses status shelf shelf' sink sink' = MisusesBy usage_line status shelf shelf' sink sink'
