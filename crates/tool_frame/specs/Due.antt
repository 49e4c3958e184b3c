-- The text and the status that are due.
use Rattle.std.specs.Prelude.{ℕ, List, [], Bool, false, Option, Some, None}
use Rattle.board_outside.specs.declared.shelf.ShelfFault.{ShelfFault}
use Rattle.board_outside.specs.declared.shelf.ShelfFault.TheVariants.{Absent as absent, Failed as failed, Memory as memory}
use Rattle.tool_frame.specs.Lines.{absent_line, failed_line}
use Rattle.tool_frame.specs.declared.status.Status.{Status}
use Rattle.tool_frame.specs.declared.status.Status.TheVariants.{Usage, Absent, ShelfFailed, Refused, Memory}

-- the text that is to be written, the status, and whether the text is written in parts with want of memory between them
pub record Due : Type 0 where
  pub text : List ℕ
  pub status : Status
  pub in_parts : Bool

-- work that has all its memory before it writes
abbrev pub at_once : List ℕ → Status → Due
at_once text status = record { text = text; status = status; in_parts = false }

-- words that are no command: the program's usage line
abbrev pub usage_due : List ℕ → Due
usage_due line = at_once line Usage

-- a file that isn't there
abbrev pub absent_due : List ℕ → Due
absent_due name = at_once (absent_line name) Absent

-- a file that is refused, with this line
abbrev pub refused_due : List ℕ → Due
refused_due line = at_once line Refused

-- want of memory
abbrev pub memory_due : Due
memory_due = at_once [] Memory

-- a file that wasn't given
abbrev pub fault_due : List ℕ → ShelfFault → Due
fault_due name absent = absent_due name
fault_due name failed = at_once (failed_line name) ShelfFailed
fault_due name memory = memory_due

-- what a command comes to: what is due, and what its work leaves for a caller to look at, where it came to work
pub record Outcome (B : Type 0) : Type 0 where
  pub due : Due
  pub left : Option B

-- the work was made
abbrev pub worked : {B : Type 0} → Due → B → Outcome B
worked due left = record { due = due; left = Some left }

-- the command stopped before its work
abbrev pub stopped : {B : Type 0} → Due → Outcome B
stopped due = record { due = due; left = None }
