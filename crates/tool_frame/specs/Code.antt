-- The exit status of the program, and what each status tells of.
use Rattle.std.specs.Prelude.{ℕ}
use Rattle.tool_frame.specs.declared.status.Status.{Status}
use Rattle.tool_frame.specs.declared.status.Status.TheVariants.{Done, BudgetSpent, Usage, Absent, ShelfFailed, Refused, SinkFailed, Memory, Broken, VectorFault, Rejected}

abbrev pub code_of : Status → ℕ
code_of Done = 0
code_of BudgetSpent = 1
code_of Usage = 2
code_of Absent = 3
code_of ShelfFailed = 4
code_of Refused = 5
code_of SinkFailed = 6
code_of Memory = 7
code_of Broken = 8
code_of VectorFault = 9
code_of Rejected = 11

-- the work or the words; a file; or what may fail at any place
pub data Origin : Type 0 where
  OfCommand : Origin
  OfFile : Origin
  OfSink : Origin
  OfMemory : Origin

abbrev pub origin_of : Status → Origin
origin_of Done = OfCommand
origin_of BudgetSpent = OfCommand
origin_of Usage = OfCommand
origin_of Absent = OfFile
origin_of ShelfFailed = OfFile
origin_of Refused = OfFile
origin_of SinkFailed = OfSink
origin_of Memory = OfMemory
origin_of Broken = OfCommand
origin_of VectorFault = OfCommand
origin_of Rejected = OfCommand
