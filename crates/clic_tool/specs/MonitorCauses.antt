-- Where memory was wanting in a script.
use Rattle.std.specs.Prelude.{◌⊎◌, ℕ, List, [], take, true}
use Rattle.board_outside.specs.Shelf.{ShelfView}
use Rattle.board_outside.specs.Sink.{SinkView, Writes}
use Rattle.hart_memory.specs.Image.{ImageView}
use Rattle.hart_monitor.specs.declared.command.Command.{Command}
use Rattle.tool_frame.specs.Answers.{Passes}
use Rattle.tool_work.specs.Files.{image_limit, image_stage, script_limit, script_stage}
use Rattle.tool_words.specs.Monitor.{MonitorWords}
use Rattle.tool_work.specs.Monitor.{monitored_text}

-- both files were given and passed, and a front of the texts of the commands was written
pub record WritesSome (words : MonitorWords) (shelf shelf' : ShelfView) (sink sink' : SinkView) : Type 0 where
  pub between : ShelfView
  pub image : ImageView
  pub commands : List Command
  pub image_passed : Passes words.image_name image_limit image_stage shelf between image
  pub script_passed : Passes words.script_name script_limit script_stage between shelf' commands
  pub count : ℕ
  pub front : Writes true sink sink' (take count (monitored_text image commands))

-- nothing was written, or some of the texts
abbrev pub WantsInScript : MonitorWords → ShelfView → ShelfView → SinkView → SinkView → Type 0
WantsInScript words shelf shelf' sink sink' = Writes true sink sink' [] ⊎ WritesSome words shelf shelf' sink sink'
