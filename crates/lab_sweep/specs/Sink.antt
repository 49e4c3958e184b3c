-- A text that is written into.
use Rattle.std.specs.Prelude.{ℕ, List, Some, None}
use Rattle.board_outside.specs.Sink.{SinkView}

-- what was written, and how often memory was wanting
pub record TextState : Type 0 where
  pub text : List ℕ
  pub faults : ℕ

-- it tells all of it, and no room
abbrev pub sink_view : TextState → SinkView
sink_view s = record { written = Some s.text; room = None; faults = s.faults }
