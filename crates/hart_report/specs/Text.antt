-- What is written of two texts where the sink fails in the second.
use Rattle.std.specs.Prelude.{ℕ, true, false, List}
use Rattle.board_outside.specs.Sink.{SinkView, Writes}

-- a text was written whole, and the next one was not
pub record StopsAfter (old new : SinkView) (before text : List ℕ) : Type 0 where
  pub between : SinkView
  pub whole : Writes true old between before
  pub broken : Writes false between new text
