-- Text on its way to a writer: some of it is kept back, and handed over together.
use Rattle.std.specs.Prelude.{ℕ, ◌+◌, Option, None, List, [], ◌++◌, length, Bool, nat_le, if◌then◌else◌}
use Rattle.board_outside.specs.Puts.{PutsState, no_puts}

-- what the writer holds, where it tells that, what is kept back, and in counts what was handed over
pub record BufferedState : Type 0 where
  pub held : Option (List ℕ)
  pub kept : List ℕ
  pub puts : PutsState

-- nothing was written yet to a writer that tells nothing
abbrev pub nothing_written : BufferedState
nothing_written = record { held = None; kept = []; puts = no_puts }

-- so many bytes are kept at most
abbrev pub most_kept : ℕ
most_kept = 8_192

-- there is room for the text beside what is kept
abbrev pub fits : List ℕ → List ℕ → Bool
fits kept text = nat_le (length kept + length text) most_kept

-- what a put hands over: nothing of a text that fits, else all that is kept, and then the text
abbrev pub handed : List ℕ → List ℕ → List ℕ
handed kept text = if fits kept text then [] else kept ++ text

-- what is kept after it: a text that fits is added, else nothing
abbrev pub kept_after : List ℕ → List ℕ → List ℕ
kept_after kept text = if fits kept text then kept ++ text else []
