-- A sink in memory.
use Rattle.std.specs.Prelude.{ℕ, ◌-◌, List, [], ◌++◌, take, length, Bool, ◌&&◌, not, nat_le, if◌then◌else◌, Some, None}
use Rattle.board_outside.specs.Counts.{counted}
use Rattle.board_outside.specs.Calls.{CallsState, no_calls, counted_call, is_failing, none_to_come}
use Rattle.board_outside.specs.Sink.{SinkView}

-- the bytes written, the room that is left, the puts, and the count
pub record MemorySinkState : Type 0 where
  pub written : List ℕ
  pub room : ℕ
  pub calls : CallsState
  pub faults : ℕ

-- nothing written yet
abbrev pub empty_sink : ℕ → MemorySinkState
empty_sink room = record { written = []; room = room; calls = no_calls; faults = 0 }

-- it tells its bytes, and its room where no put that is still to come is to fail
abbrev pub sink_view : MemorySinkState → SinkView
sink_view s = record { written = Some s.written; room = if none_to_come s.calls then Some s.room else None; faults = s.faults }

-- a put takes all of a text that fits the room, unless it is to fail
abbrev pub takes_all : MemorySinkState → List ℕ → Bool
takes_all s text = not (is_failing s.calls) && nat_le (length text) s.room

-- how much of a text a put takes at most: nothing where it is to fail
abbrev pub room_now : MemorySinkState → ℕ
room_now s = if is_failing s.calls then 0 else s.room

-- after a put: it is one more call, so much of the text as there is room for is written, and where that isn't all a fault is counted
abbrev pub after_put : MemorySinkState → List ℕ → MemorySinkState
after_put s text = record {
  written = s.written ++ take (room_now s) text;
  room = if is_failing s.calls then s.room else s.room - length text;
  calls = counted_call s.calls;
  faults = if takes_all s text then s.faults else counted s.faults;
}
