-- A sink, as contracts see it, and the one clause of whatever writes into a sink.
use Rattle.std.specs.Prelude.{◌≡◌, ℕ, ◌-◌, ◌≤◌, List, length, take, Bool, true, false, Option, Some, None, ⊤}
use Rattle.std.specs.Io.KnownBytes.{Appends}
use Rattle.board_outside.specs.Counts.{Rose}

-- what a sink tells: the bytes written and the room that is left, where it tells them, and how often writing failed
pub record SinkView : Type 0 where
  pub written : Option (List ℕ)
  pub room : Option ℕ
  pub faults : ℕ

-- told bytes grow by the text, or where not all is written by a front of it
abbrev pub Grows : Bool → Option (List ℕ) → Option (List ℕ) → List ℕ → Type 0
Grows true old new text = Appends old new text
Grows false old new text = (n : ℕ) × Appends old new (take n text)

-- faults stay, or where not all is written rise
abbrev pub CountsFaults : Bool → ℕ → ℕ → Type 0
CountsFaults true before now = now ≡ before
CountsFaults false before now = Rose before now

-- what fits the told room is written whole, and takes so much of it
abbrev pub TakesRoom : Bool → Option ℕ → Option ℕ → ℕ → Type 0
TakesRoom whole None new size = ⊤
TakesRoom whole (Some room) new size = size ≤ room → (whole ≡ true) × (new ≡ Some (room - size))

-- what a call that writes a text leaves: all of it is written, or writing failed on the way
pub record Writes (whole : Bool) (old new : SinkView) (text : List ℕ) : Type 0 where
  pub bytes : Grows whole old.written new.written text
  pub counts : CountsFaults whole old.faults new.faults
  pub room : TakesRoom whole old.room new.room (length text)
