-- What a program does: its arguments are the words of a command, and the status is the exit code.
use Rattle.std.specs.Prelude.{◌≡◌, ℕ, ◌⊎◌, List, map, drop, Bool, String, string_bytes, if◌then◌else◌}
use Rattle.tool_frame.specs.Code.{code_of}
use Rattle.tool_frame.specs.declared.status.Status.{Status}
use Rattle.tool_frame.specs.declared.status.Status.TheVariants.{SinkFailed}

-- the words are the arguments but the first, which is the program's name
abbrev pub words_in : {A : Type 0} → List (String A) → List (List ℕ)
words_in args = drop 1 (map string_bytes args)

-- the exit code, where a sink that fails at its end decides
abbrev pub code_by : Bool → Status → ℕ
code_by finished status = code_of (if finished then status else SinkFailed)

-- a command was obeyed with these words, then the sink was finished, and the exit code is that of both
pub record Obeyed {F W : Type 0} (Obeys : List (List ℕ) → Status → F → F → W → W → Type 0) (Finishes : Bool → W → W → Type 0) (words : List (List ℕ)) (code : ℕ) (shelf shelf' : F) (sink sink' : W) : Type 0 where
  pub status : Status
  pub between : W
  pub obeyed : Obeys words status shelf shelf' sink between
  pub whole : Bool
  pub finished : Finishes whole between sink'
  pub code_is : code ≡ code_by whole status

-- nothing was done
pub record Idles {F W : Type 0} (shelf shelf' : F) (sink sink' : W) : Type 0 where
  pub same_shelf : shelf' ≡ shelf
  pub same_sink : sink' ≡ sink

-- it was obeyed, or memory was wanting for the words, and nothing was done
abbrev pub RunsWith : {F W : Type 0} → (List (List ℕ) → Status → F → F → W → W → Type 0) → (Bool → W → W → Type 0) → List (List ℕ) → ℕ → F → F → W → W → Type 0
RunsWith Obeys Finishes words code shelf shelf' sink sink' = Obeyed Obeys Finishes words code shelf shelf' sink sink' ⊎ ((code ≡ 7) × Idles shelf shelf' sink sink')

-- the arguments couldn't be read, for want of memory (7) or another cause (12), and nothing was done
abbrev pub IsUnread : {F W : Type 0} → ℕ → F → F → W → W → Type 0
IsUnread code shelf shelf' sink sink' = ((code ≡ 7) ⊎ (code ≡ 12)) × Idles shelf shelf' sink sink'
