-- What a reader of a file's bytes answers.
use Rattle.std.specs.Prelude.{◌≡◌, ℕ, List, Result, Ok, Err}
use Rattle.tool_frame.specs.declared.stop.Stop.{Stop}
use Rattle.tool_frame.specs.declared.stop.Stop.TheVariants.{Memory, Refused}

-- it stopped where the bytes are refused, with the line of the refusal, or memory was wanting
abbrev pub AnswersStop : {A : Type 0} → Stop → Result A (List ℕ) → Type 0
AnswersStop Memory stage = Unit {0}
AnswersStop (Refused line) stage = stage ≡ Err line

-- it answered what the bytes give, unless memory was wanting
abbrev pub AnswersStage : {A : Type 0} → Result A Stop → Result A (List ℕ) → Type 0
AnswersStage (Ok x) stage = stage ≡ Ok x
AnswersStage (Err stop) stage = AnswersStop stop stage
