-- Reading line by line.
use Rattle.std.proofs.Common.{◌≡◌, ℕ, ◌+◌, ◌≤◌, List, ◌∷◌, length, Option, Some, None, Result, Ok, refl, sym, ◌∙◌, arith}
use Rattle.hart_words.specs.Lines.{lines_of, lines_left, left}
use Rattle.hart_words.specs.InTurn.{◌>>=◌}
use Rattle.hart_monitor.specs.ScriptReading.{Fault, with_line, with_lines, Becomes, Fails}
use Rattle.hart_monitor.specs.declared.command.Command.{Command}
use Rattle.hart_monitor.specs.declared.script_error.ScriptError.{ScriptError}
use Rattle.hart_monitor.specs.declared.script_error.ScriptError.TheVariants.{Memory, Refused}

-- reading on gives what reading all gives, and the number of the last line is one of 32 bits
pub record ReadsOn (all : Result (List Command) Fault) (room : ℕ) (rest : Option (List ℕ)) (number : ℕ) (commands : List Command) : Type 0 where
  pub result : with_lines (lines_left rest) number commands ≡ all
  pub few : number + left rest ≤ room

one_line : (text line : List ℕ) (after : Option (List ℕ)) (number : ℕ) (commands : List Command) → lines_of text ≡ line ∷ lines_left after
    → with_lines (lines_of text) number commands ≡ with_line line number commands >>= λ cs. with_lines (lines_left after) (number + 1) cs
unfolding with_lines
one_line text line after number commands cuts = rw cuts refl

pub goes_on : (all : Result (List Command) Fault) (room : ℕ) (text line : List ℕ) (after : Option (List ℕ)) (number : ℕ) (commands next : List Command) (done : Unit {0}) → lines_of text ≡ line ∷ lines_left after → left after ≤ length text → ReadsOn all room (Some text) number commands
    → Becomes commands next (Ok done) (with_line line number commands) → ReadsOn all room after (number + 1) next
goes_on all room text line after number commands next done cuts less h b =
    record { result = sym (rw b at (one_line text line after number commands cuts)) ∙ h.result; few = omega (arith, h.few, less) }

pub fails : (e : ScriptError) (all : Result (List Command) Fault) (room : ℕ) (text line : List ℕ) (after : Option (List ℕ)) (number : ℕ) (commands : List Command) → lines_of text ≡ line ∷ lines_left after → ReadsOn all room (Some text) number commands
    → Fails e (with_line line number commands) → Fails e all
fails Memory all room text line after number commands cuts h f = tt
fails (Refused n why) all room text line after number commands cuts h f = sym h.result ∙ (rw f at (one_line text line after number commands cuts))

pub ended : (all : Result (List Command) Fault) (room : ℕ) (rest : Option (List ℕ)) (number : ℕ) (commands : List Command) → rest ≡ None → ReadsOn all room rest number commands → all ≡ Ok commands
unfolding with_lines
ended all room rest number commands none h = sym (rw none at h.result)
