-- Reading line by line.
use Rattle.std.proofs.Common.{◌≡◌, ℕ, ◌+◌, ◌≤◌, List, ◌∷◌, length, Option, Some, None, Result, Ok, refl, sym, ◌∙◌, arith}
use Rattle.hart_words.specs.Lines.{lines_of, lines_left, left}
use Rattle.hart_words.specs.InTurn.{◌>>=◌}
use Rattle.lab_names.specs.NamesReading.{Fault, with_line, with_lines, Becomes, Fails}
use Rattle.lab_names.specs.Name.{NameView}
use Rattle.lab_names.specs.declared.names_error.NamesError.{NamesError}
use Rattle.lab_names.specs.declared.names_error.NamesError.TheVariants.{Memory, Refused}

-- reading on gives what reading all gives, and the number of the last line is one of 32 bits
pub record ReadsOn (all : Result (List NameView) Fault) (room : ℕ) (rest : Option (List ℕ)) (number : ℕ) (names : List NameView) : Type 0 where
  pub result : with_lines (lines_left rest) number names ≡ all
  pub few : number + left rest ≤ room

one_line : (text line : List ℕ) (after : Option (List ℕ)) (number : ℕ) (names : List NameView) → lines_of text ≡ line ∷ lines_left after
    → with_lines (lines_of text) number names ≡ with_line line number names >>= λ cs. with_lines (lines_left after) (number + 1) cs
unfolding with_lines
one_line text line after number names cuts = rw cuts refl

pub goes_on : (all : Result (List NameView) Fault) (room : ℕ) (text line : List ℕ) (after : Option (List ℕ)) (number : ℕ) (names next : List NameView) (done : Unit {0}) → lines_of text ≡ line ∷ lines_left after → left after ≤ length text → ReadsOn all room (Some text) number names
    → Becomes names next (Ok done) (with_line line number names) → ReadsOn all room after (number + 1) next
goes_on all room text line after number names next done cuts less h b =
    record { result = sym (rw b at (one_line text line after number names cuts)) ∙ h.result; few = omega (arith, h.few, less) }

pub fails : (e : NamesError) (all : Result (List NameView) Fault) (room : ℕ) (text line : List ℕ) (after : Option (List ℕ)) (number : ℕ) (names : List NameView) → lines_of text ≡ line ∷ lines_left after → ReadsOn all room (Some text) number names
    → Fails e (with_line line number names) → Fails e all
fails Memory all room text line after number names cuts h f = tt
fails (Refused n why) all room text line after number names cuts h f = sym h.result ∙ (rw f at (one_line text line after number names cuts))

pub ended : (all : Result (List NameView) Fault) (room : ℕ) (rest : Option (List ℕ)) (number : ℕ) (names : List NameView) → rest ≡ None → ReadsOn all room rest number names → all ≡ Ok names
unfolding with_lines
ended all room rest number names none h = sym (rw none at h.result)
