-- A pass line by line.
use Rattle.std.proofs.Common.{◌≡◌, ℕ, ◌+◌, ◌≤◌, List, ◌∷◌, length, map, Option, Some, None, Result, Ok, refl, sym, ap, ◌∙◌, arith}
use Rattle.hart_words.specs.Lines.{lines_of as text_lines, lines_left, left}
use Rattle.rv_assembler.specs.Lines.{lines_of, without_return}
use Rattle.hart_words.specs.InTurn.{◌>>=◌}
use Rattle.rv_assembler.specs.Source.{at_line, pass, Refusal}
use Rattle.rv_assembler.specs.Answers.{Fails}
use Rattle.asm_forms.specs.declared.asm_why.AsmWhy.{AsmWhy}
use Rattle.rv_assembler.specs.declared.asm_error.AsmError.{AsmError}
use Rattle.rv_assembler.specs.declared.asm_error.AsmError.TheVariants.{Memory, Refused}

-- the lines that are left, as the passes take them
abbrev pub source_left : Option (List ℕ) → List (List ℕ)
source_left rest = map without_return (lines_left rest)

-- going on gives what going over all lines gives
pub record ReadsOn {S : Type 0} (step : S → List ℕ → Result S AsmWhy) (bytes : List ℕ) (start : S) (rest : Option (List ℕ)) (number : ℕ) (s : S) : Type 0 where
  pub told : pass step (source_left rest) number s ≡ pass step (lines_of bytes) 1 start
  pub few : number + left rest ≤ length bytes + 2

pub begins : {S : Type 0} (step : S → List ℕ → Result S AsmWhy) (bytes : List ℕ) (start : S) → ReadsOn step bytes start (Some bytes) 1 start
unfolding lines_of
begins step bytes start = record { told = refl; few = omega arith }

step_on : {S : Type 0} (step : S → List ℕ → Result S AsmWhy) (text line : List ℕ) (after : Option (List ℕ)) (number : ℕ) (s : S) → text_lines text ≡ line ∷ lines_left after
    → pass step (source_left (Some text)) number s ≡ at_line number (step s (without_return line)) >>= pass step (source_left after) (number + 1)
unfolding pass
step_on step text line after number s is = ap (λ ls. pass step (map without_return ls) number s) is

pub goes_on : {S : Type 0} (step : S → List ℕ → Result S AsmWhy) (bytes : List ℕ) (start : S) (text line : List ℕ) (after : Option (List ℕ)) (number : ℕ) (s next : S)
    → text_lines text ≡ line ∷ lines_left after → left after ≤ length text → ReadsOn step bytes start (Some text) number s → at_line number (step s (without_return line)) ≡ Ok next → ReadsOn step bytes start after (number + 1) next
goes_on step bytes start text line after number s next is less h e =
    record {
      told = ap (λ r. r >>= pass step (source_left after) (number + 1)) (sym e) ∙ sym (step_on step text line after number s is) ∙ h.told;
      few = omega (arith, h.few, less);
    }

fails_by : {S : Type 0} (e : AsmError) (one : Result S Refusal) (f : S → Result S Refusal) (whole : Result S Refusal) → whole ≡ one >>= f → Fails e one → Fails e whole
fails_by Memory one f whole w h = tt
fails_by (Refused n why) one f whole w h = w ∙ ap (λ r. r >>= f) h

pub fails : {S : Type 0} (step : S → List ℕ → Result S AsmWhy) (bytes : List ℕ) (start : S) (text line : List ℕ) (after : Option (List ℕ)) (number : ℕ) (s : S) (e : AsmError)
    → text_lines text ≡ line ∷ lines_left after → ReadsOn step bytes start (Some text) number s → Fails e (at_line number (step s (without_return line))) → Fails e (pass step (lines_of bytes) 1 start)
fails step bytes start text line after number s e is h f =
    fails_by e (at_line number (step s (without_return line))) (pass step (source_left after) (number + 1)) (pass step (lines_of bytes) 1 start) (sym h.told ∙ step_on step text line after number s is) f

pub ended : {S : Type 0} (step : S → List ℕ → Result S AsmWhy) (bytes : List ℕ) (start : S) (number : ℕ) (s : S) → ReadsOn step bytes start None number s → pass step (lines_of bytes) 1 start ≡ Ok s
unfolding pass
ended step bytes start number s h = sym h.told
