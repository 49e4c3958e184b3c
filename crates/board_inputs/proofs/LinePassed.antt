-- Which lines are passed over.
use Rattle.std.proofs.Common.{◌≡◌, ℕ, List, [], ◌∷◌, cond, Bool, true, false, Option, Some, None, refl}
use Rattle.std.proofs.lemmas.Bool.{eqb-true, eq-eqb}
use Rattle.hart_board.specs.declared.event.Event.{Event}
use Rattle.board_inputs.specs.Opening.{is_passed}
use Rattle.board_inputs.specs.Spelling.{IsPassed}
use Rattle.board_inputs.specs.Lines.{told_or_bad, event_of, meaning_of}
use Rattle.board_inputs.specs.declared.line_meaning.LineMeaning.{LineMeaning}
use Rattle.board_inputs.specs.declared.line_meaning.LineMeaning.TheVariants.{Passed}

abbrev passing : LineMeaning
passing = Passed

not_passing : (o : Option Event) → told_or_bad o ≡ passing → ⊥
not_passing None h = cc
not_passing (Some e) h = cc

passed_there : (b : Bool) (o : Option Event) → cond b Passed (told_or_bad o) ≡ passing → b ≡ true
passed_there true o h = refl
passed_there false o h = absurd (not_passing o h)

-- the test in words
pub test_passed : (line : List ℕ) → is_passed line ≡ true → IsPassed line
test_passed [] h = tt
test_passed (c ∷ cs) h = eqb-true _ _ h

pub passed_test : (line : List ℕ) → IsPassed line → is_passed line ≡ true
passed_test [] h = refl
passed_test (c ∷ cs) h = eq-eqb c 35 h

pub test_again : (inputs : ℕ) (line : List ℕ) → is_passed line ≡ true → meaning_of inputs line ≡ Passed
unfolding meaning_of
test_again inputs line h = rw h refl

pub passed_is : (inputs : ℕ) (line : List ℕ) → meaning_of inputs line ≡ Passed → IsPassed line
unfolding meaning_of
passed_is inputs line h = test_passed line (passed_there (is_passed line) (event_of inputs line) h)

pub passed_again : (inputs : ℕ) (line : List ℕ) → IsPassed line → meaning_of inputs line ≡ Passed
passed_again inputs line h = test_again inputs line (passed_test line h)
