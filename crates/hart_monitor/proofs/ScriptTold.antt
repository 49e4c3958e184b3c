-- Reading all lines gives the commands that they tell.
use Rattle.std.proofs.Common.{◌≡◌, ℕ, ◌+◌, ◌<◌, ◌≤◌, List, [], ◌∷◌, ◌++◌, length, length-append, cond, Bool, true, false, Option, Some, None, Result, Ok, Err, refl, sym, ap, subst, ◌∙◌, arith, append_assoc, append-nil, inl, inr}
use Rattle.std.specs.Prelude.{nat_le, IfOk, ◌⊎◌}
use Rattle.std.proofs.lemmas.Bool.{lt-leb, leb-false}
use Rattle.hart_words.specs.Lines.{lines_of}
use Rattle.hart_words.specs.InTurn.{◌>>=◌}
use Rattle.board_inputs.specs.Opening.{is_passed}
use Rattle.board_inputs.specs.Spelling.{IsPassed}
use Rattle.board_inputs.proofs.LinePassed.{test_passed, passed_test}
use Rattle.hart_monitor.specs.Spelling.{Spells}
use Rattle.hart_monitor.specs.Lines.{command_of}
use Rattle.hart_monitor.specs.ScriptFile.{Tell, IsScriptFile, most_commands}
use Rattle.hart_monitor.specs.ScriptReading.{Fault, Gives, with_command, with_found, with_line, with_lines, script_of}
use Rattle.hart_monitor.specs.declared.command.Command.{Command}
use Rattle.hart_monitor.specs.declared.script_why.ScriptWhy.TheVariants.{TooMany}
use Rattle.hart_monitor.specs.declared.script_error.ScriptError.{ScriptError}
use Rattle.hart_monitor.proofs.CommandAgain.{command_again, not_passed}
use Rattle.hart_monitor.proofs.CommandTold.{command_told}

-- ---- what a file tells is read

pub passed_line : (line : List ℕ) (n : ℕ) (before : List Command) → IsPassed line → with_line line n before ≡ Ok before
unfolding with_line
passed_line line n before p = rw (passed_test line p) refl

pub told_line : (line : List ℕ) (c : Command) (n : ℕ) (before : List Command) → Spells line c → with_line line n before ≡ with_command c n before
unfolding with_line
told_line line c n before s = rw (not_passed line c s, command_again line c s) refl

command_added : (c : Command) (n : ℕ) (before : List Command) → length before < most_commands → with_command c n before ≡ Ok (before ++ c ∷ [])
command_added c n before few = rw (lt-leb _ _ few) refl

lines_again : (lines : List (List ℕ)) (n : ℕ) (before cs : List Command) → Tell lines cs → length (before ++ cs) ≤ most_commands → with_lines lines n before ≡ Ok (before ++ cs)
unfolding with_lines
lines_again [] n before cs h room = rw h (ap (λ (l : List Command). Ok l) (sym (append-nil before)))
lines_again (line ∷ lines) n before cs h room = elim h [
  | inl p ↦ rw (passed_line line n before p.0) (lines_again lines (n + 1) before cs p.1 room)
  | inr t ↦
      let joined : (before ++ t.0 ∷ []) ++ t.1 ≡ before ++ cs = append_assoc before (t.0 ∷ []) t.1 ∙ ap (λ (l : List Command). before ++ l) (sym t.2) in
      let size : length (before ++ cs) ≡ length before + (length t.1 + 1) = ap (λ (l : List Command). length (before ++ l)) t.2 ∙ omega (arith, length-append before (t.0 ∷ t.1)) in
      let more = lines_again lines (n + 1) (before ++ t.0 ∷ []) t.1 t.4 (subst (λ (l : List Command). length l ≤ most_commands) (sym joined) room) in
      rw (told_line line t.0 n before t.3, command_added t.0 n before (omega (arith, size, room))) (more ∙ ap (λ (l : List Command). Ok l) joined)
]

pub script_again : (bytes : List ℕ) (cs : List Command) → IsScriptFile bytes cs → script_of bytes ≡ Ok cs
unfolding script_of
script_again bytes cs h = lines_again (lines_of bytes) 1 [] cs h.lines h.few

-- ---- what is read the file tells

abbrev done : List Command → Result (List Command) Fault
done cs = Ok cs

done_is : (a b : List Command) → done a ≡ done b → a ≡ b
done_is a b e = cc

bind_ok : (r : Result (List Command) Fault) (f : List Command → Result (List Command) Fault) (y : List Command) → (r >>= f) ≡ done y → (x : List Command) × (r ≡ Ok x) × (f x ≡ Ok y)
bind_ok (Ok x) f y e = (x, refl, e)
bind_ok (Err d) f y e = absurd cc

-- what a line adds
abbrev pub Adds : List ℕ → List Command → List Command → Type 0
Adds line before next = (IsPassed line × (next ≡ before)) ⊎ ((c : Command) × Spells line c × (next ≡ before ++ c ∷ []) × (length before < most_commands))

full_by : (b : Bool) (d : Fault) (r y : List Command) → cond b (Err d) (Ok r) ≡ done y → (b ≡ false) × (y ≡ r)
full_by true d r y e = absurd cc
full_by false d r y e = (refl, sym (done_is r y e))

found_adds : (line : List ℕ) (o : Option Command) (n : ℕ) (before next : List Command) → command_of line ≡ o → with_found o n before ≡ done next → Adds line before next
found_adds line None n before next is e = absurd cc
found_adds line (Some c) n before next is e =
    let t = full_by (nat_le most_commands (length before)) (record { line = n; why = TooMany }) (before ++ c ∷ []) next e in
    inr (c, command_told line c is, t.1, leb-false _ _ t.0)

added_by : (line : List ℕ) (b : Bool) (n : ℕ) (before next : List Command) → is_passed line ≡ b → cond b (Ok before) (with_found (command_of line) n before) ≡ done next → Adds line before next
added_by line true n before next is e = inl (test_passed line is, sym (done_is before next e))
added_by line false n before next is e = found_adds line (command_of line) n before next refl e

pub line_took : (line : List ℕ) (n : ℕ) (before next : List Command) → with_line line n before ≡ Ok next → Adds line before next
unfolding with_line
line_took line n before next e = added_by line (is_passed line) n before next refl e

pub record TookLines (lines : List (List ℕ)) (before all : List Command) : Type 0 where
  pub commands : List Command
  pub all_are : all ≡ before ++ commands
  pub tell : Tell lines commands
  pub few : length all ≤ most_commands

lines_took : (lines : List (List ℕ)) (n : ℕ) (before all : List Command) → length before ≤ most_commands → with_lines lines n before ≡ Ok all → TookLines lines before all
unfolding with_lines
lines_took [] n before all room e =
    let same : before ≡ all = done_is before all e in
    record { commands = []; all_are = sym same ∙ sym (append-nil before); tell = refl; few = subst (λ (l : List Command). length l ≤ most_commands) same room }
lines_took (line ∷ lines) n before all room e =
    let b = bind_ok (with_line line n before) (λ cs. with_lines lines (n + 1) cs) all e in
    elim (line_took line n before b.0 b.1) [
      | inl p ↦
          let more = lines_took lines (n + 1) before all room (subst (λ (l : List Command). with_lines lines (n + 1) l ≡ Ok all) p.1 b.2) in
          record { commands = more.commands; all_are = more.all_are; tell = inl (p.0, more.tell); few = more.few }
      | inr t ↦
          let longer : length (before ++ t.0 ∷ []) ≡ length before + 1 = length-append before (t.0 ∷ []) in
          let more = lines_took lines (n + 1) (before ++ t.0 ∷ []) all (omega (arith, longer, t.3)) (subst (λ (l : List Command). with_lines lines (n + 1) l ≡ Ok all) t.2 b.2) in
          record { commands = t.0 ∷ more.commands; all_are = more.all_are ∙ append_assoc before (t.0 ∷ []) more.commands; tell = inr (t.0, more.commands, refl, t.1, more.tell); few = more.few }
    ]

script_took : (bytes : List ℕ) (cs : List Command) → script_of bytes ≡ Ok cs → IsScriptFile bytes cs
unfolding script_of
script_took bytes cs e =
    let t = lines_took (lines_of bytes) 1 [] cs (omega arith) e in
    record { lines = subst (Tell (lines_of bytes)) (sym t.all_are) t.tell; few = t.few }

pub is_found : (bytes : List ℕ) (r : Result (List Command) ScriptError) → Gives r (script_of bytes) → IfOk r (λ cs. IsScriptFile bytes cs)
is_found bytes (Ok cs) given = script_took bytes cs given
is_found bytes (Err e) given = tt
