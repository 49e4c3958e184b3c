-- A line that spells a command gives it.
use Rattle.std.proofs.Common.{◌≡◌, ℕ, ◌+◌, ◌*◌, ◌<◌, ◌≤◌, List, [], ◌∷◌, cond, codes, Bool, true, false, Option, Some, None, refl, ap, ◌∙◌, arith, inl, inr}
use Rattle.std.specs.Prelude.{◌==◌, not, nat_lt, nat_eq}
use Rattle.std.specs.Char.{digit_value}
use Rattle.std.proofs.lemmas.Bool.{ltb-true, and_parts}
use Rattle.std.proofs.lemmas.Bool.Decides.{nat_tests}
use Rattle.hart_words.specs.Cuts.{has_no}
use Rattle.hart_words.proofs.CutText.{cut_again, cut_none}
use Rattle.asm_text.specs.Numbers.{digits_after}
use Rattle.clic_regs.specs.Shape.{plain_shape}
use Rattle.hart_board.specs.Event.{is_free_input}
use Rattle.board_inputs.specs.Opening.{is_passed}
use Rattle.board_inputs.specs.Spelling.{spaced}
use Rattle.board_inputs.proofs.NumberText.{decimal_only}
use Rattle.hart_monitor.specs.Numbers.{IsNumber, number_in, most_number}
use Rattle.hart_monitor.specs.Spelling.{HasOne, HasTwo, Spells, most_steps}
use Rattle.hart_monitor.specs.Lines.{alone_named, one_named, two_named, command_of, last_input}
use Rattle.hart_monitor.specs.declared.command.Command.{Command}
use Rattle.hart_monitor.specs.declared.command.Command.TheVariants.{Step, Run, Break, Regs, Csr, Mem, Clic, Line, Back}
use Rattle.hart_monitor.proofs.NumberText.{number_there}

-- ---- no space stands in a number

digit_only : (c : ℕ) (b : Bool) (o : Option ℕ) (n : ℕ) → nat_lt (digit_value c) 16 ≡ b → cond b o None ≡ Some n → (not (c == 32) ≡ true) × (o ≡ Some n)
digit_only c true o n is e = (grind (arith, nat_tests), e)
digit_only c false o n is e = absurd cc

digits_only : (m n : ℕ) (ds : List ℕ) → digits_after 16 m ds ≡ Some n → has_no 32 ds ≡ true
digits_only m n [] e = refl
digits_only m n (c ∷ cs) e =
    let d = digit_only c (nat_lt (digit_value c) 16) (digits_after 16 (m * 16 + digit_value c) cs) n refl e in
    rw d.0 (digits_only (m * 16 + digit_value c) n cs d.1)

number_only : (n : ℕ) (text : List ℕ) → n ≤ most_number → IsNumber text n → has_no 32 text ≡ true
number_only n text small h = elim h [
  | inl e ↦ ap (has_no 32) e ∙ decimal_only n (omega arith)
  | inr x ↦ ap (has_no 32) x.text_is ∙ digits_only 0 n x.digits x.value
]

-- ---- a line by its words

alone_again : (name : List ℕ) → has_no 32 name ≡ true → command_of name ≡ alone_named name
unfolding command_of
alone_again name bare = rw (cut_none 32 name bare) refl

one_again : (name line : List ℕ) (n : ℕ) (h : HasOne name line n) → has_no 32 name ≡ true → n ≤ most_number → command_of line ≡ one_named name h.text
unfolding command_of
one_again name line n h bare small =
    rw (h.line_is, cut_again 32 name h.text bare, cut_none 32 h.text (number_only n h.text small h.number)) refl

two_again : (name line : List ℕ) (n m : ℕ) (h : HasTwo name line n m) → has_no 32 name ≡ true → n ≤ most_number → command_of line ≡ two_named name h.first h.second
unfolding command_of
two_again name line n m h bare small =
    rw (h.line_is, cut_again 32 name (spaced h.first h.second) bare, cut_again 32 h.first h.second (number_only n h.first small h.first_number)) refl

bit_again : (second : List ℕ) (high : Bool) → IsNumber second (cond high 1 0) → (number_in 0 1 second ≡ Some (cond high 1 0)) × (nat_eq (cond high 1 0) 1 ≡ high)
bit_again second true h = (number_there 0 1 1 second (omega arith) h (omega arith) (omega arith), refl)
bit_again second false h = (number_there 0 1 0 second (omega arith) h (omega arith) (omega arith), refl)

pub command_again : (line : List ℕ) (c : Command) → Spells line c → command_of line ≡ Some c
unfolding alone_named one_named two_named
command_again line (Step n) s =
    one_again (codes "step") line n s.says refl (omega (arith, s.range.1)) ∙ rw (number_there 1 most_steps n s.says.text (omega arith) s.says.number (omega (arith, s.range.0)) s.range.1) refl
command_again line (Run n) s =
    one_again (codes "run") line n s.says refl (omega (arith, s.range.1)) ∙ rw (number_there 1 most_steps n s.says.text (omega arith) s.says.number (omega (arith, s.range.0)) s.range.1) refl
command_again line (Break at) s =
    one_again (codes "break") line at s.says refl s.range ∙ rw (number_there 0 most_number at s.says.text (omega arith) s.says.number (omega arith) s.range) refl
command_again line Regs s = ap command_of s.says ∙ alone_again (codes "regs") refl
command_again line Csr s = ap command_of s.says ∙ alone_again (codes "csr") refl
command_again line (Mem at count) s =
    two_again (codes "mem") line at count s.says refl s.range.0
    ∙ rw (number_there 0 most_number at s.says.first (omega arith) s.says.first_number (omega arith) s.range.0, number_there 1 256 count s.says.second (omega arith) s.says.second_number (omega (arith, s.range.1)) s.range.2) refl
command_again line (Clic input) s =
    one_again (codes "clic") line input s.says refl (omega (arith, s.range)) ∙ rw (number_there 0 last_input input s.says.text (omega arith) s.says.number (omega arith) (omega (arith, s.range))) refl
command_again line (Line input high) s =
    let parts = and_parts (nat_lt input plain_shape.inputs) (is_free_input input) s.range in
    let below : input < plain_shape.inputs = ltb-true _ _ parts.0 in
    let bit = bit_again s.says.second high s.says.second_number in
    two_again (codes "line") line input (cond high 1 0) s.says refl (omega (arith, below))
    ∙ rw (number_there 0 last_input input s.says.first (omega arith) s.says.first_number (omega arith) (omega (arith, below)), bit.0, parts.1, bit.1) refl
command_again line Back s = ap command_of s.says ∙ alone_again (codes "back") refl

-- ---- it isn't passed over

pub not_passed : (line : List ℕ) (c : Command) → Spells line c → is_passed line ≡ false
not_passed line (Step n) s = ap is_passed s.says.line_is
not_passed line (Run n) s = ap is_passed s.says.line_is
not_passed line (Break at) s = ap is_passed s.says.line_is
not_passed line Regs s = ap is_passed s.says
not_passed line Csr s = ap is_passed s.says
not_passed line (Mem at count) s = ap is_passed s.says.line_is
not_passed line (Clic input) s = ap is_passed s.says.line_is
not_passed line (Line input high) s = ap is_passed s.says.line_is
not_passed line Back s = ap is_passed s.says
