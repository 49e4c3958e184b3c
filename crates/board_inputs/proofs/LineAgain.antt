-- A line that spells an event tells it.
use Rattle.std.proofs.Common.{◌≡◌, ℕ, ◌<◌, ◌≤◌, ◌^◌, List, [], ◌∷◌, ◌++◌, length, codes, decimal, true, false, Some, refl, sym, subst, arith, lit<}
use Rattle.std.specs.Prelude.{nat_lt, nat_eq}
use Rattle.std.specs.Char.{is_ascii_digit}
use Rattle.std.specs.Str.{all_ascii_digits}
use Rattle.std.proofs.lemmas.Bool.{ltb-true, ne_eqb}
use Rattle.std.proofs.lemmas.Fmt.{decimal_nonempty}
use Rattle.device_model.specs.declared.stimulus.Stimulus.TheVariants.{Receive, Pins, Tick}
use Rattle.hart_board.specs.Event.{is_free_input}
use Rattle.hart_board.specs.declared.event.Event.{Event}
use Rattle.hart_board.specs.declared.what.What.{What}
use Rattle.hart_board.specs.declared.what.What.TheVariants.{Line, Device}
use Rattle.hart_words.specs.Cuts.{cut}
use Rattle.board_inputs.specs.Spelling.{spaced, what_text, event_text, is_open, HasWhat, Spells}
use Rattle.board_inputs.specs.Lines.{what_of, stimulus_named, line_named, event_of, meaning_of}
use Rattle.board_inputs.specs.declared.line_meaning.LineMeaning.TheVariants.{Told}
use Rattle.std.proofs.lemmas.Bool.{and_parts}
use Rattle.board_inputs.proofs.NumberText.{number_again, decimal_only, decimal_digits, not_hash}
use Rattle.hart_words.proofs.CutText.{cut_again, cut_none}

cut_number : (n : ℕ) (rest : List ℕ) → n < 2 ^ 64 → cut 32 (spaced (decimal n) rest) ≡ (decimal n, Some rest)
cut_number n rest small = cut_again 32 (decimal n) rest (decimal_only n small)

below_bound : (inputs input : ℕ) → is_open inputs input ≡ true → input < inputs
below_bound inputs input h = ltb-true _ _ (and_parts (nat_lt input inputs) (is_free_input input) h).0

what_again : (inputs : ℕ) (w : What) → inputs < 2 ^ 32 → HasWhat inputs w → what_of inputs (cut 32 (what_text w)) ≡ Some w
unfolding stimulus_named line_named
what_again inputs (Line input true) few h =
    let below = below_bound inputs input h in
    rw (cut_again 32 (codes "line") (spaced (decimal input) (decimal 1)) refl, cut_number input (decimal 1) (omega arith), number_again inputs input (omega arith) (omega arith), number_again 1 1 (omega arith) (lit< tt), h) refl
what_again inputs (Line input false) few h =
    let below = below_bound inputs input h in
    rw (cut_again 32 (codes "line") (spaced (decimal input) (decimal 0)) refl, cut_number input (decimal 0) (omega arith), number_again inputs input (omega arith) (omega arith), number_again 1 0 (omega arith) (lit< tt), h) refl
what_again inputs (Device (Receive byte)) few h =
    rw (cut_again 32 (codes "rx") (decimal byte) refl, cut_none 32 (decimal byte) (decimal_only byte (omega arith)), number_again 255 byte h (omega arith)) refl
what_again inputs (Device (Pins pins)) few h =
    rw (cut_again 32 (codes "pins") (decimal pins) refl, cut_none 32 (decimal pins) (decimal_only pins (omega arith)), number_again 4294967295 pins h (omega arith)) refl
what_again inputs (Device (Tick count)) few h =
    let some : nat_eq count 0 ≡ false = ne_eqb _ _ (λ e. omega (arith, h.0)) in
    rw (cut_again 32 (codes "tick") (decimal count) refl, cut_none 32 (decimal count) (decimal_only count (omega (arith, h.1))), number_again 65535 count h.1 (omega (arith, h.1)), some) refl

event_again : (inputs : ℕ) (e : Event) → inputs < 2 ^ 32 → e.at ≤ 1000000000 → HasWhat inputs e.what → event_of inputs (event_text e) ≡ Some e
unfolding event_of event_text
event_again inputs e few at what =
    rw (cut_number e.at (what_text e.what) (omega arith), number_again 1000000000 e.at at (omega arith), what_again inputs e.what few what) refl

told_first : (inputs : ℕ) (ds rest : List ℕ) (e : Event) → all_ascii_digits ds ≡ true → 0 < length ds → event_of inputs (ds ++ rest) ≡ Some e → meaning_of inputs (ds ++ rest) ≡ Told e
unfolding meaning_of
told_first inputs [] rest e d some h = absurd (omega arith)
told_first inputs (c ∷ cs) rest e d some h = rw (not_hash c (and_parts (is_ascii_digit c) (all_ascii_digits cs) d).0, h) refl

text_again : (inputs : ℕ) (e : Event) → inputs < 2 ^ 32 → e.at ≤ 1000000000 → HasWhat inputs e.what → meaning_of inputs (event_text e) ≡ Told e
unfolding event_text
text_again inputs e few at what =
    let small : e.at < 2 ^ 64 = omega arith in
    told_first inputs (decimal e.at) (32 ∷ what_text e.what) e (decimal_digits e.at small) (decimal_nonempty e.at small) (event_again inputs e few at what)

pub line_again : (inputs : ℕ) (line : List ℕ) (e : Event) → inputs < 2 ^ 32 → Spells inputs line e → meaning_of inputs line ≡ Told e
line_again inputs line e few h = subst (λ (text : List ℕ). meaning_of inputs text ≡ Told e) (sym h.text) (text_again inputs e few h.at h.what)
