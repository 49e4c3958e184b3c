-- A line that tells an event spells it.
use Rattle.std.proofs.Common.{◌≡◌, ℕ, zero, suc, ◌<◌, ◌≤◌, ◌^◌, List, cond, codes, decimal, Bool, true, false, Option, Some, None, refl, sym, subst, ap, ◌∙◌, arith, lit<}
use Rattle.std.specs.Prelude.{option_map, option_and_then, nat_eq}
use Rattle.std.specs.Str.{bytes_eq}
use Rattle.std.proofs.lemmas.Slice.Eq.{bytes_eq-Decides}
use Rattle.std.proofs.lemmas.Bool.{eqb-false}
use Rattle.std.proofs.lemmas.Bool.Decides.{nat_tests}
use Rattle.device_model.specs.declared.stimulus.Stimulus.{Stimulus}
use Rattle.device_model.specs.declared.stimulus.Stimulus.TheVariants.{Receive, Pins, Tick}
use Rattle.hart_board.specs.declared.event.Event.{Event}
use Rattle.hart_board.specs.declared.what.What.{What}
use Rattle.hart_board.specs.declared.what.What.TheVariants.{Line, Device}
use Rattle.hart_words.specs.Cuts.{cut}
use Rattle.board_inputs.specs.Numbers.{number_upto}
use Rattle.board_inputs.specs.Opening.{is_passed}
use Rattle.board_inputs.specs.Spelling.{spaced, stimulus_text, what_text, event_text, is_open, HasStimulus, HasWhat, Spells}
use Rattle.board_inputs.specs.Lines.{told_or_bad, event_from, event_parts, line_from, tick_of, what_of, what_after, stimulus_named, line_named, event_of, meaning_of}
use Rattle.board_inputs.specs.declared.line_meaning.LineMeaning.{LineMeaning}
use Rattle.board_inputs.specs.declared.line_meaning.LineMeaning.TheVariants.{Passed, Told}
use Rattle.board_inputs.proofs.NumberText.{number_took, some_on}
use Rattle.hart_words.proofs.CutText.{cut_took, cut_whole}

name_is : (name word : List ℕ) → bytes_eq name word ≡ true → name ≡ word
name_is name word e = (bytes_eq-Decides name word).0 e

spaced_is : {a b c d : List ℕ} → a ≡ b → c ≡ d → spaced a c ≡ spaced b d
spaced_is p q = rw (p, q) refl

-- ---- what comes to the device
pub record IsStimulusText (s : Stimulus) (text : List ℕ) : Type 0 where
  pub is : HasStimulus s
  pub text_is : text ≡ stimulus_text s

abbrev no_stimulus : Option Stimulus
no_stimulus = None

abbrev told_stimulus : Stimulus → Option Stimulus
told_stimulus s = Some s

none_stimulus : {s : Stimulus} → no_stimulus ≡ told_stimulus s → ⊥
none_stimulus e = cc

stimulus_is : (r s : Stimulus) → told_stimulus r ≡ told_stimulus s → r ≡ s
stimulus_is r s e = cc

map_took : {A : Type 0} (f : A → Stimulus) (o : Option A) (s : Stimulus) → option_map f o ≡ Some s → (x : A) × (o ≡ Some x) × (f x ≡ s)
map_took f None s e = absurd cc
map_took f (Some x) s e = (x, refl, stimulus_is (f x) s e)

rx_took : (name text : List ℕ) (s : Stimulus) → bytes_eq name (codes "rx") ≡ true → option_map (λ n. Receive n) (number_upto 255 text) ≡ Some s → IsStimulusText s (spaced name text)
rx_took name text s is e =
    let m = map_took (λ n. Receive n) (number_upto 255 text) s e in
    let n = number_took 255 m.0 text (lit< tt) m.1 in
    subst (λ (r : Stimulus). IsStimulusText r (spaced name text)) m.2 (record { is = n.1; text_is = spaced_is (name_is name (codes "rx") is) n.0 })

pins_took : (name text : List ℕ) (s : Stimulus) → bytes_eq name (codes "pins") ≡ true → option_map (λ n. Pins n) (number_upto 4294967295 text) ≡ Some s → IsStimulusText s (spaced name text)
pins_took name text s is e =
    let m = map_took (λ n. Pins n) (number_upto 4294967295 text) s e in
    let n = number_took 4294967295 m.0 text (lit< tt) m.1 in
    subst (λ (r : Stimulus). IsStimulusText r (spaced name text)) m.2 (record { is = n.1; text_is = spaced_is (name_is name (codes "pins") is) n.0 })

positive : (n : ℕ) → (n ≡ 0 → ⊥) → 0 < n
positive zero h = absurd (h refl)
positive (suc n) h = omega arith

tick_there : (n : ℕ) (b : Bool) (s : Stimulus) → nat_eq n 0 ≡ b → cond b None (Some (Tick n)) ≡ Some s → (0 < n) × (Tick n ≡ s)
tick_there n true s is e = absurd (none_stimulus e)
tick_there n false s is e = (positive n (eqb-false n 0 is), stimulus_is (Tick n) s e)

tick_took : (name text : List ℕ) (s : Stimulus) (o : Option ℕ) → bytes_eq name (codes "tick") ≡ true → number_upto 65535 text ≡ o → option_and_then tick_of o ≡ Some s → IsStimulusText s (spaced name text)
tick_took name text s None is from e = absurd (none_stimulus e)
tick_took name text s (Some k) is from e =
    let n = number_took 65535 k text (lit< tt) from in
    let t = tick_there k (nat_eq k 0) s refl e in
    subst (λ (r : Stimulus). IsStimulusText r (spaced name text)) t.1 (record { is = (t.0, n.1); text_is = spaced_is (name_is name (codes "tick") is) n.0 })

stimulus_there : (name text : List ℕ) (s : Stimulus) (a b c : Bool) → bytes_eq name (codes "rx") ≡ a → bytes_eq name (codes "pins") ≡ b → bytes_eq name (codes "tick") ≡ c
    → cond a (option_map (λ n. Receive n) (number_upto 255 text)) (cond b (option_map (λ n. Pins n) (number_upto 4294967295 text)) (cond c (option_and_then tick_of (number_upto 65535 text)) None)) ≡ Some s → IsStimulusText s (spaced name text)
stimulus_there name text s true b c is_a is_b is_c e = rx_took name text s is_a e
stimulus_there name text s false true c is_a is_b is_c e = pins_took name text s is_b e
stimulus_there name text s false false true is_a is_b is_c e = tick_took name text s (number_upto 65535 text) is_c refl e
stimulus_there name text s false false false is_a is_b is_c e = absurd (none_stimulus e)

stimulus_took : (name text : List ℕ) (s : Stimulus) → stimulus_named name text ≡ Some s → IsStimulusText s (spaced name text)
unfolding stimulus_named
stimulus_took name text s e = stimulus_there name text s (bytes_eq name (codes "rx")) (bytes_eq name (codes "pins")) (bytes_eq name (codes "tick")) refl refl refl e

-- ---- what comes at all
pub record IsWhatText (inputs : ℕ) (w : What) (text : List ℕ) : Type 0 where
  pub is : HasWhat inputs w
  pub text_is : text ≡ what_text w

abbrev no_what : Option What
no_what = None

abbrev told_what : What → Option What
told_what w = Some w

none_what : {w : What} → no_what ≡ told_what w → ⊥
none_what e = cc

what_is : (v w : What) → told_what v ≡ told_what w → v ≡ w
what_is v w e = cc

device_took : (inputs : ℕ) (o : Option Stimulus) (name text : List ℕ) (w : What) → stimulus_named name text ≡ o → option_map (λ s. Device s) o ≡ told_what w → IsWhatText inputs w (spaced name text)
device_took inputs None name text w is e = absurd (none_what e)
device_took inputs (Some s) name text w is e =
    let t = stimulus_took name text s is in
    subst (λ (v : What). IsWhatText inputs v (spaced name text)) (what_is (Device s) w e) (record { is = t.is; text_is = t.text_is })

bit_text : (value : ℕ) → value ≤ 1 → value ≡ cond (nat_eq value 1) 1 0
bit_text value le = grind (arith, nat_tests)

line_there : (inputs : ℕ) (name first second : List ℕ) (w : What) (input value : ℕ) (b : Bool) → inputs < 2 ^ 32 → bytes_eq name (codes "line") ≡ true → number_upto inputs first ≡ Some input → number_upto 1 second ≡ Some value
    → is_open inputs input ≡ b → cond b (Some (Line input (nat_eq value 1))) None ≡ told_what w → IsWhatText inputs w (spaced name (spaced first second))
line_there inputs name first second w input value false few is one two open_is e = absurd (none_what e)
line_there inputs name first second w input value true few is one two open_is e =
    let n = number_took inputs input first (omega arith) one in
    let m = number_took 1 value second (lit< tt) two in
    let bit : second ≡ decimal (cond (nat_eq value 1) 1 0) = m.0 ∙ ap decimal (bit_text value m.1) in
    subst (λ (v : What). IsWhatText inputs v (spaced name (spaced first second))) (what_is _ w e) (record { is = open_is; text_is = spaced_is (name_is name (codes "line") is) (spaced_is n.0 bit) })

line_took : (inputs : ℕ) (name first second : List ℕ) (w : What) (o p : Option ℕ) → inputs < 2 ^ 32 → bytes_eq name (codes "line") ≡ true → number_upto inputs first ≡ o → number_upto 1 second ≡ p → line_from inputs o p ≡ told_what w → IsWhatText inputs w (spaced name (spaced first second))
line_took inputs name first second w None p few is one two e = absurd (none_what e)
line_took inputs name first second w (Some input) None few is one two e = absurd (none_what e)
line_took inputs name first second w (Some input) (Some value) few is one two e = line_there inputs name first second w input value (is_open inputs input) few is one two refl e

two_took : (inputs : ℕ) (name first second : List ℕ) (w : What) → inputs < 2 ^ 32 → line_named inputs name first second ≡ Some w → IsWhatText inputs w (spaced name (spaced first second))
unfolding line_named
two_took inputs name first second w few e =
    let a = some_on (bytes_eq name (codes "line")) (line_from inputs (number_upto inputs first) (number_upto 1 second)) w e in
    line_took inputs name first second w (number_upto inputs first) (number_upto 1 second) few a.0 refl refl a.1

after_took : (inputs : ℕ) (name : List ℕ) (p : List ℕ × Option (List ℕ)) (numbers : List ℕ) (w : What) → inputs < 2 ^ 32 → cut 32 numbers ≡ p → what_after inputs name p ≡ Some w → IsWhatText inputs w (spaced name numbers)
after_took inputs name (first, None) numbers w few is e =
    rw (cut_whole 32 numbers first is) (device_took inputs (stimulus_named name first) name first w refl e)
after_took inputs name (first, Some second) numbers w few is e =
    rw (cut_took 32 numbers first second is) (two_took inputs name first second w few e)

what_took : (inputs : ℕ) (p : List ℕ × Option (List ℕ)) (text : List ℕ) (w : What) → inputs < 2 ^ 32 → cut 32 text ≡ p → what_of inputs p ≡ Some w → IsWhatText inputs w text
what_took inputs (name, None) text w few is e = absurd (none_what e)
what_took inputs (name, Some numbers) text w few is e = rw (cut_took 32 text name numbers is) (after_took inputs name (cut 32 numbers) numbers w few refl e)

-- ---- an event
abbrev told_event : Event → Option Event
told_event e = Some e

event_is : (d e : Event) → told_event d ≡ told_event e → d ≡ e
event_is d e p = cc

abbrev no_event : Option Event
no_event = None

none_event : {e : Event} → no_event ≡ told_event e → ⊥
none_event p = cc

from_took : (inputs : ℕ) (count rest : List ℕ) (e : Event) (o : Option ℕ) (p : Option What) → inputs < 2 ^ 32 → number_upto 1000000000 count ≡ o → what_of inputs (cut 32 rest) ≡ p → event_from o p ≡ Some e → Spells inputs (spaced count rest) e
unfolding event_text
from_took inputs count rest e None p few one two h = absurd (none_event h)
from_took inputs count rest e (Some at) None few one two h = absurd (none_event h)
from_took inputs count rest e (Some at) (Some w) few one two h =
    let n = number_took 1000000000 at count (lit< tt) one in
    let s = what_took inputs (cut 32 rest) rest w few refl two in
    let made : Event = record { at = at; what = w } in
    subst (λ (d : Event). Spells inputs (spaced count rest) d) (event_is made e h) (record { at = n.1; what = s.is; text = spaced_is n.0 s.text_is })

parts_took : (inputs : ℕ) (p : List ℕ × Option (List ℕ)) (line : List ℕ) (e : Event) → inputs < 2 ^ 32 → cut 32 line ≡ p → event_parts inputs p ≡ Some e → Spells inputs line e
parts_took inputs (count, None) line e few is h = absurd (none_event h)
parts_took inputs (count, Some rest) line e few is h =
    let t = from_took inputs count rest e (number_upto 1000000000 count) (what_of inputs (cut 32 rest)) few refl refl h in
    subst (λ (text : List ℕ). Spells inputs text e) (sym (cut_took 32 line count rest is)) t

event_took : (inputs : ℕ) (line : List ℕ) (e : Event) → inputs < 2 ^ 32 → event_of inputs line ≡ Some e → Spells inputs line e
unfolding event_of
event_took inputs line e few h = parts_took inputs (cut 32 line) line e few refl h

abbrev says : Event → LineMeaning
says e = Told e

told_is : (o : Option Event) (e : Event) → told_or_bad o ≡ says e → o ≡ Some e
told_is None e h = absurd cc
told_is (Some d) e h = cc

line_here : (inputs : ℕ) (b : Bool) (line : List ℕ) (e : Event) → inputs < 2 ^ 32 → cond b Passed (told_or_bad (event_of inputs line)) ≡ says e → Spells inputs line e
line_here inputs true line e few h = absurd cc
line_here inputs false line e few h = event_took inputs line e few (told_is (event_of inputs line) e h)

pub line_told : (inputs : ℕ) (line : List ℕ) (e : Event) → inputs < 2 ^ 32 → meaning_of inputs line ≡ Told e → Spells inputs line e
unfolding meaning_of
line_told inputs line e few h = line_here inputs (is_passed line) line e few h
