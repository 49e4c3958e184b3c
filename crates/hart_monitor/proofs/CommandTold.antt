-- A line that gives a command spells it.
use Rattle.std.proofs.Common.{◌≡◌, ℕ, ◌≤◌, List, cond, codes, Bool, true, false, Option, Some, None, refl, subst, ap, arith}
use Rattle.std.specs.Prelude.{option_map, nat_eq, nat_lt}
use Rattle.std.specs.Str.{bytes_eq}
use Rattle.std.proofs.lemmas.Slice.Eq.{bytes_eq-Decides}
use Rattle.std.proofs.lemmas.Bool.{lt-ltb}
use Rattle.std.proofs.lemmas.Bool.Decides.{nat_tests}
use Rattle.hart_words.specs.Cuts.{cut}
use Rattle.hart_words.proofs.CutText.{cut_took, cut_whole}
use Rattle.clic_regs.specs.Shape.{plain_shape}
use Rattle.hart_board.specs.Event.{is_free, is_free_input}
use Rattle.hart_board.specs.declared.what.What.TheVariants.{Line as LineOf}
use Rattle.board_inputs.specs.Spelling.{spaced}
use Rattle.hart_monitor.specs.Numbers.{IsNumber, number_in, most_number}
use Rattle.hart_monitor.specs.Spelling.{HasOne, HasTwo, Spells, most_steps}
use Rattle.hart_monitor.specs.Lines.{alone_named, one_named, mem_from, line_from, two_named, command_after, command_parts, command_of, last_input}
use Rattle.hart_monitor.specs.declared.command.Command.{Command}
use Rattle.hart_monitor.specs.declared.command.Command.TheVariants.{Step, Run, Break, Regs, Csr, Mem, Clic, Line, Back}
use Rattle.hart_monitor.proofs.NumberText.{number_spelled}

name_is : (name word : List ℕ) → bytes_eq name word ≡ true → name ≡ word
name_is name word e = (bytes_eq-Decides name word).0 e

abbrev told : Command → Option Command
told c = Some c

abbrev no_command : Option Command
no_command = None

told_is : (a c : Command) → told a ≡ told c → a ≡ c
told_is a c e = cc

none_told : {c : Command} → no_command ≡ told c → ⊥
none_told e = cc

-- ---- a name alone

alone_there : (name : List ℕ) (c : Command) (x y z : Bool) → bytes_eq name (codes "regs") ≡ x → bytes_eq name (codes "csr") ≡ y → bytes_eq name (codes "back") ≡ z
    → cond x (Some Regs) (cond y (Some Csr) (cond z (Some Back) None)) ≡ told c → Spells name c
alone_there name c true y z is_x is_y is_z e = subst (Spells name) (told_is Regs c e) (record { range = tt; says = name_is name (codes "regs") is_x })
alone_there name c false true z is_x is_y is_z e = subst (Spells name) (told_is Csr c e) (record { range = tt; says = name_is name (codes "csr") is_y })
alone_there name c false false true is_x is_y is_z e = subst (Spells name) (told_is Back c e) (record { range = tt; says = name_is name (codes "back") is_z })
alone_there name c false false false is_x is_y is_z e = absurd (none_told e)

alone_told : (name : List ℕ) (c : Command) → alone_named name ≡ Some c → Spells name c
unfolding alone_named
alone_told name c e = alone_there name c (bytes_eq name (codes "regs")) (bytes_eq name (codes "csr")) (bytes_eq name (codes "back")) refl refl refl e

-- ---- a name with a number

-- the number of a command, which the text spells
pub record IsOne (name text word : List ℕ) (f : ℕ → Command) (least most : ℕ) (c : Command) : Type 0 where
  pub n : ℕ
  pub command : f n ≡ c
  pub says : HasOne word (spaced name text) n
  pub low : least ≤ n
  pub high : n ≤ most

map_told : (f : ℕ → Command) (o : Option ℕ) (c : Command) → option_map f o ≡ told c → (n : ℕ) × (o ≡ Some n) × (f n ≡ c)
map_told f None c e = absurd (none_told e)
map_told f (Some n) c e = (n, refl, told_is (f n) c e)

one_is : (name text word : List ℕ) (f : ℕ → Command) (least most : ℕ) (c : Command) → bytes_eq name word ≡ true → option_map f (number_in least most text) ≡ told c → IsOne name text word f least most c
one_is name text word f least most c is e =
    let m = map_told f (number_in least most text) c e in
    let s = number_spelled least most m.0 text m.1 in
    record { n = m.0; command = m.2; says = record { text = text; number = s.0; line_is = ap (λ w. spaced w text) (name_is name word is) }; low = s.1; high = s.2 }

one_there : (name text : List ℕ) (c : Command) (x y z w : Bool) → bytes_eq name (codes "step") ≡ x → bytes_eq name (codes "run") ≡ y → bytes_eq name (codes "break") ≡ z → bytes_eq name (codes "clic") ≡ w
    → cond x (option_map (λ n. Step n) (number_in 1 most_steps text)) (cond y (option_map (λ n. Run n) (number_in 1 most_steps text)) (cond z (option_map (λ n. Break n) (number_in 0 most_number text)) (cond w (option_map (λ n. Clic n) (number_in 0 last_input text)) None))) ≡ told c
    → Spells (spaced name text) c
one_there name text c true y z w is_x is_y is_z is_w e =
    let o = one_is name text (codes "step") (λ n. Step n) 1 most_steps c is_x e in
    subst (Spells (spaced name text)) o.command (record { range = (omega (arith, o.low), o.high); says = o.says })
one_there name text c false true z w is_x is_y is_z is_w e =
    let o = one_is name text (codes "run") (λ n. Run n) 1 most_steps c is_y e in
    subst (Spells (spaced name text)) o.command (record { range = (omega (arith, o.low), o.high); says = o.says })
one_there name text c false false true w is_x is_y is_z is_w e =
    let o = one_is name text (codes "break") (λ n. Break n) 0 most_number c is_z e in
    subst (Spells (spaced name text)) o.command (record { range = o.high; says = o.says })
one_there name text c false false false true is_x is_y is_z is_w e =
    let o = one_is name text (codes "clic") (λ n. Clic n) 0 last_input c is_w e in
    subst (Spells (spaced name text)) o.command (record { range = omega (arith, o.high); says = o.says })
one_there name text c false false false false is_x is_y is_z is_w e = absurd (none_told e)

one_told : (name text : List ℕ) (c : Command) → one_named name text ≡ Some c → Spells (spaced name text) c
unfolding one_named
one_told name text c e = one_there name text c (bytes_eq name (codes "step")) (bytes_eq name (codes "run")) (bytes_eq name (codes "break")) (bytes_eq name (codes "clic")) refl refl refl refl e

-- ---- a name with two numbers

two_says : (name word first second : List ℕ) (n m : ℕ) → bytes_eq name word ≡ true → IsNumber first n → IsNumber second m → HasTwo word (spaced name (spaced first second)) n m
two_says name word first second n m is one two = record { first = first; second = second; first_number = one; second_number = two; line_is = ap (λ w. spaced w (spaced first second)) (name_is name word is) }

mem_told : (name first second : List ℕ) (c : Command) (o p : Option ℕ) → bytes_eq name (codes "mem") ≡ true → number_in 0 most_number first ≡ o → number_in 1 256 second ≡ p → mem_from o p ≡ told c → Spells (spaced name (spaced first second)) c
mem_told name first second c None p is one two e = absurd (none_told e)
mem_told name first second c (Some at) None is one two e = absurd (none_told e)
mem_told name first second c (Some at) (Some count) is one two e =
    let a = number_spelled 0 most_number at first one in
    let b = number_spelled 1 256 count second two in
    subst (Spells (spaced name (spaced first second))) (told_is (Mem at count) c e) (record { range = (a.2, omega (arith, b.1), b.2); says = two_says name (codes "mem") first second at count is a.0 b.0 })

bit_is : (value : ℕ) → value ≤ 1 → value ≡ cond (nat_eq value 1) 1 0
bit_is value le = grind (arith, nat_tests)

line_there : (name first second : List ℕ) (c : Command) (input value : ℕ) (b : Bool) → bytes_eq name (codes "line") ≡ true → number_in 0 last_input first ≡ Some input → number_in 0 1 second ≡ Some value
    → is_free_input input ≡ b → cond b (Some (Line input (nat_eq value 1))) None ≡ told c → Spells (spaced name (spaced first second)) c
line_there name first second c input value false is one two free e = absurd (none_told e)
line_there name first second c input value true is one two free e =
    let a = number_spelled 0 last_input input first one in
    let b = number_spelled 0 1 value second two in
    let below : nat_lt input plain_shape.inputs ≡ true = lt-ltb _ _ (omega (arith, a.2)) in
    let open_is : is_free plain_shape.inputs (LineOf input (nat_eq value 1)) ≡ true = rw (below, free) refl in
    subst (Spells (spaced name (spaced first second))) (told_is (Line input (nat_eq value 1)) c e)
    (record { range = open_is; says = two_says name (codes "line") first second input (cond (nat_eq value 1) 1 0) is a.0 (subst (IsNumber second) (bit_is value b.2) b.0) })

line_told : (name first second : List ℕ) (c : Command) (o p : Option ℕ) → bytes_eq name (codes "line") ≡ true → number_in 0 last_input first ≡ o → number_in 0 1 second ≡ p → line_from o p ≡ told c → Spells (spaced name (spaced first second)) c
line_told name first second c None p is one two e = absurd (none_told e)
line_told name first second c (Some input) None is one two e = absurd (none_told e)
line_told name first second c (Some input) (Some value) is one two e = line_there name first second c input value (is_free_input input) is one two refl e

two_there : (name first second : List ℕ) (c : Command) (x y : Bool) → bytes_eq name (codes "mem") ≡ x → bytes_eq name (codes "line") ≡ y
    → cond x (mem_from (number_in 0 most_number first) (number_in 1 256 second)) (cond y (line_from (number_in 0 last_input first) (number_in 0 1 second)) None) ≡ told c → Spells (spaced name (spaced first second)) c
two_there name first second c true y is_x is_y e = mem_told name first second c (number_in 0 most_number first) (number_in 1 256 second) is_x refl refl e
two_there name first second c false true is_x is_y e = line_told name first second c (number_in 0 last_input first) (number_in 0 1 second) is_y refl refl e
two_there name first second c false false is_x is_y e = absurd (none_told e)

two_told : (name first second : List ℕ) (c : Command) → two_named name first second ≡ Some c → Spells (spaced name (spaced first second)) c
unfolding two_named
two_told name first second c e = two_there name first second c (bytes_eq name (codes "mem")) (bytes_eq name (codes "line")) refl refl e

-- ---- a line

after_told : (name : List ℕ) (p : List ℕ × Option (List ℕ)) (numbers : List ℕ) (c : Command) → cut 32 numbers ≡ p → command_after name p ≡ Some c → Spells (spaced name numbers) c
after_told name (first, None) numbers c is e = rw (cut_whole 32 numbers first is) (one_told name first c e)
after_told name (first, Some second) numbers c is e = rw (cut_took 32 numbers first second is) (two_told name first second c e)

parts_told : (p : List ℕ × Option (List ℕ)) (line : List ℕ) (c : Command) → cut 32 line ≡ p → command_parts p ≡ Some c → Spells line c
parts_told (name, None) line c is e = rw (cut_whole 32 line name is) (alone_told name c e)
parts_told (name, Some numbers) line c is e = rw (cut_took 32 line name numbers is) (after_told name (cut 32 numbers) numbers c refl e)

pub command_told : (line : List ℕ) (c : Command) → command_of line ≡ Some c → Spells line c
unfolding command_of
command_told line c e = parts_told (cut 32 line) line c refl e
