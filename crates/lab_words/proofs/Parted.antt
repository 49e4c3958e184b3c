-- The parts of a sweep that words ask for are some.
use Rattle.std.proofs.Common.{◌≡◌, ℕ, ◌<◌, List, [], codes, Bool, true, false, Option, Some, None, refl, ap, subst, arith}
use Rattle.std.specs.Prelude.{nat_lt, unwrap_or, if◌then◌else◌, option_map, option_and_then}
use Rattle.std.proofs.lemmas.Bool.Decides.{nat_tests}
use Rattle.clap.specs.Words.{Row, Text, first_of}
use Rattle.chain_moves.specs.declared.dispatcher.Dispatcher.{Dispatcher}
use Rattle.lab_words.specs.declared.part.Part.{Part}
use Rattle.board_inputs.specs.Numbers.{number_upto}
use Rattle.lab_words.specs.Parts.{most_parts, part_with, part_from, part_parts, part_of, part_or_all}
use Rattle.lab_words.specs.Elf.{ElfWords, elf_app, elf_in}
use Rattle.lab_words.specs.Names.{NamesWords, names_app, names_in}
use Rattle.lab_words.specs.Trace.{TraceWords, trace_app, trace_in}
use Rattle.lab_words.specs.Sweep.{SweepWords, sweep_app, sweep_in, sweep_with, number_at}
use Rattle.lab_words.specs.Order.{Order, Elfs, Namings, Traces, Sweeps, order_of}
use Rattle.hart_words.specs.Cuts.{cut}
use Rattle.tool_words.specs.Chain.{dispatcher_of}
use Rattle.tool_frame.specs.Options.{taken, taken_if, rows_taken, starts_with}

-- ---- a word

part_with_some : (number parts : ℕ) (p : Part) → part_with number parts ≡ Some p → 0 < p.parts
part_with_some number parts p e = by_test (nat_lt number parts) refl e
  where
    by_test : (t : Bool) → nat_lt number parts ≡ t → (if t then Some (record { number = number; parts = parts }) else None) ≡ Some p → 0 < p.parts
    by_test true below is =
        let less : 0 < parts = grind (arith, nat_tests) in
        let same : record { number = number; parts = parts } ≡ p = cc in
        subst (λ (q : Part). 0 < q.parts) same less
    by_test false below is = cc

part_from_some : (number parts : Option ℕ) (p : Part) → part_from number parts ≡ Some p → 0 < p.parts
part_from_some (Some number) (Some parts) p e = part_with_some number parts p e
part_from_some (Some number) None p e = cc
part_from_some None None p e = cc
part_from_some None (Some parts) p e = cc

part_parts_some : (pair : List ℕ × Option (List ℕ)) (p : Part) → part_parts pair ≡ Some p → 0 < p.parts
part_parts_some (first, None) p e = cc
part_parts_some (first, Some rest) p e = part_from_some (number_upto most_parts first) (number_upto most_parts rest) p e

part_some : (word : Option (List ℕ)) (p : Part) → part_or_all word ≡ Some p → 0 < p.parts
unfolding part_of
part_some None p e =
    let same : record { number = 0; parts = 1 } ≡ p = cc in
    subst (λ (q : Part). 0 < q.parts) same (omega arith)
part_some (Some text) p e = part_parts_some (cut 47 text) p e

-- ---- the words of a sweep

abbrev part_told : Part → Option SweepWords → Part
part_told q None = q
part_told q (Some sweep) = sweep.part_is

with_some : (rows : List Row) (d : Option Dispatcher) (o : Option Part) (sweep : SweepWords) → ((p : Part) → o ≡ Some p → 0 < p.parts) → sweep_with rows d o ≡ Some sweep → 0 < sweep.part_is.parts
with_some rows (Some d) (Some q) sweep all e = subst (λ (p : Part). 0 < p.parts) (ap (part_told q) e) (all q refl)
with_some rows (Some d) None sweep all e = cc
with_some rows None None sweep all e = cc
with_some rows None (Some q) sweep all e = cc

else_is : (b : Bool) (o : Option SweepWords) (sweep : SweepWords) → (if b then None else o) ≡ Some sweep → o ≡ Some sweep
else_is true o sweep e = cc
else_is false o sweep e = e

sweep_some : (rows : List Row) (sweep : SweepWords) → sweep_in rows ≡ Some sweep → 0 < sweep.part_is.parts
unfolding sweep_in
sweep_some rows sweep e =
    let d = dispatcher_of (unwrap_or (first_of (codes "DISPATCHER") rows) []) in
    let o = part_or_all (first_of (codes "part") rows) in
    with_some rows d o sweep (part_some (first_of (codes "part") rows)) (else_is (nat_lt (number_at (codes "TO") rows) (number_at (codes "FROM") rows)) (sweep_with rows d o) sweep e)

read_some : (found : Option (List Row)) (sweep : SweepWords) → option_and_then sweep_in found ≡ Some sweep → 0 < sweep.part_is.parts
read_some None sweep e = cc
read_some (Some rows) sweep e = sweep_some rows sweep e

-- ---- any words

no_elf : (o : Option ElfWords) (sweep : SweepWords) → option_map Elfs o ≡ Some (Sweeps sweep) → ⊥
no_elf None sweep e = cc
no_elf (Some words) sweep e = cc

no_names : (o : Option NamesWords) (sweep : SweepWords) → option_map Namings o ≡ Some (Sweeps sweep) → ⊥
no_names None sweep e = cc
no_names (Some words) sweep e = cc

no_trace : (o : Option TraceWords) (sweep : SweepWords) → option_map Traces o ≡ Some (Sweeps sweep) → ⊥
no_trace None sweep e = cc
no_trace (Some words) sweep e = cc

one_sweep : (o : Option SweepWords) (sweep : SweepWords) → option_map Sweeps o ≡ Some (Sweeps sweep) → o ≡ Some sweep
one_sweep None sweep e = cc
one_sweep (Some words) sweep e = cc

by_first : (a b c d : Bool) (elfs names traces sweeps : Option Order) (order : Order) → (elfs ≡ Some order → ⊥) → (names ≡ Some order → ⊥) → (traces ≡ Some order → ⊥) → (if a then elfs else (if b then names else (if c then traces else (if d then sweeps else None)))) ≡ Some order → sweeps ≡ Some order
by_first true b c d elfs names traces sweeps order no_elf no_names no_trace e = absurd (no_elf e)
by_first false true c d elfs names traces sweeps order no_elf no_names no_trace e = absurd (no_names e)
by_first false false true d elfs names traces sweeps order no_elf no_names no_trace e = absurd (no_trace e)
by_first false false false true elfs names traces sweeps order no_elf no_names no_trace e = e
by_first false false false false elfs names traces sweeps order no_elf no_names no_trace e = cc

pub parts_of_order : (words : List Text) (sweep : SweepWords) → order_of words ≡ Some (Sweeps sweep) → 0 < sweep.part_is.parts
unfolding order_of
parts_of_order words sweep e =
    let there = by_first (starts_with (codes "elf") words) (starts_with (codes "names") words) (starts_with (codes "trace") words) (starts_with (codes "sweep") words) (option_map Elfs (taken elf_app elf_in words)) (option_map Namings (taken names_app names_in words)) (option_map Traces (taken_if trace_app trace_in words)) (option_map Sweeps (taken_if sweep_app sweep_in words)) (Sweeps sweep) (no_elf (taken elf_app elf_in words) sweep) (no_names (taken names_app names_in words) sweep) (no_trace (taken_if trace_app trace_in words) sweep) e in
    read_some (rows_taken sweep_app words) sweep (one_sweep (taken_if sweep_app sweep_in words) sweep there)
