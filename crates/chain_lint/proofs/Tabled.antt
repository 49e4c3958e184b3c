-- Words of a table, and the handlers that they name.
use Rattle.std.proofs.Common.{◌≡◌, ℕ, ◌+◌, ◌*◌, ◌≤◌, ◌<◌, true, false, List, [], ◌∷◌, ◌++◌, length, get_or, drop, Option, Some, None, sym, ap, ◌∙◌, subst}
use Rattle.std.proofs.lemmas.List.{drop_more, drop_all, get_or_default}
use Rattle.std.proofs.lemmas.Bool.{or_parts, not-false, leb-true}
use Rattle.hart_exec.specs.Effect.{even}
use Rattle.hart_memory.specs.Memory.{Memory}
use Rattle.hart_memory.specs.Bytes.{number_at}
use Rattle.hart_memory.specs.Place.{holds, place, is_in_memory, is_in_rom}
use Rattle.hart_memory.specs.Access.{loaded, loaded_by}
use Rattle.hart_memory.specs.declared.address_map.TheConstants.{BANK_LEN}
use Rattle.hart_memory.specs.declared.place.Place.TheVariants.{InRom}
use Rattle.hart_memory.proofs.PlaceLemmas.{place_rom}
use Rattle.chain_moves.specs.Slot.{in_slot}
use Rattle.chain_moves.specs.Bytes.{some_byte}
use Rattle.chain_flow.specs.Walk.{verdict}
use Rattle.chain_lint.specs.Bound.{Use, bound}
use Rattle.chain_lint.specs.Tables.{word_place, is_bad_word, IsWordAt, by_word, by_verdict, table_bound}
use Rattle.chain_flow.specs.declared.region.Region.{Region}
use Rattle.chain_flow.specs.declared.lint_why.LintWhy.{LintWhy}
use Rattle.chain_lint.specs.declared.pair.Pair.{Pair}
use Rattle.chain_flow.specs.declared.verdict.Verdict.{Verdict}
use Rattle.chain_flow.specs.declared.verdict.Verdict.TheVariants.{Yes, No}
use Rattle.chain_lint.specs.declared.table_bound.TableBound.TheVariants.{Bound, BadTable, Refused}

word_in_rom : (at : ℕ) → is_bad_word at ≡ false → place at 4 ≡ InRom at
word_in_rom at e = place_rom at 4 (leb-true (at + 4) BANK_LEN (not-false (is_in_rom at 4) (or_parts _ (some_byte in_slot at 4) e).0))

pub word_held : (at : ℕ) → is_bad_word at ≡ false → holds at 4 ≡ true
word_held at e = ap (λ p. is_in_memory p) (word_in_rom at e)

pub word_is : (m : Memory) (at w : ℕ) → is_bad_word at ≡ false → loaded m at 4 ≡ Some w → IsWordAt m.rom at (Some w)
word_is m at w e l =
    let here = ap (λ p. loaded_by p m 4) (word_in_rom at e) in
    let is : w ≡ number_at m.rom at 4 = cc in
    (e, is)

-- the pair at a place of the list, whose word is what was read at this address
module _ (code : List ℕ) (region : Region) (table : ℕ) (pairs : List Pair) (i input : ℕ) (d : Pair) (l : i < length pairs) (is_input : input ≡ (get_or pairs i d).input) (us : List Use) where
  abbrev p : Pair
  p = get_or pairs i d

  place_is : table + 4 * input ≡ word_place table p
  place_is = ap (λ n. table + 4 * n) is_input

  first : table_bound code region table (drop i pairs) us ≡ by_word (is_bad_word (word_place table p)) (word_place table p) (by_verdict (λ vs. table_bound code region table (drop (i + 1) pairs) vs) p.level us (verdict code (even (number_at code (word_place table p) 4)) region))
  unfolding table_bound
  first = ap (λ (ps : List Pair). table_bound code region table ps us) (drop_more pairs i p l ∙ ap (λ (q : Pair). q ∷ drop (i + 1) pairs) (sym (get_or_default pairs i d p l)))

  bad_by : (o : Option ℕ) → IsWordAt code (word_place table p) o → o ≡ None → table_bound code region table (drop i pairs) us ≡ BadTable (word_place table p)
  bad_by None h e = first ∙ ap (λ b. by_word b (word_place table p) (by_verdict (λ vs. table_bound code region table (drop (i + 1) pairs) vs) p.level us (verdict code (even (number_at code (word_place table p) 4)) region))) h
  bad_by (Some w) h e = absurd cc

  pub bad_table : (o : Option ℕ) → IsWordAt code (table + 4 * input) o → o ≡ None → BadTable (table + 4 * input) ≡ table_bound code region table (drop i pairs) us
  bad_table o h e = ap BadTable place_is ∙ sym (bad_by o (subst (λ a. IsWordAt code a o) place_is h) e)

  module _ (w : ℕ) (v : Verdict) (is : v ≡ verdict code (even w) region) (o : Option ℕ) (word : IsWordAt code (table + 4 * input) o) (some : o ≡ Some w) where
    judged_by : (o : Option ℕ) → IsWordAt code (word_place table p) o → o ≡ Some w → by_verdict (λ vs. table_bound code region table (drop (i + 1) pairs) vs) p.level us v ≡ table_bound code region table (drop i pairs) us
    judged_by None h e = absurd cc
    judged_by (Some x) h e =
        let same : x ≡ w = cc in
        sym
        (first
        ∙ (ap (λ b. by_word b (word_place table p) (by_verdict (λ vs. table_bound code region table (drop (i + 1) pairs) vs) p.level us (verdict code (even (number_at code (word_place table p) 4)) region))) h.0
        ∙ ap (λ (y : Verdict). by_verdict (λ vs. table_bound code region table (drop (i + 1) pairs) vs) p.level us y) (ap (λ n. verdict code (even n) region) (sym h.1 ∙ same) ∙ sym is)))

    judged : by_verdict (λ vs. table_bound code region table (drop (i + 1) pairs) vs) p.level us v ≡ table_bound code region table (drop i pairs) us
    judged = judged_by o (subst (λ a. IsWordAt code a o) place_is word) some

    pub refused : (why : LintWhy) (at : ℕ) → v ≡ No why at → Refused why at ≡ table_bound code region table (drop i pairs) us
    refused why at q = sym (ap (λ (y : Verdict). by_verdict (λ vs. table_bound code region table (drop (i + 1) pairs) vs) p.level us y) q) ∙ judged

    pub accepted : (uses : ℕ) → v ≡ Yes uses → table_bound code region table (drop (i + 1) pairs) (us ++ record { level = p.level; uses = uses } ∷ []) ≡ table_bound code region table (drop i pairs) us
    accepted uses q = sym (ap (λ (y : Verdict). by_verdict (λ vs. table_bound code region table (drop (i + 1) pairs) vs) p.level us y) q) ∙ judged

pub all_taken : (code : List ℕ) (region : Region) (table : ℕ) (pairs : List Pair) (i : ℕ) (us : List Use) → length pairs ≤ i → table_bound code region table (drop i pairs) us ≡ Bound (bound us)
unfolding table_bound
all_taken code region table pairs i us l = ap (λ (ps : List Pair). table_bound code region table ps us) (drop_all i pairs l)
