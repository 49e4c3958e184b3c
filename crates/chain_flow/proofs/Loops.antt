-- A loop over registers.
use Rattle.std.proofs.Common.{◌≡◌, ℕ, zero, suc, ◌+◌, ◌<◌, ⊎_elim, true, false, List, ap, ◌∙◌, subst, arith}
use Rattle.std.specs.Prelude.{◌||◌}
use Rattle.std.proofs.lemmas.Bool.{cases_eq, and_left, and_right, and_from}
use Rattle.chain_flow.specs.Flow.{Value, value_of}
use Rattle.chain_flow.specs.Rules.{is_free, is_entry, are_entries}

pub entries_more : (values : List Value) (r : ℕ) → are_entries values r ≡ true → (is_free r || is_entry r (value_of values r)) ≡ true → are_entries values (r + 1) ≡ true
unfolding are_entries
entries_more values r h e = let next : r + 1 ≡ suc r = omega arith in ap (are_entries values) next ∙ and_from (is_free r || is_entry r (value_of values r)) (are_entries values r) e h

pub entries_fail : (values : List Value) (n r : ℕ) → r < n → (is_free r || is_entry r (value_of values r)) ≡ false → are_entries values n ≡ false
unfolding are_entries
entries_fail values zero r l e = absurd (omega arith)
entries_fail values (suc n) r l e =
    ⊎_elim
    (λ (q : r ≡ n). and_left (is_free n || is_entry n (value_of values n)) (are_entries values n) (subst (λ i. (is_free i || is_entry i (value_of values i)) ≡ false) q e))
    (λ (q : r ≡ n → ⊥). and_right (is_free n || is_entry n (value_of values n)) (are_entries values n) (entries_fail values n r (omega arith) e))
    (cases_eq r n)
