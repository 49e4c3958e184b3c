-- How much stack the handlers in a table use together.
use Rattle.std.specs.Prelude.{◌≡◌, ◌≤◌, ℕ, ◌+◌, ◌*◌, Bool, true, false, not, ◌||◌, List, [], ◌∷◌, ◌++◌, Option, Some, None}
use Rattle.hart_exec.specs.Effect.{even}
use Rattle.hart_memory.specs.Bytes.{number_at}
use Rattle.hart_memory.specs.Place.{is_in_rom}
use Rattle.chain_moves.specs.Slot.{in_slot}
use Rattle.chain_moves.specs.Bytes.{some_byte}
use Rattle.chain_flow.specs.Walk.{verdict}
use Rattle.chain_lint.specs.Bound.{Use, bound}
use Rattle.chain_flow.specs.declared.region.Region.{Region}
use Rattle.chain_lint.specs.declared.accepted.Accepted.{Accepted}
use Rattle.chain_lint.specs.declared.pair.Pair.{Pair}
use Rattle.chain_flow.specs.declared.verdict.Verdict.{Verdict}
use Rattle.chain_flow.specs.declared.verdict.Verdict.TheVariants.{Yes, No}
use Rattle.chain_lint.specs.declared.table_bound.TableBound.{TableBound}
use Rattle.chain_lint.specs.declared.table_bound.TableBound.TheVariants.{Bound, BadTable, Refused}

-- where the table has an input's word
abbrev pub word_place : ℕ → Pair → ℕ
word_place table p = table + 4 * p.input

-- the word isn't wholly in ROM, or has a byte in the slot
abbrev pub is_bad_word : ℕ → Bool
is_bad_word at = not (is_in_rom at 4) || some_byte in_slot at 4

-- none where the word is bad, else that of the code
abbrev pub IsWordAt : List ℕ → ℕ → Option ℕ → Type 0
IsWordAt code at None = is_bad_word at ≡ true
IsWordAt code at (Some w) = (is_bad_word at ≡ false) × (w ≡ number_at code at 4)

abbrev pub by_word : Bool → ℕ → TableBound → TableBound
by_word true at next = BadTable at
by_word false at next = next

-- with the uses of one more handler
abbrev pub by_verdict : (List Use → TableBound) → ℕ → List Use → Verdict → TableBound
by_verdict next level us (Yes uses) = next (us ++ record { level = level; uses = uses } ∷ [])
by_verdict next level us (No why at) = Refused why at

-- the pairs are taken in order, after these uses. A handler that isn't in ROM is refused by its verdict, as CodeOutside at its own address
unfoldable pub table_bound : List ℕ → Region → ℕ → List Pair → List Use → TableBound
table_bound code region table [] us = Bound (bound us)
table_bound code region table (p ∷ ps) us =
    by_word (is_bad_word (word_place table p)) (word_place table p)
    (by_verdict (λ vs. table_bound code region table ps vs) p.level us (verdict code (even (number_at code (word_place table p) 4)) region))

-- the handler at this address is accepted with these uses, which are few
abbrev pub WasAccepted : List ℕ → Region → Accepted → Type 0
WasAccepted code region h = (verdict code h.at region ≡ Yes h.uses) × (h.uses ≤ 4096)

-- the level is one that a service can have
abbrev pub IsPair : Pair → Type 0
IsPair p = 1 ≤ p.level
