-- Words as bytes, one after the other.
use Rattle.std.proofs.Common.{◌≡◌, ◌∙◌, ℕ, ◌+◌, ◌<◌, ◌≤◌, List, [], ◌++◌, length, drop, slice_index, append_assoc, append-nil, sym, ap}
use Rattle.std.proofs.lemmas.List.{drop_more, drop_all}
use Rattle.std.specs.Int.{to_le_bytes, w32}
use Rattle.chain_moves.specs.Start.{words_bytes}

pub one_word : (words : List ℕ) (i : ℕ) (text more : List ℕ) → i < length words → more ≡ text ++ to_le_bytes w32 (slice_index words i) → text ++ words_bytes (drop i words) ≡ words_bytes words → more ++ words_bytes (drop (i + 1) words) ≡ words_bytes words
unfolding words_bytes
one_word words i text more less is h =
    let next : words_bytes (drop i words) ≡ to_le_bytes w32 (slice_index words i) ++ words_bytes (drop (i + 1) words) = ap words_bytes (drop_more words i 0 less) in
    rw is (append_assoc text (to_le_bytes w32 (slice_index words i)) (words_bytes (drop (i + 1) words)) ∙ (rw next at h))

pub no_word : (words : List ℕ) (i : ℕ) (text : List ℕ) → length words ≤ i → text ++ words_bytes (drop i words) ≡ words_bytes words → text ≡ words_bytes words
unfolding words_bytes
no_word words i text past h =
    let none : words_bytes (drop i words) ≡ [] = ap words_bytes (drop_all i words past) in
    sym (append-nil text) ∙ (rw none at h)
