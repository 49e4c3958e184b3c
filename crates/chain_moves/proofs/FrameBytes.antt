-- The bytes outside a frame stay when it is made.
use Rattle.std.proofs.Common.{◌≡◌, ℕ, ◌+◌, ◌<◌, ◌≤◌, ◌⊎◌, inl, inr, ⊎_elim, List, length, slice_index, ap, ◌∙◌, arith}
use Rattle.hart_words.specs.TwosComplement.{word}
use Rattle.hart_memory.specs.Bytes.{with_number}
use Rattle.hart_memory.proofs.NumberLemmas.{length-with_number, slice_index-with_number}
use Rattle.chain_moves.specs.Agreement.{framed}

pub framed_outside : (ram : List ℕ) (f ra a0 a1 cause pc j : ℕ) → f + 32 ≤ length ram → (j < f) ⊎ (f + 32 ≤ j) → slice_index (framed ram f ra a0 a1 cause pc) j ≡ slice_index ram j
unfolding framed
framed_outside ram f ra a0 a1 cause pc j room h =
    let f1 : List ℕ = with_number ram f 4 ra in
    let f2 : List ℕ = with_number f1 (f + 4) 4 a0 in
    let f3 : List ℕ = with_number f2 (f + 8) 4 a1 in
    let f4 : List ℕ = with_number f3 (f + 12) 4 cause in
    let l1 : length f1 ≡ length ram = length-with_number ram f 4 ra (omega arith) in
    let l2 : length f2 ≡ length ram = length-with_number f1 (f + 4) 4 a0 (omega (arith, l1)) ∙ l1 in
    let l3 : length f3 ≡ length ram = length-with_number f2 (f + 8) 4 a1 (omega (arith, l2)) ∙ l2 in
    let l4 : length f4 ≡ length ram = length-with_number f3 (f + 12) 4 cause (omega (arith, l3)) ∙ l3 in
    let out : (k : ℕ) → k ≤ 28 → (j < f + k) ⊎ (f + k + 4 ≤ j) = λ k l. ⊎_elim (λ q. inl (omega arith)) (λ q. inr (omega arith)) h in
    let out0 : (j < f) ⊎ (f + 4 ≤ j) = ⊎_elim (λ q. inl q) (λ q. inr (omega arith)) h in
    slice_index-with_number f4 (f + 16) 4 pc j (omega (arith, l4)) (out 16 (omega arith))
    ∙ (slice_index-with_number f3 (f + 12) 4 cause j (omega (arith, l3)) (out 12 (omega arith))
    ∙ (slice_index-with_number f2 (f + 8) 4 a1 j (omega (arith, l2)) (out 8 (omega arith))
    ∙ (slice_index-with_number f1 (f + 4) 4 a0 j (omega (arith, l1)) (out 4 (omega arith))
    ∙ slice_index-with_number ram f 4 ra j (omega arith) out0)))

-- words are stored as they are
pub framed_words : (ram : List ℕ) (f ra a0 a1 cause pc : ℕ) → word ra ≡ ra → word a0 ≡ a0 → word a1 ≡ a1 → word cause ≡ cause → word pc ≡ pc → framed ram f (word ra) (word a0) (word a1) (word cause) (word pc) ≡ framed ram f ra a0 a1 cause pc
framed_words ram f ra a0 a1 cause pc e1 e2 e3 e4 e5 =
    ap (λ x. framed ram f x (word a0) (word a1) (word cause) (word pc)) e1
    ∙ (ap (λ x. framed ram f ra x (word a1) (word cause) (word pc)) e2
    ∙ (ap (λ x. framed ram f ra a0 x (word cause) (word pc)) e3
    ∙ (ap (λ x. framed ram f ra a0 a1 x (word pc)) e4
    ∙ ap (λ x. framed ram f ra a0 a1 cause x) e5)))
