-- Bytes of memory, one after the other and line by line.
use Rattle.std.proofs.Common.{◌≡◌, ℕ, suc, ◌+◌, ◌-◌, ◌*◌, ◌%◌, ◌^◌, ◌<◌, ◌≤◌, min, List, [], ◌++◌, append_assoc, append-nil, refl, ap, ◌∙◌, arith}
use Rattle.hart_memory.specs.Memory.{Memory}
use Rattle.hart_memory.specs.Access.{byte_at}
use Rattle.hart_monitor.specs.Bytes.{cell, cells, bytes_line, bytes_lines}

pub cells_step : (line : List ℕ) (memory : Memory) (n at k : ℕ) → k < n
    → (line ++ cell (byte_at memory ((at + k) % 2 ^ 32))) ++ cells memory (n - (k + 1)) (at + (k + 1)) ≡ line ++ cells memory (n - k) (at + k)
unfolding cells
cells_step line memory n at k h =
    let more : n - k ≡ suc (n - (k + 1)) = omega arith in
    let next : at + (k + 1) ≡ at + k + 1 = omega arith in
    rw (more, next) (append_assoc line (cell (byte_at memory ((at + k) % 2 ^ 32))) (cells memory (n - (k + 1)) (at + k + 1)))

pub no_cells : (line : List ℕ) (memory : Memory) (n at k : ℕ) → n ≤ k → line ++ cells memory (n - k) (at + k) ≡ line
unfolding cells
no_cells line memory n at k h = let none : n - k ≡ 0 = omega arith in rw none (append-nil line)

pub lines_step : (memory : Memory) (lines row n at : ℕ) → row < lines
    → bytes_lines memory (lines - row) (n - row * 16) (at + row * 16) ≡ bytes_line memory (min (n - row * 16) 16) ((at + row * 16) % 2 ^ 32) ++ bytes_lines memory (lines - (row + 1)) (n - (row + 1) * 16) (at + (row + 1) * 16)
unfolding bytes_lines
lines_step memory lines row n at h =
    let more : lines - row ≡ suc (lines - (row + 1)) = omega arith in
    let left : n - row * 16 - 16 ≡ n - (row + 1) * 16 = omega arith in
    let next : at + row * 16 + 16 ≡ at + (row + 1) * 16 = omega arith in
    rw more (ap (λ k. bytes_line memory (min (n - row * 16) 16) ((at + row * 16) % 2 ^ 32) ++ bytes_lines memory (lines - (row + 1)) k (at + row * 16 + 16)) left
    ∙ ap (λ k. bytes_line memory (min (n - row * 16) 16) ((at + row * 16) % 2 ^ 32) ++ bytes_lines memory (lines - (row + 1)) (n - (row + 1) * 16) k) next)

pub no_lines : (memory : Memory) (lines row n at : ℕ) → lines ≤ row → bytes_lines memory (lines - row) n at ≡ []
unfolding bytes_lines
no_lines memory lines row n at h = let none : lines - row ≡ 0 = omega arith in rw none refl
