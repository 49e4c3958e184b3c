-- Headers that stand one after the other.
use Rattle.std.proofs.Common.{◌≡◌, ℕ, zero, suc, ◌+◌, ◌*◌, ◌-◌, ◌<◌, ◌≤◌, List, [], ◌∷◌, Some, None, refl, ap, ◌∙◌, arith}
use Rattle.std.specs.List.{slice_get}
use Rattle.lab_elf.specs.Headers.{section_at, sections_from, program_at, programs_from}

-- the one that comes next is the first of those that are left
pub next_section : (n first k : ℕ) (bytes : List ℕ) → k < n → sections_from (n - k) (first + 40 * k) bytes ≡ section_at (first + 40 * k) bytes ∷ sections_from (n - (k + 1)) (first + 40 * (k + 1)) bytes
next_section n first k bytes lt =
    let one : n - k ≡ suc (n - (k + 1)) = omega arith in
    let on : first + 40 * (k + 1) ≡ first + 40 * k + 40 = omega arith in
    rw (one, on) refl

pub no_section : (n k place : ℕ) (bytes : List ℕ) → n ≤ k → sections_from (n - k) place bytes ≡ []
no_section n k place bytes le = let none : n - k ≡ 0 = omega arith in rw none refl

pub next_program : (n first k : ℕ) (bytes : List ℕ) → k < n → programs_from (n - k) (first + 32 * k) bytes ≡ program_at (first + 32 * k) bytes ∷ programs_from (n - (k + 1)) (first + 32 * (k + 1)) bytes
next_program n first k bytes lt =
    let one : n - k ≡ suc (n - (k + 1)) = omega arith in
    let on : first + 32 * (k + 1) ≡ first + 32 * k + 32 = omega arith in
    rw (one, on) refl

pub no_program : (n k place : ℕ) (bytes : List ℕ) → n ≤ k → programs_from (n - k) place bytes ≡ []
no_program n k place bytes le = let none : n - k ≡ 0 = omega arith in rw none refl

-- the one of a number
pub numbered : (n place k : ℕ) (bytes : List ℕ) → k < n → slice_get (sections_from n place bytes) k ≡ Some (section_at (place + 40 * k) bytes)
numbered zero place k bytes lt = absurd (omega arith)
numbered (suc n) place zero bytes lt = ap (λ (p : ℕ). Some (section_at p bytes)) (let same : place ≡ place + 40 * 0 = omega arith in same)
numbered (suc n) place (suc k) bytes lt = numbered n (place + 40) k bytes (omega arith) ∙ ap (λ (p : ℕ). Some (section_at p bytes)) (let same : place + 40 + 40 * k ≡ place + 40 * suc k = omega arith in same)

pub past_the_last : (n place k : ℕ) (bytes : List ℕ) → n ≤ k → slice_get (sections_from n place bytes) k ≡ None
past_the_last zero place k bytes le = refl
past_the_last (suc n) place zero bytes le = absurd (omega arith)
past_the_last (suc n) place (suc k) bytes le = past_the_last n (place + 40) k bytes (omega arith)
