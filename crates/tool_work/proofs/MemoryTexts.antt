-- A memory text that is read whole.
use Rattle.std.proofs.Common.{◌≡◌, ℕ, List, [], Err, append-nil}
use Rattle.mem_text.specs.Reading.{read_text}
use Rattle.mem_text.specs.Standing.{Standing, Live, Over, Wanting, Foretells, Fails, answer_of}
use Rattle.mem_text.specs.declared.mem_error.MemError.{MemError}
use Rattle.mem_text.specs.declared.mem_error.MemError.TheVariants.{Memory, Refused}

-- a refusal of all bytes is the text's
pub told_fails : (entry : ℕ) (bytes : List ℕ) (s : Standing) (e : MemError) → Foretells entry bytes s → Err e ≡ answer_of s → Fails e (read_text entry bytes)
told_fails entry bytes (Live s) e told is = absurd cc
told_fails entry bytes (Over f) e told is =
    let e' : e ≡ Refused f.place f.why = cc in
    rw e' (rw (append-nil bytes) at (told []))
told_fails entry bytes Wanting e told is =
    let e' : e ≡ Memory = cc in
    rw e' tt
