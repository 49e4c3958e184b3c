-- Two digits at a time.
use Rattle.std.proofs.Common.{◌≡◌, ℕ, ◌≤◌, List, [], ◌∷◌, ◌++◌, drop, length, get_or, refl, arith}
use Rattle.lab_packets.specs.Digits.{byte_of, bytes_behind, on_byte}

pub pair_step : (bytes digits : List ℕ) → 2 ≤ length digits → bytes_behind bytes digits ≡ on_byte (byte_of (get_or digits 0 0) (get_or digits 1 0)) (λ b. bytes_behind (bytes ++ b ∷ []) (drop 2 digits))
pair_step bytes [] h = absurd (omega arith)
pair_step bytes (a ∷ []) h = absurd (omega arith)
pair_step bytes (a ∷ b ∷ rest) h = refl
