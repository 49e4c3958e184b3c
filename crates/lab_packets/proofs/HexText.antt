-- Digits without leading zeros, and pieces for gdb's console.
use Rattle.std.proofs.Common.{◌≡◌, ℕ, zero, suc, ◌+◌, ◌-◌, ◌/◌, ◌%◌, ◌<◌, ◌≤◌, List, [], ◌∷◌, ◌++◌, take, drop, length, length-drop, append_assoc, false, refl, sym, ap, ◌∙◌, arith, cond}
use Rattle.std.specs.Prelude.{nat_lt}
use Rattle.std.specs.Fmt.{digit_glyph}
use Rattle.lab_packets.specs.Frames.{framed}
use Rattle.lab_packets.specs.Answers.{hex_upto, console_data, console_pieces}

pub hex_step : (count v : ℕ) → 0 < count → hex_upto count v ≡ cond (nat_lt v 16) (digit_glyph false v ∷ []) (hex_upto (count - 1) (v / 16) ++ digit_glyph false (v % 16) ∷ [])
hex_step zero v h = absurd (omega arith)
hex_step (suc count) v h = let same : suc count - 1 ≡ count = omega arith in rw same refl

-- more pieces than there are bytes are as good as many
enough : (n m size : ℕ) (bytes : List ℕ) → 0 < size → length bytes ≤ n → length bytes ≤ m → console_pieces n size bytes ≡ console_pieces m size bytes
enough zero zero size bytes s hn hm = refl
enough zero (suc m) size [] s hn hm = refl
enough zero (suc m) size (b ∷ bs) s hn hm = absurd (omega arith)
enough (suc n) zero size [] s hn hm = refl
enough (suc n) zero size (b ∷ bs) s hn hm = absurd (omega arith)
enough (suc n) (suc m) size [] s hn hm = refl
enough (suc n) (suc m) size (b ∷ bs) s hn hm =
    let less : length (drop size (b ∷ bs)) + size ≤ suc (length bs) + size = omega (arith, length-drop size (b ∷ bs)) in
    ap (λ t. framed (console_data (take size (b ∷ bs))) ++ t) (enough n m size (drop size (b ∷ bs)) s (omega (arith, length-drop size (b ∷ bs))) (omega (arith, length-drop size (b ∷ bs))))

-- one piece, and the rest
pub pieces_step : (size : ℕ) (bytes : List ℕ) → 0 < size → 0 < length bytes → console_pieces (length bytes) size bytes ≡ framed (console_data (take size bytes)) ++ console_pieces (length (drop size bytes)) size (drop size bytes)
pieces_step size [] s h = absurd (omega arith)
pieces_step size (b ∷ bs) s h =
    ap (λ t. framed (console_data (take size (b ∷ bs))) ++ t) (enough (length bs) (length (drop size (b ∷ bs))) size (drop size (b ∷ bs)) s (omega (arith, length-drop size (b ∷ bs))) (omega arith))

pub no_pieces : (size : ℕ) (bytes : List ℕ) → length bytes ≡ 0 → console_pieces (length bytes) size bytes ≡ []
no_pieces size [] h = refl
no_pieces size (b ∷ bs) h = absurd (omega arith)

-- one frame was written, and the rest is left
pub onward : (size : ℕ) (old new front behind rest : List ℕ) → 0 < size → 0 < length rest → front ≡ take size rest → behind ≡ drop size rest → new ≡ old ++ framed (console_data front) → new ++ console_pieces (length behind) size behind ≡ old ++ console_pieces (length rest) size rest
onward size old new front behind rest s some ef eb en =
    ap (λ t. t ++ console_pieces (length behind) size behind) en
    ∙ ap (λ f. (old ++ framed (console_data f)) ++ console_pieces (length behind) size behind) ef
    ∙ ap (λ b. (old ++ framed (console_data (take size rest))) ++ console_pieces (length b) size b) eb
    ∙ append_assoc old (framed (console_data (take size rest))) (console_pieces (length (drop size rest)) size (drop size rest))
    ∙ ap (λ t. old ++ t) (sym (pieces_step size rest s some))
