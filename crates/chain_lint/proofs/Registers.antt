-- Registers that a Leave brings back.
use Rattle.std.proofs.Common.{◌≡◌, ℕ, ◌<◌, false, List, length, sym, ◌∙◌}
use Rattle.std.proofs.lemmas.Bool.{ne_eqb, or_from}
use Rattle.hart_words.specs.Registers.{register}
use Rattle.chain_moves.specs.Servicing.{Live}
use Rattle.chain_moves.specs.Leave.{leave_registers}
use Rattle.chain_moves.specs.Tests.{is_free}
use Rattle.chain_moves.proofs.Registers.{brings, same_registers}

not_free : (r : ℕ) → (r ≡ 1 → ⊥) → (r ≡ 10 → ⊥) → (r ≡ 11 → ⊥) → is_free r ≡ false
not_free r n1 n10 n11 = or_from _ _ (ne_eqb r 1 n1) (or_from _ _ (ne_eqb r 10 n10) (ne_eqb r 11 n11))

-- what a Leave brings back doesn't turn on the registers that are free
pub leave_same : (a b : List ℕ) (v : Live) (sp : ℕ) → length a ≡ 32 → length b ≡ 32 → ((r : ℕ) → r < 32 → is_free r ≡ false → register a r ≡ register b r) → leave_registers a v sp ≡ leave_registers b v sp
leave_same a b v sp la lb h =
    let x = brings a v sp la in
    let y = brings b v sp lb in
    same_registers (leave_registers a v sp) (leave_registers b v sp) x.count y.count (x.ra ∙ sym y.ra) (x.sp_is ∙ sym y.sp_is) (x.a0 ∙ sym y.a0) (x.a1 ∙ sym y.a1)
    (λ r l n1 n2 n10 n11. x.others r n1 n2 n10 n11 ∙ h r l (not_free r n1 n10 n11) ∙ sym (y.others r n1 n2 n10 n11))
