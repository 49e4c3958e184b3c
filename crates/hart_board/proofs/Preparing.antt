-- What is known of an instruction that was prepared, and the step that it makes.
use Rattle.std.proofs.Common.{◌≡◌, ℕ, ◌+◌, ◌%◌, ◌⊎◌, inl, inr, Bool, true, false, cond, IsTrue, Result, sym, ap, ◌∙◌, subst, arith}
use Rattle.hart_words.specs.TwosComplement.{word}
use Rattle.device_model.specs.Meanings.{Meanings}
use Rattle.rv_encoding.specs.Fits.{can_be_spelled}
use Rattle.hart_exec.specs.Bounds.{IsInBounds, StaysEven, is_system}
use Rattle.hart_exec.specs.declared.effect.Effect.TheVariants.{System}
use Rattle.hart_exec.proofs.Effects.{effect_in_bounds, effect_stays_even, effect_is_system}
use Rattle.hart_memory.specs.Fetch.{fetched, is_long, HasLength}
use Rattle.hart_memory.specs.Memory.{Memory}
use Rattle.hart_memory.specs.declared.fetched.Fetched.TheVariants.{Bits}
use Rattle.hart_memory.proofs.FetchLemmas.{fetched-HasLength}
use Rattle.hart_board.specs.State.{State}
use Rattle.hart_board.specs.Attempt.{attempt, attempt_of, attempted, performed, performed_by, with_encoding}
use Rattle.hart_board.specs.Prepared.{IsPrepared, IsLeft}
use Rattle.hart_board.specs.declared.prepared.Prepared.{Prepared}
use Rattle.hart_board.specs.declared.trap.Trap.{Trap}
use Rattle.hart_board.proofs.Validity.{decoded_fits}

chosen : (long : Bool) (n : ℕ) → n ≡ cond long 4 2 → (n ≡ 2) ⊎ (n ≡ 4)
chosen true n e = inr e
chosen false n e = inl e

pub two_or_four : (m : Memory) (pc bits length : ℕ) → Bits bits length ≡ fetched m pc → (length ≡ 2) ⊎ (length ≡ 4)
two_or_four m pc bits length e = chosen (is_long bits) length (subst (λ f. HasLength f) (sym e) (fetched-HasLength m pc))

module _ (s : State) (p : Prepared) (h : IsPrepared s p) where
  pub length_is : (p.encoding.length ≡ 2) ⊎ (p.encoding.length ≡ 4)
  length_is = two_or_four s.memory s.pc p.encoding.bits p.encoding.length h.is_fetched

  pub fits : IsTrue (can_be_spelled h.ins)
  fits = decoded_fits p.encoding.bits p.encoding.length h.ins h.is_spelled

  pub in_bounds : IsInBounds p.effect
  in_bounds = subst IsInBounds (sym h.is_effect) (effect_in_bounds h.ins p.encoding.length s.registers s.pc fits)

  pub even_by : (n : ℕ) → (n ≡ 2) ⊎ (n ≡ 4) → n % 2 ≡ 0
  even_by n l = omega (arith, l)

  pub stays_even : s.pc % 2 ≡ 0 → StaysEven p.effect
  stays_even even = subst StaysEven (sym h.is_effect) (effect_stays_even h.ins p.encoding.length s.registers s.pc fits (even_by p.encoding.length length_is) even)

  pub system_is : p.effect ≡ System → IsTrue (is_system h.ins)
  system_is e = (effect_is_system h.ins p.encoding.length s.registers s.pc).0 (sym h.is_effect ∙ e)

  pub is_left : p.effect ≡ System → IsLeft p.operation
  is_left e = record { ins = h.ins; stands = h.stands; fits = fits; is_left = system_is e }

  module _ (m : Meanings) where
    pub attempts : (r : Result State Trap) → performed_by m s h.ins p.encoding.bits (word (s.pc + p.encoding.length)) p.effect ≡ r → attempt m s ≡ with_encoding p.encoding r
    unfolding attempt performed
    attempts r e =
        sym (ap (attempt_of m s) h.is_fetched)
        ∙ ap (attempted m s p.encoding.bits p.encoding.length) h.is_spelled
        ∙ ap (with_encoding p.encoding) (sym (ap (performed_by m s h.ins p.encoding.bits (word (s.pc + p.encoding.length))) h.is_effect) ∙ e)
