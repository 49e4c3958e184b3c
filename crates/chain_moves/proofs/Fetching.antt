-- Whether an instruction is long, by what was fetched; and the move that is due where no Enter is.
use Rattle.std.proofs.Common.{◌≡◌, ℕ, ◌+◌, ◌^◌, ◌<◌, Bool, true, false, List, [], ◌∷◌, length, Option, Some, None, refl, sym, ap, ◌∙◌, arith}
use Rattle.std.specs.Prelude.{◌==◌, not}
use Rattle.std.proofs.lemmas.Bool.{true≢false}
use Rattle.std.proofs.lemmas.Bool.Decides.{nat_tests}
use Rattle.hart_words.specs.TwosComplement.{word}
use Rattle.hart_memory.specs.Memory.{Memory}
use Rattle.hart_memory.specs.Access.{loaded}
use Rattle.hart_memory.specs.Fetch.{is_long, fetched, fetched_first, fetched_length, fetched_second}
use Rattle.hart_memory.specs.declared.fetched.Fetched.{Fetched}
use Rattle.hart_memory.specs.declared.fetched.Fetched.TheVariants.{Bits, Missing}
use Rattle.clic_select.specs.Top.{top}
use Rattle.hart_board.specs.State.{State}
use Rattle.chain_moves.specs.Servicing.{is_foreground, innermost_level}
use Rattle.chain_moves.specs.Enter.{word_or_zero}
use Rattle.chain_moves.specs.Body.{is_long_at}
use Rattle.chain_moves.specs.Cost.{is_fused}
use Rattle.chain_moves.specs.Judge.{judge_body, claims_above, judge_fused, judge_leave}
use Rattle.chain_moves.specs.Watched.{Watched, outside_of}
use Rattle.chain_moves.specs.declared.mark.Mark.{Mark}
use Rattle.chain_moves.specs.declared.dispatcher.Dispatcher.{Dispatcher}
use Rattle.chain_moves.specs.declared.moves.Move.TheVariants.{Leave as LeaveMove}
use Rattle.chain_moves.specs.declared.turn.Turn.TheVariants.{Body}

-- ---- long instructions
abbrev long_of : Fetched → ℕ → Bool
long_of (Bits bits length) pc = length == 4
long_of (Missing at) pc = not (at == pc)

by_second : (o : Option ℕ) (low pc : ℕ) → pc < 2 ^ 32 → long_of (fetched_second o low (word (pc + 2))) pc ≡ true
by_second (Some high) low pc l = refl
by_second None low pc l = let other : (word (pc + 2) == pc) ≡ false = other_half pc l in ap not other
  where
    other_half : (pc : ℕ) → pc < 2 ^ 32 → (word (pc + 2) == pc) ≡ false
    other_half pc l = grind (arith, nat_tests)

by_length : (b : Bool) (m : Memory) (low pc : ℕ) → pc < 2 ^ 32 → long_of (fetched_length b m low pc) pc ≡ b
by_length false m low pc l = refl
by_length true m low pc l = by_second (loaded m (word (pc + 2)) 2) low pc l

same : (n : ℕ) → (n == n) ≡ true
same n = grind (arith, nat_tests)

by_first : (o : Option ℕ) (m : Memory) (pc : ℕ) → pc < 2 ^ 32 → long_of (fetched_first o m pc) pc ≡ is_long (word_or_zero o)
by_first None m pc l = ap not (same pc)
by_first (Some low) m pc l = by_length (is_long low) m low pc l

long_is : (m : Memory) (pc : ℕ) → pc < 2 ^ 32 → long_of (fetched m pc) pc ≡ is_long_at m pc
unfolding fetched
long_is m pc l = by_first (loaded m pc 2) m pc l

pub long_word : (m : Memory) (pc bits length : ℕ) → pc < 2 ^ 32 → Bits bits length ≡ fetched m pc → (length == 4) ≡ is_long_at m pc
long_word m pc bits length l e = ap (λ f. long_of f pc) e ∙ long_is m pc l

pub long_half : (m : Memory) (pc at : ℕ) → pc < 2 ^ 32 → Missing at ≡ fetched m pc → not (at == pc) ≡ is_long_at m pc
long_half m pc at l e = ap (λ f. long_of f pc) e ∙ long_is m pc l

-- ---- where no Enter is due
pub leave_outer : (d : Dispatcher) (b : State) (w : Watched) (live : List Mark) (at_back : Bool) → is_foreground live ≡ true → judge_leave d b w live at_back ≡ Body (judge_body b w)
leave_outer d b w [] at_back e = refl
leave_outer d b w (v ∷ vs) at_back e = absurd (true≢false (sym e))

pub leave_elsewhere : (d : Dispatcher) (b : State) (w : Watched) (live : List Mark) (at_back : Bool) → at_back ≡ false → judge_leave d b w live at_back ≡ Body (judge_body b w)
leave_elsewhere d b w [] at_back e = refl
leave_elsewhere d b w (v ∷ vs) at_back e = ap (judge_leave d b w (v ∷ vs)) e

pub leave_here : (d : Dispatcher) (b : State) (w : Watched) (live : List Mark) (at_back : Bool) → is_foreground live ≡ false → at_back ≡ true
    → judge_leave d b w live at_back ≡ judge_fused b w (outside_of live) (top b.outside.clic) (is_fused d LeaveMove (claims_above (top b.outside.clic) (innermost_level (outside_of live)) b.csrs.th))
leave_here d b w [] at_back f e = absurd (true≢false f)
leave_here d b w (v ∷ vs) at_back f e = ap (judge_leave d b w (v ∷ vs)) e

pub some_live : (live : List Mark) → is_foreground live ≡ false → 0 < length live
some_live [] e = absurd (true≢false e)
some_live (v ∷ vs) e = omega arith
