-- One line of the report after another.
use Rattle.std.proofs.Common.{◌≡◌, ℕ, ◌+◌, ◌-◌, ◌<◌, suc, List, [], ◌++◌, arith, refl, subst, Bool, false, Result, Ok, Err}
use Rattle.std.proofs.lemmas.Bool.{false≢true}
use Rattle.std.specs.Result.{IsErr, is_ok}
use Rattle.board_outside.specs.Sink.{SinkView, Writes}
use Rattle.hart_report.specs.Hart.{register_line, register_lines}
use Rattle.hart_words.specs.Registers.{register}

-- an exit by `?`
pub stopped : {V E : Type 0} (r : Result V E) {o n : SinkView} {text : List ℕ} → IsErr r → Writes false o n text → Writes (is_ok r) o n text
stopped (Ok v) e p = absurd (false≢true e)
stopped (Err d) e p = p

-- the line of register i, and those after it
pub register_lines_step : (i : ℕ) (registers : List ℕ) → i < 32 → register_lines (32 - i) i registers ≡ register_line i (register registers i) ++ register_lines (32 - (i + 1)) (i + 1) registers
unfolding register_lines
register_lines_step i registers h = let e : 32 - i ≡ suc (32 - (i + 1)) = omega arith in rw e refl

pub no_register_lines : (i : ℕ) (registers : List ℕ) → 32 - i ≡ 0 → register_lines (32 - i) i registers ≡ []
unfolding register_lines
no_register_lines i registers e = rw e refl

-- one text in two spellings
pub same_text : {r : Bool} {o n : SinkView} {a b : List ℕ} → a ≡ b → Writes r o n a → Writes r o n b
same_text {r = r} {o = o} {n = n} e p = subst (λ t. Writes r o n t) e p
