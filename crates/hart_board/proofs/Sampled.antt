-- The inputs of the device follow its lines, and the others stay.
use Rattle.std.proofs.Common.{◌≡◌, ℕ, zero, suc, ◌+◌, ◌<◌, ◌≤◌, ◌⊎◌, inl, inr, Bool, false, List, [], ◌∷◌, length, get_or, refl, ap, ◌∙◌, arith, length-set}
use Rattle.std.proofs.lemmas.List.{get_or-set_same, get_or-set_other}
use Rattle.device_model.specs.Meanings.{Meanings}
use Rattle.clic_regs.specs.ClicState.{ClicState, line_of}
use Rattle.clic_regs.specs.LineChange.{line_changed}
use Rattle.hart_board.specs.State.{Outside}
use Rattle.hart_board.specs.Outside.{lines_set, with_device}
use Rattle.hart_board.specs.declared.outside.TheConstants.{FIRST_DEVICE_INPUT}

change_elsewhere : (c : ClicState) (i j : ℕ) (high : Bool) → (j ≡ i → ⊥) → line_of (line_changed c i high) j ≡ line_of c j
unfolding line_changed
change_elsewhere c i j high n = get_or-set_other c.line i j high false n

change_here : (c : ClicState) (i : ℕ) (high : Bool) → i < length c.line → line_of (line_changed c i high) i ≡ high
unfolding line_changed
change_here c i high l = get_or-set_same c.line i high false l

change_length : (c : ClicState) (i : ℕ) (high : Bool) → length (line_changed c i high).line ≡ length c.line
unfolding line_changed
change_length c i high = length-set c.line i high

pub other_lines : (lines : List Bool) (i j : ℕ) (c : ClicState) → (j < i) ⊎ (i + length lines ≤ j) → line_of (lines_set i lines c) j ≡ line_of c j
unfolding lines_set
other_lines [] i j c apart = refl
other_lines (high ∷ lines) i j c (inl below) = other_lines lines (i + 1) j (line_changed c i high) (inl (omega (arith, below))) ∙ change_elsewhere c i j high (λ e. omega (arith, e, below))
other_lines (high ∷ lines) i j c (inr past) = other_lines lines (i + 1) j (line_changed c i high) (inr (omega (arith, past))) ∙ change_elsewhere c i j high (λ e. omega (arith, e, past))

pub own_lines : (lines : List Bool) (i k : ℕ) (c : ClicState) → k < length lines → i + length lines ≤ length c.line → line_of (lines_set i lines c) (i + k) ≡ get_or lines k false
unfolding lines_set
own_lines [] i k c l fits = absurd (omega arith)
own_lines (high ∷ lines) i zero c l fits =
    let at : i + 0 ≡ i = omega arith in
    ap (λ n. line_of (lines_set (i + 1) lines (line_changed c i high)) n) at
    ∙ other_lines lines (i + 1) i (line_changed c i high) (inl (omega arith))
    ∙ change_here c i high (omega (arith, fits))
own_lines (high ∷ lines) i (suc k) c l fits =
    let at : i + suc k ≡ i + 1 + k = omega arith in
    ap (λ n. line_of (lines_set (i + 1) lines (line_changed c i high)) n) at
    ∙ own_lines lines (i + 1) k (line_changed c i high) (omega (arith, l)) (let n = change_length c i high in omega (arith, fits, n))

pub device_lines : (m : Meanings) (o : Outside) (device : List ℕ) (k : ℕ) → k < length (m.lines device) → FIRST_DEVICE_INPUT + length (m.lines device) ≤ length o.clic.line → line_of (with_device m o device).clic (FIRST_DEVICE_INPUT + k) ≡ get_or (m.lines device) k false
unfolding with_device
device_lines m o device k l fits = own_lines (m.lines device) FIRST_DEVICE_INPUT k o.clic l fits

pub device_other_lines : (m : Meanings) (o : Outside) (device : List ℕ) (i : ℕ) → (i < FIRST_DEVICE_INPUT) ⊎ (FIRST_DEVICE_INPUT + length (m.lines device) ≤ i) → line_of (with_device m o device).clic i ≡ line_of o.clic i
unfolding with_device
device_other_lines m o device i apart = other_lines (m.lines device) FIRST_DEVICE_INPUT i o.clic apart
