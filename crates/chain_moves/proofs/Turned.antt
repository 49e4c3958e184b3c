-- A list of marks from its end: the innermost service stands last in the vector, and first in the list.
use Rattle.std.proofs.Common.{◌≡◌, ℕ, ◌+◌, ◌-◌, ◌<◌, ◌≤◌, Bool, true, false, List, [], ◌∷◌, ◌++◌, reverse, length, get_or, take, refl, sym, ap, ◌∙◌, arith, length-take}
use Rattle.std.specs.Prelude.{not, ◌&&◌, ◌==◌}
use Rattle.std.proofs.lemmas.Bool.{true≢false}
use Rattle.std.proofs.lemmas.List.{take_more, take_all, reverse-append, get_or-take}
use Rattle.chain_moves.specs.Slot.{back}
use Rattle.chain_moves.specs.Servicing.{is_foreground, innermost_level}
use Rattle.chain_moves.specs.Enter.{pointer_by}
use Rattle.chain_moves.specs.Tests.{are_kept, is_lost}
use Rattle.chain_moves.specs.Watched.{outside_of}
use Rattle.chain_moves.specs.declared.mark.Mark.{Mark}

last_first : (ms : List Mark) (d : Mark) → 0 < length ms → reverse ms ≡ get_or ms (length ms - 1) d ∷ reverse (take (length ms - 1) ms)
last_first ms d some =
    let n = length ms - 1 in
    let whole : n + 1 ≡ length ms = omega arith in
    let split : ms ≡ take n ms ++ get_or ms n d ∷ [] = sym (ap (λ k. take k ms) whole ∙ take_all (length ms) ms (omega arith)) ∙ take_more ms n d (omega arith) in
    ap reverse split ∙ reverse-append (take n ms) (get_or ms n d ∷ [])

pub outside : (ms : List Mark) → 0 < length ms → reverse (take (length ms - 1) ms) ≡ outside_of (reverse ms)
outside ms some = sym (ap outside_of (last_first ms (record { level = 0; frame = 0; kept = [] }) some))

nothing : (ms : List Mark) → length ms ≡ 0 → ms ≡ []
nothing [] e = refl
nothing (m ∷ ms) e = absurd (omega arith)

pub lost_none : (ms : List Mark) (pc : ℕ) (registers : List ℕ) → length ms ≡ 0 → is_lost (reverse ms) pc registers ≡ false
unfolding is_lost
lost_none ms pc registers e = ap (λ l. is_lost (reverse l) pc registers) (nothing ms e)

pub lost_some : (ms : List Mark) (d : Mark) (pc : ℕ) (registers : List ℕ) → 0 < length ms → is_lost (reverse ms) pc registers ≡ ((pc == back) && not (are_kept (get_or ms (length ms - 1) d).kept registers 32))
unfolding is_lost
lost_some ms d pc registers some = ap (λ l. is_lost l pc registers) (last_first ms d some)

pub level_none : (ms : List Mark) → length ms < 2 → innermost_level (outside_of (reverse ms)) ≡ 0
level_none [] l = refl
level_none (m ∷ []) l = refl
level_none (m ∷ n ∷ ms) l = absurd (omega arith)

first_level : (ms : List Mark) (d : Mark) → 0 < length ms → innermost_level (reverse ms) ≡ (get_or ms (length ms - 1) d).level
first_level ms d some = ap innermost_level (last_first ms d some)

pub level_some : (ms : List Mark) (d : Mark) → 2 ≤ length ms → innermost_level (outside_of (reverse ms)) ≡ (get_or ms (length ms - 2) d).level
level_some ms d two =
    let n = length ms - 1 in
    let short : length (take n ms) ≡ n = omega (arith, length-take n ms) in
    let place : length (take n ms) - 1 ≡ length ms - 2 = omega (arith, short) in
    ap innermost_level (sym (outside ms (omega arith)))
    ∙ (first_level (take n ms) d (omega (arith, short))
    ∙ (ap (λ k. (get_or (take n ms) k d).level) place
    ∙ ap (λ m. m.level) (get_or-take n ms (length ms - 2) d (omega arith))))

lost_by : (l : List Mark) (pc : ℕ) (registers : List ℕ) → (pc == back) ≡ false → is_lost l pc registers ≡ false
unfolding is_lost
lost_by [] pc registers e = refl
lost_by (m ∷ l) pc registers e = ap (λ b. b && not (are_kept m.kept registers 32)) e

pub lost_elsewhere : (ms : List Mark) (pc : ℕ) (registers : List ℕ) → (pc == back) ≡ false → is_lost (reverse ms) pc registers ≡ false
lost_elsewhere ms pc registers e = lost_by (reverse ms) pc registers e

pub lost_here : (ms : List Mark) (d : Mark) (pc : ℕ) (registers : List ℕ) (kept : Bool) → 0 < length ms → (pc == back) ≡ true → kept ≡ are_kept (get_or ms (length ms - 1) d).kept registers 32 → not kept ≡ is_lost (reverse ms) pc registers
lost_here ms d pc registers kept some e k = ap not k ∙ (sym (ap (λ b. b && not (are_kept (get_or ms (length ms - 1) d).kept registers 32)) e) ∙ sym (lost_some ms d pc registers some))

pub popped : (old new : List Mark) (m : Mark) → old ≡ new ++ m ∷ [] → outside_of (reverse old) ≡ reverse new
popped old new m e = ap (λ l. outside_of (reverse l)) e ∙ ap outside_of (reverse-append new (m ∷ []))

-- ---- the pointer
pub pointer_outer : (live : List Mark) (sp scratch : ℕ) → is_foreground live ≡ true → pointer_by live sp scratch ≡ scratch
pointer_outer [] sp scratch e = refl
pointer_outer (v ∷ vs) sp scratch e = absurd (true≢false (sym e))

pub pointer_inner : (live : List Mark) (sp scratch : ℕ) → is_foreground live ≡ false → pointer_by live sp scratch ≡ sp
pointer_inner [] sp scratch e = absurd (true≢false e)
pointer_inner (v ∷ vs) sp scratch e = refl
