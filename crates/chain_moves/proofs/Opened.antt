-- Bodies in the open, and which move is due.
use Rattle.std.proofs.Common.{◌≡◌, ℕ, ◌+◌, ◌<◌, ◌≤◌, ◌⊎◌, inl, inr, Bool, true, false, List, [], ◌∷◌, length, nat_le, Option, Some, None, refl, sym, ap, ap₂, ◌∙◌, subst, arith}
use Rattle.std.specs.Prelude.{◌&&◌, ◌||◌, ◌==◌, not}
use Rattle.std.proofs.lemmas.Bool.{true≢false, false≢true, leb-true}
use Rattle.std.proofs.lemmas.Bool.Decides.{nat_tests}
use Rattle.hart_words.specs.TwosComplement.{word}
use Rattle.hart_memory.specs.Place.{is_in_memory}
use Rattle.hart_memory.specs.Fetch.{fetched}
use Rattle.hart_memory.proofs.PlaceLemmas.{place_rom}
use Rattle.clic_select.specs.Top.{top}
use Rattle.clic_select.specs.declared.choice.Choice.{Choice}
use Rattle.clic_trap.specs.Due.{due}
use Rattle.hart_board.specs.State.{State}
use Rattle.hart_board.specs.Prepared.{IsPrepared}
use Rattle.hart_board.specs.declared.prepared.Prepared.{Prepared}
use Rattle.rv_encoding.specs.System.{is_system}
use Rattle.rv_encoding.specs.declared.instruction.Ins.{Ins}
use Rattle.rv_encoding.specs.declared.instruction.Ins.TheVariants.{Lui, Auipc, Jal, Jalr, Branch, Load as LoadIns, Store as StoreIns, Imm, Reg, Fence, Ecall, Ebreak, Mret, Wfi, Csr}
use Rattle.hart_exec.specs.Access.{IsWidth}
use Rattle.hart_exec.specs.Bounds.{HasWidth}
use Rattle.hart_exec.specs.Effect.{effect}
use Rattle.hart_exec.specs.declared.effect.Effect.{Effect}
use Rattle.hart_exec.specs.declared.effect.Effect.TheVariants.{Go, Load, Store, System}
use Rattle.hart_exec.proofs.Effects.{effect_has_width, effect_is_system}
use Rattle.chain_moves.specs.Convention.{is_permitted}
use Rattle.chain_moves.specs.declared.broken.Broken.TheVariants.{CsrTouched}
use Rattle.chain_moves.specs.Slot.{in_slot, back}
use Rattle.chain_moves.specs.Servicing.{is_foreground, innermost_level}
use Rattle.chain_moves.specs.Bytes.{some_byte, is_hidden}
use Rattle.chain_moves.specs.Body.{is_long_at}
use Rattle.chain_moves.specs.Tests.{first_broken, half_tests, first_tests, second_tests, instruction_tests}
use Rattle.chain_moves.specs.Cost.{is_fused}
use Rattle.chain_moves.specs.Judge.{refused_or, judge_effect, judge_instruction, HasBytes, judge_fetched, judge_body, claims_above, judge_fused, judge_leave, judge_due, judge_turn}
use Rattle.chain_moves.specs.Ready.{verdict_by, is_open, is_body_due}
use Rattle.chain_moves.specs.Watched.{Watched, outside_of}
use Rattle.chain_moves.specs.declared.broken.Broken.{Broken}
use Rattle.chain_moves.specs.declared.dispatcher.Dispatcher.{Dispatcher}
use Rattle.chain_moves.specs.declared.moves.Move.TheVariants.{Leave as LeaveMove}
use Rattle.chain_moves.specs.declared.turn.Turn.TheVariants.{Body}
use Rattle.chain_moves.specs.declared.verdict.Verdict.{Verdict}
use Rattle.chain_moves.proofs.Fetching.{leave_outer, leave_elsewhere, leave_here, some_live}

-- ---- in the open

-- so many bytes from an address on are in ROM, outside the slot
record IsClear (at count : ℕ) : Type 0 where
  pub low : at + count ≤ 0x1_0000
  pub aside : (0xC0 ≤ at) ⊎ (at + count ≤ 0x40)

clear_by : (a b c : Bool) (at : ℕ) → nat_le 0xC0 at ≡ a → nat_le at 0xFFFC ≡ b → nat_le at 0x3C ≡ c → ((a && b) || c) ≡ true → IsClear at 4
clear_by true true c at e f g h =
    let l = leb-true 0xC0 at e in
    let u = leb-true at 0xFFFC f in
    record { low = omega (arith, u); aside = inl l }
clear_by true false true at e f g h = let u = leb-true at 0x3C g in record { low = omega (arith, u); aside = inr (omega (arith, u)) }
clear_by false b true at e f g h = let u = leb-true at 0x3C g in record { low = omega (arith, u); aside = inr (omega (arith, u)) }
clear_by true false false at e f g h = absurd (false≢true h)
clear_by false b false at e f g h = absurd (false≢true h)

clear : (at : ℕ) → is_open at ≡ true → IsClear at 4
clear at h = clear_by (nat_le 0xC0 at) (nat_le at 0xFFFC) (nat_le at 0x3C) at refl refl refl h

apart : (at : ℕ) → at < 0x1_0000 → (0xC0 ≤ at) ⊎ (at < 0x40) → in_slot at ≡ false
apart at l s = grind (arith, nat_tests)

shown : (dead : List Bool) (at : ℕ) → at < 0x1_0000 → (0xC0 ≤ at) ⊎ (at < 0x40) → is_hidden dead at ≡ false
shown dead at l s =
    let rom : nat_le 0x2000_0000 at ≡ false = grind (arith, nat_tests) in
    rw (apart at l s, rom) refl

-- the place may be another, and the bytes fewer, where they are among these
within : (at count j n : ℕ) → IsClear at count → at ≤ j → j + n ≤ at + count → IsClear j n
within at count j n h l u = record { low = omega (arith, l, u, h.low); aside = aside_of h.aside }
  where
    aside_of : (0xC0 ≤ at) ⊎ (at + count ≤ 0x40) → (0xC0 ≤ j) ⊎ (j + n ≤ 0x40)
    aside_of (inl o) = inl (omega (arith, o, l))
    aside_of (inr o) = inr (omega (arith, o, u))

one : (at : ℕ) → (0xC0 ≤ at) ⊎ (at + 1 ≤ 0x40) → (0xC0 ≤ at) ⊎ (at < 0x40)
one at (inl o) = inl o
one at (inr o) = inr (omega (arith, o))

hides_none : (dead : List Bool) (at : ℕ) → IsClear at 1 → is_hidden dead at ≡ false
hides_none dead at h = shown dead at (omega (arith, h.low)) (one at h.aside)

both_shown : (dead : List Bool) (at : ℕ) → IsClear at 2 → some_byte (is_hidden dead) at 2 ≡ false
unfolding some_byte
both_shown dead at h =
    ap₂ (λ b c. b || (c || false)) (hides_none dead at (within at 2 at 1 h (omega arith) (omega arith))) (hides_none dead (at + 1) (within at 2 (at + 1) 1 h (omega arith) (omega arith)))

neither : (a b : Bool) (x y : Broken) → a ≡ false → b ≡ false → first_broken ((a, x) ∷ (b, y) ∷ []) ≡ None
unfolding first_broken
neither true b x y e f = absurd (true≢false e)
neither false true x y e f = absurd (true≢false f)
neither false false x y e f = refl

half_untested : (dead : List Bool) (at : ℕ) → IsClear at 2 → first_broken (half_tests dead at) ≡ None
half_untested dead at h = neither _ _ _ _ (ap (λ p. not (is_in_memory p)) (place_rom at 2 h.low)) (both_shown dead at h)

first_untested : (dead : List Bool) (pc : ℕ) → IsClear pc 4 → first_broken (first_tests dead pc) ≡ None
unfolding first_broken
first_untested dead pc h =
    let here = within pc 4 pc 1 h (omega arith) (omega arith) in
    rw (apart pc (omega (arith, here.low)) (one pc here.aside))
    (half_untested dead pc (within pc 4 pc 2 h (omega arith) (omega arith)))

second_untested : (long : Bool) (dead : List Bool) (pc : ℕ) → IsClear pc 4 → first_broken (second_tests long dead pc) ≡ None
unfolding first_broken
second_untested false dead pc h = refl
second_untested true dead pc h =
    let next : word (pc + 2) ≡ pc + 2 = omega (arith, h.low) in
    half_untested dead (word (pc + 2)) (within pc 4 (word (pc + 2)) 2 h (omega (arith, next)) (omega (arith, next)))

-- no test of the half-words holds
pub first_open : (dead : List Bool) (pc : ℕ) → is_open pc ≡ true → first_broken (first_tests dead pc) ≡ None
first_open dead pc h = first_untested dead pc (clear pc h)

pub second_open : (long : Bool) (dead : List Bool) (pc : ℕ) → is_open pc ≡ true → first_broken (second_tests long dead pc) ≡ None
second_open long dead pc h = second_untested long dead pc (clear pc h)

untested : (b : State) (w : Watched) → is_open b.pc ≡ true → judge_body b w ≡ judge_fetched b w (fetched b.memory b.pc)
unfolding judge_body
untested b w h =
    let second = refused_or (first_broken (second_tests (is_long_at b.memory b.pc) w.dead b.pc)) (judge_fetched b w (fetched b.memory b.pc)) in
    ap (λ t. refused_or t second) (first_open w.dead b.pc h)
    ∙ ap (λ t. refused_or t (judge_fetched b w (fetched b.memory b.pc))) (second_open (is_long_at b.memory b.pc) w.dead b.pc h)

pub judged_open : (b : State) (w : Watched) (v : Verdict) → is_open b.pc ≡ true → v ≡ judge_fetched b w (fetched b.memory b.pc) → v ≡ judge_body b w
judged_open b w v h e = e ∙ sym (untested b w h)

-- ---- an instruction that is known

permitted : (f : Bool) (i : Ins) → is_system i ≡ false → is_permitted f i ≡ true
permitted f (Lui rd imm) e = refl
permitted f (Auipc rd imm) e = refl
permitted f (Jal rd offset) e = refl
permitted f (Jalr rd rs1 imm) e = refl
permitted f (Branch op rs1 rs2 offset) e = refl
permitted f (LoadIns op rd rs1 imm) e = refl
permitted f (StoreIns op rs1 rs2 imm) e = refl
permitted f (Imm op rd rs1 imm) e = refl
permitted f (Reg op rd rs1 rs2) e = refl
permitted f (Fence pred succ) e = refl
permitted f Ecall e = refl
permitted f Ebreak e = refl
permitted f Wfi e = refl
permitted f Mret e = absurd (true≢false e)
permitted f (Csr op rd source csr) e = absurd (true≢false e)

passed : (b : Bool) (x : Broken) → b ≡ true → first_broken ((not b, x) ∷ []) ≡ None
unfolding first_broken
passed true x e = refl
passed false x e = absurd (false≢true e)

not_true : (b : Bool) → (b ≡ true → ⊥) → b ≡ false
not_true true n = absurd (n refl)
not_true false n = refl

module _ (b : State) (w : Watched) (p : Prepared) (h : IsPrepared b p) where
  by_tests : (t : Option Broken) → first_broken (instruction_tests w.live h.ins) ≡ t → refused_or t (judge_effect w p.effect) ≡ judge_fetched b w (fetched b.memory b.pc)
  by_tests t e =
      ap (λ x. refused_or t (judge_effect w x)) h.is_effect
      ∙ sym (ap (λ x. refused_or x (judge_effect w (effect h.ins p.encoding.length b.registers b.pc))) e)
      ∙ sym (ap (judge_instruction b w p.encoding.length) h.is_spelled)
      ∙ ap (judge_fetched b w) h.is_fetched

  -- it is left to the system
  pub judged_left : (t : Option Broken) → p.effect ≡ System → t ≡ first_broken (instruction_tests w.live h.ins) → refused_or t (verdict_by p.effect) ≡ judge_fetched b w (fetched b.memory b.pc)
  judged_left t is e = ap (refused_or t) (ap verdict_by is ∙ sym (ap (judge_effect w) is)) ∙ by_tests t (sym e)

  -- it isn't
  pub judged_plain : (p.effect ≡ System → ⊥) → judge_effect w p.effect ≡ judge_fetched b w (fetched b.memory b.pc)
  judged_plain n =
      let plain = not_true (is_system h.ins) (λ (e : is_system h.ins ≡ true). n (h.is_effect ∙ (effect_is_system h.ins p.encoding.length b.registers b.pc).1 e)) in
      by_tests None (passed (is_permitted (is_foreground w.live) h.ins) CsrTouched (permitted (is_foreground w.live) h.ins plain))

bytes_by : (e : Effect) → HasWidth e → HasBytes e
bytes_by (Go rd value target) h = tt
bytes_by (Load rd at width signed) h = width_some width h
  where
    width_some : (n : ℕ) → IsWidth n → 0 < n
    width_some n l = omega (arith, l)
bytes_by (Store at width value) h = width_some width h
  where
    width_some : (n : ℕ) → IsWidth n → 0 < n
    width_some n l = omega (arith, l)
bytes_by System h = tt

pub prepared_bytes : (b : State) (p : Prepared) → IsPrepared b p → HasBytes p.effect
prepared_bytes b p h = bytes_by p.effect (subst HasWidth (sym h.is_effect) (effect_has_width h.ins p.encoding.length b.registers b.pc))

-- ---- which move is due

calm_by : (d f at : Bool) → (not d && (not at || f)) ≡ true → d ≡ false
calm_by true f at h = absurd (false≢true h)
calm_by false f at h = refl

pub body_calm : (b : State) (w : Watched) → is_body_due b w ≡ true → due b.csrs (top b.outside.clic) ≡ false
body_calm b w h = calm_by (due b.csrs (top b.outside.clic)) (is_foreground w.live) (b.pc == back) h

stays_by : (d f at : Bool) → (not d && (not at || f)) ≡ true → (f ≡ true) ⊎ (at ≡ false)
stays_by true f at h = absurd (false≢true h)
stays_by false true at h = inl refl
stays_by false false true h = absurd (false≢true h)
stays_by false false false h = inr refl

module _ (d : Dispatcher) (b : State) (w : Watched) where
  no_leave : (is_foreground w.live ≡ true) ⊎ ((b.pc == back) ≡ false) → judge_leave d b w w.live (b.pc == back) ≡ Body (judge_body b w)
  no_leave (inl f) = leave_outer d b w w.live (b.pc == back) f
  no_leave (inr at) = leave_elsewhere d b w w.live (b.pc == back) at

  no_enter : (o : Option Choice) (enters : Bool) → enters ≡ false → judge_due d b w o enters ≡ judge_leave d b w w.live (b.pc == back)
  no_enter (Some t) enters e = ap (judge_due d b w (Some t)) e
  no_enter None enters e = refl

  pub body_turn : is_body_due b w ≡ true → judge_turn d b w ≡ Body (judge_body b w)
  unfolding judge_turn
  body_turn h =
      no_enter (top b.outside.clic) (due b.csrs (top b.outside.clic)) (body_calm b w h)
      ∙ no_leave (stays_by (due b.csrs (top b.outside.clic)) (is_foreground w.live) (b.pc == back) h)

-- ---- where no body is

left_by : (d f at : Bool) → d ≡ false → (not d && (not at || f)) ≡ false → (f ≡ false) × (at ≡ true)
left_by true f at e h = absurd (true≢false e)
left_by false true true e h = absurd (true≢false h)
left_by false true false e h = absurd (true≢false h)
left_by false false true e h = (refl, refl)
left_by false false false e h = absurd (true≢false h)

module _ (d : Dispatcher) (b : State) (w : Watched) (calm : due b.csrs (top b.outside.clic) ≡ false) (other : is_body_due b w ≡ false) where
  parts : (is_foreground w.live ≡ false) × ((b.pc == back) ≡ true)
  parts = left_by (due b.csrs (top b.outside.clic)) (is_foreground w.live) (b.pc == back) calm other

  pub leaves_some : 0 < length w.live
  leaves_some = some_live w.live parts.0

  pub leaves : judge_leave d b w w.live (b.pc == back)
      ≡ judge_fused b w (outside_of w.live) (top b.outside.clic) (is_fused d LeaveMove (claims_above (top b.outside.clic) (innermost_level (outside_of w.live)) b.csrs.th))
  leaves = leave_here d b w w.live (b.pc == back) parts.0 parts.1
