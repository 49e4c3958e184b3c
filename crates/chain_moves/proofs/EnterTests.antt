-- What the tests of an Enter say where none of them holds.
use Rattle.std.proofs.Common.{◌≡◌, ◌≢◌, ℕ, ◌+◌, ◌%◌, ◌<◌, ◌≤◌, ◌==◌, Bool, true, false, not, List, None, arith}
use Rattle.std.proofs.lemmas.Bool.{not-false}
use Rattle.std.proofs.lemmas.Bool.Decides.{nat_tests}
use Rattle.hart_memory.specs.Place.{holds, is_in_ram}
use Rattle.hart_memory.specs.declared.address_map.TheConstants.{RAM_BASE, BANK_LEN}
use Rattle.chain_moves.specs.Slot.{base, frame_size}
use Rattle.chain_moves.specs.Bytes.{is_hidden, in_frame, in_live_frame}
use Rattle.chain_moves.specs.Tests.{first_broken, enter_tests}
use Rattle.chain_moves.specs.declared.mark.Mark.{Mark}
use Rattle.chain_moves.proofs.Marking.{none_of}
use Rattle.chain_moves.proofs.Nested.{passed}

pub record MayEnter (live : List Mark) (dead : List Bool) (shv : Bool) (vector frame at : ℕ) : Type 0 where
  pub soft : shv ≡ false
  pub vector_is : vector ≡ base
  pub aligned : frame % 4 ≡ 0
  pub low : RAM_BASE ≤ frame
  pub high : frame + frame_size ≤ RAM_BASE + BANK_LEN
  pub apart : (j : ℕ) → frame ≤ j → j < frame + frame_size → in_live_frame live j ≡ false
  pub nonzero : at ≢ 0
  pub held : holds at 4 ≡ true
  pub seen : (j : ℕ) → at ≤ j → j < at + 4 → is_hidden dead j ≡ false
  pub beside : (j : ℕ) → at ≤ j → j < at + 4 → in_frame frame j ≡ false

equal : (a b : ℕ) → not (a == b) ≡ false → a ≡ b
equal a b e = grind (arith, nat_tests)

other : (a b : ℕ) → (a == b) ≡ false → a ≢ b
other a b e = grind (arith, nat_tests)

lies : (a : ℕ) → not (is_in_ram a frame_size) ≡ false → (RAM_BASE ≤ a) × (a + frame_size ≤ RAM_BASE + BANK_LEN)
lies a e = grind (arith, nat_tests)

pub may_enter : (live : List Mark) (dead : List Bool) (shv : Bool) (vector frame at : ℕ) → first_broken (enter_tests live dead shv vector frame at) ≡ None → MayEnter live dead shv vector frame at
may_enter live dead shv vector frame at e =
    let a = passed _ _ _ e in
    let b = passed _ _ _ a.1 in
    let c = passed _ _ _ b.1 in
    let d = passed _ _ _ c.1 in
    let f = passed _ _ _ d.1 in
    let g = passed _ _ _ f.1 in
    let h = passed _ _ _ g.1 in
    let i = passed _ _ _ h.1 in
    let k = passed _ _ _ i.1 in
    let in_ram = lies frame d.0 in
    record {
      soft = a.0;
      vector_is = equal vector base b.0;
      aligned = equal (frame % 4) 0 c.0;
      low = in_ram.0;
      high = in_ram.1;
      apart = none_of _ _ _ f.0;
      nonzero = other at 0 g.0;
      held = not-false _ h.0;
      seen = none_of _ _ _ i.0;
      beside = none_of _ _ _ k.0;
    }
