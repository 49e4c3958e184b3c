-- A Leave and the Enter straight after it, where the board goes on with the frame that stands.
use Rattle.std.proofs.Common.{◌≡◌, ℕ, ◌+◌, ◌-◌, ◌^◌, ◌<◌, ◌≤◌, true, List, [], ◌∷◌, Option, Some, None, refl, sym, ap, ◌∙◌, subst, arith}
use Rattle.std.specs.Prelude.{◌&&◌}
use Rattle.device_model.specs.Meanings.{Meanings, IsSound as IsSoundDevice}
use Rattle.hart_words.specs.TwosComplement.{word}
use Rattle.hart_words.specs.Registers.{register}
use Rattle.hart_memory.specs.Bytes.{number_at}
use Rattle.hart_memory.specs.declared.address_map.TheConstants.{RAM_BASE, BANK_LEN}
use Rattle.clic_select.specs.Top.{top}
use Rattle.clic_select.specs.declared.choice.Choice.{Choice}
use Rattle.clic_trap.specs.Due.{has_top_above, is_above}
use Rattle.hart_board.specs.State.{Outside}
use Rattle.chain_moves.specs.Slot.{back, frame_size}
use Rattle.chain_moves.specs.Servicing.{Live, Servicing, marks, innermost_level}
use Rattle.chain_moves.specs.Leave.{raised_pointer, left}
use Rattle.chain_moves.specs.Enter.{is_enter_due, new_frame, frame_below, entered}
use Rattle.chain_moves.specs.Moves.{claims, claims_by}
use Rattle.chain_moves.specs.Judge.{claims_above}
use Rattle.chain_moves.specs.Agreement.{Frame, Frames, place_of}
use Rattle.chain_moves.specs.Beside.{Rest}
use Rattle.chain_moves.specs.Related.{Ons, Related}
use Rattle.chain_moves.specs.declared.dispatcher.Dispatcher.{Dispatcher}
use Rattle.chain_moves.proofs.Memories.{IsFramed}
use Rattle.chain_moves.proofs.Registers.{brings}
use Rattle.chain_moves.proofs.Leaves.{left_live, left_pc, left_unmoved, same_pointer, left_related}
use Rattle.chain_moves.proofs.Enters.{IsUntested, entered_related}

-- the new frame is the one that stands
lowered : (sp f : ℕ) → sp ≡ f → f < 2 ^ 32 → word (word (sp + 32) + (2 ^ 32 - 32)) ≡ f
lowered sp f e l = omega arith

frame-lt : (f : ℕ) → f + frame_size ≤ RAM_BASE + BANK_LEN → f < 2 ^ 32
frame-lt f h = omega arith

-- an Enter is due straight after a Leave to a level where the top is above it
due_left : (s : Servicing) (v : Live) (vs : List Live) (o : Option Choice) → s.on ≡ true → is_enter_due (left s v vs) o ≡ has_top_above o (innermost_level (marks vs)) s.threshold
unfolding left is_enter_due marks
due_left s v [] o on = ap (λ b. b && has_top_above o 0 s.threshold) on
due_left s v (w ∷ ws) o on = refl

claims_same : (o : Option Choice) (level threshold : ℕ) → claims_by o (has_top_above o level threshold) ≡ claims_above o level threshold
claims_same None level threshold = refl
claims_same (Some t) level threshold = refl

-- ra, a0, a1 and the new frame straight after the Leave
record Left (s : Servicing) (v : Live) (vs : List Live) : Type 0 where
  frame : new_frame (left s v vs) ≡ v.mark.frame
  ra : register (left s v vs).registers 1 ≡ v.ra
  a0 : register (left s v vs).registers 10 ≡ v.a0
  a1 : register (left s v vs).registers 11 ≡ v.a1

module _ (m : Meanings) (d : Dispatcher) (s : Servicing) (x : Rest) (h : Related m d s x) (at_back : s.pc ≡ back) where
  pub is_on : (v : Live) (vs : List Live) → s.live ≡ v ∷ vs → s.on ≡ true
  is_on v vs e = (subst (λ l. Ons l s.on s.was) e h.serves.ons).0

  pub due_after : (v : Live) (vs : List Live) (o : Option Choice) → s.live ≡ v ∷ vs → is_enter_due (left s v vs) o ≡ has_top_above o (innermost_level (marks vs)) s.threshold
  due_after v vs o e = due_left s v vs o (is_on v vs e)

  -- whether the Leave is fused can be read off before it
  pub claims_after : (v : Live) (vs : List Live) → s.live ≡ v ∷ vs → claims (left s v vs) ≡ claims_above (top s.outside.clic) (innermost_level (marks vs)) s.threshold
  unfolding claims
  claims_after v vs e =
      ap (λ (o : Outside). claims_by (top o.clic) (is_enter_due (left s v vs) (top o.clic))) (left_unmoved s v vs).outside
      ∙ (ap (claims_by (top s.outside.clic)) (due_after v vs (top s.outside.clic) e)
      ∙ claims_same (top s.outside.clic) (innermost_level (marks vs)) s.threshold)

  frame_by : (v : Live) (vs : List Live) → s.live ≡ v ∷ vs → Frame x.ram s.dead v (innermost_level (marks vs))
  unfolding marks
  frame_by v vs e = (subst (λ l. Frames x.ram s.dead l) e h.stands.frames).0

  has_left : (v : Live) (vs : List Live) → s.live ≡ v ∷ vs → Left s v vs
  unfolding left marks
  has_left v [] e =
      let r = brings s.registers v s.scratch h.serves.range.board.registers.count in
      record {
        frame = lowered (register s.registers 2) v.mark.frame (same_pointer m d s x h at_back v [] e) (frame-lt v.mark.frame (frame_by v [] e).high);
        ra = r.ra;
        a0 = r.a0;
        a1 = r.a1;
      }
  has_left v (w ∷ ws) e =
      let r = brings s.registers v (raised_pointer s.registers) h.serves.range.board.registers.count in
      record {
        frame = ap frame_below r.sp_is ∙ lowered (register s.registers 2) v.mark.frame (same_pointer m d s x h at_back v (w ∷ ws) e) (frame-lt v.mark.frame (frame_by v (w ∷ ws) e).high);
        ra = r.ra;
        a0 = r.a0;
        a1 = r.a1;
      }

  -- the new frame is where sp stands before the Leave
  pub new_frame_after : (v : Live) (vs : List Live) → s.live ≡ v ∷ vs → register s.registers 2 ≡ new_frame (left s v vs)
  new_frame_after v vs e = same_pointer m d s x h at_back v vs e ∙ sym (has_left v vs e).frame

  framed_again : (ram : List ℕ) (k k' ra ra' a0 a0' a1 a1' cause pc pc' : ℕ) → k ≡ k' → ra ≡ ra' → a0 ≡ a0' → a1 ≡ a1' → pc ≡ pc' → IsFramed ram k' ra' a0' a1' cause pc' ram → IsFramed ram k ra a0 a1 cause pc ram
  framed_again ram k k' ra ra' a0 a0' a1 a1' cause pc pc' ek er e0 e1 ep f =
      subst (λ q. IsFramed ram q ra a0 a1 cause pc ram) (sym ek)
      (subst (λ q. IsFramed ram k' q a0 a1 cause pc ram) (sym er)
      (subst (λ q. IsFramed ram k' ra' q a1 cause pc ram) (sym e0)
      (subst (λ q. IsFramed ram k' ra' a0' q cause pc ram) (sym e1)
      (subst (λ q. IsFramed ram k' ra' a0' a1' cause q ram) (sym ep) f))))

  -- the board's memory is as before, and its frame is the new service's
  pub fused_related : IsSoundDevice m → (v : Live) (vs : List Live) (t : Choice) → s.live ≡ v ∷ vs → IsUntested (left s v vs) t → top s.outside.clic ≡ Some t → is_above t (innermost_level (marks vs)) s.threshold ≡ true
      → (y : Rest) → y.rom ≡ x.rom → y.ram ≡ x.ram → Related m d (entered (left s v vs) t) y
  fused_related sound v vs t e untested is_top above y rom ram =
      let f = frame_by v vs e in
      let l = has_left v vs e in
      let cause = number_at x.ram (place_of v + 12) 4 in
      let z : Rest = record y { rom = x.rom; ram = x.ram } in
      let mid : Related m d (left s v vs) z = left_related m d s x h at_back sound v vs e z refl refl in
      let stands : IsFramed x.ram (place_of v) v.ra v.a0 v.a1 cause v.pc x.ram = record { long = refl; ra_is = λ q. f.ra; a0_is = λ q. f.a0; a1_is = λ q. f.a1; cause_is = λ q. refl; pc_is = λ q. f.pc; others = λ j o. refl } in
      let made = framed_again x.ram (new_frame (left s v vs) - RAM_BASE) (place_of v) (register (left s v vs).registers 1) v.ra (register (left s v vs).registers 10) v.a0 (register (left s v vs).registers 11) v.a1 cause (left s v vs).pc v.pc (ap (λ n. n - RAM_BASE) l.frame) l.ra l.a0 l.a1 (left_pc s v vs) stands in
      entered_related m d (left s v vs) z t mid untested cause f.cause f.enabled (f.level ∙ sym (ap (λ q. innermost_level (marks q)) (left_live s v vs))) y rom
      (subst (λ r. IsFramed x.ram (new_frame (left s v vs) - RAM_BASE) (register (left s v vs).registers 1) (register (left s v vs).registers 10) (register (left s v vs).registers 11) cause (left s v vs).pc r) (sym ram) made)
      sound (ap (λ (o : Outside). top o.clic) (left_unmoved s v vs).outside ∙ is_top) (due_after v vs (Some t) e ∙ above)
