-- After a Leave the board stands beside the servicing machine again, whatever the trap's fields hold.
use Rattle.std.proofs.Common.{◌≡◌, ℕ, zero, suc, ◌+◌, ◌<◌, ⊎_elim, Bool, true, false, List, [], ◌∷◌, length, refl, sym, ap, ◌∙◌, subst, arith}
use Rattle.std.specs.Prelude.{◌==◌, ◌||◌}
use Rattle.std.proofs.lemmas.Bool.{and_parts, or_cases, or_from, eqb-true, ne_eqb, true≢false, cases_eq}
use Rattle.device_model.specs.Meanings.{Meanings, IsSound as IsSoundDevice}
use Rattle.hart_words.specs.TwosComplement.{word}
use Rattle.hart_words.specs.Registers.{register}
use Rattle.hart_memory.specs.Memory.{AreBytes}
use Rattle.chain_moves.specs.Slot.{back, frame_size}
use Rattle.chain_moves.specs.Servicing.{Live, Servicing, marks}
use Rattle.chain_moves.specs.Leave.{leave_registers, raised_pointer, left}
use Rattle.chain_moves.specs.Tests.{is_free, are_kept}
use Rattle.chain_moves.specs.Nesting.{AreRising}
use Rattle.chain_moves.specs.Words.{HasDispatcher}
use Rattle.chain_moves.specs.Agreement.{AgreeRom, Agree, Frames}
use Rattle.chain_moves.specs.Beside.{Rest}
use Rattle.chain_moves.specs.Related.{Stands, Kept, Ons, Related}
use Rattle.chain_moves.specs.declared.dispatcher.Dispatcher.{Dispatcher}
use Rattle.chain_moves.proofs.Registers.{brings, same_registers}
use Rattle.chain_moves.proofs.Depth.{left_range}

-- ---- registers

-- each register that is not free is as it was
kept_each : (kept registers : List ℕ) (n : ℕ) → are_kept kept registers n ≡ true → (r : ℕ) → r < n → is_free r ≡ false → register registers r ≡ register kept r
unfolding are_kept
kept_each kept registers zero e r l f = absurd (omega arith)
kept_each kept registers (suc n) e r l f =
    let parts = and_parts (is_free n || register registers n == register kept n) (are_kept kept registers n) e in
    ⊎_elim
    (λ (q : r ≡ n). subst (λ i. register registers i ≡ register kept i) (sym q)
    (⊎_elim
    (λ (free : is_free n ≡ true). absurd (true≢false (sym free ∙ ap is_free (sym q) ∙ f)))
    (λ (same : (register registers n == register kept n) ≡ true). eqb-true (register registers n) (register kept n) same)
    (or_cases (is_free n) (register registers n == register kept n) parts.0)))
    (λ (ne : r ≡ n → ⊥). kept_each kept registers n parts.1 r (omega arith) f)
    (cases_eq r n)

not_free : (r : ℕ) → (r ≡ 1 → ⊥) → (r ≡ 10 → ⊥) → (r ≡ 11 → ⊥) → is_free r ≡ false
not_free r n1 n10 n11 = or_from _ _ (ne_eqb r 1 n1) (or_from _ _ (ne_eqb r 10 n10) (ne_eqb r 11 n11))

-- what a Leave brings back doesn't turn on the registers that are free
leave_same : (a b : List ℕ) (v : Live) (sp : ℕ) → length a ≡ 32 → length b ≡ 32 → ((r : ℕ) → r < 32 → is_free r ≡ false → register a r ≡ register b r) → leave_registers a v sp ≡ leave_registers b v sp
leave_same a b v sp la lb h =
    let x = brings a v sp la in
    let y = brings b v sp lb in
    same_registers (leave_registers a v sp) (leave_registers b v sp) x.count y.count (x.ra ∙ sym y.ra) (x.sp_is ∙ sym y.sp_is) (x.a0 ∙ sym y.a0) (x.a1 ∙ sym y.a1)
    (λ r l n1 n2 n10 n11. x.others r n1 n2 n10 n11 ∙ h r l (not_free r n1 n10 n11) ∙ sym (y.others r n1 n2 n10 n11))

-- ---- what a Leave leaves alone

pub left_live : (s : Servicing) (v : Live) (vs : List Live) → (left s v vs).live ≡ vs
unfolding left
left_live s v [] = refl
left_live s v (w ∷ ws) = refl

pub left_pc : (s : Servicing) (v : Live) (vs : List Live) → (left s v vs).pc ≡ v.pc
unfolding left
left_pc s v [] = refl
left_pc s v (w ∷ ws) = refl

-- memory, what lies outside, the dead bytes, the foreground's fields, and the counts
pub record Unmoved (s t : Servicing) : Type 0 where
  pub memory : t.memory ≡ s.memory
  pub outside : t.outside ≡ s.outside
  pub dead : t.dead ≡ s.dead
  pub on : t.on ≡ s.on
  pub was : t.was ≡ s.was
  pub threshold : t.threshold ≡ s.threshold
  pub table : t.table ≡ s.table
  pub vector : t.vector ≡ s.vector
  pub bodies : t.bodies ≡ s.bodies
  pub services : t.services ≡ s.services

pub left_unmoved : (s : Servicing) (v : Live) (vs : List Live) → Unmoved s (left s v vs)
unfolding left
left_unmoved s v [] = record { memory = refl; outside = refl; dead = refl; on = refl; was = refl; threshold = refl; table = refl; vector = refl; bodies = refl; services = refl }
left_unmoved s v (w ∷ ws) = record { memory = refl; outside = refl; dead = refl; on = refl; was = refl; threshold = refl; table = refl; vector = refl; bodies = refl; services = refl }

-- below the next service interrupts are on as they were
ons_left : (v : Live) (vs : List Live) (on was : Bool) → Ons (v ∷ vs) on was → Ons vs on was
ons_left v [] on was h = tt
ons_left v (w ∷ ws) on was h = h

module _ (m : Meanings) (d : Dispatcher) (s : Servicing) (x : Rest) (h : Related m d s x) (at_back : s.pc ≡ back) where
  kept_by : (v : Live) (vs : List Live) → s.live ≡ v ∷ vs → Kept s.registers s.pc (v ∷ vs)
  kept_by v vs e = subst (λ l. Kept s.registers s.pc l) e h.serves.kept

  -- sp is where the handler found it
  pub same_pointer : (v : Live) (vs : List Live) → s.live ≡ v ∷ vs → register s.registers 2 ≡ v.mark.frame
  same_pointer v vs e =
      let k = (kept_by v vs e).0 in
      kept_each v.mark.kept s.registers 32 (k.returns at_back) 2 (omega arith) refl ∙ k.pointer

  -- the registers that come back, by the stack pointer
  returned : (v : Live) (vs : List Live) (sp : ℕ) → s.live ≡ v ∷ vs → leave_registers s.registers v sp ≡ leave_registers v.mark.kept v sp
  returned v vs sp e =
      let k = (kept_by v vs e).0 in
      leave_same s.registers v.mark.kept v sp h.serves.range.board.registers.count k.kept.count (kept_each v.mark.kept s.registers 32 (k.returns at_back))

  kept_left : (v : Live) (vs : List Live) → s.live ≡ v ∷ vs → Kept (left s v vs).registers (left s v vs).pc vs
  unfolding left
  kept_left v [] e = tt
  kept_left v (w ∷ ws) e =
      let k = kept_by v (w ∷ ws) e in
      let p : raised_pointer s.registers ≡ raised_pointer v.mark.kept = ap (λ n. word (n + frame_size)) (same_pointer v (w ∷ ws) e ∙ sym k.0.pointer) in
      subst (λ r. Kept r v.pc (w ∷ ws)) (sym (returned v (w ∷ ws) (raised_pointer s.registers) e ∙ ap (leave_registers v.mark.kept v) p)) k.1

  -- the board's memory is as before
  stands_left : (v : Live) (vs : List Live) → s.live ≡ v ∷ vs → (y : Rest) → y.rom ≡ x.rom → y.ram ≡ x.ram → (t : Servicing) → Unmoved s t → t.live ≡ vs → Stands d t y
  stands_left v vs e y rom ram t u l =
      let frames : Frames x.ram s.dead (v ∷ vs) = subst (λ q. Frames x.ram s.dead q) e h.stands.frames in
      record {
        code = subst (λ r. HasDispatcher d r) (sym rom) h.stands.code;
        bytes = subst (λ r. AreBytes r) (sym rom) h.stands.bytes;
        rom = subst (λ r. AgreeRom r t.memory.rom) (sym rom) (subst (λ q. AgreeRom x.rom q.rom) (sym u.memory) h.stands.rom);
        ram = subst (λ r. Agree r t.memory.ram t.dead) (sym ram) (subst (λ q. Agree x.ram q.ram t.dead) (sym u.memory) (subst (λ q. Agree x.ram s.memory.ram q) (sym u.dead) h.stands.ram));
        frames = subst (λ r. Frames r t.dead t.live) (sym ram) (subst (λ q. Frames x.ram q t.live) (sym u.dead) (subst (λ q. Frames x.ram s.dead q) (sym l) frames.1));
      }

  rising_left : (v : Live) (vs : List Live) → s.live ≡ v ∷ vs → AreRising (marks vs)
  unfolding marks
  rising_left v vs e = (subst (λ l. AreRising (marks l)) e h.serves.rising).1

  pub left_related : IsSoundDevice m → (v : Live) (vs : List Live) → s.live ≡ v ∷ vs → (y : Rest) → y.rom ≡ x.rom → y.ram ≡ x.ram → Related m d (left s v vs) y
  left_related sound v vs e y rom ram =
      let u = left_unmoved s v vs in
      let l = left_live s v vs in
      let ons : Ons vs s.on s.was = ons_left v vs s.on s.was (subst (λ q. Ons q s.on s.was) e h.serves.ons) in
      record {
        serves = record {
          range = (left_range m [] sound s.outside.clic.shape.inputs 0 tt s v vs e (h.serves.range, refl)).0;
          rising = subst (λ q. AreRising (marks q)) (sym l) (rising_left v vs e);
          kept = subst (λ q. Kept (left s v vs).registers (left s v vs).pc q) (sym l) (kept_left v vs e);
          ons = subst (λ q. Ons q (left s v vs).on (left s v vs).was) (sym l) (subst (λ b. Ons vs b (left s v vs).was) (sym u.on) (subst (λ b. Ons vs s.on b) (sym u.was) ons));
        };
        stands = stands_left v vs e y rom ram (left s v vs) u l;
      }
