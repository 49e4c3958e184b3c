-- An Enter keeps what is known.
pub use Rattle.chain_certify.specs.Soundness.{IsAccepted, IsRegion}
use Rattle.std.proofs.Common.{◌≡◌, ℕ, zero, suc, ◌+◌, ◌-◌, ◌*◌, ◌%◌, ◌^◌, ◌<◌, ◌≤◌, inl, inr, ⊎_elim, Bool, true, false, List, [], ◌∷◌, length, refl, sym, ap, ◌∙◌, subst, arith}
use Rattle.std.specs.Prelude.{◌&&◌, nat_le, nat_lt, slice_index_or}
use Rattle.std.proofs.lemmas.Bool.{leb-true, le-leb, lt-ltb, and_parts, and_from, cases_lt}
use Rattle.hart_words.specs.TwosComplement.{word}
use Rattle.hart_words.specs.Registers.{register}
use Rattle.hart_exec.specs.Effect.{even}
use Rattle.hart_memory.specs.declared.address_map.TheConstants.{RAM_BASE}
use Rattle.device_model.specs.Meanings.{Meanings}
use Rattle.clic_select.specs.declared.choice.Choice.{Choice}
use Rattle.hart_board.specs.declared.event.Event.{Event}
use Rattle.chain_moves.specs.Servicing.{Live, Servicing, marks}
use Rattle.chain_moves.specs.Bytes.{is_dead, marked}
use Rattle.chain_moves.specs.Enter.{new_frame, pointer, pointer_by, table_address, table_word, enter_registers, entered}
use Rattle.chain_moves.specs.Leave.{raised_pointer}
use Rattle.chain_certify.specs.Flow.{value_of, flow_at_start, entries}
use Rattle.chain_certify.specs.declared.value.Value.TheVariants.{Entry, Const, Stack}
use Rattle.chain_certify.specs.Rules.{in_region}
use Rattle.chain_certify.specs.Soundness.{Certificates, handler_of}
use Rattle.chain_certify.proofs.Certified.{certified, starts_in}
use Rattle.chain_flow.specs.declared.region.Region.{Region}
use Rattle.chain_certify.proofs.Values.{Holds, AreWords}
use Rattle.chain_lint.proofs.Marking.{marked_other}
use Rattle.chain_certify.proofs.Words.{Stays}
use Rattle.chain_certify.proofs.Handlers.{IsFramed, Knows}
use Rattle.chain_moves.proofs.Registers.{enters, leave-enter}
use Rattle.chain_moves.proofs.Depth.{enter_are, table_small}
use Rattle.chain_certify.proofs.Services.{Runs, Suspended, Services, resumed, runs_stay, suspended_stays}
use Rattle.chain_certify.proofs.Invariant.{Inv, Keeps}

-- ---- the flow state at the start
entries_fit : (kept : List ℕ) (n k r j : ℕ) → j ≡ k + r → Holds kept (value_of (entries k n) r) (register kept j)
unfolding entries
entries_fit kept zero k r j e = tt
entries_fit kept (suc n) k zero j e = let s : j ≡ k = omega arith in ap (λ i. register kept i) s
entries_fit kept (suc n) k (suc r) j e = entries_fit kept n (k + 1) r j (omega arith)

same_word : (x : ℕ) → x < 2 ^ 32 → x ≡ word (x + 0)
same_word x l = omega arith

pub starts : (kept : List ℕ) (frame : ℕ) (ram : List ℕ) (dead : List Bool) → length kept ≡ 32 → register kept 0 ≡ 0 → AreWords kept → Knows kept frame kept ram dead flow_at_start
unfolding flow_at_start entries
starts kept frame ram dead l z w = record { long = omega arith; values = fits; words = tt }
  where
    fits : (r : ℕ) → Holds kept (value_of (Const 0 ∷ (Entry 1 ∷ (Stack 0 ∷ entries 3 29))) r) (register kept r)
    fits zero = z
    fits (suc zero) = refl
    fits (suc (suc zero)) = same_word (register kept 2) (w 2)
    fits (suc (suc (suc r))) = entries_fit kept 29 3 r (suc (suc (suc r))) (omega arith)

-- ---- the frame
raised_frame : (sp : ℕ) → 32 ≤ sp → sp < 2 ^ 32 → word (sp + (2 ^ 32 - 32)) + 32 ≡ sp
raised_frame sp l h = omega arith

frame_small : (x : ℕ) → word x < 2 ^ 32
frame_small x = omega arith

-- the pointer of a nested Enter
pub pointer_nested : (live : List Live) (w : Live) (ws : List Live) (sp scratch : ℕ) → live ≡ w ∷ ws → pointer_by (marks live) sp scratch ≡ sp
unfolding marks
pointer_nested live w ws sp scratch e = ap (λ l. pointer_by (marks l) sp scratch) e

module _ (m : Meanings) (es : List Event) (code : List ℕ) (region : Region) (certs : Certificates) (in_ram : IsRegion region) (s : Servicing) (t : Choice) (inv : Inv m code region certs s) where
  abbrev frame : ℕ
  frame = new_frame s

  abbrev at : ℕ
  at = table_address s.table t.id

  abbrev target : ℕ
  target = table_word s.memory at

  abbrev begins : List ℕ
  begins = enter_registers s.registers frame at target

  abbrev service : Live
  service = record { number = t.id; mark = record { level = t.level; frame = frame; kept = begins }; pc = s.pc; ra = register s.registers 1; a0 = register s.registers 10; a1 = register s.registers 11 }

  abbrev marked_dead : List Bool
  marked_dead = marked s.dead (frame - RAM_BASE) 32 true

  framed : (a : IsAccepted code region certs service) → frame % 4 ≡ 0 → IsFramed region a.uses begins frame
  framed a aligned =
      let b = inv.range.board in
      let x = enters s.registers frame at target b.registers.count in
      let r = enter_are s.registers frame at target b.registers (frame_small (pointer s + (2 ^ 32 - 32))) (frame_small (s.table + 4 * t.id)) (table_small s.memory at b.memory) in
      record {
        zero = r.zero;
        count = x.count;
        pointer = x.sp;
        ra = x.ra;
        words = r.words;
        aligned = aligned;
        lowest = in_ram.lowest;
        low = a.low;
        high = a.high;
        highest = in_ram.highest;
      }

  runs_new : (a : IsAccepted code region certs service) → frame % 4 ≡ 0 → Runs code region certs service begins (even target) s.memory.ram marked_dead
  runs_new a aligned =
      let x = enters s.registers frame at target inv.range.board.registers.count in
      let i = framed a aligned in
      let sp = i.pointer in
      record {
        uses = a.uses;
        accepted = a.checked_is;
        framed = i;
        top = omega arith;
        deep = omega arith;
        aligned = omega arith;
        stands = inl (starts_in (certs (handler_of service)) begins frame begins s.memory.ram marked_dead (even target) (handler_of service) (certified code (handler_of service) region (certs (handler_of service)) a.uses a.checked_is).first
            (ap (λ w. even w) x.a1) (starts begins frame s.memory.ram marked_dead i.count i.zero i.words));
      }

  -- what stands above the frame stays
  above : (low high : ℕ) → RAM_BASE ≤ frame → frame + 32 ≤ low → Stays low high s.memory.ram s.memory.ram s.dead marked_dead
  above low high l h = record {
    bytes = λ j a b. refl;
    marks = λ j a b d. other j (omega arith) d;
  }
    where
      other : (j : ℕ) → frame + 32 ≤ j → is_dead s.dead j ≡ false → is_dead marked_dead j ≡ false
      other j a d = ap (λ x. nat_le RAM_BASE j && x) (marked_other 32 s.dead (frame - RAM_BASE) true (j - RAM_BASE) (inr (omega arith))) ∙ d

  dead_in_new : (a : IsAccepted code region certs service) → (j : ℕ) → is_dead marked_dead j ≡ true → in_region region j ≡ true
  dead_in_new a j d =
      let parts = and_parts (nat_le RAM_BASE j) (slice_index_or marked_dead (j - RAM_BASE) false) d in
      let base = leb-true RAM_BASE j parts.0 in
      let low = a.low in
      let high = a.high in
      let lowest = in_ram.lowest in
      ⊎_elim
      (λ (l : j < frame). inv.dead_in j (sym (ap (λ x. nat_le RAM_BASE j && x) (marked_other 32 s.dead (frame - RAM_BASE) true (j - RAM_BASE) (inl (omega arith)))) ∙ d))
      (λ (l : frame ≤ j). ⊎_elim
      (λ (r : j < frame + 32). and_from (nat_le region.low j) (nat_lt j region.high) (le-leb region.low j (omega arith)) (lt-ltb j region.high (omega arith)))
      (λ (r : frame + 32 ≤ j). inv.dead_in j (sym (ap (λ x. nat_le RAM_BASE j && x) (marked_other 32 s.dead (frame - RAM_BASE) true (j - RAM_BASE) (inr (omega arith)))) ∙ d))
      (cases_lt j (frame + 32)))
      (cases_lt j frame)

  suspended_new : (live : List Live) → s.live ≡ live → (a : IsAccepted code region certs service) → frame % 4 ≡ 0 → Suspended code region certs service live s.memory.ram marked_dead
  suspended_new [] e a aligned = tt
  suspended_new (w ∷ ws) e a aligned =
      let old : Services code region certs (w ∷ ws) s.registers s.pc s.memory.ram s.dead = subst (λ l. Services code region certs l s.registers s.pc s.memory.ram s.dead) e inv.services in
      let runs = old.0 in
      let deep = runs.deep in
      let low = runs.framed.low in
      let lowest = in_ram.lowest in
      let top = runs.top in
      let below = a.low in
      let sp : pointer s ≡ register s.registers 2 = pointer_nested s.live w ws (register s.registers 2) s.scratch e in
      let sum : frame + 32 ≡ register s.registers 2 = ap (λ x. word (x + (2 ^ 32 - 32)) + 32) sp ∙ raised_frame (register s.registers 2) (omega arith) (inv.range.board.registers.words 2) in
      let x = enters s.registers frame at target inv.range.board.registers.count in
      let raised : raised_pointer begins ≡ register s.registers 2 = ap (λ y. word (y + 32)) x.sp ∙ ap word sum ∙ small (register s.registers 2) (inv.range.board.registers.words 2) in
      let back_again : resumed service ≡ s.registers = leave-enter s.registers frame at target service (raised_pointer begins) inv.range.board.registers.count refl refl refl raised in (
        subst (λ rs. Runs code region certs w rs s.pc s.memory.ram marked_dead) (sym back_again)
            (runs_stay code region certs w s.registers s.pc s.memory.ram s.memory.ram s.dead marked_dead (above (register s.registers 2) w.mark.frame (omega arith) (omega arith)) runs),
        suspended_stays code region certs w ws runs.uses s.memory.ram s.memory.ram s.dead marked_dead runs.framed (above w.mark.frame region.high (omega arith) (omega arith)) old.1,
      )
    where
      small : (y : ℕ) → y < 2 ^ 32 → word y ≡ y
      small y l = omega arith

  pub entered_keeps : IsAccepted code region certs service → frame % 4 ≡ 0 → Keeps m code region certs (entered s t)
  unfolding entered
  entered_keeps a aligned range = record {
    range = range;
    has_code = inv.has_code;
    dead_in = dead_in_new a;
    services = (runs_new a aligned, suspended_new s.live refl a aligned);
  }
