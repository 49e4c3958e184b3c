-- One instruction of a handler, where no rule holds.
use Rattle.std.proofs.Common.{◌≡◌, ℕ, zero, suc, ◌+◌, ◌-◌, ◌*◌, ◌%◌, ◌^◌, ◌<◌, ◌≤◌, ◌⊎◌, inl, inr, ⊎_elim, Bool, true, false, cond, List, [], ◌∷◌, length, Option, Some, None, Result, Ok, Err, refl, sym, ap, ◌∙◌, subst, arith}
use Rattle.std.specs.Prelude.{◌==◌, ◌&&◌, ◌||◌, not, nat_le, nat_lt}
use Rattle.std.proofs.lemmas.Bool.{eqb-true, and_parts, or_cases, not-false, true≢false, false≢true, cond_both, cases_eq, ne_eqb, or_from}
use Rattle.hart_words.specs.TwosComplement.{word}
use Rattle.hart_words.specs.Registers.{register, with_register}
use Rattle.device_model.specs.Meanings.{Meanings}
use Rattle.rv_encoding.specs.declared.instruction.Ins.{Ins}
use Rattle.rv_encoding.specs.declared.instruction.Ins.TheVariants.{Lui, Auipc, Jal, Jalr, Branch, Load, Store, Imm, Reg, Fence, Ecall, Ebreak, Mret, Wfi, Csr}
use Rattle.rv_encoding.specs.declared.operations.BranchOp.{BranchOp}
use Rattle.hart_exec.specs.Access.{load_width, extends_sign, store_width, extended}
use Rattle.hart_exec.specs.Arithmetic.{register_result, on_registers}
use Rattle.hart_exec.specs.Branches.{branch_taken}
use Rattle.hart_exec.specs.Effect.{effect, even}
use Rattle.hart_memory.specs.Memory.{Memory}
use Rattle.hart_memory.specs.Place.{place}
use Rattle.clic_trap.specs.System.{system}
use Rattle.hart_board.specs.State.{State}
use Rattle.hart_board.specs.Access.{load, store}
use Rattle.hart_board.specs.Attempt.{performed, after_load, after_store}
use Rattle.hart_board.specs.declared.trap.Trap.{Trap}
use Rattle.chain_moves.specs.Slot.{back}
use Rattle.chain_moves.specs.Servicing.{Servicing, marks}
use Rattle.chain_moves.specs.Bytes.{is_dead, in_live_frame, revived_at}
use Rattle.chain_moves.specs.Tests.{first_broken, access_tests, is_free}
use Rattle.chain_moves.specs.declared.broken.Broken.{Broken}
use Rattle.chain_moves.specs.declared.broken.Broken.TheVariants.{ReadsDispatch, WritesFrame}
use Rattle.chain_moves.specs.Body.{hart, dead_after}
use Rattle.chain_certify.specs.Flow.{Flow, value_of, set_value, ranged}
use Rattle.chain_certify.specs.declared.value.Value.{Value}
use Rattle.chain_certify.specs.declared.value.Value.TheVariants.{Entry, Const, Stack, Range, Unknown}
use Rattle.chain_certify.specs.declared.stack_word.StackWord.{StackWord}
use Rattle.chain_certify.specs.Transfer.{plus, wrapped_range, address_of, immediate_value, sum_value, loaded_value, stored_words, words_kept, flow_after}
use Rattle.chain_certify.specs.Sides.{side}
use Rattle.chain_certify.specs.Rules.{Next, to, sided, jumped, goes_to, is_number, is_unknown_target, is_changed, is_return, is_return_address, are_entries, is_entry, in_region, is_bad_pointer}
use Rattle.chain_certify.specs.Rules.{is_free as is_free_here}
use Rattle.chain_flow.specs.declared.region.Region.{Region}
use Rattle.chain_certify.proofs.Values.{Holds, AreWords, plus_holds, fits_refined, length_refined}
use Rattle.chain_certify.proofs.Arithmetic.{immediate_holds, sum_holds}
use Rattle.chain_certify.proofs.Branches.{BothHold, side_holds}
use Rattle.chain_lint.specs.Soundness.{HasCode}
use Rattle.chain_certify.proofs.Looks.{Keeps}
use Rattle.chain_certify.proofs.Handlers.{IsHart, IsFramed, Knows, Lands, IsBack, Went, goes, keeps_going, sets_going}
use Rattle.chain_certify.proofs.Accesses.{Leaves, load_leaves, Loads, loads, Stores, stores, IsSmall}

abbrev done : State → Result State Trap
done t = Ok t

-- a test that does not hold
pub passes : (b : Bool) (kind : Broken) → b ≡ false → first_broken ((b, kind) ∷ []) ≡ None
unfolding first_broken
passes true kind e = absurd (true≢false e)
passes false kind e = refl

-- the place of an access is a word
word_small : (x : ℕ) → word x < 2 ^ 32
word_small x = omega arith

ranged_small : (l g : ℕ) → IsSmall (ranged l g)
ranged_small l g = cond_both (l == g) (Const l) (Range l g) (λ w. IsSmall w) (λ e. tt) (λ e. tt)

wrapped_small : (l g : ℕ) → IsSmall (wrapped_range l g)
wrapped_small l g =
    cond_both (nat_le l g && nat_lt g (2 ^ 32)) (ranged l g) (cond (nat_le (2 ^ 32) l && (nat_le l g && nat_lt g (2 ^ 33))) (ranged (l - 2 ^ 32) (g - 2 ^ 32)) Unknown) (λ w. IsSmall w)
    (λ e. ranged_small l g)
    (λ e. cond_both (nat_le (2 ^ 32) l && (nat_le l g && nat_lt g (2 ^ 33))) (ranged (l - 2 ^ 32) (g - 2 ^ 32)) Unknown (λ w. IsSmall w) (λ d. ranged_small (l - 2 ^ 32) (g - 2 ^ 32)) (λ d. tt))

plus_small : (v : Value) (imm : ℕ) → IsSmall (plus v imm)
plus_small (Entry r) imm = cond_both (imm == 0) (Entry r) Unknown (λ w. IsSmall w) (λ e. tt) (λ e. tt)
plus_small (Const c) imm = tt
plus_small (Stack k) imm = word_small (k + imm)
plus_small Unknown imm = tt
plus_small (Range l g) imm = wrapped_small (l + imm) (g + imm)

-- ---- a return
entries_at : (values : List Value) (n r : ℕ) → are_entries values n ≡ true → r < n → (is_free_here r || is_entry r (value_of values r)) ≡ true
unfolding are_entries
entries_at values zero r e l = absurd (omega arith)
entries_at values (suc n) r e l =
    let parts = and_parts (is_free_here n || is_entry n (value_of values n)) (are_entries values n) e in
    ⊎_elim
    (λ (q : r ≡ n). subst (λ i. (is_free_here i || is_entry i (value_of values i)) ≡ true) (sym q) parts.0)
    (λ (q : r ≡ n → ⊥). entries_at values n r parts.1 (omega arith))
    (cases_eq r n)

entry_says : (kept : List ℕ) (r x : ℕ) (v : Value) → AreWords kept → is_entry r v ≡ true → Holds kept v x → x ≡ register kept r
entry_says kept r x (Entry q) w e h = h ∙ ap (λ i. register kept i) (sym (eqb-true r q e))
entry_says kept r x (Const c) w e h = absurd (false≢true e)
entry_says kept r x Unknown w e h = absurd (false≢true e)
entry_says kept r x (Range l g) w e h = absurd (false≢true e)
entry_says kept r x (Stack k) w e h =
    let parts = and_parts (r == 2) (k == 0) e in
    let none : k ≡ 0 = eqb-true k 0 parts.1 in
    let two : r ≡ 2 = eqb-true r 2 parts.0 in
    let lt = w 2 in
    let sum : word (register kept 2 + k) ≡ register kept 2 = omega arith in
    h ∙ sum ∙ ap (λ i. register kept i) (sym two)

return_says : (kept : List ℕ) (v : Value) (x : ℕ) → is_return_address v ≡ true → Holds kept v x → x ≡ register kept 1
return_says kept (Entry r) x e h = h ∙ ap (λ i. register kept i) (eqb-true r 1 e)
return_says kept (Const c) x e h = absurd (false≢true e)
return_says kept (Stack k) x e h = absurd (false≢true e)
return_says kept Unknown x e h = absurd (false≢true e)
return_says kept (Range l g) x e h = absurd (false≢true e)

even_back : (x imm : ℕ) → x ≡ back → imm ≡ 0 → even (word (x + imm)) ≡ back
even_back x imm e z = omega arith

free_here : (r : ℕ) → (r ≡ 0 → ⊥) → is_free r ≡ false → is_free_here r ≡ false
free_here r n e = or_from (r == 0) (is_free r) (ne_eqb r 0 n) e

-- ---- a side of a branch
sided_here : (kept : List ℕ) (frame : ℕ) (registers ram : List ℕ) (dead : List Bool) (o : Option (Value × Value)) (at : ℕ) (g : Flow) (rs1 rs2 : ℕ) (ns : List Next)
    → BothHold kept (register registers rs1) (register registers rs2) o → Knows kept frame registers ram dead g → Lands kept frame registers ram dead at (sided o at g rs1 rs2 ns)
sided_here kept frame registers ram dead None at g rs1 rs2 ns h k = absurd h
sided_here kept frame registers ram dead (Some both) at g rs1 rs2 ns h k =
    let long = k.long in
    let first = length_refined g.values rs1 both.0 in
    let second = length_refined (set_value g.values rs1 both.0) rs2 both.1 in
    inl (
      refl,
      record {
        long = omega arith;
        values = fits_refined kept (set_value g.values rs1 both.0) registers rs2 both.1 (fits_refined kept g.values registers rs1 both.0 k.values h.0) h.1;
        words = k.words;
      },
    )

sided_later : (kept : List ℕ) (frame : ℕ) (registers ram : List ℕ) (dead : List Bool) (o : Option (Value × Value)) (at pc : ℕ) (g : Flow) (rs1 rs2 : ℕ) (ns : List Next)
    → Lands kept frame registers ram dead pc ns → Lands kept frame registers ram dead pc (sided o at g rs1 rs2 ns)
sided_later kept frame registers ram dead None at pc g rs1 rs2 ns h = h
sided_later kept frame registers ram dead (Some both) at pc g rs1 rs2 ns h = inr h

-- a jump to a number
jumped_lands : (kept : List ℕ) (frame : ℕ) (registers ram : List ℕ) (dead : List Bool) (v : Value) (x imm : ℕ) (g : Flow) → is_number v ≡ true → Holds kept v x → Knows kept frame registers ram dead g
    → Lands kept frame registers ram dead (even (word (x + imm))) (jumped v imm g)
jumped_lands kept frame registers ram dead (Const c) x imm g n h k = inl (ap (λ i. even (word (i + imm))) (sym h), k)
jumped_lands kept frame registers ram dead (Entry r) x imm g n h k = absurd (false≢true n)
jumped_lands kept frame registers ram dead (Stack r) x imm g n h k = absurd (false≢true n)
jumped_lands kept frame registers ram dead (Range l r) x imm g n h k = absurd (false≢true n)
jumped_lands kept frame registers ram dead Unknown x imm g n h k = absurd (false≢true n)

module _ (m : Meanings) (s : Servicing) (region : Region) (uses : ℕ) (kept : List ℕ) (frame : ℕ) (f : Flow)
    (framed : IsFramed region uses kept frame) (is_hart : IsHart (hart s)) (dead_in : (j : ℕ) → is_dead s.dead j ≡ true → in_region region j ≡ true)
    (frames_in : (j : ℕ) → in_live_frame (marks s.live) j ≡ true → (frame ≤ j) × (in_region region j ≡ true)) (top : register s.registers 2 ≤ frame) (low : region.low ≤ register s.registers 2)
    (knows : Knows kept frame s.registers s.memory.ram s.dead f) (code : List ℕ) (has_code : HasCode code s.memory.rom) where
  pub record One (ins : Ins) (bits length : ℕ) : Type 0 where
    pub safe : first_broken (access_tests (marks s.live) s.dead (effect ins length s.registers s.pc)) ≡ None
    pub went : (new : State) → performed m (hart s) ins bits length ≡ Ok new
        → Went kept region frame s.memory.ram new.memory.ram s.dead (dead_after s.dead (effect ins length s.registers s.pc)) new.registers new.pc (goes_to s.pc length f (flow_after code s.pc length f ins) ins)

  -- what is known after a register is set, and after none is
  abbrev with_set : ℕ → Value → Flow
  with_set rd v = record { values = set_value f.values rd v; words = words_kept (value_of (set_value f.values rd v) 2) f.words }

  abbrev unset : List StackWord → Flow
  unset ws = record { values = f.values; words = words_kept (value_of f.values 2) ws }

  -- a register is set
  go : (rd x target : ℕ) (v : Value) (next : List Next) (new : State) → Holds kept v x → is_bad_pointer (value_of (set_value f.values rd v) 2) ≡ false
      → (Knows kept frame (with_register s.registers rd x) s.memory.ram s.dead (with_set rd v) → Lands kept frame (with_register s.registers rd x) s.memory.ram s.dead target next ⊎ IsBack kept (with_register s.registers rd x) target)
      → done (record (hart s) { registers = with_register s.registers rd x; pc = target }) ≡ Ok new
      → Went kept region frame s.memory.ram new.memory.ram s.dead s.dead new.registers new.pc next
  go rd x target v next new h b lands e =
      let is : record (hart s) { registers = with_register s.registers rd x; pc = target } ≡ new = cc in
      subst (λ (t : State). Went kept region frame s.memory.ram t.memory.ram s.dead s.dead t.registers t.pc next) is
      (sets_going region uses kept frame f s.registers s.memory.ram s.dead rd v x target next framed knows h b lands)

  -- and it goes on at the next instruction
  go_on : (rd x target : ℕ) (v : Value) (new : State) → Holds kept v x → is_bad_pointer (value_of (set_value f.values rd v) 2) ≡ false
      → done (record (hart s) { registers = with_register s.registers rd x; pc = target }) ≡ Ok new
      → Went kept region frame s.memory.ram new.memory.ram s.dead s.dead new.registers new.pc (to target (with_set rd v))
  go_on rd x target v new h b e = go rd x target v (to target (with_set rd v)) new h b (λ k. inl (inl (refl, k))) e

  -- no register is set
  stay : (target : ℕ) (next : List Next) (new : State) → is_bad_pointer (value_of f.values 2) ≡ false
      → (Knows kept frame s.registers s.memory.ram s.dead (unset f.words) → Lands kept frame s.registers s.memory.ram s.dead target next)
      → done (record (hart s) { pc = target }) ≡ Ok new
      → Went kept region frame s.memory.ram new.memory.ram s.dead s.dead new.registers new.pc next
  stay target next new b lands e =
      let is : record (hart s) { pc = target } ≡ new = cc in
      subst (λ (t : State). Went kept region frame s.memory.ram t.memory.ram s.dead s.dead t.registers t.pc next) is
      (keeps_going region uses kept frame f s.registers s.memory.ram s.dead target next framed knows b (λ k. inl (lands k)))

  loaded_goes : (rd at width : ℕ) (signed : Bool) (target : ℕ) (v : Value) (r : Result (ℕ × State) ℕ) (new : State)
      → ((found : ℕ × State) → r ≡ Ok found → Leaves (hart s) found × Holds kept v (extended found.0 width signed))
      → is_bad_pointer (value_of (set_value f.values rd v) 2) ≡ false → after_load rd at width signed target r ≡ Ok new
      → Went kept region frame s.memory.ram new.memory.ram s.dead s.dead new.registers new.pc (to target (with_set rd v))
  loaded_goes rd at width signed target v (Err code) new says b e = absurd cc
  loaded_goes rd at width signed target v (Ok found) new says b e =
      let is : record found.1 { registers = with_register found.1.registers rd (extended found.0 width signed); pc = target } ≡ new = cc in
      let both = says found refl in
      let left = both.0 in
      subst (λ (t : State). Went kept region frame s.memory.ram t.memory.ram s.dead s.dead t.registers t.pc (to target (with_set rd v))) is
      (subst (λ (mem : Memory). Went kept region frame s.memory.ram mem.ram s.dead s.dead (with_register found.1.registers rd (extended found.0 width signed)) target (to target (with_set rd v))) (sym left.memory)
      (subst (λ (rs : List ℕ). Went kept region frame s.memory.ram s.memory.ram s.dead s.dead (with_register rs rd (extended found.0 width signed)) target (to target (with_set rd v))) (sym left.registers)
      (sets_going region uses kept frame f s.registers s.memory.ram s.dead rd v (extended found.0 width signed) target (to target (with_set rd v)) framed knows both.1 b (λ k. inl (inl (refl, k))))))

  stored_goes : (at width value target : ℕ) (ws : List StackWord) (r : Result State ℕ) (new : State) → store m (hart s) at width value ≡ r
      → Stores m (hart s) (marks s.live) s.dead region uses kept frame f framed is_hart dead_in frames_in top low knows code has_code width value at ws
      → is_bad_pointer (value_of f.values 2) ≡ false → after_store at target r ≡ Ok new
      → Went kept region frame s.memory.ram new.memory.ram s.dead (revived_at (place at width) width s.dead) new.registers new.pc (to target (unset ws))
  stored_goes at width value target ws (Err code) new q st b e = absurd cc
  stored_goes at width value target ws (Ok after) new q st b e =
      let is : record after { pc = target } ≡ new = cc in
      subst (λ (t : State). Went kept region frame s.memory.ram t.memory.ram s.dead (revived_at (place at width) width s.dead) t.registers t.pc (to target (unset ws))) is
      (subst (λ (rs : List ℕ). Went kept region frame s.memory.ram after.memory.ram s.dead (revived_at (place at width) width s.dead) rs target (to target (unset ws))) (sym (st.registers after q))
      (goes region uses kept frame f.values ws s.registers s.memory.ram after.memory.ram s.dead (revived_at (place at width) width s.dead) (register s.registers 2) target (to target (unset ws)) framed knows.long knows.values b (st.words after q) (λ k. inl (inl (refl, k))) (st.stays after q) st.marks))

  one_load : (rd at width : ℕ) (signed : Bool) (target : ℕ) (v : Value)
      → Loads m (hart s) (marks s.live) s.dead region uses kept frame f framed is_hart dead_in frames_in top low knows code has_code width signed at v
      → is_bad_pointer (value_of (set_value f.values rd v) 2) ≡ false → (new : State) → after_load rd at width signed target (load m (hart s) at width) ≡ Ok new
      → Went kept region frame s.memory.ram new.memory.ram s.dead s.dead new.registers new.pc (to target (with_set rd v))
  one_load rd at width signed target v l b new e =
      loaded_goes rd at width signed target v (load m (hart s) at width) new (λ found q. (load_leaves m (hart s) at width found q, l.says found q)) b e

  zero_stays : (rd x : ℕ) → rd ≡ 0 → with_register s.registers rd x ≡ s.registers
  zero_stays rd x e = ap (λ r. with_register s.registers r x) e

  returns : (rd rs1 imm x : ℕ) → not (is_return f (Jalr rd rs1 imm)) ≡ false → not (are_entries f.values 32) ≡ false
      → IsBack kept (with_register s.registers rd x) (even (word (register s.registers rs1 + imm)))
  returns rd rs1 imm x a c =
      let parts = and_parts (rd == 0) (imm == 0 && is_return_address (value_of f.values rs1)) (not-false _ a) in
      let more = and_parts (imm == 0) (is_return_address (value_of f.values rs1)) parts.1 in
      let ra : register s.registers rs1 ≡ back = return_says kept (value_of f.values rs1) (register s.registers rs1) more.1 (knows.values rs1) ∙ framed.ra in (
        even_back (register s.registers rs1) imm ra (eqb-true imm 0 more.0),
        λ r l free.
            ap (λ rs. register rs r) (zero_stays rd x (eqb-true rd 0 parts.0))
            ∙ ⊎_elim
            (λ (z : r ≡ 0). ap (λ i. register s.registers i) z ∙ is_hart.zero ∙ sym framed.zero ∙ ap (λ i. register kept i) (sym z))
            (λ (n : r ≡ 0 → ⊥). ⊎_elim
            (λ (w : is_free_here r ≡ true). absurd (true≢false (sym w ∙ free_here r n free)))
            (λ (w : is_entry r (value_of f.values r) ≡ true). entry_says kept r (register s.registers r) (value_of f.values r) framed.words w (knows.values r))
            (or_cases (is_free_here r) (is_entry r (value_of f.values r)) (entries_at f.values 32 r (not-false _ c) l)))
            (cases_eq r 0),
      )

  jumps : (rd rs1 imm x : ℕ) (g : Flow) (b : Bool) → is_return f (Jalr rd rs1 imm) ≡ b → is_unknown_target f (Jalr rd rs1 imm) ≡ false → is_changed f (Jalr rd rs1 imm) ≡ false
      → Knows kept frame (with_register s.registers rd x) s.memory.ram s.dead g
      → Lands kept frame (with_register s.registers rd x) s.memory.ram s.dead (even (word (register s.registers rs1 + imm))) (cond b [] (jumped (value_of f.values rs1) imm g)) ⊎ IsBack kept (with_register s.registers rd x) (even (word (register s.registers rs1 + imm)))
  jumps rd rs1 imm x g true e t c k =
      inr (returns rd rs1 imm x (ap not e) (sym (ap (λ b. b && not (are_entries f.values 32)) e) ∙ c))
  jumps rd rs1 imm x g false e t c k =
      let number : is_number (value_of f.values rs1) ≡ true = not-false _ (sym (ap (λ b. not (b || is_number (value_of f.values rs1))) e) ∙ t) in
      inl (jumped_lands kept frame (with_register s.registers rd x) s.memory.ram s.dead (value_of f.values rs1) (register s.registers rs1) imm g number (knows.values rs1) k)

  branches : (op : BranchOp) (b : Bool) (rs1 rs2 far near : ℕ) (g : Flow) → branch_taken op (register s.registers rs1) (register s.registers rs2) ≡ b → Knows kept frame s.registers s.memory.ram s.dead g
      → Lands kept frame s.registers s.memory.ram s.dead (cond b far near)
      (sided (side op true (value_of f.values rs1) (value_of f.values rs2)) far g rs1 rs2 (sided (side op false (value_of f.values rs1) (value_of f.values rs2)) near g rs1 rs2 []))
  branches op true rs1 rs2 far near g e k =
      sided_here kept frame s.registers s.memory.ram s.dead _ far g rs1 rs2 _ (side_holds kept op true (value_of f.values rs1) (value_of f.values rs2) (register s.registers rs1) (register s.registers rs2) (is_hart.words rs1) (is_hart.words rs2) (knows.values rs1) (knows.values rs2) e) k
  branches op false rs1 rs2 far near g e k =
      sided_later kept frame s.registers s.memory.ram s.dead (side op true (value_of f.values rs1) (value_of f.values rs2)) far near g rs1 rs2 _
      (sided_here kept frame s.registers s.memory.ram s.dead _ near g rs1 rs2 _ (side_holds kept op false (value_of f.values rs1) (value_of f.values rs2) (register s.registers rs1) (register s.registers rs2) (is_hart.words rs1) (is_hart.words rs2) (knows.values rs1) (knows.values rs2) e) k)

  pub one : (ins : Ins) (bits length : ℕ) → Keeps region f (flow_after code s.pc length f ins) ins → One ins bits length
  unfolding effect performed flow_after goes_to first_broken system
  one (Lui rd imm) bits length k = record { safe = refl; went = λ new e. go_on rd imm (word (s.pc + length)) (Const imm) new refl k.pointer e }
  one (Auipc rd imm) bits length k = record { safe = refl; went = λ new e. go_on rd (word (s.pc + imm)) (word (s.pc + length)) (Const (word (s.pc + imm))) new refl k.pointer e }
  one (Jal rd offset) bits length k = record { safe = refl; went = λ new e. go_on rd (word (s.pc + length)) (word (s.pc + offset)) (Const (word (s.pc + length))) new refl k.pointer e }
  one (Jalr rd rs1 imm) bits length k = record {
    safe = refl;
    went = λ new e. go rd (word (s.pc + length)) (even (word (register s.registers rs1 + imm))) (Const (word (s.pc + length))) _ new refl k.pointer
        (λ g. jumps rd rs1 imm (word (s.pc + length)) (with_set rd (Const (word (s.pc + length)))) (is_return f (Jalr rd rs1 imm)) refl k.target k.changed g) e;
  }
  one (Branch op rs1 rs2 offset) bits length k = record {
    safe = refl;
    went = λ new e. stay (cond (branch_taken op (register s.registers rs1) (register s.registers rs2)) (word (s.pc + offset)) (word (s.pc + length))) _ new k.pointer
        (λ g. branches op (branch_taken op (register s.registers rs1) (register s.registers rs2)) rs1 rs2 (word (s.pc + offset)) (word (s.pc + length)) (unset f.words) refl g) e;
  }
  one (Load op rd rs1 imm) bits length k =
      let p = address_of f rs1 imm in
      let at = word (register s.registers rs1 + imm) in
      let l = loads m (hart s) (marks s.live) s.dead region uses kept frame f framed is_hart dead_in frames_in top low knows code has_code op p at (plus_holds kept (value_of f.values rs1) (register s.registers rs1) imm (is_hart.words rs1) (knows.values rs1)) k.access in
      record {
        safe = passes _ ReadsDispatch l.safe;
        went = one_load rd at (load_width op) (extends_sign op) (word (s.pc + length)) (loaded_value code f.words op p) l k.pointer;
      }
  one (Store op rs1 rs2 imm) bits length k =
      let p = address_of f rs1 imm in
      let at = word (register s.registers rs1 + imm) in
      let st = stores m (hart s) (marks s.live) s.dead region uses kept frame f framed is_hart dead_in frames_in top low knows code has_code op p (value_of f.values rs2) (register s.registers rs2) at (plus_small (value_of f.values rs1) imm) (is_hart.words rs2) (knows.values rs2) (plus_holds kept (value_of f.values rs1) (register s.registers rs1) imm (is_hart.words rs1) (knows.values rs1)) k.access in
      record {
        safe = passes _ WritesFrame st.safe;
        went = λ new e. stored_goes at (store_width op) (register s.registers rs2 % 2 ^ (8 * store_width op)) (word (s.pc + length)) (stored_words f.words (store_width op) p (value_of f.values rs2)) (store m (hart s) at (store_width op) (register s.registers rs2 % 2 ^ (8 * store_width op))) new refl st k.pointer e;
      }
  one (Imm op rd rs1 imm) bits length k = record { safe = refl; went = λ new e. go_on rd (register_result (on_registers op) (register s.registers rs1) imm) (word (s.pc + length)) (immediate_value op (value_of f.values rs1) imm) new (immediate_holds kept op (value_of f.values rs1) (register s.registers rs1) imm (is_hart.words rs1) (knows.values rs1)) k.pointer e }
  one (Reg op rd rs1 rs2) bits length k = record { safe = refl; went = λ new e. go_on rd (register_result op (register s.registers rs1) (register s.registers rs2)) (word (s.pc + length)) (sum_value op rs1 (value_of f.values rs1) (value_of f.values rs2)) new (sum_holds kept op rs1 (value_of f.values rs1) (value_of f.values rs2) s.registers (register s.registers rs2) is_hart.zero (is_hart.words rs1) (is_hart.words rs2) (knows.values rs1) (knows.values rs2)) k.pointer e }
  one (Fence pred succ) bits length k = record { safe = refl; went = λ new e. stay (word (s.pc + length)) _ new k.pointer (λ g. inl (refl, g)) e }
  one Wfi bits length k = record { safe = refl; went = λ new e. stay (word (s.pc + length)) _ new k.pointer (λ g. inl (refl, g)) e }
  one Ecall bits length k = absurd (true≢false k.system)
  one Ebreak bits length k = absurd (true≢false k.system)
  one Mret bits length k = absurd (true≢false k.system)
  one (Csr op rd source csr) bits length k = absurd (true≢false k.system)
