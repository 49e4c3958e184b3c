-- One instruction of a handler, where no rule holds.
use Rattle.std.proofs.Common.{◌≡◌, ℕ, zero, suc, ◌+◌, ◌*◌, ◌%◌, ◌^◌, ◌<◌, ◌≤◌, ◌⊎◌, inl, inr, ⊎_elim, Bool, true, false, cond, List, [], ◌∷◌, length, None, Result, Ok, Err, refl, sym, ap, ◌∙◌, subst, arith}
use Rattle.std.specs.Prelude.{◌==◌, ◌&&◌, ◌||◌, not}
use Rattle.std.proofs.lemmas.Bool.{eqb-true, and_parts, or_cases, not-false, true≢false, false≢true, cond_both, cases_eq, ne_eqb, or_from}
use Rattle.hart_words.specs.TwosComplement.{word}
use Rattle.hart_words.specs.Registers.{register, with_register}
use Rattle.device_model.specs.Meanings.{Meanings}
use Rattle.rv_encoding.specs.declared.instruction.Ins.{Ins}
use Rattle.rv_encoding.specs.declared.instruction.Ins.TheVariants.{Lui, Auipc, Jal, Jalr, Branch, Load, Store, Imm, Reg, Fence, Ecall, Ebreak, Mret, Wfi, Csr}
use Rattle.rv_encoding.specs.declared.operations.ImmOp.{ImmOp}
use Rattle.rv_encoding.specs.declared.operations.ImmOp.TheVariants.{Addi, Slti, Sltiu, Xori, Ori, Andi, Slli, Srli, Srai}
use Rattle.rv_encoding.specs.declared.operations.RegOp.{RegOp}
use Rattle.rv_encoding.specs.declared.operations.RegOp.TheVariants.{Add, Sub, Sll, Slt, Sltu, Xor, Srl, Sra, Or, And, Mul, Mulh, Mulhsu, Mulhu, Div, Divu, Rem, Remu}
use Rattle.hart_exec.specs.Access.{load_width, extends_sign, store_width, extended}
use Rattle.hart_exec.specs.Arithmetic.{register_result, on_registers}
use Rattle.hart_exec.specs.Branches.{branch_taken}
use Rattle.hart_exec.specs.Effect.{effect, even}
use Rattle.hart_memory.specs.Memory.{Memory}
use Rattle.hart_memory.specs.Place.{place}
use Rattle.clic_trap.specs.System.{system}
use Rattle.hart_board.specs.State.{State}
use Rattle.hart_board.specs.Access.{load, store}
use Rattle.hart_board.specs.Attempt.{performed, after_load, after_store}
use Rattle.hart_board.specs.declared.trap.Trap.{Trap}
use Rattle.chain_moves.specs.Slot.{back}
use Rattle.chain_moves.specs.Servicing.{Servicing, marks}
use Rattle.chain_moves.specs.Bytes.{is_dead, in_live_frame, revived_at}
use Rattle.chain_moves.specs.Tests.{first_broken, access_tests, is_free}
use Rattle.chain_moves.specs.declared.broken.Broken.{Broken}
use Rattle.chain_moves.specs.declared.broken.Broken.TheVariants.{ReadsDispatch, WritesFrame}
use Rattle.chain_moves.specs.Body.{hart, dead_after}
use Rattle.chain_flow.specs.Flow.{Flow, value_of, set_value}
use Rattle.chain_flow.specs.declared.value.Value.{Value}
use Rattle.chain_flow.specs.declared.value.Value.TheVariants.{Entry, Const, Stack, Unknown}
use Rattle.chain_flow.specs.declared.stack_word.StackWord.{StackWord}
use Rattle.chain_flow.specs.Transfer.{plus, address_of, immediate_value, sum_value, loaded_value, stored_words, words_kept, flow_after, targets}
use Rattle.chain_flow.specs.Rules.{is_return, is_return_address, are_entries, is_entry, in_region, is_bad_pointer}
use Rattle.chain_flow.specs.Rules.{is_free as is_free_here}
use Rattle.chain_flow.specs.declared.region.Region.{Region}
use Rattle.chain_lint.proofs.Values.{Holds, AreWords, plus_holds}
use Rattle.chain_lint.proofs.Walks.{IsOf}
use Rattle.chain_flow.proofs.Looks.{Keeps}
use Rattle.chain_lint.proofs.Handlers.{IsHart, IsFramed, Knows, IsBack, Went, goes, keeps_going, sets_going}
use Rattle.chain_lint.proofs.Accesses.{Leaves, load_leaves, Loads, loads, Stores, stores, IsSmall}

abbrev done : State → Result State Trap
done t = Ok t

-- a test that does not hold
pub passes : (b : Bool) (kind : Broken) → b ≡ false → first_broken ((b, kind) ∷ []) ≡ None
unfolding first_broken
passes true kind e = absurd (true≢false e)
passes false kind e = refl

-- ---- arithmetic
copied : (y : ℕ) → y < 2 ^ 32 → word (0 + y) ≡ y
copied y l = omega arith

immediate_holds : (kept : List ℕ) (op : ImmOp) (v : Value) (x imm : ℕ) → x < 2 ^ 32 → Holds kept v x → Holds kept (immediate_value op v imm) (register_result (on_registers op) x imm)
immediate_holds kept Addi v x imm l h = plus_holds kept v x imm l h
immediate_holds kept Slti v x imm l h = tt
immediate_holds kept Sltiu v x imm l h = tt
immediate_holds kept Xori v x imm l h = tt
immediate_holds kept Ori v x imm l h = tt
immediate_holds kept Andi v x imm l h = tt
immediate_holds kept Slli v x imm l h = tt
immediate_holds kept Srli v x imm l h = tt
immediate_holds kept Srai v x imm l h = tt

sum_holds : (kept : List ℕ) (op : RegOp) (rs1 : ℕ) (v : Value) (registers : List ℕ) (y : ℕ) → register registers 0 ≡ 0 → y < 2 ^ 32 → Holds kept v y → Holds kept (sum_value op rs1 v) (register_result op (register registers rs1) y)
sum_holds kept Add rs1 v registers y z l h =
    cond_both (rs1 == 0) v Unknown (λ w. Holds kept w (word (register registers rs1 + y)))
    (λ e. subst (λ x. Holds kept v (word (x + y))) (sym (ap (λ r. register registers r) (eqb-true rs1 0 e) ∙ z)) (subst (λ x. Holds kept v x) (sym (copied y l)) h))
    (λ e. tt)
sum_holds kept Sub rs1 v registers y z l h = tt
sum_holds kept Sll rs1 v registers y z l h = tt
sum_holds kept Slt rs1 v registers y z l h = tt
sum_holds kept Sltu rs1 v registers y z l h = tt
sum_holds kept Xor rs1 v registers y z l h = tt
sum_holds kept Srl rs1 v registers y z l h = tt
sum_holds kept Sra rs1 v registers y z l h = tt
sum_holds kept Or rs1 v registers y z l h = tt
sum_holds kept And rs1 v registers y z l h = tt
sum_holds kept Mul rs1 v registers y z l h = tt
sum_holds kept Mulh rs1 v registers y z l h = tt
sum_holds kept Mulhsu rs1 v registers y z l h = tt
sum_holds kept Mulhu rs1 v registers y z l h = tt
sum_holds kept Div rs1 v registers y z l h = tt
sum_holds kept Divu rs1 v registers y z l h = tt
sum_holds kept Rem rs1 v registers y z l h = tt
sum_holds kept Remu rs1 v registers y z l h = tt

-- the place of an access is a word
word_small : (x : ℕ) → word x < 2 ^ 32
word_small x = omega arith

plus_small : (v : Value) (imm : ℕ) → IsSmall (plus v imm)
plus_small (Entry r) imm = cond_both (imm == 0) (Entry r) Unknown (λ w. IsSmall w) (λ e. tt) (λ e. tt)
plus_small (Const c) imm = tt
plus_small (Stack k) imm = word_small (k + imm)
plus_small Unknown imm = tt

-- ---- a return
entries_at : (values : List Value) (n r : ℕ) → are_entries values n ≡ true → r < n → (is_free_here r || is_entry r (value_of values r)) ≡ true
unfolding are_entries
entries_at values zero r e l = absurd (omega arith)
entries_at values (suc n) r e l =
    let parts = and_parts (is_free_here n || is_entry n (value_of values n)) (are_entries values n) e in
    ⊎_elim
    (λ (q : r ≡ n). subst (λ i. (is_free_here i || is_entry i (value_of values i)) ≡ true) (sym q) parts.0)
    (λ (q : r ≡ n → ⊥). entries_at values n r parts.1 (omega arith))
    (cases_eq r n)

entry_says : (kept : List ℕ) (r x : ℕ) (v : Value) → AreWords kept → is_entry r v ≡ true → Holds kept v x → x ≡ register kept r
entry_says kept r x (Entry q) w e h = h ∙ ap (λ i. register kept i) (sym (eqb-true r q e))
entry_says kept r x (Const c) w e h = absurd (false≢true e)
entry_says kept r x Unknown w e h = absurd (false≢true e)
entry_says kept r x (Stack k) w e h =
    let parts = and_parts (r == 2) (k == 0) e in
    let none : k ≡ 0 = eqb-true k 0 parts.1 in
    let two : r ≡ 2 = eqb-true r 2 parts.0 in
    let lt = w 2 in
    let sum : word (register kept 2 + k) ≡ register kept 2 = omega arith in
    h ∙ sum ∙ ap (λ i. register kept i) (sym two)

return_says : (kept : List ℕ) (v : Value) (x : ℕ) → is_return_address v ≡ true → Holds kept v x → x ≡ register kept 1
return_says kept (Entry r) x e h = h ∙ ap (λ i. register kept i) (eqb-true r 1 e)
return_says kept (Const c) x e h = absurd (false≢true e)
return_says kept (Stack k) x e h = absurd (false≢true e)
return_says kept Unknown x e h = absurd (false≢true e)

even_back : (x imm : ℕ) → x ≡ back → imm ≡ 0 → even (word (x + imm)) ≡ back
even_back x imm e z = omega arith

free_here : (r : ℕ) → (r ≡ 0 → ⊥) → is_free r ≡ false → is_free_here r ≡ false
free_here r n e = or_from (r == 0) (is_free r) (ne_eqb r 0 n) e

module _ (m : Meanings) (s : Servicing) (region : Region) (uses : ℕ) (kept : List ℕ) (frame : ℕ) (f : Flow)
    (framed : IsFramed region uses kept frame) (is_hart : IsHart (hart s)) (dead_in : (j : ℕ) → is_dead s.dead j ≡ true → in_region region j ≡ true)
    (frames_in : (j : ℕ) → in_live_frame (marks s.live) j ≡ true → (frame ≤ j) × (in_region region j ≡ true)) (top : register s.registers 2 ≤ frame) (low : region.low ≤ register s.registers 2)
    (knows : Knows kept frame s.registers s.memory.ram s.dead f) where
  pub record One (ins : Ins) (bits length : ℕ) : Type 0 where
    pub safe : first_broken (access_tests (marks s.live) s.dead (effect ins length s.registers s.pc)) ≡ None
    pub went : (new : State) → performed m (hart s) ins bits length ≡ Ok new
        → Went kept region frame s.memory.ram new.memory.ram s.dead (dead_after s.dead (effect ins length s.registers s.pc)) new.registers new.pc (flow_after s.pc length f ins) (targets s.pc length ins)

  -- a register is set
  go : (rd x target : ℕ) (v : Value) (next : List ℕ) (new : State) → Holds kept v x → is_bad_pointer (value_of (set_value f.values rd v) 2) ≡ false → IsOf target next ⊎ IsBack kept (with_register s.registers rd x) target
      → done (record (hart s) { registers = with_register s.registers rd x; pc = target }) ≡ Ok new
      → Went kept region frame s.memory.ram new.memory.ram s.dead s.dead new.registers new.pc (record { values = set_value f.values rd v; words = words_kept (value_of (set_value f.values rd v) 2) f.words }) next
  go rd x target v next new h b lands e =
      let is : record (hart s) { registers = with_register s.registers rd x; pc = target } ≡ new = cc in
      subst (λ (t : State). Went kept region frame s.memory.ram t.memory.ram s.dead s.dead t.registers t.pc (record { values = set_value f.values rd v; words = words_kept (value_of (set_value f.values rd v) 2) f.words }) next) is
      (sets_going region uses kept frame f s.registers s.memory.ram s.dead rd v x target next framed knows h b lands)

  -- no register is set
  stay : (target : ℕ) (next : List ℕ) (new : State) → is_bad_pointer (value_of f.values 2) ≡ false → IsOf target next
      → done (record (hart s) { pc = target }) ≡ Ok new
      → Went kept region frame s.memory.ram new.memory.ram s.dead s.dead new.registers new.pc (record { values = f.values; words = words_kept (value_of f.values 2) f.words }) next
  stay target next new b lands e =
      let is : record (hart s) { pc = target } ≡ new = cc in
      subst (λ (t : State). Went kept region frame s.memory.ram t.memory.ram s.dead s.dead t.registers t.pc (record { values = f.values; words = words_kept (value_of f.values 2) f.words }) next) is
      (keeps_going region uses kept frame f s.registers s.memory.ram s.dead target next framed knows b (inl lands))

  loaded_goes : (rd at width : ℕ) (signed : Bool) (target : ℕ) (v : Value) (next : List ℕ) (r : Result (ℕ × State) ℕ) (new : State)
      → ((found : ℕ × State) → r ≡ Ok found → Leaves (hart s) found × Holds kept v (extended found.0 width signed))
      → is_bad_pointer (value_of (set_value f.values rd v) 2) ≡ false → IsOf target next → after_load rd at width signed target r ≡ Ok new
      → Went kept region frame s.memory.ram new.memory.ram s.dead s.dead new.registers new.pc (record { values = set_value f.values rd v; words = words_kept (value_of (set_value f.values rd v) 2) f.words }) next
  loaded_goes rd at width signed target v next (Err code) new says b lands e = absurd cc
  loaded_goes rd at width signed target v next (Ok found) new says b lands e =
      let is : record found.1 { registers = with_register found.1.registers rd (extended found.0 width signed); pc = target } ≡ new = cc in
      let both = says found refl in
      let left = both.0 in
      subst (λ (t : State). Went kept region frame s.memory.ram t.memory.ram s.dead s.dead t.registers t.pc (record { values = set_value f.values rd v; words = words_kept (value_of (set_value f.values rd v) 2) f.words }) next) is
      (subst (λ (mem : Memory). Went kept region frame s.memory.ram mem.ram s.dead s.dead (with_register found.1.registers rd (extended found.0 width signed)) target (record { values = set_value f.values rd v; words = words_kept (value_of (set_value f.values rd v) 2) f.words }) next) (sym left.memory)
      (subst (λ (rs : List ℕ). Went kept region frame s.memory.ram s.memory.ram s.dead s.dead (with_register rs rd (extended found.0 width signed)) target (record { values = set_value f.values rd v; words = words_kept (value_of (set_value f.values rd v) 2) f.words }) next) (sym left.registers)
      (sets_going region uses kept frame f s.registers s.memory.ram s.dead rd v (extended found.0 width signed) target next framed knows both.1 b (inl lands))))

  stored_goes : (at width value target : ℕ) (ws : List StackWord) (next : List ℕ) (r : Result State ℕ) (new : State) → store m (hart s) at width value ≡ r
      → Stores m (hart s) (marks s.live) s.dead region uses kept frame f framed is_hart dead_in frames_in top low knows width value at ws
      → is_bad_pointer (value_of f.values 2) ≡ false → IsOf target next → after_store at target r ≡ Ok new
      → Went kept region frame s.memory.ram new.memory.ram s.dead (revived_at (place at width) width s.dead) new.registers new.pc (record { values = f.values; words = words_kept (value_of f.values 2) ws }) next
  stored_goes at width value target ws next (Err code) new q st b lands e = absurd cc
  stored_goes at width value target ws next (Ok after) new q st b lands e =
      let is : record after { pc = target } ≡ new = cc in
      subst (λ (t : State). Went kept region frame s.memory.ram t.memory.ram s.dead (revived_at (place at width) width s.dead) t.registers t.pc (record { values = f.values; words = words_kept (value_of f.values 2) ws }) next) is
      (subst (λ (rs : List ℕ). Went kept region frame s.memory.ram after.memory.ram s.dead (revived_at (place at width) width s.dead) rs target (record { values = f.values; words = words_kept (value_of f.values 2) ws }) next) (sym (st.registers after q))
      (goes region uses kept frame f.values ws s.registers s.memory.ram after.memory.ram s.dead (revived_at (place at width) width s.dead) (register s.registers 2) target next framed knows.long knows.values b (st.words after q) (inl lands) (st.stays after q) st.marks))

  one_load : (rd at width : ℕ) (signed : Bool) (target : ℕ) (v : Value) (next : List ℕ)
      → Loads m (hart s) (marks s.live) s.dead region uses kept frame f framed is_hart dead_in frames_in top low knows width signed at v
      → is_bad_pointer (value_of (set_value f.values rd v) 2) ≡ false → IsOf target next → (new : State) → after_load rd at width signed target (load m (hart s) at width) ≡ Ok new
      → Went kept region frame s.memory.ram new.memory.ram s.dead s.dead new.registers new.pc (record { values = set_value f.values rd v; words = words_kept (value_of (set_value f.values rd v) 2) f.words }) next
  one_load rd at width signed target v next l b lands new e =
      loaded_goes rd at width signed target v next (load m (hart s) at width) new (λ found q. (load_leaves m (hart s) at width found q, l.says found q)) b lands e

  zero_stays : (rd x : ℕ) → rd ≡ 0 → with_register s.registers rd x ≡ s.registers
  zero_stays rd x e = ap (λ r. with_register s.registers r x) e

  returns : (rd rs1 imm x : ℕ) → not (is_return f (Jalr rd rs1 imm)) ≡ false → not (are_entries f.values 32) ≡ false
      → IsBack kept (with_register s.registers rd x) (even (word (register s.registers rs1 + imm)))
  returns rd rs1 imm x a c =
      let parts = and_parts (rd == 0) (imm == 0 && is_return_address (value_of f.values rs1)) (not-false _ a) in
      let more = and_parts (imm == 0) (is_return_address (value_of f.values rs1)) parts.1 in
      let ra : register s.registers rs1 ≡ back = return_says kept (value_of f.values rs1) (register s.registers rs1) more.1 (knows.values rs1) ∙ framed.ra in (
        even_back (register s.registers rs1) imm ra (eqb-true imm 0 more.0),
        λ r l free.
            ap (λ rs. register rs r) (zero_stays rd x (eqb-true rd 0 parts.0))
            ∙ ⊎_elim
            (λ (z : r ≡ 0). ap (λ i. register s.registers i) z ∙ is_hart.zero ∙ sym framed.zero ∙ ap (λ i. register kept i) (sym z))
            (λ (n : r ≡ 0 → ⊥). ⊎_elim
            (λ (w : is_free_here r ≡ true). absurd (true≢false (sym w ∙ free_here r n free)))
            (λ (w : is_entry r (value_of f.values r) ≡ true). entry_says kept r (register s.registers r) (value_of f.values r) framed.words w (knows.values r))
            (or_cases (is_free_here r) (is_entry r (value_of f.values r)) (entries_at f.values 32 r (not-false _ c) l)))
            (cases_eq r 0),
      )

  branches : (b : Bool) (far near : ℕ) → IsOf (cond b far near) (far ∷ near ∷ [])
  branches true far near = inl refl
  branches false far near = inr (inl refl)

  pub one : (ins : Ins) (bits length : ℕ) → Keeps region s.pc f (flow_after s.pc length f ins) ins → One ins bits length
  unfolding effect performed flow_after first_broken system
  one (Lui rd imm) bits length k = record { safe = refl; went = λ new e. go rd imm (word (s.pc + length)) (Const imm) _ new refl k.pointer (inl (inl refl)) e }
  one (Auipc rd imm) bits length k = record { safe = refl; went = λ new e. go rd (word (s.pc + imm)) (word (s.pc + length)) (Const (word (s.pc + imm))) _ new refl k.pointer (inl (inl refl)) e }
  one (Jal rd offset) bits length k = record { safe = refl; went = λ new e. go rd (word (s.pc + length)) (word (s.pc + offset)) (Const (word (s.pc + length))) _ new refl k.pointer (inl (inl refl)) e }
  one (Jalr rd rs1 imm) bits length k = record { safe = refl; went = λ new e. go rd (word (s.pc + length)) (even (word (register s.registers rs1 + imm))) Unknown [] new tt k.pointer (inr (returns rd rs1 imm (word (s.pc + length)) k.target k.changed)) e }
  one (Branch op rs1 rs2 offset) bits length k = record { safe = refl; went = λ new e. stay (cond (branch_taken op (register s.registers rs1) (register s.registers rs2)) (word (s.pc + offset)) (word (s.pc + length))) _ new k.pointer (branches (branch_taken op (register s.registers rs1) (register s.registers rs2)) (word (s.pc + offset)) (word (s.pc + length))) e }
  one (Load op rd rs1 imm) bits length k =
      let p = address_of f rs1 imm in
      let at = word (register s.registers rs1 + imm) in
      let l = loads m (hart s) (marks s.live) s.dead region uses kept frame f framed is_hart dead_in frames_in top low knows op p at (plus_holds kept (value_of f.values rs1) (register s.registers rs1) imm (is_hart.words rs1) (knows.values rs1)) k.access in
      record {
        safe = passes _ ReadsDispatch l.safe;
        went = one_load rd at (load_width op) (extends_sign op) (word (s.pc + length)) (loaded_value f.words (load_width op) p) _ l k.pointer (inl refl);
      }
  one (Store op rs1 rs2 imm) bits length k =
      let p = address_of f rs1 imm in
      let at = word (register s.registers rs1 + imm) in
      let st = stores m (hart s) (marks s.live) s.dead region uses kept frame f framed is_hart dead_in frames_in top low knows op p (value_of f.values rs2) (register s.registers rs2) at (plus_small (value_of f.values rs1) imm) (is_hart.words rs2) (knows.values rs2) (plus_holds kept (value_of f.values rs1) (register s.registers rs1) imm (is_hart.words rs1) (knows.values rs1)) k.access in
      record {
        safe = passes _ WritesFrame st.safe;
        went = λ new e. stored_goes at (store_width op) (register s.registers rs2 % 2 ^ (8 * store_width op)) (word (s.pc + length)) (stored_words f.words (store_width op) p (value_of f.values rs2)) _ (store m (hart s) at (store_width op) (register s.registers rs2 % 2 ^ (8 * store_width op))) new refl st k.pointer (inl refl) e;
      }
  one (Imm op rd rs1 imm) bits length k = record { safe = refl; went = λ new e. go rd (register_result (on_registers op) (register s.registers rs1) imm) (word (s.pc + length)) (immediate_value op (value_of f.values rs1) imm) _ new (immediate_holds kept op (value_of f.values rs1) (register s.registers rs1) imm (is_hart.words rs1) (knows.values rs1)) k.pointer (inl (inl refl)) e }
  one (Reg op rd rs1 rs2) bits length k = record { safe = refl; went = λ new e. go rd (register_result op (register s.registers rs1) (register s.registers rs2)) (word (s.pc + length)) (sum_value op rs1 (value_of f.values rs2)) _ new (sum_holds kept op rs1 (value_of f.values rs2) s.registers (register s.registers rs2) is_hart.zero (is_hart.words rs2) (knows.values rs2)) k.pointer (inl (inl refl)) e }
  one (Fence pred succ) bits length k = record { safe = refl; went = λ new e. stay (word (s.pc + length)) _ new k.pointer (inl refl) e }
  one Wfi bits length k = record { safe = refl; went = λ new e. stay (word (s.pc + length)) _ new k.pointer (inl refl) e }
  one Ecall bits length k = absurd (true≢false k.system)
  one Ebreak bits length k = absurd (true≢false k.system)
  one Mret bits length k = absurd (true≢false k.system)
  one (Csr op rd source csr) bits length k = absurd (true≢false k.system)
