-- The registers at an Enter and at a Leave.
use Rattle.std.proofs.Common.{◌≡◌, ℕ, ◌<◌, ⊎_elim, List, length, set, sym, ◌∙◌, subst, arith, length-set}
use Rattle.std.proofs.lemmas.List.{get_or-set_same, get_or-set_other, ext_get_or}
use Rattle.std.proofs.lemmas.Bool.{cases_eq}
use Rattle.hart_words.specs.Registers.{register}
use Rattle.chain_moves.specs.Slot.{back}
use Rattle.chain_moves.specs.Servicing.{Live}
use Rattle.chain_moves.specs.Enter.{enter_registers}
use Rattle.chain_moves.specs.Leave.{leave_registers}

-- ---- Enter
pub record Enters (registers : List ℕ) (frame at target : ℕ) (new : List ℕ) : Type 0 where
  pub count : length new ≡ 32
  pub sp : register new 2 ≡ frame
  pub ra : register new 1 ≡ back
  pub a1 : register new 11 ≡ target
  pub others : (r : ℕ) → (r ≡ 1 → ⊥) → (r ≡ 2 → ⊥) → (r ≡ 10 → ⊥) → (r ≡ 11 → ⊥) → register new r ≡ register registers r

pub enter_others : (registers : List ℕ) (frame at target r : ℕ) → (r ≡ 1 → ⊥) → (r ≡ 2 → ⊥) → (r ≡ 10 → ⊥) → (r ≡ 11 → ⊥) → register (enter_registers registers frame at target) r ≡ register registers r
unfolding enter_registers
enter_others registers frame at target r n1 n2 n10 n11 =
    let first = set registers 2 frame in
    let second = set first 10 at in
    get_or-set_other (set second 11 target) 1 r back 0 n1 ∙ get_or-set_other second 11 r target 0 n11 ∙ get_or-set_other first 10 r at 0 n10 ∙ get_or-set_other registers 2 r frame 0 n2

pub enters : (registers : List ℕ) (frame at target : ℕ) → length registers ≡ 32 → Enters registers frame at target (enter_registers registers frame at target)
unfolding enter_registers
enters registers frame at target l =
    let first = set registers 2 frame in
    let second = set first 10 at in
    let third = set second 11 target in
    let la : length first ≡ 32 = length-set registers 2 frame ∙ l in
    let lb : length second ≡ 32 = length-set first 10 at ∙ la in
    let lc : length third ≡ 32 = length-set second 11 target ∙ lb in
    record {
      count = length-set third 1 back ∙ lc;
      sp = get_or-set_other third 1 2 back 0 (omega arith) ∙ get_or-set_other second 11 2 target 0 (omega arith) ∙ get_or-set_other first 10 2 at 0 (omega arith) ∙ get_or-set_same registers 2 frame 0 (omega arith);
      ra = get_or-set_same third 1 back 0 (omega arith);
      a1 = get_or-set_other third 1 11 back 0 (omega arith) ∙ get_or-set_same second 11 target 0 (omega arith);
      others = enter_others registers frame at target;
    }

-- ---- Leave
pub record Brings (registers : List ℕ) (v : Live) (sp : ℕ) (new : List ℕ) : Type 0 where
  pub count : length new ≡ 32
  pub sp_is : register new 2 ≡ sp
  pub ra : register new 1 ≡ v.ra
  pub a0 : register new 10 ≡ v.a0
  pub a1 : register new 11 ≡ v.a1
  pub others : (r : ℕ) → (r ≡ 1 → ⊥) → (r ≡ 2 → ⊥) → (r ≡ 10 → ⊥) → (r ≡ 11 → ⊥) → register new r ≡ register registers r

pub leave_others : (registers : List ℕ) (v : Live) (sp r : ℕ) → (r ≡ 1 → ⊥) → (r ≡ 2 → ⊥) → (r ≡ 10 → ⊥) → (r ≡ 11 → ⊥) → register (leave_registers registers v sp) r ≡ register registers r
unfolding leave_registers
leave_others registers v sp r n1 n2 n10 n11 =
    let first = set registers 1 v.ra in
    let second = set first 10 v.a0 in
    get_or-set_other (set second 11 v.a1) 2 r sp 0 n2 ∙ get_or-set_other second 11 r v.a1 0 n11 ∙ get_or-set_other first 10 r v.a0 0 n10 ∙ get_or-set_other registers 1 r v.ra 0 n1

pub brings : (registers : List ℕ) (v : Live) (sp : ℕ) → length registers ≡ 32 → Brings registers v sp (leave_registers registers v sp)
unfolding leave_registers
brings registers v sp l =
    let first = set registers 1 v.ra in
    let second = set first 10 v.a0 in
    let third = set second 11 v.a1 in
    let la : length first ≡ 32 = length-set registers 1 v.ra ∙ l in
    let lb : length second ≡ 32 = length-set first 10 v.a0 ∙ la in
    let lc : length third ≡ 32 = length-set second 11 v.a1 ∙ lb in
    record {
      count = length-set third 2 sp ∙ lc;
      sp_is = get_or-set_same third 2 sp 0 (omega arith);
      ra = get_or-set_other third 2 1 sp 0 (omega arith) ∙ get_or-set_other second 11 1 v.a1 0 (omega arith) ∙ get_or-set_other first 10 1 v.a0 0 (omega arith) ∙ get_or-set_same registers 1 v.ra 0 (omega arith);
      a0 = get_or-set_other third 2 10 sp 0 (omega arith) ∙ get_or-set_other second 11 10 v.a1 0 (omega arith) ∙ get_or-set_same first 10 v.a0 0 (omega arith);
      a1 = get_or-set_other third 2 11 sp 0 (omega arith) ∙ get_or-set_same second 11 v.a1 0 (omega arith);
      others = leave_others registers v sp;
    }

-- two register files are one where the five parts agree
pub same_registers : (a b : List ℕ) → length a ≡ 32 → length b ≡ 32 → register a 1 ≡ register b 1 → register a 2 ≡ register b 2 → register a 10 ≡ register b 10 → register a 11 ≡ register b 11
    → ((r : ℕ) → r < 32 → (r ≡ 1 → ⊥) → (r ≡ 2 → ⊥) → (r ≡ 10 → ⊥) → (r ≡ 11 → ⊥) → register a r ≡ register b r) → a ≡ b
same_registers a b la lb one two ten eleven others =
    ext_get_or 0 a b (la ∙ sym lb)
    (λ r l. ⊎_elim
    (λ (e : r ≡ 1). subst (λ i. register a i ≡ register b i) (sym e) one)
    (λ (n1 : r ≡ 1 → ⊥). ⊎_elim
    (λ (e : r ≡ 2). subst (λ i. register a i ≡ register b i) (sym e) two)
    (λ (n2 : r ≡ 2 → ⊥). ⊎_elim
    (λ (e : r ≡ 10). subst (λ i. register a i ≡ register b i) (sym e) ten)
    (λ (n10 : r ≡ 10 → ⊥). ⊎_elim
    (λ (e : r ≡ 11). subst (λ i. register a i ≡ register b i) (sym e) eleven)
    (λ (n11 : r ≡ 11 → ⊥). others r (omega arith) n1 n2 n10 n11)
    (cases_eq r 11))
    (cases_eq r 10))
    (cases_eq r 2))
    (cases_eq r 1))

-- a Leave straight after an Enter brings all registers back
pub leave-enter : (registers : List ℕ) (frame at target : ℕ) (v : Live) (sp : ℕ) → length registers ≡ 32 → v.ra ≡ register registers 1 → v.a0 ≡ register registers 10 → v.a1 ≡ register registers 11 → sp ≡ register registers 2
    → leave_registers (enter_registers registers frame at target) v sp ≡ registers
leave-enter registers frame at target v sp l ra a0 a1 is =
    let x = enters registers frame at target l in
    let y = brings (enter_registers registers frame at target) v sp x.count in
    same_registers (leave_registers (enter_registers registers frame at target) v sp) registers y.count l (y.ra ∙ ra) (y.sp_is ∙ is) (y.a0 ∙ a0) (y.a1 ∙ a1)
    (λ r b n1 n2 n10 n11. y.others r n1 n2 n10 n11 ∙ x.others r n1 n2 n10 n11)
