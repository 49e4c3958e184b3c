-- What one move leaves of what services of at least a level still need, where those that begin pay for it.
use Rattle.std.proofs.Common.{◌≡◌, ℕ, suc, ◌+◌, ◌≤◌, inl, inr, Bool, true, false, cond, List, [], ◌∷◌, ◌++◌, refl, sym, ap, ◌∙◌, subst, arith, append-nil}
use Rattle.std.specs.Prelude.{nat_le}
use Rattle.std.proofs.lemmas.Bool.{le-leb, leb-true, true≢false}
use Rattle.device_model.specs.Meanings.{Meanings}
use Rattle.hart_board.specs.declared.event.Event.{Event}
use Rattle.chain_moves.specs.Servicing.{Live, Service, Servicing}
use Rattle.chain_moves.specs.Machine.{Makes}
use Rattle.chain_moves.specs.Cost.{enter_cost, leave_cost}
use Rattle.chain_moves.specs.Moves.{move}
use Rattle.chain_moves.specs.Kinds.{IsMoveBy, BodyLeaves}
use Rattle.chain_moves.specs.declared.moves.Move.{Move}
use Rattle.chain_moves.specs.declared.moves.Move.TheVariants.{Enter, Leave, Body}
use Rattle.chain_moves.proofs.Alone.{leaves_alone}
use Rattle.chain_moves.proofs.OneOfThree.{is_one}
use Rattle.chain_flow.specs.declared.region.Region.{Region}
use Rattle.chain_lint.specs.Soundness.{handler_of}
use Rattle.chain_lint.proofs.Invariant.{Inv}
use Rattle.chain_time.specs.Path.{path}
use Rattle.chain_time.specs.Waiting.{HasInnermost, Serves}
use Rattle.chain_time.specs.Stretch.{rest_of, rest}
use Rattle.chain_time.specs.Counts.{Timed, worth, Has, time_of, AreFew}
use Rattle.chain_time.specs.Response.{AreOfRows}
use Rattle.chain_time.proofs.Steps.{body_falls}
use Rattle.chain_time.proofs.Turns.{most, Begun, begins, Ended, ends, not_back}
use Rattle.chain_time.proofs.Counting.{values, IsWorth, AreWorth, worth_at_most, worth_from, time_is}

-- ---- what services of at least a level take
abbrev pub due : (ℕ → ℕ) → ℕ → List Service → ℕ
due paths level begun = values (λ e. cond (nat_le level e.level) (enter_cost + paths e.number + leave_cost) 0) begun

-- is at most what the inputs of the list take
due_by : (a b : Bool) (x y : ℕ) → (a ≡ true → b ≡ true) → x ≤ y → cond a x 0 ≤ cond b y 0
due_by true true x y h l = l
due_by true false x y h l = absurd (true≢false (sym (h refl)))
due_by false b x y h l = omega arith

row_worth : (level low input way : ℕ) (rs : List Timed) → Has low input way rs → IsWorth (worth_from level) input (cond (nat_le level low) (enter_cost + way + leave_cost) 0) rs
row_worth level low input way [] h = absurd h
row_worth level low input way (r ∷ rs) (inl h) =
    let l = h.2 in
    let up = h.1 in
    inl (h.0, due_by (nat_le level low) (nat_le level r.level) (enter_cost + way + leave_cost) (worth r) (λ e. let k = leb-true level low e in le-leb level r.level (omega arith)) (omega arith))
row_worth level low input way (r ∷ rs) (inr h) = inr (row_worth level low input way rs h)

rows_worth : (rs : List Timed) (level : ℕ) (paths : ℕ → ℕ) (begun : List Service) → AreOfRows paths rs begun → AreWorth (worth_from level) (λ e. cond (nat_le level e.level) (enter_cost + paths e.number + leave_cost) 0) rs begun
rows_worth rs level paths [] h = tt
rows_worth rs level paths (e ∷ begun) h = (row_worth level e.level e.number (paths e.number) rs h.0, rows_worth rs level paths begun h.1)

pub due_few : (rs : List Timed) (level : ℕ) (paths : ℕ → ℕ) (begun : List Service) → AreOfRows paths rs begun → AreFew rs begun → due paths level begun ≤ time_of rs level
due_few rs level paths begun h few =
    let a = worth_at_most (worth_from level) (λ e. cond (nat_le level e.level) (enter_cost + paths e.number + leave_cost) 0) rs begun (rows_worth rs level paths begun h) few in
    let b = time_is rs level in
    omega arith

-- ---- one move, whose price is counted or not
pub record Pays (code : List ℕ) (paths : ℕ → ℕ) (level : ℕ) (counts : Bool) (kind : Move) (s t : Servicing) : Type 0 where
  pub begun : List Service
  pub services : t.services ≡ s.services ++ begun
  pub steps : cond counts (most kind) 0 + rest code level t ≤ rest code level s + due paths level begun

enter_by : (counts b : Bool) (p q x : ℕ) → (counts ≡ true → b ≡ true) → p ≤ q → cond counts 14 0 + (cond b (p + 16) 0 + x) ≤ x + (cond b (14 + q + 16) 0 + 0)
enter_by true true p q x h l = omega arith
enter_by true false p q x h l = absurd (true≢false (sym (h refl)))
enter_by false true p q x h l = omega arith
enter_by false false p q x h l = omega arith

leave_by : (counts b : Bool) (p x : ℕ) → (counts ≡ true → b ≡ true) → cond counts 16 0 + x ≤ cond b (p + 16) 0 + x + 0
leave_by true true p x h = omega arith
leave_by true false p x h = absurd (true≢false (sym (h refl)))
leave_by false true p x h = omega arith
leave_by false false p x h = omega arith

body_by : (counts b : Bool) (p q x : ℕ) → (counts ≡ true → b ≡ true) → suc q ≤ p → cond counts 1 0 + (cond b (q + 16) 0 + x) ≤ cond b (p + 16) 0 + x + 0
body_by true true p q x h l = omega arith
body_by true false p q x h l = absurd (true≢false (sym (h refl)))
body_by false true p q x h l = omega arith
body_by false false p q x h l = omega arith

none_by : (counts : Bool) → (counts ≡ true → ⊥) → cond counts 1 0 + 0 ≤ 0 + 0
none_by true h = absurd (h refl)
none_by false h = omega arith

module _ (code : List ℕ) (paths : ℕ → ℕ) (level : ℕ) (counts : Bool) (s t : Servicing) where
  enter_pays : Begun s t → (counts ≡ true → HasInnermost level t.live) → ((v : Live) → t.live ≡ v ∷ s.live → path code (handler_of v) ≤ paths v.number) → Pays code paths level counts Enter s t
  enter_pays h high timed =
      let v = h.service in
      let is : rest code level t ≡ cond (nat_le level v.mark.level) (path code t.pc + leave_cost) 0 + rest_of code level v.pc s.live = ap (rest_of code level t.pc) h.live in
      let same : rest_of code level v.pc s.live ≡ rest code level s = ap (λ p. rest_of code level p s.live) h.suspends in
      let p : path code t.pc ≡ path code (handler_of v) = ap (path code) h.at in
      let q : paths h.listed.number ≡ paths v.number = ap paths h.number in
      let lev : due paths level (h.listed ∷ []) ≡ cond (nat_le level v.mark.level) (enter_cost + paths h.listed.number + leave_cost) 0 + 0 = ap (λ l. cond (nat_le level l) (enter_cost + paths h.listed.number + leave_cost) 0 + 0) h.level in
      let l = timed v h.live in
      let all = enter_by counts (nat_le level v.mark.level) (path code t.pc) (paths h.listed.number) (rest code level s) (λ e. le-leb level v.mark.level (subst (HasInnermost level) h.live (high e))) (omega arith) in
      record { begun = h.listed ∷ []; services = h.services; steps = omega arith }

  leave_pays : Ended s t → (counts ≡ true → HasInnermost level s.live) → Pays code paths level counts Leave s t
  leave_pays h high =
      let v = h.service in
      let is : rest code level s ≡ cond (nat_le level v.mark.level) (path code s.pc + leave_cost) 0 + rest_of code level v.pc t.live = ap (rest_of code level s.pc) h.live in
      let same : rest code level t ≡ rest_of code level v.pc t.live = ap (λ p. rest_of code level p t.live) h.at in
      let all = leave_by counts (nat_le level v.mark.level) (path code s.pc) (rest_of code level v.pc t.live) (λ e. le-leb level v.mark.level (subst (HasInnermost level) h.live (high e))) in
      record { begun = []; services = h.services ∙ sym (append-nil s.services); steps = omega arith }

  body_rest : (pc pc' : ℕ) (live : List Live) → (counts ≡ true → HasInnermost level live) → ((v : Live) (vs : List Live) → live ≡ v ∷ vs → suc (path code pc') ≤ path code pc)
      → cond counts 1 0 + rest_of code level pc' live ≤ rest_of code level pc live + 0
  body_rest pc pc' [] high falls = none_by counts high
  body_rest pc pc' (v ∷ vs) high falls = body_by counts (nat_le level v.mark.level) (path code pc) (path code pc') (rest_of code level v.pc vs) (λ e. le-leb level v.mark.level (high e)) (falls v vs refl)

  body_pays : BodyLeaves s t → (counts ≡ true → HasInnermost level s.live) → ((v : Live) (vs : List Live) → s.live ≡ v ∷ vs → suc (path code t.pc) ≤ path code s.pc) → Pays code paths level counts Body s t
  body_pays h high falls =
      let f = body_rest s.pc t.pc s.live high falls in
      let same : rest code level t ≡ rest_of code level t.pc s.live = ap (rest_of code level t.pc) h.live in
      record { begun = []; services = h.services ∙ sym (append-nil s.services); steps = omega arith }

module _ (m : Meanings) (es : List Event) (code : List ℕ) (region : Region) (paths : ℕ → ℕ) (level : ℕ) (counts : Bool) (s t : Servicing) (inv : Inv m code region s) where
  pays_by : (kind : Move) → IsMoveBy m es s kind t → (counts ≡ true → Serves level kind s t) → ((v : Live) → t.live ≡ v ∷ s.live → path code (handler_of v) ≤ paths v.number) → Pays code paths level counts kind s t
  pays_by Enter h high timed = enter_pays code paths level counts s t (begins s t inv.range.board.registers.count h) high timed
  pays_by Leave h high timed = leave_pays code paths level counts s t (ends s t h) high
  pays_by Body h high timed = body_pays code paths level counts s t (leaves_alone m es s Body t h) high (λ v vs e. body_falls m es code region s t v vs inv e (not_back m es code region paths level s t inv v vs e h.no_leave) h.made)

  pub pays : (kind : Move) → move m es s ≡ Makes kind t → (counts ≡ true → Serves level kind s t) → ((v : Live) → t.live ≡ v ∷ s.live → path code (handler_of v) ≤ paths v.number) → Pays code paths level counts kind s t
  pays kind e high timed = pays_by kind (is_one m es s kind t e).1 high timed
