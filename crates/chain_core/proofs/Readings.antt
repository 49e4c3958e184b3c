-- What is read off a walk of dispatch code: nothing inside a move, a return at its first step, and a service at its call.
use Rattle.std.proofs.Common.{◌≡◌, ℕ, zero, suc, ◌+◌, ◌-◌, ◌<◌, ◌≤◌, ◌==◌, Bool, true, false, not, ◌&&◌, List, [], ◌∷◌, ◌++◌, length, refl, sym, ap, ap₂, ◌∙◌, arith}
use Rattle.std.proofs.lemmas.Bool.{and_parts}
use Rattle.device_model.specs.Meanings.{Meanings}
use Rattle.hart_board.specs.State.{State}
use Rattle.hart_board.specs.Step.{step}
use Rattle.hart_board.specs.Run.{Stand}
use Rattle.hart_board.specs.declared.event.Event.{Event}
use Rattle.hart_report.specs.declared.stepped.Stepped.{Stepped}
use Rattle.hart_report.specs.declared.stepped.Stepped.TheVariants.{Retired, Interrupted, Raised, Halted, VectorFault}
use Rattle.chain_moves.specs.Slot.{call, back}
use Rattle.chain_core.specs.Walk.{Walk, walked}
use Rattle.chain_core.specs.ChainRun.{chained_at, Read, read_at, read_by, read_services, read_to}
use Rattle.chain_core.proofs.Walks.{is_dispatch, are_dispatch, stands_next}

-- a step of dispatch code that is neither the call nor the first after a handler's return
abbrev pub is_plain : Stepped → Bool
is_plain (Retired pc bits length) = not (pc == call) && not (pc == back)
is_plain told = true

abbrev pub are_plain : List Stepped → Bool
are_plain [] = true
are_plain (t ∷ ts) = is_plain t && are_plain ts

-- a service begins, and the innermost one ends
abbrev pub with_call : Read → State → Read
with_call r new = read_at r new true false

abbrev pub with_return : Read → Read
with_return r = record r { depth = r.depth - 1 }

by_place : (r : Read) (new : State) (at_call at_back : Bool) → (not at_call && not at_back) ≡ true → read_at r new at_call at_back ≡ r
by_place r new false false h = refl
by_place r new true at_back h = absurd cc
by_place r new false true h = absurd cc

plain_read : (r : Read) (new : State) (t : Stepped) → is_plain t ≡ true → read_by r new t ≡ r
plain_read r new (Retired pc bits length) h = by_place r new (pc == call) (pc == back) h
plain_read r new (Interrupted pc id) h = refl
plain_read r new (Raised pc code) h = refl
plain_read r new (Halted code) h = refl
plain_read r new (VectorFault id) h = refl

heads : {x y : Stepped} {xs ys : List Stepped} → x ∷ xs ≡ y ∷ ys → x ≡ y
heads e = cc

tails : {x y : Stepped} {xs ys : List Stepped} → x ∷ xs ≡ y ∷ ys → xs ≡ ys
tails e = cc

ends : {x : Stepped} {xs : List Stepped} → [] ≡ x ∷ xs → ⊥
ends e = cc

module _ (m : Meanings) (es : List Event) (b : State) where
  read_next : (k c : ℕ) (a : State) → chained_at m es b k ≡ record { count = c; board = a } → read_to m es b (suc k) ≡ read_by (read_to m es b k) (step m a).state (step m a).told
  unfolding read_to
  read_next k c a e = ap (λ (q : Stand). read_services (read_to m es b k) (step m q.board)) e

  -- the front of a walk is plain
  front : (n j k c : ℕ) (a : State) (ts us : List Stepped) → chained_at m es b k ≡ record { count = c; board = a } → (walked m n a).told ≡ ts ++ us → are_dispatch (ts ++ us) ≡ true → are_plain ts ≡ true → j ≤ length ts → read_to m es b (k + j) ≡ read_to m es b k
  unfolding walked
  front n zero k c a ts us e is dispatch plain l = let same : k + 0 ≡ k = omega arith in ap (read_to m es b) same
  front n (suc j) k c a [] us e is dispatch plain l = absurd (omega arith)
  front zero (suc j) k c a (t ∷ ts) us e is dispatch plain l = absurd cc
  front (suc n) (suc j) k c a (t ∷ ts) us e is dispatch plain l =
      let p = and_parts (is_plain t) (are_plain ts) plain in
      let q = and_parts (is_dispatch t) (are_dispatch (ts ++ us)) dispatch in
      let first : (step m a).told ≡ t = heads is in
      let same : k + suc j ≡ suc k + j = omega arith in
      ap (read_to m es b) same
      ∙ (front n j (suc k) c (step m a).state ts us (stands_next m es b k c a e (ap is_dispatch first ∙ q.0)) (tails is) q.1 p.1 (omega arith)
      ∙ (read_next k c a e ∙ (ap (read_by (read_to m es b k) (step m a).state) first ∙ plain_read (read_to m es b k) (step m a).state t p.0)))

  -- a walk that ends with the call
  last : (n k c : ℕ) (a : State) (ts : List Stepped) (bits size : ℕ) (new : State) → chained_at m es b k ≡ record { count = c; board = a } → walked m n a ≡ record { told = ts ++ Retired call bits size ∷ []; state = new } → are_dispatch ts ≡ true → are_plain ts ≡ true → read_to m es b (k + n) ≡ with_call (read_to m es b k) new
  unfolding walked
  last zero k c a [] bits size new e is dispatch plain = absurd (ends (ap (λ (w : Walk). w.told) is))
  last zero k c a (t ∷ ts) bits size new e is dispatch plain = absurd (ends (ap (λ (w : Walk). w.told) is))
  last (suc n) k c a (t ∷ ts) bits size new e is dispatch plain =
      let p = and_parts (is_plain t) (are_plain ts) plain in
      let q = and_parts (is_dispatch t) (are_dispatch ts) dispatch in
      let told = ap (λ (w : Walk). w.told) is in
      let state : (walked m n (step m a).state).state ≡ new = ap (λ (w : Walk). w.state) is in
      let first : (step m a).told ≡ t = heads told in
      let rest : (walked m n (step m a).state).told ≡ ts ++ Retired call bits size ∷ [] = tails told in
      let same : k + suc n ≡ suc k + n = omega arith in
      ap (read_to m es b) same
      ∙ (last n (suc k) c (step m a).state ts bits size new (stands_next m es b k c a e (ap is_dispatch first ∙ q.0)) (ap₂ (λ x y. record { told = x; state = y }) rest state) q.1 p.1
      ∙ ap (λ r. with_call r new) (read_next k c a e ∙ (ap (read_by (read_to m es b k) (step m a).state) first ∙ plain_read (read_to m es b k) (step m a).state t p.0)))
  last (suc zero) k c a [] bits size new e is dispatch plain =
      let told : (step m a).told ∷ [] ≡ Retired call bits size ∷ [] = ap (λ (w : Walk). w.told) is in
      let state : (step m a).state ≡ new = ap (λ (w : Walk). w.state) is in
      let first : (step m a).told ≡ Retired call bits size = heads told in
      let same : k + 1 ≡ suc k = omega arith in
      ap (read_to m es b) same ∙ (read_next k c a e ∙ ap₂ (read_by (read_to m es b k)) state first)
  last (suc (suc n)) k c a [] bits size new e is dispatch plain = absurd (ends (sym (tails (ap (λ (w : Walk). w.told) is))))

  -- a walk that begins where handlers return
  first : (n j k c : ℕ) (a : State) (bits size : ℕ) (ts us : List Stepped) → chained_at m es b k ≡ record { count = c; board = a } → (walked m n a).told ≡ Retired back bits size ∷ (ts ++ us) → are_dispatch (ts ++ us) ≡ true → are_plain ts ≡ true → 0 < j → j ≤ suc (length ts) → read_to m es b (k + j) ≡ with_return (read_to m es b k)
  unfolding walked
  first n zero k c a bits size ts us e is dispatch plain some l = absurd (omega arith)
  first zero (suc j) k c a bits size ts us e is dispatch plain some l = absurd (ends is)
  first (suc n) (suc j) k c a bits size ts us e is dispatch plain some l =
      let one : (step m a).told ≡ Retired back bits size = heads is in
      let same : k + suc j ≡ suc k + j = omega arith in
      ap (read_to m es b) same
      ∙ (front n j (suc k) c (step m a).state ts us (stands_next m es b k c a e (ap is_dispatch one)) (tails is) dispatch plain (omega arith)
      ∙ (read_next k c a e ∙ ap (read_by (read_to m es b k) (step m a).state) one))

  module _ (n k c : ℕ) (a : State) (stands : chained_at m es b k ≡ record { count = c; board = a }) where
    -- inside a move nothing is read, up to the first step that isn't plain
    pub read_front : (ts us : List Stepped) (j : ℕ) → (walked m n a).told ≡ ts ++ us → are_dispatch (ts ++ us) ≡ true → are_plain ts ≡ true → j ≤ length ts → read_to m es b (k + j) ≡ read_to m es b k
    read_front ts us j is dispatch plain l = front n j k c a ts us stands is dispatch plain l

    -- a walk whose last step alone is the call
    pub read_call : (ts : List Stepped) (bits size : ℕ) (new : State) → walked m n a ≡ record { told = ts ++ Retired call bits size ∷ []; state = new } → are_dispatch ts ≡ true → are_plain ts ≡ true → read_to m es b (k + n) ≡ with_call (read_to m es b k) new
    read_call ts bits size new walk dispatch plain = last n k c a ts bits size new stands walk dispatch plain

    -- a walk whose first step stands where handlers return, and whose others are plain
    pub read_return : (bits size : ℕ) (ts us : List Stepped) (j : ℕ) → (walked m n a).told ≡ Retired back bits size ∷ (ts ++ us) → are_dispatch (ts ++ us) ≡ true → are_plain ts ≡ true → 0 < j → j ≤ suc (length ts) → read_to m es b (k + j) ≡ with_return (read_to m es b k)
    read_return bits size ts us j is dispatch plain some l = first n j k c a bits size ts us stands is dispatch plain some l
