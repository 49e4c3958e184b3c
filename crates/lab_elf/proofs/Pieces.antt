-- A piece is put where its address wants it.
use Rattle.std.proofs.Common.{◌≡◌, ℕ, suc, ◌+◌, ◌<◌, ◌≤◌, List, [], ◌∷◌, ◌++◌, length, take, drop, drop-cons, get_or, append_assoc, add-one, insert, cond, Bool, true, false, refl, sym, ap, ◌∙◌, arith}
use Rattle.std.specs.Prelude.{nat_lt, not, ◌||◌}
use Rattle.std.proofs.lemmas.Bool.{ltb-true, ltb-false, lt-ltb, le-ltb}
use Rattle.std.proofs.lemmas.Bool.Decides.{nat_tests}
use Rattle.std.proofs.lemmas.List.{drop_all, take_all}
use Rattle.std.proofs.Math.Seq.{take-suc}
use Rattle.hart_memory.specs.Place.{holds}
use Rattle.lab_elf.specs.Loading.{are_apart, meets_any, put_in, ArePiecesFrom}
use Rattle.lab_elf.specs.declared.piece.Piece.{Piece}

-- ---- its place

pub goes_before : (p q : Piece) (qs : List Piece) → p.at < q.at → put_in p (q ∷ qs) ≡ p ∷ q ∷ qs
goes_before p q qs lt = rw (lt-ltb _ _ lt) refl

pub goes_behind : (p q : Piece) (qs : List Piece) → q.at ≤ p.at → put_in p (q ∷ qs) ≡ q ∷ put_in p qs
goes_behind p q qs le = rw (le-ltb _ _ le) refl

-- the one at a place, for which a list that ends before it has any
abbrev none : Piece
none = record { at = 0; offset = 0; size = 0 }

abbrev pub piece_at : List Piece → ℕ → Piece
piece_at taken i = get_or taken i none

pub rank_here : (p : Piece) (taken : List Piece) (i : ℕ) → i < length taken → p.at < (piece_at taken i).at → put_in p taken ≡ take i taken ++ put_in p (drop i taken) → put_in p taken ≡ insert taken i p
rank_here p taken i inside lt so_far =
    let next = drop-cons taken i none inside in
    so_far ∙ ap (λ (l : List Piece). take i taken ++ l) (ap (put_in p) next ∙ goes_before p (piece_at taken i) (drop (suc i) taken) lt ∙ ap (λ (l : List Piece). p ∷ l) (sym next))

pub rank_on : (p : Piece) (taken : List Piece) (i : ℕ) → i < length taken → (piece_at taken i).at ≤ p.at → put_in p taken ≡ take i taken ++ put_in p (drop i taken) → put_in p taken ≡ take (i + 1) taken ++ put_in p (drop (i + 1) taken)
rank_on p taken i inside le so_far =
    let next = drop-cons taken i none inside in
    let q = piece_at taken i in
    let more : put_in p (drop i taken) ≡ q ∷ put_in p (drop (suc i) taken) = ap (put_in p) next ∙ goes_behind p q (drop (suc i) taken) le in
    let front : take (suc i) taken ≡ take i taken ++ q ∷ [] = take-suc taken i none inside in
    let joined : (take i taken ++ q ∷ []) ++ put_in p (drop (suc i) taken) ≡ take i taken ++ q ∷ put_in p (drop (suc i) taken) = append_assoc (take i taken) (q ∷ []) (put_in p (drop (suc i) taken)) in
    rw add-one (rw front (so_far ∙ ap (λ (l : List Piece). take i taken ++ l) more ∙ sym joined))

pub rank_end : (p : Piece) (taken : List Piece) (i : ℕ) → length taken ≤ i → put_in p taken ≡ take i taken ++ put_in p (drop i taken) → put_in p taken ≡ insert taken (length taken) p
rank_end p taken i past so_far =
    let empty : drop i taken ≡ [] = drop_all i taken past in
    let whole : take i taken ≡ taken = take_all i taken past in
    let empty' : drop (length taken) taken ≡ [] = drop_all (length taken) taken (omega arith) in
    let whole' : take (length taken) taken ≡ taken = take_all (length taken) taken (omega arith) in
    so_far ∙ rw (empty, whole, empty', whole') refl

-- ---- how many there are

longer_by : (b : Bool) (p q : Piece) (qs put : List Piece) → length put ≡ length qs + 1 → length (cond b (p ∷ q ∷ qs) (q ∷ put)) ≡ length (q ∷ qs) + 1
longer_by true p q qs put h = omega arith
longer_by false p q qs put h = omega (arith, h)

pub one_more : (p : Piece) (qs : List Piece) → length (put_in p qs) ≡ length qs + 1
one_more p [] = refl
one_more p (q ∷ qs) = longer_by (nat_lt p.at q.at) p q qs (put_in p qs) (one_more p qs)

-- ---- they stay apart and in order

-- what is known of a piece that is put in
pub record IsNew (bytes : List ℕ) (p : Piece) : Type 0 where
  pub some : 0 < p.size
  pub inside : p.offset + p.size ≤ length bytes
  pub placed : holds p.at p.size ≡ true

neither : (a b : Bool) → (a || b) ≡ false → (a ≡ false) × (b ≡ false)
neither true b h = absurd cc
neither false b h = (refl, h)

stay_by : (b : Bool) (from : ℕ) (bytes : List ℕ) (p q : Piece) (qs put : List Piece) → nat_lt p.at q.at ≡ b → IsNew bytes p → from ≤ p.at → not (are_apart p q) ≡ false → ArePiecesFrom from bytes (q ∷ qs)
    → (q.at + q.size ≤ p.at → ArePiecesFrom (q.at + q.size) bytes put) → ArePiecesFrom from bytes (cond b (p ∷ q ∷ qs) (q ∷ put))
stay_by true from bytes p q qs put before new low apart h more =
    let lower : p.at < q.at = ltb-true _ _ before in
    let end : p.at + p.size ≤ q.at = grind (arith, nat_tests) in
    (low, new.some, new.inside, new.placed, (end, h.1, h.2, h.3, h.4))
stay_by false from bytes p q qs put before new low apart h more =
    let higher : q.at ≤ p.at = ltb-false _ _ before in
    let some = new.some in
    let end : q.at + q.size ≤ p.at = grind (arith, nat_tests) in
    (h.0, h.1, h.2, h.3, more end)

pub stay_apart : (from : ℕ) (bytes : List ℕ) (p : Piece) (qs : List Piece) → IsNew bytes p → from ≤ p.at → meets_any p qs ≡ false → ArePiecesFrom from bytes qs → ArePiecesFrom from bytes (put_in p qs)
stay_apart from bytes p [] new low apart h = (low, new.some, new.inside, new.placed, tt)
stay_apart from bytes p (q ∷ qs) new low apart h =
    let parts = neither (not (are_apart p q)) (meets_any p qs) apart in
    stay_by (nat_lt p.at q.at) from bytes p q qs (put_in p qs) refl new low parts.0 h (λ end. stay_apart (q.at + q.size) bytes p qs new end parts.1 h.4)
