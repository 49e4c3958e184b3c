-- The laws of certificates, of the handlers in a table.
use Rattle.std.proofs.Common.{◌≡◌, ℕ, zero, suc, ◌+◌, ◌≤◌, List, [], ◌∷◌, ◌++◌, Option, Some, None, refl, sym, subst, inl, inr}
use Rattle.std.specs.Prelude.{option_map, slice_get}
use Rattle.device_model.specs.Meanings.{Meanings}
use Rattle.hart_words.specs.Registers.{register}
use Rattle.hart_board.specs.State.{State}
use Rattle.hart_board.specs.declared.event.Event.{Event}
use Rattle.chain_moves.specs.Enter.{pointer}
use Rattle.chain_flow.specs.declared.region.Region.{Region}
use Rattle.chain_lint.specs.Bound.{bound}
use Rattle.chain_lint.specs.declared.uses.Use.{Use}
use Rattle.chain_lint.specs.declared.pair.Pair.{Pair}
use Rattle.chain_lint.specs.Soundness.{Lists, outermost}
use Rattle.chain_lint.specs.Tables.{word_place}
use Rattle.chain_certify.specs.Check.{checked}
use Rattle.chain_certify.specs.Soundness.{Certificates, IsListedTo, BoundIsSound, ListedIsSafe}
use Rattle.chain_search.specs.Tables.{named_at, ArePairAnswers, uses_from}
use Rattle.chain_search.specs.Soundness.{KeepsToTable, TableIsSound}
use Rattle.chain_search.specs.declared.pair_answer.PairAnswer.{PairAnswer}
use Rattle.chain_search.specs.declared.pair_answer.PairAnswer.TheVariants.{BadTable, Accepted, Refused}

-- ---- uses of the handlers in a table

lists_front : (level uses : ℕ) (us vs : List Use) → Lists level uses us → Lists level uses (us ++ vs)
lists_front level uses [] vs h = absurd h
lists_front level uses (u ∷ us) vs (inl h) = inl h
lists_front level uses (u ∷ us) vs (inr h) = inr (lists_front level uses us vs h)

lists_last : (level uses : ℕ) (us : List Use) → Lists level uses (us ++ record { level = level; uses = uses } ∷ [])
lists_last level uses [] = inl (refl, refl)
lists_last level uses (u ∷ us) = inr (lists_last level uses us)

module _ (code : List ℕ) (region : Region) (certs : Certificates) (table : ℕ) (all : List Use) where
  -- the handler of a pair has its certificate, and the list has its level with its uses
  record IsUsed (p : Pair) : Type 0 where
    uses : ℕ
    checked_is : checked code (named_at code (word_place table p)) region (certs (named_at code (word_place table p))) ≡ Some uses
    listed : Lists p.level uses all

  -- so it is of each pair, and the list has what came before
  record AreUsed (ps : List Pair) (us : List Use) : Type 0 where
    before : (level uses : ℕ) → Lists level uses us → Lists level uses all
    each : (i : ℕ) (p : Pair) → slice_get ps i ≡ Some p → IsUsed p

  each_of : (p : Pair) (ps : List Pair) → IsUsed p → ((i : ℕ) (q : Pair) → slice_get ps i ≡ Some q → IsUsed q) → (i : ℕ) (q : Pair) → slice_get (p ∷ ps) i ≡ Some q → IsUsed q
  each_of p ps here rest zero q e = subst IsUsed (let same : p ≡ q = cc in same) here
  each_of p ps here rest (suc i) q e = rest i q e

  used : (ps : List Pair) (bs : List PairAnswer) (us : List Use) → ArePairAnswers code region certs table ps bs → uses_from us ps bs ≡ Some all → AreUsed ps us
  unfolding uses_from
  used [] [] us h e = let same : us ≡ all = cc in record { before = λ level uses k. subst (Lists level uses) same k; each = λ i p there. absurd cc }
  used [] (a ∷ bs) us h e = absurd h
  used (p ∷ ps) [] us h e = absurd h
  used (p ∷ ps) (BadTable at ∷ bs) us h e = absurd cc
  used (p ∷ ps) (Refused why at ∷ bs) us h e = absurd cc
  used (p ∷ ps) (Accepted uses ∷ bs) us h e =
      let rest = used ps bs (us ++ record { level = p.level; uses = uses } ∷ []) h.1 e in
      record {
        before = λ level more k. rest.before level more (lists_front level more us (record { level = p.level; uses = uses } ∷ []) k);
        each = each_of p ps (record { uses = uses; checked_is = h.0.1; listed = rest.before p.level uses (lists_last p.level uses us) }) rest.each;
      }

-- ---- the run

record HasUses (ps : List Pair) (bs : List PairAnswer) (bytes : ℕ) : Type 0 where
  all : List Use
  uses_is : uses_from [] ps bs ≡ Some all
  bound_is : bound all ≡ bytes

has_uses : (ps : List Pair) (bs : List PairAnswer) (bytes : ℕ) (o : Option (List Use)) → uses_from [] ps bs ≡ o → option_map (λ us. bound us) o ≡ Some bytes → HasUses ps bs bytes
has_uses ps bs bytes None is e = absurd cc
has_uses ps bs bytes (Some us) is e = record { all = us; uses_is = is; bound_is = (let same : bound us ≡ bytes = cc in same) }

module _ (m : Meanings) (deep : BoundIsSound m) (safe : ListedIsSafe m) where
  module _ (es : List Event) (code : List ℕ) (region : Region) (table : ℕ) (ps : List Pair) (bytes : ℕ) (b : State) (n : ℕ) where
    listed : (certs : Certificates) (all : List Use) → bound all ≡ bytes → AreUsed code region certs table all ps [] → KeepsToTable m es code region table ps bytes b n → IsListedTo m es code region certs all b n
    listed certs all is u k = record {
      listed = λ j s t v l begins.
          let h = k.listed j s t v l begins in
          let e = u.each h.place h.pair h.named in
          record {
            uses = e.uses;
            checked_is = subst (λ (at : ℕ). checked code at region (certs at) ≡ Some e.uses) (sym h.handler) e.checked_is;
            listed = subst (λ (level : ℕ). Lists level e.uses all) (sym h.level) e.listed;
          };
      room = λ j s t v l begins none.
          let h = k.room j s t v l begins none in
          (subst (λ (size : ℕ). region.low + size ≤ pointer s) (sym is) h.0, h.1);
    }

  pub table_is_sound : TableIsSound m
  table_is_sound es code region table ps bs bytes b n t told e premises keeps after =
      let h = has_uses ps bs bytes (uses_from [] ps bs) refl e in
      let u = used code region told.0 table h.all ps bs [] told.1 h.uses_is in
      let l = listed es code region table ps bytes b n told.0 h.all h.bound_is u keeps in
      let within = deep es code region told.0 h.all b n t premises l after in
      record {
        kinds = (safe es code region told.0 h.all b n t premises l after).kinds;
        pointer = λ v vs live. subst (λ (size : ℕ). outermost t.live ≤ register t.registers 2 + size) h.bound_is (within.pointer v vs live);
      }
