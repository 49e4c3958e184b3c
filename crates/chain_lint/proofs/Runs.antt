-- The states that a run comes to.
use Rattle.std.proofs.Common.{◌≡◌, ℕ, zero, suc, List, Option, Some, refl}
use Rattle.chain_moves.specs.Machine.{Moved, Makes, Breaks, Ends, Machine}
use Rattle.chain_moves.specs.Run.{Made, Run, On, Broke, Over, moved_on, gone_on, run_to, state_in, after_moves}

-- a move led to it
pub record Before {K S E : Type 0} (x : Machine K S E) (o : Option S) (t : S) : Type 0 where
  pub state : S
  pub is_there : o ≡ Some state
  pub kind : K
  pub moves : x.move state ≡ Makes kind t

module _ {K S E : Type 0} (x : Machine K S E) where
  by_move : (made : List (Made K)) (u t : S) (moved : Moved K S) → x.move u ≡ moved → state_in (moved_on x made u moved) ≡ Some t → Before x (Some u) t
  by_move made u t (Makes kind w) e h = record { state = u; is_there = refl; kind = kind; moves = cc }
  by_move made u t (Breaks when kind n) e h = absurd cc
  by_move made u t Ends e h = absurd cc

  by_run : (r : Run K S) (t : S) → state_in (gone_on x r) ≡ Some t → Before x (state_in r) t
  by_run (On made u) t h = by_move made u t (x.move u) refl h
  by_run (Broke made when kind n) t h = absurd cc
  by_run (Over made u) t h = absurd cc

  pub before : (s : S) (n : ℕ) (t : S) → after_moves x s (suc n) ≡ Some t → Before x (after_moves x s n) t
  unfolding run_to
  before s n t h = by_run (run_to x s n) t h

  pub at_start : (s t : S) → after_moves x s zero ≡ Some t → s ≡ t
  unfolding run_to
  at_start s t h = cc

  is_on : (r : Run K S) (t : S) → state_in r ≡ Some t → (made : List (Made K)) × (r ≡ On made t)
  is_on (On made u) t h = (made, cc)
  is_on (Broke made when kind n) t h = absurd cc
  is_on (Over made u) t h = absurd cc

  pub runs_to : (s : S) (n : ℕ) (t : S) → after_moves x s n ≡ Some t → (made : List (Made K)) × (run_to x s n ≡ On made t)
  runs_to s n t h = is_on (run_to x s n) t h
