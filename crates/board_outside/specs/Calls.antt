-- Calls that are numbered from 1, some of which are made to fail.
use Rattle.std.specs.Prelude.{ℕ, List, [], ◌∷◌, ◌++◌, Bool, nat_eq, nat_lt}
use Rattle.std.specs.List.{list_any, list_all}
use Rattle.board_outside.specs.Counts.{counted}

-- the numbers of the calls that are to fail, and how many were made
pub record CallsState : Type 0 where
  pub failing : List ℕ
  pub made : ℕ

-- none was made, and none is to fail
abbrev pub no_calls : CallsState
no_calls = record { failing = []; made = 0 }

-- the call of that number is to fail too
abbrev pub with_failing : CallsState → ℕ → CallsState
with_failing calls call = record calls { failing = calls.failing ++ call ∷ [] }

-- after one more
abbrev pub counted_call : CallsState → CallsState
counted_call calls = record calls { made = counted calls.made }

-- the next call is to fail
abbrev pub is_failing : CallsState → Bool
is_failing calls = list_any (λ call. nat_eq call (counted calls.made)) calls.failing

-- no call that is still to come is to fail
abbrev pub none_to_come : CallsState → Bool
none_to_come calls = list_all (λ call. nat_lt call (counted calls.made)) calls.failing
