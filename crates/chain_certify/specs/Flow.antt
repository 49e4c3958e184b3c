-- What is known of a handler's registers and of its own stack words at an address.
pub use Rattle.chain_flow.specs.Flow.{depth}
use Rattle.std.specs.Prelude.{ℕ, zero, suc, ◌+◌, ◌-◌, ◌^◌, ◌==◌, Bool, true, false, not, ◌&&◌, nat_le, nat_eq, List, [], ◌∷◌, Option, Some, None, if◌then◌else◌, slice_index_or, slice_set}
use Rattle.std.specs.List.{filter}
pub use Rattle.chain_certify.specs.declared.value.Value.{Value}
pub use Rattle.chain_certify.specs.declared.value.Value.TheVariants.{Entry, Const, Stack, Range, Unknown}
pub use Rattle.chain_certify.specs.declared.stack_word.StackWord.{StackWord}

-- a value for each register, and the stack words that were stored
pub record Flow : Type 0 where
  pub values : List Value
  pub words : List StackWord

abbrev pub value_of : List Value → ℕ → Value
value_of values r = slice_index_or values r Unknown

-- x0 stays
abbrev pub set_value : List Value → ℕ → Value → List Value
set_value values r v = if nat_eq r 0 then values else slice_set values r v

-- ---- numbers

-- the least word that the value may be, and the greatest
abbrev pub low : Value → ℕ
low (Const c) = c
low (Range least greatest) = least
low _ = 0

abbrev pub high : Value → ℕ
high (Const c) = c
high (Range least greatest) = greatest
high _ = 2 ^ 32 - 1

-- a number from one to another
abbrev pub ranged : ℕ → ℕ → Value
ranged least greatest = if least == greatest then Const least else Range least greatest

-- ---- at the start

-- n registers from r on have the values that they began with
unfoldable pub entries : ℕ → ℕ → List Value
entries r zero = []
entries r (suc n) = Entry r ∷ entries (r + 1) n

-- what register 2 began with is Stack 0
unfoldable pub flow_at_start : Flow
flow_at_start = record { values = Const 0 ∷ Entry 1 ∷ Stack 0 ∷ entries 3 29; words = [] }

-- ---- one says at least as much as the other

abbrev pub is_below : Value → Value → Bool
is_below (Entry r) (Entry q) = r == q
is_below (Const c) (Const d) = c == d
is_below (Const c) (Range least greatest) = nat_le least c && nat_le c greatest
is_below (Range l g) (Range least greatest) = nat_le least l && nat_le g greatest
is_below (Stack k) (Stack l) = k == l
is_below v Unknown = true
is_below _ _ = false

unfoldable pub are_below : List Value → List Value → Bool
are_below vs [] = true
are_below [] (u ∷ us) = false
are_below (v ∷ vs) (u ∷ us) = is_below v u && are_below vs us

-- ---- stack words

-- the value of the stack word at an offset
unfoldable pub found : ℕ → List StackWord → Option Value
found offset [] = None
found offset (w ∷ ws) = if w.offset == offset then Some w.value else found offset ws

abbrev pub is_found_below : Option Value → Value → Bool
is_found_below None u = false
is_found_below (Some v) u = is_below v u

unfoldable pub words_below : List StackWord → List StackWord → Bool
words_below ws [] = true
words_below ws (u ∷ us) = is_found_below (found u.offset ws) u.value && words_below ws us

abbrev pub flow_below : Flow → Flow → Bool
flow_below f g = are_below f.values g.values && words_below f.words g.words

unfoldable pub without : ℕ → List StackWord → List StackWord
without offset ws = filter (λ w. not (w.offset == offset)) ws

abbrev pub with_stack_word : ℕ → Value → List StackWord → List StackWord
with_stack_word offset v ws = record { offset = offset; value = v } ∷ without offset ws

-- the words that are at most so many bytes below the start
unfoldable pub words_above : ℕ → List StackWord → List StackWord
words_above sp ws = filter (λ w. nat_le (depth w.offset) sp) ws
