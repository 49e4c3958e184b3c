-- What is known of a handler's registers and of its own stack words at an address.
use Rattle.std.specs.Prelude.{◌≡◌, ◌<◌, ℕ, zero, suc, ◌+◌, ◌-◌, ◌^◌, ◌==◌, Bool, true, false, not, ◌&&◌, ◌||◌, nat_le, nat_eq, List, [], ◌∷◌, length, Option, Some, None, if◌then◌else◌, slice_index_or, slice_set}
use Rattle.std.specs.List.{filter}
use Rattle.hart_words.specs.TwosComplement.{word}
pub use Rattle.chain_flow.specs.declared.value.Value.{Value}
pub use Rattle.chain_flow.specs.declared.value.Value.TheVariants.{Entry, Const, Stack, Unknown}
pub use Rattle.chain_flow.specs.declared.stack_word.StackWord.{StackWord}

-- a value for each register, and the stack words that were stored
pub record Flow : Type 0 where
  pub values : List Value
  pub words : List StackWord

abbrev pub value_of : List Value → ℕ → Value
value_of values r = slice_index_or values r Unknown

-- x0 stays
abbrev pub set_value : List Value → ℕ → Value → List Value
set_value values r v = if nat_eq r 0 then values else slice_set values r v

-- how many bytes below the start an offset is, as a word
abbrev pub depth : ℕ → ℕ
depth offset = word (2 ^ 32 - word offset)

-- ---- at the start

-- n registers from r on have the values that they began with
unfoldable pub entries : ℕ → ℕ → List Value
entries r zero = []
entries r (suc n) = Entry r ∷ entries (r + 1) n

-- what register 2 began with is Stack 0
unfoldable pub flow_at_start : Flow
flow_at_start = record { values = Const 0 ∷ Entry 1 ∷ Stack 0 ∷ entries 3 29; words = [] }

-- ---- joins

abbrev pub is_same : Value → Value → Bool
is_same (Entry r) (Entry q) = r == q
is_same (Const c) (Const d) = c == d
is_same (Stack k) (Stack l) = k == l
is_same Unknown Unknown = true
is_same _ _ = false

-- equal values stay
abbrev pub same_or_unknown : Bool → Value → Value
same_or_unknown true v = v
same_or_unknown false v = Unknown

unfoldable pub joined_values : List Value → List Value → List Value
joined_values [] us = []
joined_values (v ∷ vs) [] = []
joined_values (v ∷ vs) (u ∷ us) = same_or_unknown (is_same v u) v ∷ joined_values vs us

-- ---- joins of stack words

abbrev pub is_pair : StackWord → StackWord → Bool
is_pair u w = u.offset == w.offset && is_same u.value w.value

unfoldable pub stands_in : StackWord → List StackWord → Bool
stands_in w [] = false
stands_in w (u ∷ us) = is_pair u w || stands_in w us

-- a stack word stays where the same one stands in both
unfoldable pub joined_words : List StackWord → List StackWord → List StackWord
joined_words ws us = filter (λ w. stands_in w us) ws

-- a place where the word stands, or none where it doesn't stand anywhere
abbrev pub IsPlace : StackWord → List StackWord → Option ℕ → Type 0
IsPlace w us None = stands_in w us ≡ false
IsPlace w us (Some k) = (stands_in w us ≡ true) × (k < length us)

abbrev pub joined : Flow → Flow → Flow
joined f g = record { values = joined_values f.values g.values; words = joined_words f.words g.words }

-- ---- loads, stores, and a stack pointer that rises

-- the value of the stack word at an offset
unfoldable pub found : ℕ → List StackWord → Option Value
found offset [] = None
found offset (w ∷ ws) = if w.offset == offset then Some w.value else found offset ws

unfoldable pub without : ℕ → List StackWord → List StackWord
without offset ws = filter (λ w. not (w.offset == offset)) ws

abbrev pub with_stack_word : ℕ → Value → List StackWord → List StackWord
with_stack_word offset v ws = record { offset = offset; value = v } ∷ without offset ws

-- the words that are at most so many bytes below the start
unfoldable pub words_above : ℕ → List StackWord → List StackWord
words_above sp ws = filter (λ w. nat_le (depth w.offset) sp) ws
