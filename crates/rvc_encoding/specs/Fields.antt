-- The fields of a half-word: registers, and immediates in pieces (Unprivileged ISA, "Compressed Instruction Formats").
use Rattle.std.specs.Prelude.{ℕ, ◌+◌, ◌-◌, ◌*◌, ◌/◌, ◌%◌, ◌^◌, List, [], ◌∷◌, Bool, true, false, ◌&&◌, nat_lt, nat_le, ◌==◌}
use Rattle.hart_words.specs.Bits.{bits}
use Rattle.hart_words.specs.Sign.{sign_extended}
use Rattle.rv_encoding.specs.Fields.{Piece, piece, width, gathered, spread}

-- where a register's number stands: all five bits of it from a place on, three bits that name x8 to x15, or nowhere
pub data Register : Type 0 where
  Full : (low : ℕ) → Register
  Short : (low : ℕ) → Register
  Always : (number : ℕ) → Register

-- the register that a half-word names
abbrev pub register_in : Register → ℕ → ℕ
register_in (Full low) h = bits h low 5
register_in (Short low) h = 8 + bits h low 3
register_in (Always number) h = number

-- the bits that name a register
abbrev pub register_bits : Register → ℕ → ℕ
register_bits (Full low) number = number * 2 ^ low
register_bits (Short low) number = (number - 8) * 2 ^ low
register_bits (Always number) r = 0

-- the field can name the register
abbrev pub names : Register → ℕ → Bool
names (Full low) number = nat_lt number 32
names (Short low) number = nat_le 8 number && nat_lt number 16
names (Always number) r = r == number

-- an immediate: its pieces, the highest first, how many zero bits stand below them, and whether it has a sign
pub record Immediate : Type 0 where
  pub pieces : List Piece
  pub zeros : ℕ
  pub signed : Bool

abbrev pub unsigned : ℕ → List Piece → Immediate
unsigned zeros pieces = record { pieces = pieces; zeros = zeros; signed = false }

abbrev pub with_sign : ℕ → List Piece → Immediate
with_sign zeros pieces = record { pieces = pieces; zeros = zeros; signed = true }

-- how many bits it has, with the zeros
abbrev pub immediate_width : Immediate → ℕ
immediate_width m = width m.pieces + m.zeros

-- a number of b bits as a word, by whether it has a sign
abbrev pub extended : Bool → ℕ → ℕ → ℕ
extended false v b = v
extended true v b = sign_extended v b

-- the immediate of a half-word
abbrev pub immediate_in : Immediate → ℕ → ℕ
immediate_in m h = extended m.signed (gathered m.pieces h * 2 ^ m.zeros) (immediate_width m)

-- the bits that spell an immediate
abbrev pub immediate_bits : Immediate → ℕ → ℕ
immediate_bits m value = spread m.pieces (value / 2 ^ m.zeros)

-- the value is a number of so many bits, of which the lowest are zeros
abbrev pub is_number : Bool → ℕ → ℕ → ℕ → Bool
is_number signed zeros b value = (value % 2 ^ zeros == 0) && (extended signed (value % 2 ^ b) b == value)

-- the pieces can spell the immediate
abbrev pub spells_value : Immediate → ℕ → Bool
spells_value m value = is_number m.signed m.zeros (immediate_width m) value

-- ---- the immediates of the rows

-- no immediate
abbrev pub none : Immediate
none = unsigned 0 []

-- six bits with a sign
abbrev pub number : Immediate
number = with_sign 0 (piece 12 1 ∷ piece 2 5 ∷ [])

-- the amount of a shift
abbrev pub amount : Immediate
amount = unsigned 0 (piece 2 5 ∷ [])

-- what is added to the stack pointer, in words
abbrev pub stack_sum : Immediate
stack_sum = unsigned 2 (piece 7 4 ∷ piece 11 2 ∷ piece 5 1 ∷ piece 6 1 ∷ [])

-- an offset from a register, in words
abbrev pub word_offset : Immediate
word_offset = unsigned 2 (piece 5 1 ∷ piece 10 3 ∷ piece 6 1 ∷ [])

-- the offset of a jump
abbrev pub jump : Immediate
jump = with_sign 1 (piece 12 1 ∷ piece 8 1 ∷ piece 9 2 ∷ piece 6 1 ∷ piece 7 1 ∷ piece 2 1 ∷ piece 11 1 ∷ piece 3 3 ∷ [])

-- the offset of a branch
abbrev pub branch : Immediate
branch = with_sign 1 (piece 12 1 ∷ piece 5 2 ∷ piece 2 1 ∷ piece 10 2 ∷ piece 3 2 ∷ [])

-- a change of the stack pointer, in sixteens
abbrev pub stack_change : Immediate
stack_change = with_sign 4 (piece 12 1 ∷ piece 3 2 ∷ piece 5 1 ∷ piece 2 1 ∷ piece 6 1 ∷ [])

-- the upper bits of a word
abbrev pub upper : Immediate
upper = with_sign 12 (piece 12 1 ∷ piece 2 5 ∷ [])

-- the place of a load from the stack, in words
abbrev pub stack_load : Immediate
stack_load = unsigned 2 (piece 2 2 ∷ piece 12 1 ∷ piece 4 3 ∷ [])

-- the place of a store to the stack, in words
abbrev pub stack_store : Immediate
stack_store = unsigned 2 (piece 7 2 ∷ piece 9 4 ∷ [])
