-- The fields of an instruction word, and its immediate in each format (Unprivileged ISA, "Base Instruction Formats" and "Immediate Encoding Variants").
use Rattle.std.specs.Prelude.{ℕ, ◌+◌, ◌*◌, ◌^◌, List, [], ◌∷◌}
use Rattle.hart_words.specs.Bits.{bits}
use Rattle.hart_words.specs.Sign.{sign_extended}

-- the destination register
abbrev pub rd_of : ℕ → ℕ
rd_of w = bits w 7 5

-- the first source register, or the immediate of a CSR instruction
abbrev pub rs1_of : ℕ → ℕ
rs1_of w = bits w 15 5

-- the second source register, or the amount of a shift by an immediate
abbrev pub rs2_of : ℕ → ℕ
rs2_of w = bits w 20 5

-- the number of a control and status register
abbrev pub csr_of : ℕ → ℕ
csr_of w = bits w 20 12

-- a piece of an immediate: the lowest bit of the word that it has, and how many
pub record Piece : Type 0 where
  pub low : ℕ
  pub count : ℕ

abbrev pub piece : ℕ → ℕ → Piece
piece low count = record { low = low; count = count }

-- how many bits the pieces have together
abbrev pub width : List Piece → ℕ
width [] = 0
width (p ∷ ps) = p.count + width ps

-- the number that the pieces make, the highest first
abbrev pub gathered : List Piece → ℕ → ℕ
gathered [] w = 0
gathered (p ∷ ps) w = bits w p.low p.count * 2 ^ width ps + gathered ps w

-- the pieces of a number, each in its place of the word
abbrev pub spread : List Piece → ℕ → ℕ
spread [] v = 0
spread (p ∷ ps) v = bits v (width ps) p.count * 2 ^ p.low + spread ps v

-- the pieces of each format's immediate
abbrev pub i_pieces : List Piece
i_pieces = piece 20 12 ∷ []

abbrev pub s_pieces : List Piece
s_pieces = piece 25 7 ∷ piece 7 5 ∷ []

abbrev pub b_pieces : List Piece
b_pieces = piece 31 1 ∷ piece 7 1 ∷ piece 25 6 ∷ piece 8 4 ∷ []

abbrev pub u_pieces : List Piece
u_pieces = piece 12 20 ∷ []

abbrev pub j_pieces : List Piece
j_pieces = piece 31 1 ∷ piece 12 8 ∷ piece 20 1 ∷ piece 21 10 ∷ []

-- the immediates: those of branches and jumps count half-words, and that of U stands above twelve zero bits
abbrev pub i_immediate : ℕ → ℕ
i_immediate w = sign_extended (gathered i_pieces w) 12

abbrev pub s_immediate : ℕ → ℕ
s_immediate w = sign_extended (gathered s_pieces w) 12

abbrev pub b_immediate : ℕ → ℕ
b_immediate w = sign_extended (gathered b_pieces w * 2) 13

abbrev pub u_immediate : ℕ → ℕ
u_immediate w = gathered u_pieces w * 2 ^ 12

abbrev pub j_immediate : ℕ → ℕ
j_immediate w = sign_extended (gathered j_pieces w * 2) 21
