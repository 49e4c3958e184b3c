-- What the operations on two words give (Unprivileged ISA, "Integer Computational Instructions" and "M Extension for Integer Multiplication and Division").
use Rattle.std.specs.Prelude.{ℕ, ◌+◌, ◌-◌, ◌*◌, ◌/◌, ◌%◌, ◌^◌, ◌==◌, if◌then◌else◌, nat_lt, ℤ, pos, ◌*ℤ◌, int_lt, int_div, int_rem, bit_and, bit_or, bit_xor}
use Rattle.std.specs.Int.{int_shr}
use Rattle.hart_words.specs.TwosComplement.{word, wrapped, signed_value}
use Rattle.rv_encoding.specs.declared.operations.RegOp.{RegOp}
use Rattle.rv_encoding.specs.declared.operations.RegOp.TheVariants.{Add, Sub, Sll, Slt, Sltu, Xor, Srl, Sra, Or, And, Mul, Mulh, Mulhsu, Mulhu, Div, Divu, Rem, Remu}
use Rattle.rv_encoding.specs.declared.operations.ImmOp.{ImmOp}
use Rattle.rv_encoding.specs.declared.operations.ImmOp.TheVariants.{Addi, Slti, Sltiu, Xori, Ori, Andi, Slli, Srli, Srai}

-- the upper 32 of the 64 bits of a product
abbrev pub high_word : ℤ → ℕ
high_word product = wrapped (int_shr product 32)

-- signed division, rounded towards 0: division by 0 has a quotient with all bits set and the dividend as its remainder,
-- and that of the least integer by -1, which overflows, has the dividend as its quotient and the remainder 0
abbrev pub quotient : ℕ → ℕ → ℕ
quotient x y = if y == 0 then 2 ^ 32 - 1 else wrapped (int_div (signed_value x) (signed_value y))

abbrev pub remainder : ℕ → ℕ → ℕ
remainder x y = if y == 0 then x else wrapped (int_rem (signed_value x) (signed_value y))

-- unsigned division, with the same answers where the divisor is 0
abbrev pub unsigned_quotient : ℕ → ℕ → ℕ
unsigned_quotient x y = if y == 0 then 2 ^ 32 - 1 else x / y

abbrev pub unsigned_remainder : ℕ → ℕ → ℕ
unsigned_remainder x y = if y == 0 then x else x % y

-- what an operation on two registers gives for the words x of rs1 and y of rs2
abbrev pub register_result : RegOp → ℕ → ℕ → ℕ
register_result Add x y = word (x + y)
register_result Sub x y = word (x + 2 ^ 32 - y)
register_result Sll x y = word (x * 2 ^ (y % 32))
register_result Slt x y = if int_lt (signed_value x) (signed_value y) then 1 else 0
register_result Sltu x y = if nat_lt x y then 1 else 0
register_result Xor x y = bit_xor x y
register_result Srl x y = x / 2 ^ (y % 32)
register_result Sra x y = wrapped (int_shr (signed_value x) (y % 32))
register_result Or x y = bit_or x y
register_result And x y = bit_and x y
register_result Mul x y = word (x * y)
register_result Mulh x y = high_word (signed_value x *ℤ signed_value y)
register_result Mulhsu x y = high_word (signed_value x *ℤ pos y)
register_result Mulhu x y = high_word (pos x *ℤ pos y)
register_result Div x y = quotient x y
register_result Divu x y = unsigned_quotient x y
register_result Rem x y = remainder x y
register_result Remu x y = unsigned_remainder x y

-- an operation on a register and an immediate is that on two registers, with the sign-extended immediate in place of rs2
abbrev pub on_registers : ImmOp → RegOp
on_registers Addi = Add
on_registers Slti = Slt
on_registers Sltiu = Sltu
on_registers Xori = Xor
on_registers Ori = Or
on_registers Andi = And
on_registers Slli = Sll
on_registers Srli = Srl
on_registers Srai = Sra
