-- Bytes of memory, and of the interrupt controller, as they are told.
use Rattle.std.specs.Prelude.{ℕ, zero, suc, ◌+◌, ◌-◌, ◌%◌, ◌^◌, min, List, [], ◌++◌, codes, Option, Some, None}
use Rattle.std.specs.Int.{div_ceil}
use Rattle.hart_words.specs.Decimal.{decimal}
use Rattle.hart_words.specs.Hexadecimal.{hex2, hex8}
use Rattle.hart_memory.specs.Memory.{Memory}
use Rattle.hart_memory.specs.Access.{byte_at}
use Rattle.clic_regs.specs.ClicState.{ClicState}
use Rattle.clic_regs.specs.Bytes.{value_of}
use Rattle.clic_regs.specs.declared.clic_byte.ClicByte.TheVariants.{Pending, Enable, Attribute, Control}

-- ---- memory, in lines of at most 16 bytes

-- two digits, or two dots outside memory
abbrev pub cell : Option ℕ → List ℕ
cell (Some byte) = hex2 byte
cell None = codes ".."

-- n bytes from an address on; address 0 follows the last one
unfoldable pub cells : Memory → ℕ → ℕ → List ℕ
cells memory zero at = []
cells memory (suc n) at = cell (byte_at memory (at % 2 ^ 32)) ++ cells memory n (at + 1)

unfoldable pub bytes_line : Memory → ℕ → ℕ → List ℕ
bytes_line memory n at = codes "mem " ++ hex8 at ++ codes " " ++ cells memory n at ++ codes "\n"

-- so many lines, for n bytes
unfoldable pub bytes_lines : Memory → ℕ → ℕ → ℕ → List ℕ
bytes_lines memory zero n at = []
bytes_lines memory (suc lines) n at = bytes_line memory (min n 16) (at % 2 ^ 32) ++ bytes_lines memory lines (n - 16) (at + 16)

unfoldable pub bytes_text : Memory → ℕ → ℕ → List ℕ
bytes_text memory n at = bytes_lines memory (div_ceil n 16) n at

-- ---- the controller's four bytes of an input

unfoldable pub input_line : ClicState → ℕ → List ℕ
input_line c i =
    codes "clic " ++ decimal i
    ++ codes " " ++ hex2 (value_of c (Pending i))
    ++ codes " " ++ hex2 (value_of c (Enable i))
    ++ codes " " ++ hex2 (value_of c (Attribute i))
    ++ codes " " ++ hex2 (value_of c (Control i))
    ++ codes "\n"
