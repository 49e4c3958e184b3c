-- The controller's registers, byte by byte (CLIC draft, "CLIC Memory-Mapped Registers").
use Rattle.std.specs.Prelude.{ℕ, ◌+◌, ◌-◌, ◌*◌, ◌/◌, ◌%◌, ◌==◌, if◌then◌else◌, nat_le, nat_lt, Option, Some, None, slice_set}
use Rattle.std.specs.Option.{option_map}
use Rattle.std.specs.Int.{from_bool}
use Rattle.hart_words.specs.Bits.{bits}
use Rattle.clic_regs.specs.Filled.{filled}
use Rattle.clic_regs.specs.ClicState.{ClicState, input_count, is_pending, is_enabled, attribute_of, control_of}
use Rattle.clic_regs.specs.LineChange.{attribute_changed, pending_changed}
use Rattle.clic_regs.specs.declared.clic_byte.ClicByte.{ClicByte}
use Rattle.clic_regs.specs.declared.clic_byte.ClicByte.TheVariants.{Config, Reserved, Pending, Enable, Attribute, Control}

-- byte k of the four of input i
abbrev pub input_byte : ℕ → ℕ → ClicByte
input_byte i k =
    if k == 0 then Pending i
    else if k == 1 then Enable i
    else if k == 2 then Attribute i
    else Control i

-- the byte at an offset, where there are n inputs
abbrev pub byte_at : ℕ → ℕ → Option ClicByte
byte_at n offset =
    if offset == 0 then Some Config
    else if nat_lt offset 4 then Some Reserved
    else if nat_lt offset 0x1000 then None
    else if nat_lt offset (0x1000 + 4 * n) then Some (input_byte ((offset - 0x1000) / 4) (offset % 4))
    else None

-- the input whose byte it is
abbrev pub input_in : Option ClicByte → Option ℕ
input_in None = None
input_in (Some Config) = None
input_in (Some Reserved) = None
input_in (Some (Pending i)) = Some i
input_in (Some (Enable i)) = Some i
input_in (Some (Attribute i)) = Some i
input_in (Some (Control i)) = Some i

-- the input one of whose four bytes stands at an offset, where there are n inputs
unfoldable pub input_at : ℕ → ℕ → Option ℕ
input_at n offset = input_in (byte_at n offset)

-- what a byte reads
abbrev pub value_of : ClicState → ClicByte → ℕ
value_of c Config = c.nlbits * 2
value_of c Reserved = 0
value_of c (Pending i) = from_bool (is_pending c i)
value_of c (Enable i) = from_bool (is_enabled c i)
value_of c (Attribute i) = 0xC0 + attribute_of c i  -- mode: machine
value_of c (Control i) = control_of c i

-- the state after a value is written to a byte
abbrev pub with_byte : ClicState → ℕ → ClicByte → ClicState
with_byte c value Config = if nat_le (bits value 1 4) 8 then record c { nlbits = bits value 1 4 } else c
with_byte c value Reserved = c
with_byte c value (Pending i) = pending_changed c i (bits value 0 1 == 1)
with_byte c value (Enable i) = record c { enable = slice_set c.enable i (bits value 0 1 == 1) }
with_byte c value (Attribute i) = attribute_changed c i (bits value 0 3)
with_byte c value (Control i) = record c { control = slice_set c.control i (filled c.shape.bits value) }  -- the bits below can't be written

-- what the byte at an offset reads, and the state after a write there: None where there is no byte
unfoldable pub byte_read : ClicState → ℕ → Option ℕ
byte_read c offset = option_map (value_of c) (byte_at (input_count c) offset)

unfoldable pub byte_written : ClicState → ℕ → ℕ → Option ClicState
byte_written c offset value = option_map (with_byte c value) (byte_at (input_count c) offset)
