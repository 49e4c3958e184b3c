-- The controller's bytes, in rising order.
use Rattle.std.specs.Prelude.{ℕ, zero, suc, ◌+◌, ◌*◌, ◌/◌, ◌%◌, Option, Some, None}
use Rattle.std.specs.Option.{option_map}
use Rattle.clic_regs.specs.ClicState.{ClicState}
use Rattle.clic_regs.specs.Bytes.{byte_read, byte_written}

-- the number that a byte and the rest make
abbrev pub above : Option ℕ → Option ℕ → Option ℕ
above None high = None
above (Some low) high = option_map (λ h. low + 256 * h) high

-- the number in width bytes from an offset on, or None where one of them isn't there
unfoldable pub bytes_read : ClicState → ℕ → ℕ → Option ℕ
bytes_read c offset zero = Some 0
bytes_read c offset (suc width) = above (byte_read c offset) (bytes_read c (offset + 1) width)

-- what comes next, where the bytes so far were there
abbrev pub and_then : (ClicState → Option ClicState) → Option ClicState → Option ClicState
and_then next None = None
and_then next (Some c) = next c

-- after width bytes of a number are written, or None where one of them isn't there
unfoldable pub bytes_written : ClicState → ℕ → ℕ → ℕ → Option ClicState
bytes_written c offset zero value = Some c
bytes_written c offset (suc width) value = and_then (λ d. bytes_written d (offset + 1) width (value / 256)) (byte_written c offset (value % 256))
