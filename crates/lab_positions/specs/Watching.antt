-- Bytes that are watched.
use Rattle.std.specs.Prelude.{ℕ, zero, suc, ◌+◌, ◌==◌, Bool, true, false, not, ◌||◌, List, [], ◌∷◌, Option, Some, None}
use Rattle.hart_memory.specs.Memory.{Memory}
use Rattle.hart_memory.specs.Access.{byte_at}
use Rattle.lab_positions.specs.declared.watch.Watch.{Watch}

-- two bytes are alike; nothing is outside memory
abbrev pub is_alike : Option ℕ → Option ℕ → Bool
is_alike (Some a) (Some b) = a == b
is_alike None None = true
is_alike (Some a) None = false
is_alike None (Some b) = false

-- one of the n bytes from an address on is another
abbrev pub differ : Memory → Memory → ℕ → ℕ → Bool
differ before after at zero = false
differ before after at (suc n) = not (is_alike (byte_at before at) (byte_at after at)) || differ before after (at + 1) n

-- a byte of the watch is another
abbrev pub is_changed : Memory → Memory → Watch → Bool
is_changed before after watch = differ before after watch.at watch.len

-- by whether it is the first watch that changed
abbrev pub changed_or : Bool → ℕ → Option ℕ → Option ℕ
changed_or true at next = Some at
changed_or false at next = next

-- the address of the first watch that changed
abbrev pub first_changed : Memory → Memory → List Watch → Option ℕ
first_changed before after [] = None
first_changed before after (w ∷ ws) = changed_or (is_changed before after w) w.at (first_changed before after ws)
