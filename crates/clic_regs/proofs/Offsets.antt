-- Which bytes are there.
use Rattle.std.proofs.Common.{◌≡◌, ℕ, ◌+◌, ◌*◌, ◌<◌, ◌≤◌, ◌⊎◌, ◌↔◌, Some, IsSome, arith}
use Rattle.std.proofs.lemmas.Bool.Decides.{nat_tests}
use Rattle.clic_regs.specs.Bytes.{byte_at}
use Rattle.clic_regs.specs.declared.clic_byte.ClicByte.TheVariants.{Pending, Enable, Attribute, Control}

pub there : (n offset : ℕ) → IsSome (byte_at n offset) ↔ ((offset < 4) ⊎ ((0x1000 ≤ offset) × (offset < 0x1000 + 4 * n)))
there n offset = grind (arith, nat_tests)

pub pending_at : (n i : ℕ) → i < n → byte_at n (0x1000 + 4 * i) ≡ Some (Pending i)
pending_at n i l = grind (arith, nat_tests)

pub enable_at : (n i : ℕ) → i < n → byte_at n (0x1001 + 4 * i) ≡ Some (Enable i)
enable_at n i l = grind (arith, nat_tests)

pub attribute_at : (n i : ℕ) → i < n → byte_at n (0x1002 + 4 * i) ≡ Some (Attribute i)
attribute_at n i l = grind (arith, nat_tests)

pub control_at : (n i : ℕ) → i < n → byte_at n (0x1003 + 4 * i) ≡ Some (Control i)
control_at n i l = grind (arith, nat_tests)
