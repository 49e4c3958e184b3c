use Rattle.std.proofs.Common.{◌≡◌, ◌+◌, ◌*◌, ◌-◌}
use Rattle.lab_elf.specs.Header.{program_count, program_offset}
use Rattle.lab_elf.specs.Headers.{programs, programs_from}
use Rattle.lab_elf.specs.Loading.{load_address}
use Rattle.lab_elf.proofs.program.load_address.Given as goal

-- the address is that in the segments that are left
abbrev pub invariant-loop-k : goal.invariant-loop-k
invariant-loop-k l = load_address l.section (programs_from (program_count l.bytes - l.k) (program_offset l.bytes + 32 * l.k) l.bytes) ≡ load_address l.section (programs l.bytes)
