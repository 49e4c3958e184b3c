use Rattle.std.proofs.Common.{subst}
use Rattle.hart_words.specs.Registers.{AreRegisters}
use Rattle.hart_words.proofs.registers.Regs.in_range.Goals as goal

pub returns : goal.returns
returns c = subst (λ registers. AreRegisters registers) c.self.view_is (record { count = c.self.told; words = c.are_words.ensures; zero = c.self.invariant })
