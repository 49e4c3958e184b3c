-- What a call answers and leaves, where only want of memory is free.
use Rattle.std.specs.Prelude.{◌≡◌}
use Rattle.std.specs.declared.result.Result.{Result}
use Rattle.std.specs.declared.result.Result.TheVariants.{Ok, Err}
use Rattle.asm_forms.specs.declared.asm_why.AsmWhy.{AsmWhy}
use Rattle.rv_assembler.specs.declared.stop.Stop.{Stop}
use Rattle.rv_assembler.specs.declared.stop.Stop.TheVariants.{Memory, Refused}

-- Ok with the state that is told, or the refusal that is told
abbrev pub Becomes : {A S : Type 0} → Result A Stop → S → Result S AsmWhy → Type 0
Becomes (Ok x) new told = told ≡ Ok new
Becomes (Err Memory) new told = Unit {0}
Becomes (Err (Refused w)) new told = told ≡ Err w
