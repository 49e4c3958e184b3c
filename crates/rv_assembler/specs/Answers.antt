-- What calls over whole sources answer, where only want of memory is free.
use Rattle.std.specs.Prelude.{◌≡◌}
use Rattle.std.specs.declared.result.Result.{Result}
use Rattle.std.specs.declared.result.Result.TheVariants.{Ok, Err}
use Rattle.rv_assembler.specs.Source.{Refusal, refuse, Program}
use Rattle.rv_assembler.specs.declared.asm_error.AsmError.{AsmError}
use Rattle.rv_assembler.specs.declared.asm_error.AsmError.TheVariants.{Memory, Refused}
use Rattle.rv_assembler.specs.declared.assembled.Assembled.{Assembled}

-- the refusal that is told
abbrev pub Fails : {S : Type 0} → AsmError → Result S Refusal → Type 0
Fails Memory told = Unit {0}
Fails (Refused line why) told = told ≡ refuse line why

-- Ok with the state that is told, or the refusal that is told
abbrev pub BecomesAt : {A S : Type 0} → Result A AsmError → S → Result S Refusal → Type 0
BecomesAt (Ok x) new told = told ≡ Ok new
BecomesAt (Err e) new told = Fails e told

-- Ok with the program that is told, or the refusal that is told
abbrev pub Gives : Result Assembled AsmError → Result Program Refusal → Type 0
Gives (Ok a) told = told ≡ Ok (record { image = a.image; symbols = a.symbols })
Gives (Err e) told = Fails e told
