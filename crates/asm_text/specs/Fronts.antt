-- What the lexer's parts answer.
use Rattle.std.specs.Prelude.{ℕ, ◌+◌, Option, Some, None}
use Rattle.std.specs.declared.result.Result.{Result}
use Rattle.std.specs.declared.result.Result.TheVariants.{Ok, Err}
use Rattle.asm_text.specs.Words.{placed}
use Rattle.asm_text.specs.Lexing.{Front, Space, Rest, Taken, NoToken, NoNumber}
use Rattle.asm_text.specs.declared.found.Found.{Found}
use Rattle.asm_text.specs.declared.found.Found.TheVariants.{Space as FoundSpace, Comment as FoundComment, Token as FoundToken, Fault as FoundFault}
use Rattle.asm_text.specs.declared.lex_fault.LexFault.{LexFault}
use Rattle.asm_text.specs.declared.lex_fault.LexFault.TheVariants.{BadChar, BadNumber}

-- a front at a place, as the code tells it
abbrev pub seen : ℕ → Front → Found
seen at Space = FoundSpace
seen at Rest = FoundComment
seen at (Taken w n) = FoundToken (placed w at (at + 1 + n))
seen at NoToken = FoundFault (BadChar at)
seen at NoNumber = FoundFault (BadNumber at)

-- Ok exactly where there is no fault
abbrev pub answer_of : Option LexFault → Result (Unit {0}) LexFault
answer_of None = Ok tt
answer_of (Some f) = Err f
