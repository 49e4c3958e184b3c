use Rattle.std.proofs.Common.{All, List, sym, subst}
use Rattle.std.specs.declared.result.Result.{Result}
use Rattle.asm_text.specs.declared.token.Token.{Token}
use Rattle.asm_text.specs.declared.lex_fault.LexFault.{LexFault}
use Rattle.asm_text.specs.Lexing.{lexed, tokens_of}
use Rattle.asm_text.specs.Reading.{IsRead, IsSmall, IsTokenOf}
use Rattle.asm_text.proofs.ReadLaw.{line_is_read, tokens_are_slices}
use Rattle.asm_text.proofs.Magnitudes.{token_small}
use Rattle.asm_text.proofs.lexer.lex_line.Goals as goal

pub returns-clause-read : goal.returns-clause-read
returns-clause-read c =
    let line = c.args.line.now in
    let OfTokens : List Token → Type 0 = λ ts. IsRead line ts c.lex_tokens.result in
    let OfAnswer : Result (Unit {0}) LexFault → Type 0 = λ r. IsRead line (tokens_of (lexed line).lexemes) r in
    subst OfTokens (sym c.lex_tokens.ensures.tokens) (subst OfAnswer (sym c.lex_tokens.ensures.answer) (line_is_read line))

pub returns-clause-slices : goal.returns-clause-slices
returns-clause-slices c =
    let line = c.args.line.now in
    let OfTokens : List Token → Type 0 = λ ts. All (IsTokenOf line) ts in
    subst OfTokens (sym c.lex_tokens.ensures.tokens) (tokens_are_slices line)

pub returns-clause-small : goal.returns-clause-small
returns-clause-small c =
    let line = c.args.line.now in
    let OfTokens : List Token → Type 0 = λ ts. All (λ t. IsSmall t.value) ts in
    subst OfTokens (sym c.lex_tokens.ensures.tokens) (λ k d h. token_small line _ (tokens_are_slices line k d h))
