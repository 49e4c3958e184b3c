use Rattle.std.proofs.Common.{◌≡◌, List, [], ◌∷◌, drop, length, ap, sym, ◌∙◌, arith, Some, None, append_assoc}
use Rattle.std.proofs.lemmas.List.{append-nil, length-append}
use Rattle.asm_text.specs.declared.token.Token.{Token}
use Rattle.asm_text.specs.declared.lex_fault.LexFault.TheVariants.{TooManyTokens}
use Rattle.asm_text.specs.Lexing.{scanned}
use Rattle.asm_text.specs.Fronts.{answer_of}
use Rattle.asm_text.proofs.Scanning.{Told, told, after_tokens, ended, on_comment, on_fault, on_token, within, beyond, scanned_past}
use Rattle.asm_text.proofs.lexer.lex_tokens.Goals as goal

pub returns-in-Comment : goal.returns-in-Comment
returns-in-Comment c =
    let line = c.args.line.now in
    let seen = on_comment line c.loop-at.at c.loop-at-test.true (sym c.front_at.ensures ∙ c.in-Comment.is) in
    let all = within line c.loop-at.tokens None (c.loop-at.invariant.same ∙ ap (after_tokens c.loop-at.tokens) seen ∙ ap (λ ts. ended ts None) (append-nil c.loop-at.tokens)) c.loop-at.invariant.few in
    record { tokens = ap (λ (t : Told). t.tokens) (sym all); answer = ap (λ (t : Told). answer_of t.fault) (sym all) }

pub returns-in-Fault : goal.returns-in-Fault
returns-in-Fault c =
    let line = c.args.line.now in
    let seen = on_fault line c.loop-at.at c.in-Fault.fault c.loop-at-test.true (sym c.front_at.ensures ∙ c.in-Fault.is) in
    let all = within line c.loop-at.tokens (Some c.in-Fault.fault) (c.loop-at.invariant.same ∙ ap (after_tokens c.loop-at.tokens) seen ∙ ap (λ ts. ended ts (Some c.in-Fault.fault)) (append-nil c.loop-at.tokens)) c.loop-at.invariant.few in
    record { tokens = ap (λ (t : Told). t.tokens) (sym all); answer = ap (λ (t : Told). answer_of t.fault) (sym all) }

pub returns-then-len-eq-MAX_TOKENS : goal.returns-then-len-eq-MAX_TOKENS
returns-then-len-eq-MAX_TOKENS c =
    let line = c.args.line.now in
    let token = c.in-Token.token in
    let seen = on_token line c.loop-at.at token c.loop-at-test.true (sym c.front_at.ensures ∙ c.in-Token.is) in
    let full : length c.loop-at.tokens ≡ 16 = cc in
    let all = beyond line c.loop-at.tokens token (told (scanned 0 token.end (drop token.end line))) (c.loop-at.invariant.same ∙ ap (after_tokens c.loop-at.tokens) seen.0) full in
    let place : TooManyTokens token.start ≡ TooManyTokens c.loop-at.at = ap TooManyTokens seen.2 in
    record { tokens = ap (λ (t : Told). t.tokens) (sym all); answer = sym (ap (λ (t : Told). answer_of t.fault) all ∙ ap (λ f. answer_of (Some f)) place) }

pub returns : goal.returns
returns c =
    let line = c.args.line.now in
    let seen = scanned_past line c.loop-at.at c.loop-at-test.false in
    let all = within line c.loop-at.tokens None (c.loop-at.invariant.same ∙ ap (after_tokens c.loop-at.tokens) seen ∙ ap (λ ts. ended ts None) (append-nil c.loop-at.tokens)) c.loop-at.invariant.few in
    record { tokens = ap (λ (t : Told). t.tokens) (sym all); answer = ap (λ (t : Told). answer_of t.fault) (sym all) }

pub loop-at-preserved : goal.loop-at-preserved
loop-at-preserved c =
    let line = c.args.line.now in
    let token = c.in-Token.token in
    let seen = on_token line c.loop-at.at token c.loop-at-test.true (sym c.front_at.ensures ∙ c.in-Token.is) in
    let rest = told (scanned 0 token.end (drop token.end line)) in
    let grown : after_tokens c.loop-at.tokens (after_tokens (token ∷ []) rest) ≡ after_tokens c.push.new.self rest = ap (λ ts. ended ts rest.fault) (sym (append_assoc c.loop-at.tokens (token ∷ []) rest.tokens)) ∙ ap (λ ts. after_tokens ts rest) (sym c.push.ensures) in
    record {
      few = omega (arith, c.len.ensures.len, c.len.ensures.fits, ap (λ (ts : List Token). length ts) c.push.ensures, length-append c.loop-at.tokens (token ∷ []));
      same = c.loop-at.invariant.same ∙ ap (after_tokens c.loop-at.tokens) seen.0 ∙ grown;
    }
