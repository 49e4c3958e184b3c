-- The tokens of a line, place by place.
use Rattle.std.proofs.Common.{◌≡◌, ℕ, zero, suc, ◌+◌, ◌<◌, ◌≤◌, List, [], ◌∷◌, ◌++◌, drop, take, length, get_or, Option, Some, None, true, false, cond, refl, sym, ap, ◌∙◌, arith, drop-cons, length-append}
use Rattle.std.proofs.lemmas.List.{take-map, length-map}
use Rattle.std.proofs.Math.Seq.{take-append_seam}
use Rattle.std.proofs.lemmas.Bool.Decides.{nat_tests}
use Rattle.std.specs.Prelude.{nat_le}
use Rattle.asm_text.specs.Words.{Word, placed}
use Rattle.asm_text.specs.Lexing.{Front, Space, Rest, Taken, NoToken, NoNumber, front_of, more_of, joined, scanned, Lexeme, Lexed, limited, lexed, token_of, tokens_of, start_at}
use Rattle.asm_text.specs.Fronts.{seen}
use Rattle.asm_text.specs.declared.token.Token.{Token}
use Rattle.asm_text.specs.declared.lex_fault.LexFault.{LexFault}
use Rattle.asm_text.specs.declared.lex_fault.LexFault.TheVariants.{TooManyTokens}
use Rattle.asm_text.specs.declared.found.Found.TheVariants.{Space as FoundSpace, Comment as FoundComment, Token as FoundToken, Fault as FoundFault}

-- the tokens and the fault, without the texts
pub record Told : Type 0 where
  pub tokens : List Token
  pub fault : Option LexFault

abbrev pub told : Lexed → Told
told s = record { tokens = tokens_of s.lexemes; fault = s.fault }

abbrev pub after_tokens : List Token → Told → Told
after_tokens ts rest = record { tokens = ts ++ rest.tokens; fault = rest.fault }

abbrev pub ended : List Token → Option LexFault → Told
ended ts f = record { tokens = ts; fault = f }

-- what is passed over is dropped
pub skipped : (n p : ℕ) (bs : List ℕ) → scanned n p bs ≡ scanned 0 (p + n) (drop n bs)
skipped zero p bs = ap (λ q. scanned 0 q bs) (let e : p ≡ p + 0 = omega arith in e)
skipped (suc n) p [] = refl
skipped (suc n) p (b ∷ bs) = skipped n (p + 1) bs ∙ ap (λ q. scanned 0 q (drop n bs)) (let e : p + 1 + n ≡ p + suc n = omega arith in e)

-- one step at a place of the line
pub scanned_at : (line : List ℕ) (at : ℕ) (f : Front) → at < length line → front_of (get_or line at 0) (drop (at + 1) line) ≡ f
    → scanned 0 at (drop at line) ≡ joined f at (scanned 0 (at + 1 + more_of f) (drop (more_of f) (drop (at + 1) line)))
scanned_at line at f h is =
    let one : suc at ≡ at + 1 = omega arith in
    ap (scanned 0 at) (drop-cons line at 0 h ∙ ap (λ k. get_or line at 0 ∷ drop k line) one)
    ∙ ap (λ g. joined g at (scanned (more_of g) (at + 1) (drop (at + 1) line))) is
    ∙ ap (joined f at) (skipped (more_of f) (at + 1) (drop (at + 1) line))

drop_none : (k : ℕ) → drop {A = ℕ} k [] ≡ []
drop_none zero = refl
drop_none (suc k) = refl

pub drop_on : (line : List ℕ) (m n : ℕ) → drop m (drop n line) ≡ drop (n + m) line
drop_on line m zero = ap (λ k. drop k line) (let e : m ≡ 0 + m = omega arith in e)
drop_on [] m (suc n) = drop_none m ∙ sym (drop_none (suc n + m))
drop_on (b ∷ bs) m (suc n) = drop_on bs m n ∙ ap (λ k. drop k (b ∷ bs)) (let e : suc (n + m) ≡ suc n + m = omega arith in e)

-- which front is seen so
pub saw_comment : (at : ℕ) (f : Front) → seen at f ≡ FoundComment → f ≡ Rest
saw_comment at Space e = cc
saw_comment at Rest e = refl
saw_comment at (Taken w n) e = cc
saw_comment at NoToken e = cc
saw_comment at NoNumber e = cc

pub saw_token : (at : ℕ) (f : Front) (t : Token) → seen at f ≡ FoundToken t → (w : Word) × (n : ℕ) × (f ≡ Taken w n) × (t ≡ placed w at (at + 1 + n))
saw_token at Space t e = cc
saw_token at Rest t e = cc
saw_token at (Taken w n) t e = (w, n, refl, cc)
saw_token at NoToken t e = cc
saw_token at NoNumber t e = cc

pub saw_fault : (at : ℕ) (f : Front) (x : LexFault) (rest : Lexed) → seen at f ≡ FoundFault x → told (joined f at rest) ≡ ended [] (Some x)
saw_fault at Space x rest e = cc
saw_fault at Rest x rest e = cc
saw_fault at (Taken w n) x rest e = cc
saw_fault at NoToken x rest e = cc
saw_fault at NoNumber x rest e = cc

-- the four steps
pub on_comment : (line : List ℕ) (at : ℕ) → at < length line → seen at (front_of (get_or line at 0) (drop (at + 1) line)) ≡ FoundComment
    → told (scanned 0 at (drop at line)) ≡ ended [] None
on_comment line at h e = ap told (scanned_at line at Rest h (saw_comment at _ e))

pub on_fault : (line : List ℕ) (at : ℕ) (x : LexFault) → at < length line → seen at (front_of (get_or line at 0) (drop (at + 1) line)) ≡ FoundFault x
    → told (scanned 0 at (drop at line)) ≡ ended [] (Some x)
on_fault line at x h e = ap told (scanned_at line at _ h refl) ∙ saw_fault at _ x _ e

pub on_token : (line : List ℕ) (at : ℕ) (t : Token) → at < length line → seen at (front_of (get_or line at 0) (drop (at + 1) line)) ≡ FoundToken t
    → (told (scanned 0 at (drop at line)) ≡ after_tokens (t ∷ []) (told (scanned 0 t.end (drop t.end line)))) × (at < t.end) × (t.start ≡ at)
on_token line at t h e =
    let saw = saw_token at _ t e in
    let there : t.end ≡ at + 1 + saw.1 = ap (λ (u : Token). u.end) saw.3 in
    let here : t.start ≡ at = ap (λ (u : Token). u.start) saw.3 in
    let step = ap told (scanned_at line at (Taken saw.0 saw.1) h saw.2) in
    let rest : told (scanned 0 (at + 1 + saw.1) (drop saw.1 (drop (at + 1) line))) ≡ told (scanned 0 t.end (drop t.end line))
    = ap (λ ds. told (scanned 0 (at + 1 + saw.1) ds)) (drop_on line saw.1 (at + 1)) ∙ ap (λ k. told (scanned 0 k (drop k line))) (sym there) in
    (step ∙ ap (after_tokens (placed saw.0 at (at + 1 + saw.1) ∷ [])) rest ∙ ap (λ u. after_tokens (u ∷ []) (told (scanned 0 t.end (drop t.end line)))) (sym saw.3), omega arith, here)

-- at the end
pub few : (s : Lexed) (n : ℕ) → length s.lexemes ≡ n → n ≤ 16 → limited s ≡ s
few s n is h = let t : nat_le (length s.lexemes) 16 ≡ true = grind (arith, nat_tests) in ap (λ b. cond b s (record { lexemes = take 16 s.lexemes; fault = Some (TooManyTokens (start_at s.lexemes 16)) })) t

pub within : (line : List ℕ) (ts : List Token) (f : Option LexFault) → told (scanned 0 0 line) ≡ ended ts f → length ts ≤ 16 → told (lexed line) ≡ ended ts f
unfolding lexed
within line ts f e h =
    let count : length (scanned 0 0 line).lexemes ≡ length ts = sym (length-map (scanned 0 0 line).lexemes token_of) ∙ ap (λ (t : Told). length t.tokens) e in
    ap told (few (scanned 0 0 line) (length ts) count h) ∙ e

start_of : (ls : List Lexeme) (ts : List Token) (t : Token) (rest : List Token) → tokens_of ls ≡ ts ++ t ∷ rest → start_at ls (length ts) ≡ t.start
start_of [] [] t rest e = cc
start_of [] (u ∷ us) t rest e = cc
start_of (l ∷ ls) [] t rest e = let same : token_of l ≡ t = cc in ap (λ (t : Token). t.start) same
start_of (l ∷ ls) (u ∷ us) t rest e = start_of ls us t rest cc

pub beyond : (line : List ℕ) (ts : List Token) (t : Token) (rest : Told) → told (scanned 0 0 line) ≡ after_tokens ts (after_tokens (t ∷ []) rest) → length ts ≡ 16 → told (lexed line) ≡ ended ts (Some (TooManyTokens t.start))
unfolding lexed
beyond line ts t rest e h =
    let s = scanned 0 0 line in
    let all : tokens_of s.lexemes ≡ ts ++ t ∷ rest.tokens = ap (λ (t : Told). t.tokens) e in
    let count : length s.lexemes ≡ length (ts ++ t ∷ rest.tokens) = sym (length-map s.lexemes token_of) ∙ ap (λ (ts : List Token). length ts) all in
    let many : nat_le (length s.lexemes) 16 ≡ false = grind (arith, nat_tests, length-append ts (t ∷ rest.tokens)) in
    let front : tokens_of (take 16 s.lexemes) ≡ ts = sym (take-map token_of 16 s.lexemes) ∙ ap (take 16) all ∙ ap (λ k. take k (ts ++ t ∷ rest.tokens)) (sym h) ∙ take-append_seam ts (t ∷ rest.tokens) in
    let place : start_at s.lexemes 16 ≡ t.start = ap (start_at s.lexemes) (sym h) ∙ start_of s.lexemes ts t rest.tokens all in
    ap (λ b. told (cond b s (record { lexemes = take 16 s.lexemes; fault = Some (TooManyTokens (start_at s.lexemes 16)) }))) many
    ∙ ap (λ us. ended us (Some (TooManyTokens (start_at s.lexemes 16)))) front
    ∙ ap (λ p. ended ts (Some (TooManyTokens p))) place

pub drop_all : (bs : List ℕ) (n : ℕ) → length bs ≤ n → drop n bs ≡ []
drop_all [] n h = drop_none n
drop_all (b ∷ bs) zero h = absurd (omega arith)
drop_all (b ∷ bs) (suc n) h = drop_all bs n (omega arith)

pub scanned_past : (line : List ℕ) (at : ℕ) → length line ≤ at → told (scanned 0 at (drop at line)) ≡ ended [] None
scanned_past line at h = ap (λ bs. told (scanned 0 at bs)) (drop_all line at h)
