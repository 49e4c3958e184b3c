-- What is told of a table's pairs, by the handlers that were accepted so far.
use Rattle.std.proofs.Common.{◌≡◌, ℕ, Bool, true, false, cond, List, [], ◌∷◌, ◌++◌, Option, Some, None, refl, ap, ◌∙◌, subst}
use Rattle.std.specs.Prelude.{◌≤◌, ◌==◌, if◌then◌else◌}
use Rattle.std.specs.List.{All}
use Rattle.std.proofs.lemmas.List.Elements.{All-nil, All-cons}
use Rattle.std.proofs.lemmas.Bool.{eqb-true, eq-eqb}
use Rattle.chain_flow.specs.declared.region.Region.{Region}
use Rattle.hart_exec.specs.Effect.{even}
use Rattle.chain_lint.specs.Tables.{word_place, is_bad_word, IsWordAt}
use Rattle.chain_lint.specs.declared.pair.Pair.{Pair}
use Rattle.chain_certify.specs.Check.{Node, checked, is_certificate, deepest}
use Rattle.chain_certify.proofs.Loops.{certificate_small}
use Rattle.chain_certify.specs.Soundness.{Certificates}
use Rattle.chain_search.specs.Answer.{IsAnswer}
use Rattle.chain_flow.specs.declared.verdict.Verdict.{Verdict}
use Rattle.chain_flow.specs.declared.verdict.Verdict.TheVariants.{Yes, No}
use Rattle.chain_search.specs.Tables.{IsPairAnswer, ArePairAnswers, AreTold, IsLittle, uses_in, WasCertified, WereCertified, IsAnswerBy, AreAnswersBy, TellsMore, named_at}
use Rattle.chain_search.specs.declared.accepted.Accepted.{Accepted as AcceptedAt}
use Rattle.chain_search.specs.declared.pair_answer.PairAnswer.{PairAnswer}
use Rattle.chain_search.specs.declared.pair_answer.PairAnswer.TheVariants.{BadTable, Accepted, Refused}

-- ---- the word
pub good_word : (code : List ℕ) (place w : ℕ) (o : Option ℕ) → IsWordAt code place o → o ≡ Some w → (is_bad_word place ≡ false) × (even w ≡ named_at code place)
good_word code place w None h e = absurd cc
good_word code place w (Some x) h e = let same : w ≡ x = cc in (h.0, ap (λ n. even n) (same ∙ h.1))

-- ---- one more handler
or_more : (b : Bool) (o p q : Option ℕ) (uses : ℕ) → (p ≡ Some uses → q ≡ Some uses) → cond b o p ≡ Some uses → cond b o q ≡ Some uses
or_more true o p q uses f e = e
or_more false o p q uses f e = f e

pub tells_more : (hs : List AcceptedAt) (h : AcceptedAt) → TellsMore hs (hs ++ h ∷ [])
unfolding uses_in
tells_more [] h at uses e = absurd cc
tells_more (x ∷ xs) h at uses e = or_more (x.at == at) (Some x.uses) (uses_in xs at) (uses_in (xs ++ h ∷ []) at) uses (tells_more xs h at uses) e

or_last : (b : Bool) (v : ℕ) (p q : Option ℕ) (uses : ℕ) → (p ≡ None → q ≡ Some uses) → cond b (Some v) p ≡ None → cond b (Some v) q ≡ Some uses
or_last true v p q uses f e = absurd cc
or_last false v p q uses f e = f e

same : (n : ℕ) → (n == n) ≡ true
same n = eq-eqb n n refl

pub tells_last : (hs : List AcceptedAt) (h : AcceptedAt) → uses_in hs h.at ≡ None → uses_in (hs ++ h ∷ []) h.at ≡ Some h.uses
unfolding uses_in
tells_last [] h e = ap (λ b. cond b (Some h.uses) None) (same h.at)
tells_last (x ∷ xs) h e = or_last (x.at == h.at) x.uses (uses_in xs h.at) (uses_in (xs ++ h ∷ []) h.at) h.uses (tells_last xs h) e

module _ (code : List ℕ) (region : Region) where
  pub certified_more : (hs : List AcceptedAt) (h : AcceptedAt) → WereCertified code region hs → WasCertified code region h → WereCertified code region (hs ++ h ∷ [])
  certified_more [] h w c = (c, tt)
  certified_more (x ∷ xs) h w c = (w.0, certified_more xs h w.1 c)

  -- ---- their certificates
  certs_of : (hs : List AcceptedAt) → WereCertified code region hs → Certificates
  certs_of [] w at = []
  certs_of (h ∷ hs) w at = cond (h.at == at) w.0.0 (certs_of hs w.1 at)

  by_first : (h : AcceptedAt) (nodes others : List Node) (at uses : ℕ) (o : Option ℕ) (b : Bool) → (h.at == at) ≡ b → checked code h.at region nodes ≡ Some h.uses → (o ≡ Some uses → checked code at region others ≡ Some uses)
      → cond b (Some h.uses) o ≡ Some uses → checked code at region (cond b nodes others) ≡ Some uses
  by_first h nodes others at uses o true q c f e = subst (λ a. checked code a region nodes ≡ Some uses) (eqb-true h.at at q) (c ∙ e)
  by_first h nodes others at uses o false q c f e = f e

  certs_tell : (hs : List AcceptedAt) (w : WereCertified code region hs) (at uses : ℕ) → uses_in hs at ≡ Some uses → checked code at region (certs_of hs w at) ≡ Some uses
  unfolding uses_in certs_of
  certs_tell [] w at uses e = absurd cc
  certs_tell (h ∷ hs) w at uses e = by_first h w.0.0 (certs_of hs w.1 at) at uses (uses_in hs at) (h.at == at) refl w.0.1 (certs_tell hs w.1 at uses) e

  -- ---- answers
  answer_more : (hs more : List AcceptedAt) (place : ℕ) (a : PairAnswer) → TellsMore hs more → IsAnswerBy code region hs place a → IsAnswerBy code region more place a
  answer_more hs more place (BadTable at) t h = h
  answer_more hs more place (Accepted uses) t h = (h.0, t (named_at code place) uses h.1)
  answer_more hs more place (Refused why at) t h = h

  pub answers_more : (hs more : List AcceptedAt) (table : ℕ) (ps : List Pair) (bs : List PairAnswer) → TellsMore hs more → AreAnswersBy code region hs table ps bs → AreAnswersBy code region more table ps bs
  answers_more hs more table [] [] t h = tt
  answers_more hs more table [] (a ∷ bs) t h = absurd h
  answers_more hs more table (p ∷ ps) [] t h = absurd h
  answers_more hs more table (p ∷ ps) (a ∷ bs) t h = (answer_more hs more (word_place table p) a t h.0, answers_more hs more table ps bs t h.1)

  pub answers_push : (hs : List AcceptedAt) (table : ℕ) (ps : List Pair) (bs : List PairAnswer) (p : Pair) (a : PairAnswer) → AreAnswersBy code region hs table ps bs → IsAnswerBy code region hs (word_place table p) a
      → AreAnswersBy code region hs table (ps ++ p ∷ []) (bs ++ a ∷ [])
  answers_push hs table [] [] p a h one = (one, tt)
  answers_push hs table [] (b ∷ bs) p a h one = absurd h
  answers_push hs table (q ∷ ps) [] p a h one = absurd h
  answers_push hs table (q ∷ ps) (b ∷ bs) p a h one = (h.0, answers_push hs table ps bs p a h.1 one)

  told_one : (hs : List AcceptedAt) (w : WereCertified code region hs) (place : ℕ) (a : PairAnswer) → IsAnswerBy code region hs place a → IsPairAnswer code region (certs_of hs w) place a
  told_one hs w place (BadTable at) h = h
  told_one hs w place (Accepted uses) h = (h.0, certs_tell hs w (named_at code place) uses h.1)
  told_one hs w place (Refused why at) h = h

  told_all : (hs : List AcceptedAt) (w : WereCertified code region hs) (table : ℕ) (ps : List Pair) (bs : List PairAnswer) → AreAnswersBy code region hs table ps bs → ArePairAnswers code region (certs_of hs w) table ps bs
  told_all hs w table [] [] h = tt
  told_all hs w table [] (a ∷ bs) h = absurd h
  told_all hs w table (p ∷ ps) [] h = absurd h
  told_all hs w table (p ∷ ps) (a ∷ bs) h = (told_one hs w (word_place table p) a h.0, told_all hs w table ps bs h.1)

  pub told : (hs : List AcceptedAt) (table : ℕ) (ps : List Pair) (bs : List PairAnswer) → WereCertified code region hs → AreAnswersBy code region hs table ps bs → AreTold code region table ps bs
  told hs table ps bs w h = (certs_of hs w, told_all hs w table ps bs h)

-- a yes has a certificate
pub yes_has : (code : List ℕ) (handler : ℕ) (region : Region) (v : Verdict) (uses : ℕ) → IsAnswer code handler region v → v ≡ Yes uses → (nodes : List Node) × (checked code handler region nodes ≡ Some uses)
yes_has code handler region (Yes u) uses h e = let same : u ≡ uses = cc in (h.0, h.1 ∙ ap Some same)
yes_has code handler region (No why at) uses h e = absurd cc

-- ---- uses are few

by_certificate : (b : Bool) (deep uses : ℕ) → (b ≡ true → deep ≤ 4096) → (if b then Some deep else None) ≡ Some uses → uses ≤ 4096
by_certificate true deep uses f e = let same : deep ≡ uses = cc in subst (λ n. n ≤ 4096) same (f refl)
by_certificate false deep uses f e = absurd cc

checked_small : (code : List ℕ) (handler : ℕ) (region : Region) (nodes : List Node) (uses : ℕ) → checked code handler region nodes ≡ Some uses → uses ≤ 4096
unfolding checked
checked_small code handler region nodes uses e = by_certificate (is_certificate code handler region nodes) (deepest nodes) uses (certificate_small code handler region nodes) e

one_is_little : (code : List ℕ) (region : Region) (certs : Certificates) (place : ℕ) (a : PairAnswer) → IsPairAnswer code region certs place a → IsLittle a
one_is_little code region certs place (BadTable at) h = tt
one_is_little code region certs place (Accepted uses) h = checked_small code (named_at code place) region (certs (named_at code place)) uses h.1
one_is_little code region certs place (Refused why at) h = tt

all_are_little : (code : List ℕ) (region : Region) (certs : Certificates) (table : ℕ) (ps : List Pair) (bs : List PairAnswer) → ArePairAnswers code region certs table ps bs → All IsLittle bs
all_are_little code region certs table [] [] h = All-nil IsLittle
all_are_little code region certs table [] (a ∷ bs) h = absurd h
all_are_little code region certs table (p ∷ ps) [] h = absurd h
all_are_little code region certs table (p ∷ ps) (a ∷ bs) h = All-cons IsLittle a bs (one_is_little code region certs (word_place table p) a h.0) (all_are_little code region certs table ps bs h.1)

pub are_little : (code : List ℕ) (region : Region) (table : ℕ) (ps : List Pair) (bs : List PairAnswer) → AreTold code region table ps bs → All IsLittle bs
are_little code region table ps bs h = all_are_little code region h.0 table ps bs h.1
