-- What is told of the handlers in a table, and how much stack they use together.
use Rattle.std.specs.Prelude.{◌≡◌, ◌≤◌, ℕ, ◌==◌, true, false, List, [], ◌∷◌, ◌++◌, Option, Some, None, option_map, if◌then◌else◌}
use Rattle.hart_exec.specs.Effect.{even}
use Rattle.hart_memory.specs.Bytes.{number_at}
use Rattle.chain_flow.specs.declared.region.Region.{Region}
use Rattle.chain_lint.specs.Bound.{bound}
use Rattle.chain_lint.specs.declared.uses.Use.{Use}
use Rattle.chain_lint.specs.Tables.{word_place, is_bad_word}
use Rattle.chain_lint.specs.declared.pair.Pair.{Pair}
use Rattle.chain_certify.specs.Check.{Node, checked}
use Rattle.chain_search.specs.Answer.{IsRefusal}
use Rattle.chain_certify.specs.Soundness.{Certificates}
use Rattle.chain_search.specs.declared.accepted.Accepted.{Accepted as AcceptedAt}
use Rattle.chain_search.specs.declared.pair_answer.PairAnswer.{PairAnswer}
use Rattle.chain_search.specs.declared.pair_answer.PairAnswer.TheVariants.{BadTable, Accepted, Refused}

-- the handler whose address is the word at a place of the code
abbrev pub named_at : List ℕ → ℕ → ℕ
named_at code place = even (number_at code place 4)

-- the word is bad; or the handler's certificate is accepted with these uses; or a rule refuses
abbrev pub IsPairAnswer : List ℕ → Region → Certificates → ℕ → PairAnswer → Type 0
IsPairAnswer code region certs place (BadTable at) = (is_bad_word place ≡ true) × (at ≡ place)
IsPairAnswer code region certs place (Accepted uses) = (is_bad_word place ≡ false) × (checked code (named_at code place) region (certs (named_at code place)) ≡ Some uses)
IsPairAnswer code region certs place (Refused why at) = (is_bad_word place ≡ false) × IsRefusal code region why at

-- of each pair in order
abbrev pub ArePairAnswers : List ℕ → Region → Certificates → ℕ → List Pair → List PairAnswer → Type 0
ArePairAnswers code region certs table [] [] = Unit {0}
ArePairAnswers code region certs table (p ∷ ps) (a ∷ bs) = IsPairAnswer code region certs (word_place table p) a × ArePairAnswers code region certs table ps bs
ArePairAnswers code region certs table ps bs = ⊥

-- so it is by some certificates, one for each handler's address
abbrev pub AreTold : List ℕ → Region → ℕ → List Pair → List PairAnswer → Type 0
AreTold code region table pairs answers = (certs : Certificates) × ArePairAnswers code region certs table pairs answers

-- a handler that is accepted uses few bytes
abbrev pub IsLittle : PairAnswer → Type 0
IsLittle (Accepted uses) = uses ≤ 4096
IsLittle (BadTable at) = Unit {0}
IsLittle (Refused why at) = Unit {0}

-- ---- the handlers that were accepted so far

-- the uses of the first one at an address
unfoldable pub uses_in : List AcceptedAt → ℕ → Option ℕ
uses_in [] at = None
uses_in (h ∷ hs) at = if h.at == at then Some h.uses else uses_in hs at

-- it has a certificate with these uses
abbrev pub WasCertified : List ℕ → Region → AcceptedAt → Type 0
WasCertified code region h = (nodes : List Node) × (checked code h.at region nodes ≡ Some h.uses)

abbrev pub WereCertified : List ℕ → Region → List AcceptedAt → Type 0
WereCertified code region [] = Unit {0}
WereCertified code region (h ∷ hs) = WasCertified code region h × WereCertified code region hs

-- an answer by that list
abbrev pub IsAnswerBy : List ℕ → Region → List AcceptedAt → ℕ → PairAnswer → Type 0
IsAnswerBy code region hs place (BadTable at) = (is_bad_word place ≡ true) × (at ≡ place)
IsAnswerBy code region hs place (Accepted uses) = (is_bad_word place ≡ false) × (uses_in hs (named_at code place) ≡ Some uses)
IsAnswerBy code region hs place (Refused why at) = (is_bad_word place ≡ false) × IsRefusal code region why at

abbrev pub AreAnswersBy : List ℕ → Region → List AcceptedAt → ℕ → List Pair → List PairAnswer → Type 0
AreAnswersBy code region hs table [] [] = Unit {0}
AreAnswersBy code region hs table (p ∷ ps) (a ∷ bs) = IsAnswerBy code region hs (word_place table p) a × AreAnswersBy code region hs table ps bs
AreAnswersBy code region hs table ps bs = ⊥

-- what the one tells of a handler, the other tells too
abbrev pub TellsMore : List AcceptedAt → List AcceptedAt → Type 0
TellsMore hs more = (at uses : ℕ) → uses_in hs at ≡ Some uses → uses_in more at ≡ Some uses

-- ---- the bound

-- what a handler uses that is accepted
abbrev pub uses_told : PairAnswer → Option ℕ
uses_told (Accepted uses) = Some uses
uses_told (BadTable at) = None
uses_told (Refused why at) = None

abbrev pub by_uses : Option ℕ → (ℕ → Option (List Use)) → Option (List Use)
by_uses None next = None
by_uses (Some uses) next = next uses

-- the uses in order after these, where each handler is accepted
unfoldable pub uses_from : List Use → List Pair → List PairAnswer → Option (List Use)
uses_from us [] bs = Some us
uses_from us (p ∷ ps) [] = None
uses_from us (p ∷ ps) (a ∷ bs) = by_uses (uses_told a) (λ uses. uses_from (us ++ record { level = p.level; uses = uses } ∷ []) ps bs)

-- the bytes that all handlers use together, where each is accepted
abbrev pub bound_told : List Pair → List PairAnswer → Option ℕ
bound_told ps bs = option_map (λ us. bound us) (uses_from [] ps bs)
