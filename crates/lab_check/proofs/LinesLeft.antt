-- The lines that are left.
use Rattle.std.proofs.Common.{◌≡◌, ℕ, ◌+◌, ◌<◌, ◌≤◌, List, [], ◌++◌, length, get_or, drop, Bool, ap, ap₂, subst}
use Rattle.board_outside.specs.Sink.{SinkView, Writes}
use Rattle.std.proofs.lemmas.List.{drop_more, drop_all}
use Rattle.chain_lint.specs.Tables.{word_place}
use Rattle.chain_lint.specs.declared.pair.Pair.{Pair}
use Rattle.chain_search.specs.declared.pair_answer.PairAnswer.{PairAnswer}
use Rattle.lab_names.specs.Name.{NameView}
use Rattle.lab_check.specs.Lines.{handler_at, answer_line, answer_lines}

pub as_text : {r : Bool} {o n : SinkView} {a b : List ℕ} → a ≡ b → Writes r o n a → Writes r o n b
as_text {r = r} {o = o} {n = n} e w = subst (λ (t : List ℕ). Writes r o n t) e w

module _ (names : List NameView) (code : List ℕ) (table : ℕ) (ps : List Pair) (bs : List PairAnswer) (i : ℕ) where
  pub line_left : (d : Pair) (e : PairAnswer) → i < length ps → i < length bs
      → answer_lines names code table (drop i ps) (drop i bs) ≡ answer_line names (handler_at code (word_place table (get_or ps i d))) (get_or ps i d) (get_or bs i e) ++ answer_lines names code table (drop (i + 1) ps) (drop (i + 1) bs)
  unfolding answer_lines
  line_left d e l r = ap₂ (λ (qs : List Pair) (cs : List PairAnswer). answer_lines names code table qs cs) (drop_more ps i d l) (drop_more bs i e r)

  pub no_answer : (d : Pair) → i < length ps → length bs ≤ i → answer_lines names code table (drop i ps) (drop i bs) ≡ []
  unfolding answer_lines
  no_answer d l r = ap₂ (λ (qs : List Pair) (cs : List PairAnswer). answer_lines names code table qs cs) (drop_more ps i d l) (drop_all i bs r)

  pub none_left : length ps ≤ i → answer_lines names code table (drop i ps) (drop i bs) ≡ []
  unfolding answer_lines
  none_left l = ap (λ (qs : List Pair). answer_lines names code table qs (drop i bs)) (drop_all i ps l)
