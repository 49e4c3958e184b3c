-- Walks of dispatch code and bodies in which no direct service begins.
use Rattle.std.proofs.Common.{◌≡◌, ℕ, zero, suc, ◌+◌, ◌<◌, Bool, true, false, not, ◌&&◌, List, [], ◌∷◌, ◌++◌, Option, Some, None, Result, Ok, Err, refl, sym, ap, ap₂, ◌∙◌, arith}
use Rattle.std.specs.Prelude.{◌==◌}
use Rattle.std.proofs.lemmas.Bool.{and_parts, not-true}
use Rattle.std.proofs.lemmas.List.{append-nil}
use Rattle.device_model.specs.Meanings.{Meanings}
use Rattle.clic_select.specs.Top.{top}
use Rattle.clic_select.specs.declared.choice.Choice.{Choice}
use Rattle.clic_trap.specs.Due.{due}
use Rattle.hart_report.specs.Trace.{step_text}
use Rattle.hart_report.specs.declared.stepped.Stepped.{Stepped}
use Rattle.hart_report.specs.declared.stepped.Stepped.TheVariants.{Retired, Interrupted, Raised, Halted, VectorFault}
use Rattle.hart_board.specs.State.{State}
use Rattle.hart_board.specs.Step.{step, settled, turn_by, turn_or_halted}
use Rattle.hart_board.specs.Attempt.{attempt}
use Rattle.hart_board.specs.Run.{Stand}
use Rattle.hart_board.specs.Steps.{board_at, told_at}
use Rattle.hart_board.specs.declared.event.Event.{Event}
use Rattle.rvc_encoding.specs.declared.encoding.Encoding.{Encoding}
use Rattle.hart_board.specs.declared.trap.Trap.{Trap}
use Rattle.chain_moves.specs.Slot.{call}
use Rattle.chain_core.specs.Walk.{walked}
use Rattle.chain_core.specs.ChainRun.{is_body, chained_at, read_to}
use Rattle.chain_core.specs.Progress.{Progress, goes, progress_at}
use Rattle.chain_core.specs.Text.{service_line, service_text, call_text, next_text, steps_text}
use Rattle.chain_core.proofs.Walks.{is_dispatch, are_dispatch, stands_next}
use Rattle.chain_core.proofs.Told.{text_add}
use Rattle.chain_core.proofs.Standing.{goes_at}
use Rattle.chain_direct.specs.DirectRun.{is_vectored, called, entered_directly, begins_by, begins_after}
use Rattle.chain_direct.specs.DirectText.{listed_lines, text_after, text_to}

-- the step is no interrupt of a hardware-vectored input
abbrev pub is_soft : State → Stepped → Bool
is_soft old (Retired pc bits size) = true
is_soft old (Interrupted pc id) = not (is_vectored (top old.outside.clic))
is_soft old (Raised pc code) = true
is_soft old (Halted code) = true
is_soft old (VectorFault id) = true

abbrev pub is_retired : Stepped → Bool
is_retired (Retired pc bits size) = true
is_retired told = false

abbrev pub are_retired : List Stepped → Bool
are_retired [] = true
are_retired (t ∷ ts) = is_retired t && are_retired ts

retired_soft : (a : State) (t : Stepped) → is_retired t ≡ true → is_soft a t ≡ true
retired_soft a (Retired pc bits size) h = refl
retired_soft a (Interrupted pc id) h = absurd cc
retired_soft a (Raised pc code) h = refl
retired_soft a (Halted code) h = refl
retired_soft a (VectorFault id) h = refl

pub soft_top : (a : State) (t : Stepped) → is_vectored (top a.outside.clic) ≡ false → is_soft a t ≡ true
soft_top a (Retired pc bits size) h = refl
soft_top a (Interrupted pc id) h = ap not h
soft_top a (Raised pc code) h = refl
soft_top a (Halted code) h = refl
soft_top a (VectorFault id) h = refl

heads : {x y : Stepped} {xs ys : List Stepped} → x ∷ xs ≡ y ∷ ys → x ≡ y
heads e = cc

tails : {x y : Stepped} {xs ys : List Stepped} → x ∷ xs ≡ y ∷ ys → xs ≡ ys
tails e = cc

-- where no interrupt is due, none is taken
settled_soft : (a : State) (r : Result (Encoding × State) Trap) → is_soft a (settled a r).told ≡ true
settled_soft a (Ok made) = refl
settled_soft a (Err trap) = refl

calm_by : (m : Meanings) (a : State) (o : Option Choice) → is_soft a (turn_by m a o false).told ≡ true
calm_by m a (Some t) = settled_soft a (attempt m a)
calm_by m a None = settled_soft a (attempt m a)

pub calm_soft : (m : Meanings) (a : State) → m.halted a.outside.device ≡ None → due a.csrs (top a.outside.clic) ≡ false → is_soft a (step m a).told ≡ true
unfolding step
calm_soft m a runs calm =
    ap (λ o. is_soft a (turn_or_halted m a o).told) runs
    ∙ (ap (λ d. is_soft a (turn_by m a (top a.outside.clic) d).told) calm ∙ calm_by m a (top a.outside.clic))

module _ (m : Meanings) (es : List Event) (b : State) where
  -- no direct service begins with the step after the first k
  abbrev pub Soft : ℕ → Type 0
  Soft k = is_soft (board_at m is_body es b k) (told_at m is_body es b k) ≡ true

  pub soft_at : (k c : ℕ) (a : State) → chained_at m es b k ≡ record { count = c; board = a } → is_soft a (step m a).told ≡ true → Soft k
  soft_at k c a e h = ap (λ (q : Stand). is_soft q.board (step m q.board).told) e ∙ h

  -- ---- walks
  pub retired_walk : (n j k c : ℕ) (a : State) (ts : List Stepped) → chained_at m es b k ≡ record { count = c; board = a } → (walked m n a).told ≡ ts → are_dispatch ts ≡ true → are_retired ts ≡ true → j < n → Soft (k + j)
  unfolding walked
  retired_walk zero j k c a ts e is dispatch quiet l = absurd (omega arith)
  retired_walk (suc n) j k c a [] e is dispatch quiet l = absurd cc
  retired_walk (suc n) zero k c a (t ∷ ts) e is dispatch quiet l =
      let here : k ≡ k + 0 = omega arith in
      let first : (step m a).told ≡ t = heads is in
      ap (λ i. is_soft (board_at m is_body es b i) (told_at m is_body es b i)) (sym here) ∙ soft_at k c a e (retired_soft a (step m a).told (ap is_retired first ∙ (and_parts (is_retired t) (are_retired ts) quiet).0))
  retired_walk (suc n) (suc j) k c a (t ∷ ts) e is dispatch quiet l =
      let first : (step m a).told ≡ t = heads is in
      let p = and_parts (is_retired t) (are_retired ts) quiet in
      let q = and_parts (is_dispatch t) (are_dispatch ts) dispatch in
      let same : suc k + j ≡ k + suc j = omega arith in
      ap (λ i. is_soft (board_at m is_body es b i) (told_at m is_body es b i)) (sym same)
      ∙ retired_walk n j (suc k) c (step m a).state ts (stands_next m es b k c a e (ap is_dispatch first ∙ q.0)) (tails is) q.1 p.1 (omega (arith, l))

  -- a walk that begins with an interrupt of a top that isn't hardware-vectored
  pub entering_walk : (n j k c : ℕ) (a : State) (t : Stepped) (ts : List Stepped) → chained_at m es b k ≡ record { count = c; board = a } → (walked m (suc n) a).told ≡ t ∷ ts → is_dispatch t ≡ true → is_vectored (top a.outside.clic) ≡ false → are_dispatch ts ≡ true → are_retired ts ≡ true → j < suc n → Soft (k + j)
  unfolding walked
  entering_walk n zero k c a t ts e is first soft dispatch quiet l =
      let here : k ≡ k + 0 = omega arith in
      ap (λ i. is_soft (board_at m is_body es b i) (told_at m is_body es b i)) (sym here) ∙ soft_at k c a e (soft_top a (step m a).told soft)
  entering_walk n (suc j) k c a t ts e is first soft dispatch quiet l =
      let told : (step m a).told ≡ t = heads is in
      let same : suc k + j ≡ k + suc j = omega arith in
      ap (λ i. is_soft (board_at m is_body es b i) (told_at m is_body es b i)) (sym same)
      ∙ retired_walk n j (suc k) c (step m a).state ts (stands_next m es b k c a e (ap is_dispatch told ∙ first)) (tails is) dispatch quiet (omega (arith, l))

  -- ---- the text of soft steps
  called_text : (depth : ℕ) (new : State) (at_call : Bool) → listed_lines (called depth new at_call) ≡ call_text depth new at_call
  unfolding listed_lines
  called_text depth new true =
      let deep : suc depth ≡ depth + 1 = omega arith in
      append-nil _ ∙ ap (λ n. service_line new.csrs.exccode new.csrs.mil n) deep
  called_text depth new false = refl

  soft_text : (depth : ℕ) (old new : State) (t : Stepped) → is_soft old t ≡ true → listed_lines (begins_by depth old new t) ≡ service_text depth new t
  unfolding listed_lines
  soft_text depth old new (Retired pc bits size) h = called_text depth new (pc == call)
  soft_text depth old new (Interrupted pc id) h = ap (λ v. listed_lines (entered_directly depth new id v)) (not-true (is_vectored (top old.outside.clic)) h)
  soft_text depth old new (Raised pc code) h = refl
  soft_text depth old new (Halted code) h = refl
  soft_text depth old new (VectorFault id) h = refl

  pub soft_next : (trace : Bool) (k : ℕ) → Soft k → text_after m es trace b k ≡ next_text m trace (progress_at m es b k)
  unfolding text_after next_text begins_after
  soft_next trace k h =
      let at = board_at m is_body es b k in
      ap (λ l. step_text trace (step m at).told ++ l) (soft_text (read_to m es b k).depth at (step m at).state (step m at).told h)

  pub one_more : (trace : Bool) (p : Progress) → steps_text m es trace 1 p ≡ next_text m trace p
  unfolding steps_text
  one_more trace p = append-nil (next_text m trace p)

  pub soft_steps : (trace : Bool) (n : ℕ) → ((k : ℕ) → k < n → Soft k) → text_to m es trace b n ≡ steps_text m es trace n (progress_at m es b 0)
  unfolding text_to steps_text
  soft_steps trace zero h = refl
  soft_steps trace (suc n) h =
      let p = progress_at m es b 0 in
      let more : n + 1 ≡ suc n = omega arith in
      let here : goes m es n p ≡ progress_at m es b n = goes_at m es b n 0 ∙ (let z : 0 + n ≡ n = omega arith in ap (progress_at m es b) z) in
      ap₂ (λ x y. x ++ y) (soft_steps trace n (λ k l. h k (omega (arith, l)))) (soft_next trace n (h n (omega arith)))
      ∙ sym (ap (λ i. steps_text m es trace i p) (sym more)
      ∙ (text_add m es trace n 1 p ∙ ap (λ y. steps_text m es trace n p ++ y) (one_more trace (goes m es n p) ∙ ap (next_text m trace) here)))
