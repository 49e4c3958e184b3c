-- What is written and read off over steps with which no direct service begins.
use Rattle.std.proofs.Common.{◌≡◌, ℕ, zero, suc, ◌+◌, ◌<◌, ◌==◌, Bool, true, false, List, [], ◌++◌, refl, sym, ap, ap₂, ◌∙◌, arith, append_assoc}
use Rattle.std.proofs.lemmas.List.{append-nil}
use Rattle.std.proofs.lemmas.Bool.{not-true}
use Rattle.device_model.specs.Meanings.{Meanings}
use Rattle.clic_select.specs.Top.{top}
use Rattle.hart_report.specs.declared.stepped.Stepped.{Stepped}
use Rattle.hart_report.specs.declared.stepped.Stepped.TheVariants.{Retired, Interrupted, Raised, Halted, VectorFault}
use Rattle.hart_board.specs.State.{State}
use Rattle.hart_board.specs.Step.{step}
use Rattle.hart_board.specs.Steps.{board_at}
use Rattle.hart_board.specs.declared.event.Event.{Event}
use Rattle.chain_moves.specs.Slot.{call, back}
use Rattle.chain_moves.specs.Servicing.{Service}
use Rattle.chain_core.specs.ChainRun.{is_body, Read, read_at, read_by, read_to}
use Rattle.chain_core.specs.Progress.{goes, progress_at}
use Rattle.chain_core.specs.Text.{next_text, steps_text}
use Rattle.chain_core.proofs.Told.{text_add}
use Rattle.chain_core.proofs.Standing.{goes_at}
use Rattle.chain_direct.specs.Directed.{Listed, all_chained}
use Rattle.chain_direct.specs.DirectRun.{is_vectored, called, entered_directly, begins_by, begins_after}
use Rattle.chain_direct.specs.DirectText.{text_after, text_to}
use Rattle.chain_direct.specs.DirectChain.{begun_to}
use Rattle.chain_direct.proofs.Raised.{all_append}
use Rattle.chain_direct.proofs.SoftSteps.{is_soft, Soft, soft_next, one_more}

-- ---- one step

-- the services that it adds to what is read off, and that begin with it
record NewAt (r after : Read) (begun : List Listed) : Type 0 where
  new : List Service
  read : after.services ≡ r.services ++ new
  begun_are : begun ≡ all_chained new

none_new : (r after : Read) (begun : List Listed) → after.services ≡ r.services → begun ≡ [] → NewAt r after begun
unfolding all_chained
none_new r after begun e b = record { new = []; read = e ∙ sym (append-nil r.services); begun_are = b }

at_call : (r : Read) (new : State) (at_call at_back : Bool) → NewAt r (read_at r new at_call at_back) (called r.depth new at_call)
unfolding all_chained
at_call r new true at_back = record { new = _; read = refl; begun_are = refl }
at_call r new false true = none_new r _ [] refl refl
at_call r new false false = none_new r _ [] refl refl

at_step : (r : Read) (old new : State) (t : Stepped) → is_soft old t ≡ true → NewAt r (read_by r new t) (begins_by r.depth old new t)
at_step r old new (Retired pc bits size) h = at_call r new (pc == call) (pc == back)
at_step r old new (Interrupted pc id) h = none_new r r _ refl (ap (entered_directly r.depth new id) (not-true (is_vectored (top old.outside.clic)) h))
at_step r old new (Raised pc code) h = none_new r r [] refl refl
at_step r old new (Halted code) h = none_new r r [] refl refl
at_step r old new (VectorFault id) h = none_new r r [] refl refl

-- ---- several

module _ (m : Meanings) (es : List Event) (b : State) where
  new_at : (k : ℕ) → Soft m es b k → NewAt (read_to m es b k) (read_to m es b (suc k)) (begins_after m es b k)
  unfolding read_to begins_after
  new_at k h =
      let at = board_at m is_body es b k in
      at_step (read_to m es b k) at (step m at).state (step m at).told h

  -- the services of some steps
  pub record ListedOn (n k : ℕ) : Type 0 where
    pub new : List Service
    pub read : (read_to m es b (n + k)).services ≡ (read_to m es b n).services ++ new
    pub begun : begun_to m es b (n + k) ≡ begun_to m es b n ++ all_chained new

  pub begun_next : (k : ℕ) → begun_to m es b (suc k) ≡ begun_to m es b k ++ begins_after m es b k
  unfolding begun_to
  begun_next k = refl

  pub listed_on : (n k : ℕ) → ((j : ℕ) → j < k → Soft m es b (n + j)) → ListedOn n k
  unfolding all_chained
  listed_on n zero h =
      let none : n + 0 ≡ n = omega arith in
      record {
        new = [];
        read = ap (λ i. (read_to m es b i).services) none ∙ sym (append-nil (read_to m es b n).services);
        begun = ap (begun_to m es b) none ∙ sym (append-nil (begun_to m es b n));
      }
  listed_on n (suc k) h =
      let r = listed_on n k (λ j l. h j (omega (arith, l))) in
      let a = new_at (n + k) (h k (omega arith)) in
      let more : n + suc k ≡ suc (n + k) = omega arith in
      record {
        new = r.new ++ a.new;
        read = ap (λ i. (read_to m es b i).services) more ∙ (a.read ∙ (ap (λ l. l ++ a.new) r.read ∙ append_assoc (read_to m es b n).services r.new a.new));
        begun = ap (begun_to m es b) more ∙ (begun_next (n + k) ∙ (ap₂ (λ x y. x ++ y) r.begun a.begun_are ∙ (append_assoc (begun_to m es b n) (all_chained r.new) (all_chained a.new) ∙ ap (λ l. begun_to m es b n ++ l) (sym (all_append r.new a.new)))));
      }

  -- and their text
  text_next : (trace : Bool) (k : ℕ) → text_to m es trace b (suc k) ≡ text_to m es trace b k ++ text_after m es trace b k
  unfolding text_to
  text_next trace k = refl

  pub text_more : (trace : Bool) (k : ℕ) → text_to m es trace b (k + 1) ≡ text_to m es trace b k ++ text_after m es trace b k
  text_more trace k = let more : k + 1 ≡ suc k = omega arith in ap (text_to m es trace b) more ∙ text_next trace k

  pub soft_on : (trace : Bool) (n k : ℕ) → ((j : ℕ) → j < k → Soft m es b (n + j)) → text_to m es trace b (n + k) ≡ text_to m es trace b n ++ steps_text m es trace k (progress_at m es b n)
  unfolding steps_text
  soft_on trace n zero h = let none : n + 0 ≡ n = omega arith in ap (text_to m es trace b) none ∙ sym (append-nil (text_to m es trace b n))
  soft_on trace n (suc k) h =
      let p = progress_at m es b n in
      let more : n + suc k ≡ suc (n + k) = omega arith in
      let one : k + 1 ≡ suc k = omega arith in
      ap (text_to m es trace b) more
      ∙ (text_next trace (n + k)
      ∙ (ap₂ (λ x y. x ++ y) (soft_on trace n k (λ j l. h j (omega (arith, l)))) (soft_next m es b trace (n + k) (h k (omega arith)) ∙ (ap (next_text m trace) (sym (goes_at m es b k n)) ∙ sym (one_more m es b trace (goes m es k p))))
      ∙ (append_assoc (text_to m es trace b n) (steps_text m es trace k p) (steps_text m es trace 1 (goes m es k p))
      ∙ ap (λ l. text_to m es trace b n ++ l) (sym (text_add m es trace k 1 p) ∙ ap (λ i. steps_text m es trace i p) one))))
