-- The lines of a chain from its start, and those of its steps from a progress on.
use Rattle.std.proofs.Common.{◌≡◌, ℕ, zero, suc, ◌+◌, ◌==◌, Bool, true, false, List, [], ◌∷◌, ◌++◌, refl, sym, ap, ap₂, ◌∙◌, arith, append-nil, append_assoc}
use Rattle.board_outside.specs.Sink.{SinkView}
use Rattle.device_model.specs.Meanings.{Meanings}
use Rattle.hart_report.proofs.Texts.{same_text}
use Rattle.hart_board.specs.State.{State}
use Rattle.hart_board.specs.Step.{step}
use Rattle.hart_board.specs.Steps.{board_at}
use Rattle.hart_board.specs.declared.event.Event.{Event}
use Rattle.hart_report.specs.declared.stepped.Stepped.{Stepped}
use Rattle.hart_report.specs.declared.stepped.Stepped.TheVariants.{Retired, Interrupted, Raised, Halted, VectorFault}
use Rattle.chain_moves.specs.Slot.{call, back}
use Rattle.chain_moves.specs.Servicing.{Service}
use Rattle.chain_core.specs.ChainRun.{is_body, Read, read_at, read_by, read_to}
use Rattle.chain_core.specs.Progress.{goes, progress_at}
use Rattle.chain_core.specs.Text.{service_line, service_lines, call_text, service_text, next_text, steps_text, added_after, added_to, Cut}
use Rattle.chain_core.specs.Chain.{chain_end, StopsInSteps}
use Rattle.chain_moves.specs.declared.dispatcher.Dispatcher.{Dispatcher}
use Rattle.chain_core.proofs.Told.{text_add, one_text}
use Rattle.chain_core.proofs.Standing.{goes_at}

module _ (m : Meanings) (es : List Event) (trace : Bool) (b : State) where
  pub added_next : (k : ℕ) → added_after m es trace b k ≡ next_text m trace (progress_at m es b k)
  unfolding added_after next_text
  added_next k = refl

  pub from_start : (k : ℕ) → goes m es k (progress_at m es b 0) ≡ progress_at m es b k
  from_start k = goes_at m es b k 0 ∙ (let z : 0 + k ≡ k = omega arith in ap (progress_at m es b) z)

  pub added_steps : (n : ℕ) → added_to m es trace b n ≡ steps_text m es trace n (progress_at m es b 0)
  unfolding added_to steps_text
  added_steps zero = refl
  added_steps (suc n) =
      let p = progress_at m es b 0 in
      let more : n + 1 ≡ suc n = omega arith in
      ap₂ (λ x y. x ++ y) (added_steps n) (added_next n ∙ (ap (next_text m trace) (sym (from_start n)) ∙ one_text m es trace (goes m es n p)))
      ∙ (sym (text_add m es trace n 1 p) ∙ ap (λ i. steps_text m es trace i p) more)

  -- where the sink failed in what a step adds
  pub as_cut : {d : Dispatcher} {bound : ℕ} {board : State} {o v : SinkView} → (h : StopsInSteps m es d trace bound b board o v)
      → Cut m es trace (chain_end m es d bound b).steps (progress_at m es b 0) (goes m es (h.k + 1) (progress_at m es b 0)) o v
  as_cut h = record {
    k = h.k;
    early = h.early;
    made = refl;
    between = h.between;
    whole = same_text (added_steps h.k) h.whole;
    broken = same_text (added_next h.k ∙ ap (next_text m trace) (sym (from_start h.k))) h.broken;
  }

-- ---- the lines of services are those of the list

lines-append : (a : List Service) (e : Service) → service_lines (a ++ e ∷ []) ≡ service_lines a ++ service_line e.number e.level e.depth
unfolding service_lines
lines-append [] e = append-nil (service_line e.number e.level e.depth)
lines-append (x ∷ a) e = ap (λ t. service_line x.number x.level x.depth ++ t) (lines-append a e) ∙ sym (append_assoc (service_line x.number x.level x.depth) (service_lines a) (service_line e.number e.level e.depth))

call_told : (r : Read) (new : State) (at_call at_back : Bool) → service_lines r.services ++ call_text r.depth new at_call ≡ service_lines (read_at r new at_call at_back).services
call_told r new true at_back =
    let deep : r.depth + 1 ≡ suc r.depth = omega arith in
    ap (λ d. service_lines r.services ++ service_line new.csrs.exccode new.csrs.mil d) deep
    ∙ sym (lines-append r.services (record { number = new.csrs.exccode; level = new.csrs.mil; depth = suc r.depth }))
call_told r new false true = append-nil (service_lines r.services)
call_told r new false false = append-nil (service_lines r.services)

told_lines : (r : Read) (new : State) (told : Stepped) → service_lines r.services ++ service_text r.depth new told ≡ service_lines (read_by r new told).services
told_lines r new (Retired pc bits size) = call_told r new (pc == call) (pc == back)
told_lines r new (Interrupted pc id) = append-nil (service_lines r.services)
told_lines r new (Raised pc code) = append-nil (service_lines r.services)
told_lines r new (Halted code) = append-nil (service_lines r.services)
told_lines r new (VectorFault id) = append-nil (service_lines r.services)

pub added_services : (m : Meanings) (es : List Event) (b : State) (n : ℕ) → added_to m es false b n ≡ service_lines (read_to m es b n).services
unfolding added_to added_after read_to service_lines
added_services m es b zero = refl
added_services m es b (suc n) =
    let turn = step m (board_at m is_body es b n) in
    let r = read_to m es b n in
    ap (λ t. t ++ service_text r.depth turn.state turn.told) (added_services m es b n) ∙ told_lines r turn.state turn.told
