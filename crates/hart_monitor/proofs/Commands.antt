-- A script command by command.
use Rattle.std.proofs.Common.{◌≡◌, ℕ, ◌+◌, ◌<◌, List, [], ◌∷◌, ◌++◌, length, take, drop, take-append-drop, get_or, slice_get, Some, Ok, Err, true, false, refl, sym, subst, ap, ◌∙◌, append_assoc, append-nil}
use Rattle.std.proofs.lemmas.List.{take_more, drop_more, take_at}
use Rattle.std.proofs.lemmas.Option.{get_or_from_slice_get, slice_get_within}
use Rattle.board_outside.specs.Sink.{SinkView, Writes}
use Rattle.board_outside.proofs.Writing.{then_writes, stops_writing, writes_nothing}
use Rattle.device_model.specs.Meanings.{Meanings}
use Rattle.hart_board.specs.State.{State, with_kept}
use Rattle.hart_board.specs.Step.{step}
use Rattle.hart_board.specs.Run.{every_step}
use Rattle.hart_report.specs.Trace.{trace_text}
use Rattle.hart_report.proofs.Texts.{same_text}
use Rattle.hart_board.proofs.Traced.{stops_in_text}
use Rattle.hart_monitor.specs.Session.{Session, Outcome, IsPlain, opened, outcome, outcome_of, after, steps_run}
use Rattle.hart_monitor.specs.Faults.{BreaksOff, Obeys, StopsAt, WritesFront}
use Rattle.hart_monitor.specs.declared.command.Command.{Command}
use Rattle.hart_monitor.specs.declared.command.Command.TheVariants.{Step, Run, Break, Regs, Csr, Mem, Clic, Line, Back}
use Rattle.hart_monitor.specs.declared.monitor_fault.MonitorFault.{MonitorFault}
use Rattle.hart_monitor.specs.declared.monitor_fault.MonitorFault.TheVariants.{SinkFailed, Memory}
use Rattle.hart_monitor.proofs.Plain.{outcome_plain}

-- ---- the commands up to a place

here_is : (cs : List Command) (i : ℕ) (c : Command) → slice_get cs i ≡ Some c → (i < length cs) × (get_or cs i c ≡ c)
here_is cs i c e = (slice_get_within cs i c e, get_or_from_slice_get cs i c c e)

one_more : (cs : List Command) (i : ℕ) (c : Command) → slice_get cs i ≡ Some c → take (i + 1) cs ≡ take i cs ++ c ∷ []
one_more cs i c e = let h = here_is cs i c e in take_more cs i c h.0 ∙ ap (λ x. take i cs ++ x ∷ []) h.1

parted : (cs : List Command) (i : ℕ) (c : Command) → slice_get cs i ≡ Some c → cs ≡ take i cs ++ c ∷ drop (i + 1) cs
parted cs i c e = let h = here_is cs i c e in sym (take-append-drop i cs) ∙ ap (λ l. take i cs ++ l) (drop_more cs i c h.0 ∙ ap (λ x. x ∷ drop (i + 1) cs) h.1)

module _ (m : Meanings) where
  -- commands, and then more of them
  outcome_joined : (a b : List Command) (s : Session) → outcome_of m (a ++ b) s ≡ after (outcome_of m a s).text (outcome_of m b (outcome_of m a s).session)
  unfolding outcome_of
  outcome_joined [] b s = refl
  outcome_joined (c ∷ cs) b s =
      let first = (outcome m c s).text in
      let next = (outcome m c s).session in
      ap (after first) (outcome_joined cs b next)
      ∙ ap (λ t. record { text = t; session = (outcome_of m b (outcome_of m cs next).session).session }) (sym (append_assoc first (outcome_of m cs next).text (outcome_of m b (outcome_of m cs next).session).text))

  outcome_one : (c : Command) (s : Session) → outcome_of m (c ∷ []) s ≡ outcome m c s
  unfolding outcome_of
  outcome_one c s = ap (λ t. record { text = t; session = (outcome m c s).session }) (append-nil (outcome m c s).text)

  -- one command more
  outcome_next : (cs : List Command) (i : ℕ) (c : Command) (s : Session) → slice_get cs i ≡ Some c
      → outcome_of m (take (i + 1) cs) s ≡ after (outcome_of m (take i cs) s).text (outcome m c (outcome_of m (take i cs) s).session)
  outcome_next cs i c s e =
      ap (λ l. outcome_of m l s) (one_more cs i c e)
      ∙ outcome_joined (take i cs) (c ∷ []) s
      ∙ ap (after (outcome_of m (take i cs) s).text) (outcome_one c (outcome_of m (take i cs) s).session)

  -- the text of a script begins with that of its first commands and of the next one
  text_parted : (cs : List Command) (i : ℕ) (c : Command) (s : Session) → slice_get cs i ≡ Some c → (rest : List ℕ)
      × ((outcome_of m (take i cs) s).text ++ ((outcome m c (outcome_of m (take i cs) s).session).text ++ rest) ≡ (outcome_of m cs s).text)
  unfolding outcome_of
  text_parted cs i c s e =
      let before = outcome_of m (take i cs) s in
      let later = outcome_of m (drop (i + 1) cs) (outcome m c before.session).session in
      (later.text, sym (ap (λ l. (outcome_of m l s).text) (parted cs i c e) ∙ ap (λ (o : Outcome). o.text) (outcome_joined (take i cs) (c ∷ drop (i + 1) cs) s)))

  -- where a script stands after i of its commands
  pub record StandsAfter (cs : List Command) (start : State) (i : ℕ) (now : Session) (before here : SinkView) : Type 0 where
    pub session : now ≡ (outcome_of m (take i cs) (opened start)).session
    pub written : Writes true before here (outcome_of m (take i cs) (opened start)).text
    pub plain : IsPlain now.board

  pub stands_first : (cs : List Command) (start : State) (breaks : List ℕ) (here : SinkView) → breaks ≡ [] → IsPlain start → StandsAfter cs start 0 (record { board = start; breaks = breaks }) here here
  unfolding outcome_of
  stands_first cs start breaks here none h = record { session = ap (λ b. record { board = start; breaks = b }) none; written = writes_nothing here; plain = h }

  module _ (leaves : (s : State) → (step m s).state.kept ≡ s.kept) where
    pub stands_next : (cs : List Command) (start : State) (i : ℕ) (c : Command) (now next : Session) (before here then : SinkView) (u : Unit {0}) → slice_get cs i ≡ Some c
        → StandsAfter cs start i now before here → Obeys m c now (Ok u) next here then → StandsAfter cs start (i + 1) next before then
    stands_next cs start i c now next before here then u e h o =
        let all = outcome_next cs i c (opened start) e in
        record {
          session = o.0 ∙ ap (λ s. (outcome m c s).session) h.session ∙ ap (λ (x : Outcome). x.session) (sym all);
          written = same_text (ap (λ s. (outcome_of m (take i cs) (opened start)).text ++ (outcome m c s).text) h.session ∙ ap (λ (x : Outcome). x.text) (sym all)) (then_writes h.written o.1);
          plain = subst (λ (s : Session). IsPlain s.board) (sym o.0) (outcome_plain m leaves c now h.plain);
        }

  pub stops_here : (cs : List Command) (start : State) (i : ℕ) (c : Command) (fault : MonitorFault) (now next : Session) (before here then : SinkView) → slice_get cs i ≡ Some c
      → StandsAfter cs start i now before here → Obeys m c now (Err fault) next here then → StopsAt m cs start fault next.board before then
  stops_here cs start i c fault now next before here then e h o = record {
    done = take i cs;
    command = c;
    later = drop (i + 1) cs;
    script = parted cs i c e;
    between = here;
    written = h.written;
    after = next;
    board = refl;
    stopped = subst (λ s. Obeys m c s (Err fault) next here then) h.session o;
  }

  -- a command that broke off wrote a front of its text
  broken_text : (c : Command) (s new : Session) (here then : SinkView) → BreaksOff m c s new here then → Writes false here then (outcome m c s).text
  broken_text (Step n) s new here then b = same_text (append-nil (trace_text true (steps_run m n s.board).steps)) (stops_in_text m every_step [] (with_kept s.board) (steps_run m n s.board).steps new.board here then true [] refl b.1)
  broken_text (Run n) s new here then b = b.1
  broken_text (Break at) s new here then b = b.1
  broken_text Regs s new here then b = b.1
  broken_text Csr s new here then b = b.1
  broken_text (Mem at count) s new here then b = b.1
  broken_text (Clic input) s new here then b = b.1
  broken_text (Line input high) s new here then b = b.1
  broken_text Back s new here then b = b.1

  -- and the script a front of its own
  front_written : (cs : List Command) (start : State) (i : ℕ) (c : Command) (now next : Session) (before here then : SinkView) → slice_get cs i ≡ Some c
      → StandsAfter cs start i now before here → Obeys m c now (Err SinkFailed) next here then → Writes false before then (outcome_of m cs (opened start)).text
  front_written cs start i c now next before here then e h o =
      let text = text_parted cs i c (opened start) e in
      let broken = broken_text c (outcome_of m (take i cs) (opened start)).session next here then (subst (λ s. BreaksOff m c s next here then) h.session o) in
      same_text text.1 (then_writes h.written (stops_writing text.0 broken))

  -- where memory was wanting, the texts of the commands before were written, and nothing of this one
  part_written : (cs : List Command) (start : State) (i : ℕ) (c : Command) (now next : Session) (before here then : SinkView) → slice_get cs i ≡ Some c
      → StandsAfter cs start i now before here → Obeys m c now (Err Memory) next here then → (n : ℕ) × Writes true before then (take n (outcome_of m cs (opened start)).text)
  part_written cs start i c now next before here then e h o =
      let done = (outcome_of m (take i cs) (opened start)).text in
      let text = text_parted cs i c (opened start) e in
      let front : done ≡ take (length done) (outcome_of m cs (opened start)).text = sym (ap (take (length done)) (sym text.1) ∙ take_at done _ (length done) refl) in
      (length done, same_text front (subst (λ v. Writes true before v done) (sym o.2) h.written))

  pub front_at : (cs : List Command) (start : State) (i : ℕ) (c : Command) (fault : MonitorFault) (now next : Session) (before here then : SinkView) → slice_get cs i ≡ Some c
      → StandsAfter cs start i now before here → Obeys m c now (Err fault) next here then → WritesFront fault before then (outcome_of m cs (opened start)).text
  front_at cs start i c SinkFailed now next before here then e h o = front_written cs start i c now next before here then e h o
  front_at cs start i c Memory now next before here then e h o = part_written cs start i c now next before here then e h o
