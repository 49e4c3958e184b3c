-- Steps of a chain one after another, and what they add to the text.
use Rattle.std.proofs.Common.{◌≡◌, ℕ, zero, suc, ◌+◌, ◌≤◌, Bool, true, false, List, [], ◌++◌, Option, Some, None, Result, Ok, Err, refl, sym, ap, ap₂, ◌∙◌, subst, arith, append-nil, append_assoc}
use Rattle.std.specs.Prelude.{◌==◌, not, nat_le}
use Rattle.std.proofs.lemmas.Bool.Decides.{nat_tests}
use Rattle.std.specs.Result.{IsErr, is_ok}
use Rattle.std.proofs.lemmas.Bool.{false≢true}
use Rattle.board_outside.specs.Sink.{SinkView, Writes}
use Rattle.board_outside.proofs.Writing.{then_writes, writes_nothing}
use Rattle.device_model.specs.Meanings.{Meanings}
use Rattle.hart_report.proofs.Texts.{same_text}
use Rattle.hart_report.specs.declared.stepped.Stepped.{Stepped}
use Rattle.hart_report.specs.declared.stepped.Stepped.TheVariants.{Retired, Interrupted, Raised, Halted, VectorFault}
use Rattle.hart_board.specs.State.{State}
use Rattle.hart_board.specs.Step.{Turn, step, kept_if_raised, tried}
use Rattle.hart_board.specs.Event.{EventList, with_events}
use Rattle.hart_board.specs.declared.event.Event.{Event}
use Rattle.hart_board.proofs.Still.{tried_other}
use Rattle.hart_board.proofs.Shapes.{step_has}
use Rattle.chain_core.specs.Progress.{Progress, progress_of, counted_by, gone_by, gone, goes, IsOnCourse}
use Rattle.chain_core.specs.Text.{turn_text, next_text, steps_text, Tells}
use Rattle.chain_moves.specs.Servicing.{is_foreground}
use Rattle.chain_moves.specs.Bytes.{marked, revived_at}
use Rattle.chain_moves.specs.Watched.{Watched}
use Rattle.chain_core.specs.Rounds.{raised_code, tried_steps, halted_round, round_body, round_verdict, round_due, round_unless_halted, round, steps_made, IsMade}
use Rattle.chain_moves.specs.Cost.{body_cost}
use Rattle.chain_moves.specs.Judge.{judge_turn}
use Rattle.chain_moves.specs.Ready.{verdict_by, revived_by}
use Rattle.chain_core.specs.declared.course.Course.{Course}
use Rattle.chain_core.specs.declared.round.Round.{Round}
use Rattle.chain_moves.specs.declared.turn.Turn.TheVariants.{Body}
use Rattle.chain_moves.specs.declared.verdict.Verdict.{Verdict}
use Rattle.chain_core.specs.ChainRun.{is_body}
use Rattle.chain_moves.specs.Slot.{in_slot, call, back}
use Rattle.hart_exec.specs.declared.effect.Effect.{Effect}
use Rattle.hart_exec.specs.declared.effect.Effect.TheVariants.{Go, Load, Store, System}
use Rattle.hart_board.specs.Run.{Stand}
use Rattle.chain_moves.specs.declared.dispatcher.Dispatcher.{Dispatcher}
use Rattle.hart_memory.specs.Place.{place}

module _ (m : Meanings) (es : List Event) where
  pub goes_none : (p : Progress) → goes m es 0 p ≡ p
  unfolding goes
  goes_none p = refl

  pub goes_one : (p : Progress) → goes m es 1 p ≡ gone m es p
  unfolding goes
  goes_one p = refl

  pub goes_add : (a b : ℕ) (p : Progress) → goes m es (a + b) p ≡ goes m es b (goes m es a p)
  unfolding goes
  goes_add zero b p = let e : 0 + b ≡ b = omega arith in ap (λ n. goes m es n p) e
  goes_add (suc a) b p = let e : suc a + b ≡ suc (a + b) = omega arith in ap (λ n. goes m es n p) e ∙ goes_add a b (gone m es p)

  pub text_add : (trace : Bool) (a b : ℕ) (p : Progress) → steps_text m es trace (a + b) p ≡ steps_text m es trace a p ++ steps_text m es trace b (goes m es a p)
  unfolding steps_text goes
  text_add trace zero b p = let e : 0 + b ≡ b = omega arith in ap (λ n. steps_text m es trace n p) e
  text_add trace (suc a) b p =
      let e : suc a + b ≡ suc (a + b) = omega arith in
      ap (λ n. steps_text m es trace n p) e
      ∙ (ap (λ t. next_text m trace p ++ t) (text_add trace a b (gone m es p))
      ∙ sym (append_assoc (next_text m trace p) (steps_text m es trace a (gone m es p)) (steps_text m es trace b (goes m es a (gone m es p)))))

  pub one_text : (trace : Bool) (p : Progress) → next_text m trace p ≡ steps_text m es trace 1 p
  unfolding steps_text
  one_text trace p = sym (append-nil (next_text m trace p))

  no_text : (trace : Bool) (p : Progress) → steps_text m es trace 0 p ≡ []
  unfolding steps_text
  no_text trace p = refl

  pub nothing_told : (trace : Bool) (p : Progress) (o : SinkView) → Tells m es trace 0 true p p o o
  nothing_told trace p o = (sym (goes_none p), same_text (sym (no_text trace p)) (writes_nothing o))

  -- one step, whether what it adds was written or not
  pub one_told : (trace whole : Bool) (p q : Progress) (o u : SinkView) → q ≡ gone m es p → Writes whole o u (next_text m trace p) → Tells m es trace 1 whole p q o u
  one_told trace true p q o u e w = (e ∙ sym (goes_one p), same_text (one_text trace p) w)
  one_told trace false p q o u e w = record {
    k = 0;
    early = omega arith;
    made = e ∙ sym (goes_one p);
    between = o;
    whole = same_text (sym (no_text trace p)) (writes_nothing o);
    broken = same_text (ap (next_text m trace) (sym (goes_none p))) w;
  }

  -- steps that were told, and then what became of more
  pub then_told : (trace : Bool) (a b : ℕ) (whole : Bool) (p q r : Progress) (o u v : SinkView) → Tells m es trace a true p q o u → Tells m es trace b whole q r u v → Tells m es trace (a + b) whole p r o v
  then_told trace a b true p q r o u v (e, w) (f, x) =
      (f ∙ (ap (goes m es b) e ∙ sym (goes_add a b p)), same_text (ap (λ y. steps_text m es trace a p ++ steps_text m es trace b y) e ∙ sym (text_add trace a b p)) (then_writes w x))
  then_told trace a b false p q r o u v (e, w) x =
      let sum : a + (x.k + 1) ≡ a + x.k + 1 = omega arith in
      record {
        k = a + x.k;
        early = omega (arith, x.early);
        made = x.made ∙ (ap (goes m es (x.k + 1)) e ∙ (sym (goes_add a (x.k + 1) p) ∙ ap (λ n. goes m es n p) sum));
        between = x.between;
        whole = same_text (ap (λ y. steps_text m es trace a p ++ steps_text m es trace x.k y) e ∙ sym (text_add trace a x.k p)) (then_writes w x.whole);
        broken = same_text (ap (next_text m trace) (ap (goes m es x.k) e ∙ sym (goes_add a x.k p))) x.broken;
      }

  -- a failure within fewer steps is one within more
  pub within_more : (trace : Bool) (a b : ℕ) (p q : Progress) (o u : SinkView) → a ≤ b → Tells m es trace a false p q o u → Tells m es trace b false p q o u
  within_more trace a b p q o u l x = record { k = x.k; early = omega (arith, x.early, l); made = x.made; between = x.between; whole = x.whole; broken = x.broken }

  -- an exit by `?`
  pub stopped_told : {V E : Type 0} (r : Result V E) (trace : Bool) (n : ℕ) (p q : Progress) (o u : SinkView) → IsErr r → Tells m es trace n false p q o u → Tells m es trace n (is_ok r) p q o u
  stopped_told (Ok v) trace n p q o u e x = absurd (false≢true e)
  stopped_told (Err f) trace n p q o u e x = x

  -- ---- a step that is tried
  pub gone_turn : (p : Progress) (turn : Turn) → turn ≡ step m p.board → gone_by m es p turn ≡ gone m es p
  unfolding gone
  gone_turn p turn e = ap (gone_by m es p) e

  pub next_turn : (trace : Bool) (p : Progress) (turn : Turn) → turn ≡ step m p.board → turn_text trace p.depth turn ≡ next_text m trace p
  unfolding next_text
  next_turn trace p turn e = ap (turn_text trace p.depth) e

is_none : {n : ℕ} → Some n ≡ None → ⊥
is_none e = cc

kept_told : (s : State) (turn : Turn) (told : Stepped) → turn.told ≡ told → raised_code (kept_if_raised s turn told).told ≡ None → (pc code : ℕ) → told ≡ Raised pc code → ⊥
kept_told s turn (Raised p c) e none pc code q = is_none none
kept_told s turn (Retired p bits length) e none pc code q = cc
kept_told s turn (Interrupted p id) e none pc code q = cc
kept_told s turn (Halted c) e none pc code q = cc
kept_told s turn (VectorFault id) e none pc code q = cc

pub tried_made : (m : Meanings) (s : State) → raised_code (tried m s).told ≡ None → tried m s ≡ step m s
unfolding tried
tried_made m s none = tried_other m s (kept_told s (step m s) (step m s).told refl none)

kept_state : (s : State) (turn : Turn) (told : Stepped) (code : ℕ) → turn.told ≡ told → raised_code (kept_if_raised s turn told).told ≡ Some code → (kept_if_raised s turn told).state ≡ s
kept_state s turn (Raised p c) code e some = refl
kept_state s turn (Retired p bits length) code e some = let none = ap raised_code e in absurd (is_none (sym some ∙ none))
kept_state s turn (Interrupted p id) code e some = let none = ap raised_code e in absurd (is_none (sym some ∙ none))
kept_state s turn (Halted c) code e some = let none = ap raised_code e in absurd (is_none (sym some ∙ none))
kept_state s turn (VectorFault id) code e some = let none = ap raised_code e in absurd (is_none (sym some ∙ none))

pub tried_kept : (m : Meanings) (s : State) (code : ℕ) → raised_code (tried m s).told ≡ Some code → (tried m s).state ≡ s
unfolding tried
tried_kept m s code some = kept_state s (step m s) (step m s).told code refl some

-- where it raises nothing is made, and nothing written
pub raised_told : (m : Meanings) (es : List Event) (trace : Bool) (p q : Progress) (o : SinkView) (code : ℕ) → raised_code (tried m p.board).told ≡ Some code → q ≡ record p { board = (tried m p.board).state } → Tells m es trace (tried_steps (raised_code (tried m p.board).told)) true p q o o
raised_told m es trace p q o code some e =
    let same : q ≡ p = e ∙ ap (λ (b : State). record p { board = b }) (tried_kept m p.board code some) in
    subst (λ (c : Option ℕ). Tells m es trace (tried_steps c) true p q o o) (sym some) (subst (λ (r : Progress). Tells m es trace 0 true p r o o) (sym same) (nothing_told m es trace p o))

-- and else it is a step
pub made_told : (m : Meanings) (es : List Event) (trace whole : Bool) (p q : Progress) (o u : SinkView) → raised_code (tried m p.board).told ≡ None → q ≡ gone_by m es p (tried m p.board) → Writes whole o u (turn_text trace p.depth (tried m p.board)) → Tells m es trace (tried_steps (raised_code (tried m p.board).told)) whole p q o u
made_told m es trace whole p q o u none e w =
    let same = tried_made m p.board none in
    subst (λ (c : Option ℕ). Tells m es trace (tried_steps c) whole p q o u) (sym none)
    (one_told m es trace whole p q o u (e ∙ gone_turn m es p (tried m p.board) same) (same_text (next_turn m es trace p (tried m p.board) same) w))

-- a board that is tried has its shape still
shape_by : (m : Meanings) (s : State) (o : Option ℕ) → raised_code (tried m s).told ≡ o → (tried m s).state.outside.clic.shape ≡ s.outside.clic.shape
shape_by m s None e = ap (λ (t : Turn). t.state.outside.clic.shape) (tried_made m s e) ∙ step_has m s
shape_by m s (Some code) e = ap (λ (t : State). t.outside.clic.shape) (tried_kept m s code e)

tried_has : (m : Meanings) (s : State) → (tried m s).state.outside.clic.shape ≡ s.outside.clic.shape
tried_has m s = shape_by m s (raised_code (tried m s).told) refl

-- so that it is on its course
pub tried_course : (m : Meanings) (events : EventList) (s : State) (c : Course) (turn : Turn) → turn ≡ tried m s → IsOnCourse m events s c → IsOnCourse m events turn.state c
tried_course m events s c turn e on = record {
  shape = on.shape ∙ sym (ap (λ (t : Turn). t.state.outside.clic.shape) e ∙ tried_has m s);
  ahead = on.ahead;
  passed = on.passed;
}

-- ---- events change nothing of the hart
pub record SameHart (s t : State) : Type 0 where
  pub csrs : t.csrs ≡ s.csrs
  pub pc : t.pc ≡ s.pc
  pub registers : t.registers ≡ s.registers

pub events_hart : (m : Meanings) (count : ℕ) (es : List Event) (s : State) → SameHart s (with_events m count es s)
unfolding with_events
events_hart m count es s = record { csrs = refl; pc = refl; registers = refl }

-- ---- rounds
-- no byte is revived by a store of none
pub nothing_revived : (w : Watched) → record w { dead = revived_at (place 0 0) 0 w.dead } ≡ w
unfolding marked place
nothing_revived w = refl

halted_none : (left : ℕ) (foreground : Bool) → steps_made left (halted_round foreground) ≡ 0
halted_none left true = refl
halted_none left false = refl

-- a round makes no step where the board has halted
pub halted_made : {E : Type 0} (m : Meanings) (es : List Event) (trace : Bool) (d : Dispatcher) (left : ℕ) (p : Progress) (w : Watched) (o : SinkView) (code : ℕ) (told : Round) → m.halted p.board.outside.device ≡ Some code → told ≡ halted_round (is_foreground w.live) → IsMade {E = E} m es trace left (round m es d left p w) (Ok told) p p w o o
unfolding round
halted_made m es trace d left p w o code told e here =
    let none : steps_made left (round_unless_halted m es d left p w (m.halted p.board.outside.device)).told ≡ 0 =
    ap (λ c. steps_made left (round_unless_halted m es d left p w c).told) e ∙ halted_none left (is_foreground w.live) in
    record {
      round = ap (λ (t : Round). record { told = t; progress = p; watch = w }) here ∙ sym (ap (round_unless_halted m es d left p w) e);
      tells = subst (λ n. Tells m es trace n true p p o o) (sym none) (nothing_told m es trace p o);
    }

-- ---- bodies
outside_call : (pc : ℕ) → not (in_slot pc) ≡ true → ((pc == call) ≡ false) × ((pc == back) ≡ false)
outside_call pc h = grind (arith, nat_tests)

-- a body is neither a call nor a return
pub body_counted : (p : Progress) (at : Stand) (told : Stepped) → is_body told ≡ true → counted_by p at told ≡ record { board = at.board; bodies = at.count; depth = p.depth; services = p.services }
body_counted p at (Retired pc bits length) h = let out = outside_call pc h in rw (out.0, out.1) refl
body_counted p at (Interrupted pc id) h = absurd (false≢true h)
body_counted p at (Raised pc code) h = absurd (false≢true h)
body_counted p at (Halted code) h = absurd (false≢true h)
body_counted p at (VectorFault id) h = absurd (false≢true h)

pub body_settled : (p : Progress) (at : Stand) (told : Stepped) (board : State) (c : Course) → is_body told ≡ true → record { count = c.bodies; board = board } ≡ at → c.depth ≡ p.depth → c.services ≡ p.services → progress_of board c ≡ counted_by p at told
body_settled p at told board c h e d s =
    ap (λ (t : Stand). record { board = t.board; bodies = t.count; depth = c.depth; services = c.services }) e
    ∙ ap₂ (λ k n. record { board = at.board; bodies = at.count; depth = k; services = n }) d s
    ∙ sym (body_counted p at told h)

-- the round of a body, by what it asks for
pub body_rounded : (m : Meanings) (es : List Event) (left : ℕ) (p : Progress) (w : Watched) (effect : Effect) (v : Verdict) → verdict_by effect ≡ v → round_body m es left p w (nat_le body_cost left) (revived_by w effect) ≡ round_verdict m es left p w v
body_rounded m es left p w (Go rd value target) v e = ap (round_verdict m es left p w) e
body_rounded m es left p w (Load rd at width signed) v e = ap (round_verdict m es left p w) e
body_rounded m es left p w (Store at width value) v e = ap (round_verdict m es left p w) e
body_rounded m es left p w System v e = ap (round_verdict m es left p w) e

-- the round of a board that hasn't halted, where a body is due
pub body_runs : (m : Meanings) (es : List Event) (d : Dispatcher) (left : ℕ) (p : Progress) (w : Watched) (v : Verdict) → m.halted p.board.outside.device ≡ None → judge_turn d p.board w ≡ Body v → round_verdict m es left p w v ≡ round m es d left p w
unfolding round
body_runs m es d left p w v e h = sym (ap (round_unless_halted m es d left p w) e ∙ ap (round_due m es left p w) h)
