-- What is kept of a board is no part of what a chain does: a step, and the text of a chain, are the same whatever is kept.
use Rattle.std.proofs.Common.{◌≡◌, ℕ, zero, suc, ◌+◌, ◌%◌, ◌==◌, Bool, true, false, List, [], ◌∷◌, ◌++◌, length, Option, Some, None, Result, Ok, Err, refl, sym, ap, ap₂, ◌∙◌}
use Rattle.hart_words.specs.TwosComplement.{word}
use Rattle.device_model.specs.Meanings.{Meanings}
use Rattle.rv_encoding.specs.declared.instruction.Ins.{Ins}
use Rattle.rvc_encoding.specs.Decoding.{decoded}
use Rattle.rvc_encoding.specs.declared.encoding.Encoding.{Encoding}
use Rattle.hart_exec.specs.Effect.{effect}
use Rattle.hart_exec.specs.declared.effect.Effect.{Effect}
use Rattle.hart_exec.specs.declared.effect.Effect.TheVariants.{Go, Load, Store, System}
use Rattle.hart_memory.specs.Fetch.{fetched}
use Rattle.hart_memory.specs.Place.{place}
use Rattle.hart_memory.specs.declared.fetched.Fetched.{Fetched}
use Rattle.hart_memory.specs.declared.fetched.Fetched.TheVariants.{Bits, Missing}
use Rattle.hart_memory.specs.declared.place.Place.{Place}
use Rattle.hart_memory.specs.declared.place.Place.TheVariants.{InRom, InRam, Elsewhere}
use Rattle.clic_select.specs.Top.{top}
use Rattle.clic_select.specs.declared.choice.Choice.{Choice}
use Rattle.clic_trap.specs.Due.{due}
use Rattle.clic_trap.specs.Entry.{Entry, entered}
use Rattle.clic_trap.specs.declared.entered.Entered.{Entered}
use Rattle.clic_trap.specs.declared.entered.Entered.TheVariants.{At, VectorFault as NoVector}
use Rattle.clic_trap.specs.Outcome.{SystemOutcome}
use Rattle.clic_trap.specs.System.{system}
use Rattle.clic_trap.specs.declared.system_end.SystemEnd.{SystemEnd}
use Rattle.clic_trap.specs.declared.system_end.SystemEnd.TheVariants.{Next, Jump, Raise}
use Rattle.hart_report.specs.declared.stepped.Stepped.{Stepped}
use Rattle.hart_report.specs.declared.stepped.Stepped.TheVariants.{Retired, Interrupted, Raised, Halted, VectorFault}
use Rattle.hart_report.specs.Trace.{step_text}
use Rattle.hart_board.specs.State.{Outside, Moment, State}
use Rattle.hart_board.specs.Region.{region}
use Rattle.hart_board.specs.Outside.{loaded_in, stored_in}
use Rattle.hart_board.specs.Access.{load_answer, load_at, load, store_answer, store_at, store}
use Rattle.hart_board.specs.Attempt.{after_load, after_store, after_system, after_system_outcome, performed_by, performed, with_encoding, attempted, attempt_of, attempt}
use Rattle.hart_board.specs.Step.{Turn, step, turn_or_halted, turn_by, settled, entered_at, interrupted}
use Rattle.hart_board.specs.Event.{with_events}
use Rattle.hart_board.specs.Run.{Stand, standing, after_step}
use Rattle.hart_board.specs.Steps.{stands_at, board_at}
use Rattle.hart_board.specs.declared.trap.Trap.{Trap}
use Rattle.hart_board.specs.declared.event.Event.{Event}
use Rattle.chain_moves.specs.Slot.{call, back}
use Rattle.chain_moves.specs.Start.{begun}
use Rattle.chain_moves.specs.Servicing.{Servicing}
use Rattle.chain_moves.specs.Run.{run_to}
use Rattle.chain_moves.specs.Moves.{servicing_machine}
use Rattle.chain_moves.specs.declared.dispatcher.Dispatcher.{Dispatcher}
use Rattle.chain_core.specs.ChainRun.{is_body, Read, read_at, read_by, read_to}
use Rattle.chain_core.specs.Progress.{Progress, counted, counted_by, gone_by, gone, progress_at}
use Rattle.hart_report.specs.Ends.{steps_line}
use Rattle.chain_core.specs.Text.{call_text, service_text, turn_text, next_text, steps_text, added_to, end_line, board_part, done_part, report}
use Rattle.chain_core.specs.declared.ended.Ended.{Ended}
use Rattle.chain_core.specs.End.{end_at}
use Rattle.chain_core.specs.Chain.{chain_end, chain_text, dead_in, dead_at, steps_part, report_part}
use Rattle.chain_core.specs.declared.chain_end.ChainEnd.{ChainEnd}
use Rattle.chain_core.specs.declared.chain_end.ChainEnd.TheVariants.{Done, BudgetSpent, SinkFailed, Broken}
use Rattle.chain_direct.specs.Directed.{beside_none}
use Rattle.chain_direct.specs.DirectMoves.{direct_machine}
use Rattle.chain_direct.specs.DirectRun.{is_vectored, called, entered_directly, begins_by, begins, begins_after}
use Rattle.chain_direct.specs.DirectText.{listed_lines, text_after, text_to, direct_end, direct_run, dead_in_run, direct_report, direct_text}
use Rattle.chain_core.proofs.Added.{added_steps}

module _ (m : Meanings) (k : List Moment) where
  -- the same state, of which these are kept
  abbrev pub keeping : State → State
  keeping s = record s { kept = k }

  -- ---- a step

  abbrev done_keeping : Result State Trap → Result State Trap
  done_keeping (Ok s) = Ok (keeping s)
  done_keeping (Err trap) = Err trap

  abbrev made_keeping : Result (Encoding × State) Trap → Result (Encoding × State) Trap
  made_keeping (Ok made) = Ok (made.0, keeping made.1)
  made_keeping (Err trap) = Err trap

  abbrev found_keeping : Result (ℕ × State) ℕ → Result (ℕ × State) ℕ
  found_keeping (Ok found) = Ok (found.0, keeping found.1)
  found_keeping (Err code) = Err code

  abbrev stored_keeping : Result State ℕ → Result State ℕ
  stored_keeping (Ok s) = Ok (keeping s)
  stored_keeping (Err code) = Err code

  abbrev turn_keeping : Turn → Turn
  turn_keeping t = record { told = t.told; state = keeping t.state }

  load_outside : (s : State) (found : Option (ℕ × Outside)) → load_answer (keeping s) found ≡ found_keeping (load_answer s found)
  load_outside s (Some found) = refl
  load_outside s None = refl

  loads : (s : State) (at width : ℕ) (aligned : Bool) (p : Place) → load_at m (keeping s) at width aligned p ≡ found_keeping (load_at m s at width aligned p)
  loads s at width false p = refl
  loads s at width true (InRom i) = refl
  loads s at width true (InRam i) = refl
  loads s at width true Elsewhere = load_outside s (loaded_in m s.outside width (region at))

  load_same : (s : State) (at width : ℕ) → load m (keeping s) at width ≡ found_keeping (load m s at width)
  unfolding load
  load_same s at width = loads s at width (at % width == 0) (place at width)

  store_outside : (s : State) (found : Option Outside) → store_answer (keeping s) found ≡ stored_keeping (store_answer s found)
  store_outside s (Some outside) = refl
  store_outside s None = refl

  stores : (s : State) (at width value : ℕ) (aligned : Bool) (p : Place) → store_at m (keeping s) at width value aligned p ≡ stored_keeping (store_at m s at width value aligned p)
  stores s at width value false p = refl
  stores s at width value true (InRom i) = refl
  stores s at width value true (InRam i) = refl
  stores s at width value true Elsewhere = store_outside s (stored_in m s.outside width value (region at))

  store_same : (s : State) (at width value : ℕ) → store m (keeping s) at width value ≡ stored_keeping (store m s at width value)
  unfolding store
  store_same s at width value = stores s at width value (at % width == 0) (place at width)

  load_done : (rd at width : ℕ) (signed : Bool) (next : ℕ) (r : Result (ℕ × State) ℕ) → after_load rd at width signed next (found_keeping r) ≡ done_keeping (after_load rd at width signed next r)
  load_done rd at width signed next (Ok found) = refl
  load_done rd at width signed next (Err code) = refl

  store_done : (at next : ℕ) (r : Result State ℕ) → after_store at next (stored_keeping r) ≡ done_keeping (after_store at next r)
  store_done at next (Ok s) = refl
  store_done at next (Err code) = refl

  system_done : (s : State) (bits next : ℕ) (end : SystemEnd) (made : SystemOutcome) → after_system (keeping s) bits next end made ≡ done_keeping (after_system s bits next end made)
  system_done s bits next Next made = refl
  system_done s bits next (Jump target) made = refl
  system_done s bits next (Raise code) made = refl

  by_effect : (s : State) (ins : Ins) (bits next : ℕ) (e : Effect) → performed_by m (keeping s) ins bits next e ≡ done_keeping (performed_by m s ins bits next e)
  by_effect s ins bits next (Go rd value target) = refl
  by_effect s ins bits next (Load rd at width signed) = ap (after_load rd at width signed next) (load_same s at width) ∙ load_done rd at width signed next (load m s at width)
  by_effect s ins bits next (Store at width value) = ap (after_store at next) (store_same s at width value) ∙ store_done at next (store m s at width value)
  by_effect s ins bits next System = system_done s bits next (system ins s.registers s.csrs s.outside.clic).answer (system ins s.registers s.csrs s.outside.clic)

  performed_same : (s : State) (ins : Ins) (bits length : ℕ) → performed m (keeping s) ins bits length ≡ done_keeping (performed m s ins bits length)
  unfolding performed
  performed_same s ins bits length = by_effect s ins bits (word (s.pc + length)) (effect ins length s.registers s.pc)

  encoded : (e : Encoding) (r : Result State Trap) → with_encoding e (done_keeping r) ≡ made_keeping (with_encoding e r)
  encoded e (Ok new) = refl
  encoded e (Err trap) = refl

  attempted_same : (s : State) (bits length : ℕ) (ins : Option Ins) → attempted m (keeping s) bits length ins ≡ made_keeping (attempted m s bits length ins)
  attempted_same s bits length None = refl
  attempted_same s bits length (Some ins) =
      ap (with_encoding (record { bits = bits; length = length })) (performed_same s ins bits length) ∙ encoded (record { bits = bits; length = length }) (performed m s ins bits length)

  attempt_by : (s : State) (f : Fetched) → attempt_of m (keeping s) f ≡ made_keeping (attempt_of m s f)
  attempt_by s (Missing at) = refl
  attempt_by s (Bits bits length) = attempted_same s bits length (decoded bits length)

  attempt_same : (s : State) → attempt m (keeping s) ≡ made_keeping (attempt m s)
  unfolding attempt
  attempt_same s = attempt_by s (fetched s.memory s.pc)

  settled_same : (s : State) (made : Result (Encoding × State) Trap) → settled (keeping s) (made_keeping made) ≡ turn_keeping (settled s made)
  settled_same s (Ok made) = refl
  settled_same s (Err trap) = refl

  instruction : (s : State) → settled (keeping s) (attempt m (keeping s)) ≡ turn_keeping (settled s (attempt m s))
  instruction s = ap (settled (keeping s)) (attempt_same s) ∙ settled_same s (attempt m s)

  entry : (s : State) (id : ℕ) (e : Entry) (answer : Entered) → entered_at (keeping s) id e answer ≡ turn_keeping (entered_at s id e answer)
  entry s id e (At target) = refl
  entry s id e (NoVector input) = refl

  by_due : (s : State) (choice : Option Choice) (is_due : Bool) → turn_by m (keeping s) choice is_due ≡ turn_keeping (turn_by m s choice is_due)
  by_due s (Some choice) true = let e = entered s.csrs s.outside.clic s.memory choice s.pc in entry s choice.id e e.answer
  by_due s None true = instruction s
  by_due s (Some choice) false = instruction s
  by_due s None false = instruction s

  by_halt : (s : State) (halted : Option ℕ) → turn_or_halted m (keeping s) halted ≡ turn_keeping (turn_or_halted m s halted)
  by_halt s (Some code) = refl
  by_halt s None = by_due s (top s.outside.clic) (due s.csrs (top s.outside.clic))

  pub step_same : (s : State) → step m (keeping s) ≡ turn_keeping (step m s)
  unfolding step
  step_same s = by_halt s (m.halted s.outside.device)

  -- ---- a run

  abbrev stand_keeping : Stand → Stand
  stand_keeping at = record { count = at.count; board = keeping at.board }

  events_same : (es : List Event) (count : ℕ) (s : State) → with_events m count es (keeping s) ≡ keeping (with_events m count es s)
  unfolding with_events
  events_same es count s = refl

  standing_same : (es : List Event) (count : ℕ) (s : State) (rises : Bool) → standing m es count (keeping s) rises ≡ stand_keeping (standing m es count s rises)
  standing_same es count s true = ap (λ (b : State). record { count = count + 1; board = b }) (events_same es (count + 1) s)
  standing_same es count s false = refl

  module _ (es : List Event) (b : State) where
    stands_same : (n : ℕ) → stands_at m is_body es (keeping b) n ≡ stand_keeping (stands_at m is_body es b n)
    unfolding stands_at
    stands_same zero = ap (λ (s : State). record { count = 0; board = s }) (events_same es 0 b)
    stands_same (suc n) =
        let at = stands_at m is_body es b n in
        ap (λ (q : Stand). after_step m is_body es q.count (step m q.board)) (stands_same n)
        ∙ ap (after_step m is_body es at.count) (step_same at.board)
        ∙ standing_same es at.count (step m at.board).state (is_body (step m at.board).told)

    board_same : (n : ℕ) → board_at m is_body es (keeping b) n ≡ keeping (board_at m is_body es b n)
    board_same n = ap (λ (q : Stand). q.board) (stands_same n)

    turn_same : (n : ℕ) → step m (board_at m is_body es (keeping b) n) ≡ turn_keeping (step m (board_at m is_body es b n))
    turn_same n = ap (step m) (board_same n) ∙ step_same (board_at m is_body es b n)

    reading_same : (r : Read) (new : State) (told : Stepped) → read_by r (keeping new) told ≡ read_by r new told
    reading_same r new (Retired pc bits length) = by_call (pc == call) (pc == back)
      where
        by_call : (at_call at_back : Bool) → read_at r (keeping new) at_call at_back ≡ read_at r new at_call at_back
        by_call true at_back = refl
        by_call false true = refl
        by_call false false = refl
    reading_same r new (Interrupted pc id) = refl
    reading_same r new (Raised pc code) = refl
    reading_same r new (Halted code) = refl
    reading_same r new (VectorFault id) = refl

    read_same : (n : ℕ) → read_to m es (keeping b) n ≡ read_to m es b n
    unfolding read_to
    read_same zero = refl
    read_same (suc n) =
        let turn = step m (board_at m is_body es b n) in
        ap₂ (λ (r : Read) (t : Turn). read_by r t.state t.told) (read_same n) (turn_same n) ∙ reading_same (read_to m es b n) turn.state turn.told

  -- ---- what steps add

  abbrev progress_keeping : Progress → Progress
  progress_keeping p = record { board = keeping p.board; bodies = p.bodies; depth = p.depth; services = p.services }

  module _ (es : List Event) where
    counted_same : (p : Progress) (at : Stand) (told : Stepped) → counted_by (progress_keeping p) (stand_keeping at) told ≡ progress_keeping (counted_by p at told)
    counted_same p at (Retired pc bits length) = by_call (pc == call) (pc == back)
      where
        by_call : (at_call at_back : Bool) → counted (progress_keeping p) (stand_keeping at) at_call at_back ≡ progress_keeping (counted p at at_call at_back)
        by_call true at_back = refl
        by_call false true = refl
        by_call false false = refl
    counted_same p at (Interrupted pc id) = refl
    counted_same p at (Raised pc code) = refl
    counted_same p at (Halted code) = refl
    counted_same p at (VectorFault id) = refl

    gone_same : (p : Progress) → gone m es (progress_keeping p) ≡ progress_keeping (gone m es p)
    unfolding gone
    gone_same p =
        let turn = step m p.board in
        ap (λ (t : Turn). gone_by m es (progress_keeping p) t) (step_same p.board)
        ∙ ap (λ (q : Stand). counted_by (progress_keeping p) q turn.told) (standing_same es p.bodies turn.state (is_body turn.told))
        ∙ counted_same p (after_step m is_body es p.bodies turn) turn.told

    service_same : (depth : ℕ) (new : State) (told : Stepped) → service_text depth (keeping new) told ≡ service_text depth new told
    service_same depth new (Retired pc bits length) = by_call (pc == call)
      where
        by_call : (at_call : Bool) → call_text depth (keeping new) at_call ≡ call_text depth new at_call
        by_call true = refl
        by_call false = refl
    service_same depth new (Interrupted pc id) = refl
    service_same depth new (Raised pc code) = refl
    service_same depth new (Halted code) = refl
    service_same depth new (VectorFault id) = refl

    next_same : (trace : Bool) (p : Progress) → next_text m trace (progress_keeping p) ≡ next_text m trace p
    unfolding next_text
    next_same trace p =
        let turn = step m p.board in
        ap (turn_text trace p.depth) (step_same p.board) ∙ ap (λ l. step_text trace turn.told ++ l) (service_same p.depth turn.state turn.told)

    steps_same : (trace : Bool) (n : ℕ) (p : Progress) → steps_text m es trace n (progress_keeping p) ≡ steps_text m es trace n p
    unfolding steps_text
    steps_same trace zero p = refl
    steps_same trace (suc n) p =
        ap₂ (λ x y. x ++ y) (next_same trace p) (ap (steps_text m es trace n) (gone_same p) ∙ steps_same trace n (gone m es p))

  -- ---- the report

  done_same : (dead : List Bool) (s : State) (end : ChainEnd) → done_part m dead (keeping s) end ≡ done_part m dead s end
  unfolding board_part
  done_same dead s (Done steps bodies services) = refl
  done_same dead s BudgetSpent = refl
  done_same dead s (Broken kind bodies) = refl
  done_same dead s SinkFailed = refl

  report_same : (dead : List Bool) (s : State) (end : ChainEnd) (steps : ℕ) → report m dead (keeping s) end steps ≡ report m dead s end steps
  unfolding report
  report_same dead s end steps = ap (λ l. end_line end (m.halted s.outside.device) ++ steps_line steps ++ l) (done_same dead s end)

  -- ---- a chain, from the board with its events and from the machine

  module _ (es : List Event) (d : Dispatcher) (trace : Bool) (bound : ℕ) (b : State) where
    begun_same : begun m es (keeping b) ≡ begun m es b
    unfolding begun with_events
    begun_same = refl

    progress_same : progress_at m es (keeping b) 0 ≡ progress_keeping (progress_at m es b 0)
    progress_same = ap₂ (λ (q : Stand) (r : Read). record { board = q.board; bodies = q.count; depth = r.depth; services = length r.services }) (stands_same es b 0) (read_same es b 0)

    pub end_same : chain_end m es d bound (keeping b) ≡ chain_end m es d bound b
    end_same = ap (end_at (servicing_machine m es) d bound) begun_same

    part_same : steps_part m es d trace bound (keeping b) ≡ steps_part m es d trace bound b
    part_same =
        let n = (chain_end m es d bound b).steps in
        ap (λ (e : Ended). added_to m es trace (keeping b) e.steps) end_same
        ∙ (added_steps m es trace (keeping b) n
        ∙ (ap (steps_text m es trace n) progress_same
        ∙ (steps_same es trace n (progress_at m es b 0) ∙ sym (added_steps m es trace b n))))

    told_same : report_part m es d bound (keeping b) ≡ report_part m es d bound b
    told_same =
        let e = chain_end m es d bound b in
        ap (λ (s : Servicing). report m (dead_in (run_to (servicing_machine m es) s (suc bound))) (board_at m is_body es (keeping b) (end_at (servicing_machine m es) d bound s).steps) (end_at (servicing_machine m es) d bound s).end (end_at (servicing_machine m es) d bound s).steps) begun_same
        ∙ ap (λ (s : State). report m (dead_at m es bound b) s e.end e.steps) (board_same es b e.steps)
        ∙ report_same (dead_at m es bound b) (board_at m is_body es b e.steps) e.end e.steps

    pub chain_same : chain_text m es d trace bound (keeping b) ≡ chain_text m es d trace bound b
    chain_same = ap₂ (λ x y. x ++ y) part_same told_same

    -- ---- with direct services

    begins_same : (depth : ℕ) (old new : State) (told : Stepped) → begins_by depth (keeping old) (keeping new) told ≡ begins_by depth old new told
    begins_same depth old new (Retired pc bits length) = by_call (pc == call)
      where
        by_call : (at_call : Bool) → called depth (keeping new) at_call ≡ called depth new at_call
        by_call true = refl
        by_call false = refl
    begins_same depth old new (Interrupted pc id) = by_kind (is_vectored (top old.outside.clic))
      where
        by_kind : (hard : Bool) → entered_directly depth (keeping new) id hard ≡ entered_directly depth new id hard
        by_kind true = refl
        by_kind false = refl
    begins_same depth old new (Raised pc code) = refl
    begins_same depth old new (Halted code) = refl
    begins_same depth old new (VectorFault id) = refl

    after_same : (n : ℕ) → begins_after m es (keeping b) n ≡ begins_after m es b n
    unfolding begins_after
    after_same n =
        let at = board_at m is_body es b n in
        let turn = step m at in
        ap (λ (r : Read). begins r.depth (board_at m is_body es (keeping b) n) (step m (board_at m is_body es (keeping b) n))) (read_same es b n)
        ∙ ap (λ (s : State). begins (read_to m es b n).depth s (step m s)) (board_same es b n)
        ∙ ap (λ (t : Turn). begins (read_to m es b n).depth (keeping at) t) (step_same at)
        ∙ begins_same (read_to m es b n).depth at turn.state turn.told

    added_same : (n : ℕ) → text_after m es trace (keeping b) n ≡ text_after m es trace b n
    unfolding text_after
    added_same n = ap₂ (λ (t : Turn) l. step_text trace t.told ++ listed_lines l) (turn_same es b n) (after_same n)

    text_same : (n : ℕ) → text_to m es trace (keeping b) n ≡ text_to m es trace b n
    unfolding text_to
    text_same zero = refl
    text_same (suc n) = ap₂ (λ x y. x ++ y) (text_same n) (added_same n)

    pub direct_end_same : direct_end m es d bound (keeping b) ≡ direct_end m es d bound b
    direct_end_same = ap (λ s. end_at (direct_machine m es) d bound (beside_none s)) begun_same

    direct_told : direct_report m es d bound (keeping b) ≡ direct_report m es d bound b
    direct_told =
        let e = direct_end m es d bound b in
        let x = direct_machine m es in
        ap (λ (s : Servicing). report m (dead_in_run (run_to x (beside_none s) (suc bound))) (board_at m is_body es (keeping b) (end_at x d bound (beside_none s)).steps) (end_at x d bound (beside_none s)).end (end_at x d bound (beside_none s)).steps) begun_same
        ∙ ap (λ (s : State). report m (dead_in_run (direct_run m es bound b)) s e.end e.steps) (board_same es b e.steps)
        ∙ report_same (dead_in_run (direct_run m es bound b)) (board_at m is_body es b e.steps) e.end e.steps

    pub direct_same : direct_text m es d trace bound (keeping b) ≡ direct_text m es d trace bound b
    direct_same = ap₂ (λ x y. x ++ y) (ap (λ (e : Ended). text_to m es trace (keeping b) e.steps) direct_end_same ∙ text_same (direct_end m es d bound b).steps) direct_told
