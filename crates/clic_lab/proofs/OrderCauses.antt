-- What a status says of the work that was done.
use Rattle.std.proofs.Common.{◌≡◌, ◌∙◌, ◌⊎◌, ⊎_elim, List, Option, Some, None, refl, sym, subst, inl, inr}
use Rattle.board_outside.specs.Shelf.{ShelfView}
use Rattle.board_outside.specs.Sink.{SinkView}
use Rattle.hart_memory.specs.Image.{ImageView}
use Rattle.hart_board.specs.Event.{EventList}
use Rattle.tool_frame.specs.Answers.{Follows}
use Rattle.tool_frame.specs.Code.{OfCommand, origin_of}
use Rattle.tool_frame.specs.declared.status.Status.{Status}
use Rattle.tool_frame.specs.declared.status.Status.TheVariants.{Done, BudgetSpent, Usage, Broken, VectorFault, Rejected}
use Rattle.tool_frame.proofs.Ends.{misuses}
use Rattle.tool_frame.proofs.Fits.{IsAtOnce}
use Rattle.tool_frame.proofs.Causes.{settled_own, never}
use Rattle.tool_work.specs.Chain.{chain_made}
use Rattle.tool_work.specs.Run.{run_made}
use Rattle.tool_work.proofs.RunEnds.{is_halted, is_budget_spent as run_is_spent, is_vector_fault, run_no_broken}
use Rattle.tool_work.proofs.ChainEnds.{is_done, is_budget_spent as chain_is_spent, is_broken, no_vector}
use Rattle.lab_words.specs.Trace.{TraceWords}
use Rattle.lab_words.specs.declared.chaining.Chaining.{Chaining}
use Rattle.lab_words.specs.Sweep.{SweepWords}
use Rattle.lab_words.specs.Order.{Order, Elfs, Namings, Traces, Sweeps}
use Rattle.lab_work.specs.Elf.{elf_plan}
use Rattle.lab_work.specs.Names.{names_plan}
use Rattle.lab_work.specs.Trace.{chain_words, plain_due, trace_plan}
use Rattle.lab_work.specs.Sweep.{Made, IsBroken, IsSpent, AreWhole, status_of, sweep_made, sweep_plan}
use Rattle.lab_work.proofs.SweepEnds.{SweptSo, made_is_sweep, sweep_ran, are_broken, are_spent, are_whole}
use Rattle.lab_work.proofs.TraceEnds.{IsLabStatus, TracedSo, trace_ran}
use Rattle.clic_lab.specs.Usage.{usage_line, Misuses}
use Rattle.clic_lab.specs.Plan.{plan_of}
use Rattle.clic_lab.specs.SweepCauses.{SweptTo}
use Rattle.clic_lab.specs.TraceCauses.{IsOver, IsAtBound, IsBrokenOff, HasNoVector, TracedTo}
use Rattle.clic_lab.proofs.Plans.{elf_fits, names_fits, order_fits}

-- ---- a sweep that was made

swept_to : (Ended : Made → Type 0) (words : SweepWords) (order : Option Order) (shelf shelf' : ShelfView) (s : Status) → order ≡ Some (Sweeps words) → SweptSo words shelf shelf' s → ((made : Made) → status_of made ≡ s → Ended made) → SweptTo Ended order shelf shelf'
swept_to Ended words order shelf shelf' s is ran says =
    record { sweep = words; is_sweep = is; image = ran.image; events = ran.events; files = ran.files; has_event = ran.has_event; free = ran.free; made = says (sweep_made words ran.image ran.events) ran.status }

swept : (Ended : Made → Type 0) (words : SweepWords) (s status : Status) (shelf shelf' : ShelfView) (sink sink' : SinkView) → origin_of s ≡ OfCommand → ((made : Made) → status_of made ≡ s → Ended made) → Follows tt status (sweep_plan words) shelf shelf' sink sink' → status ≡ s → SweptTo Ended (Some (Sweeps words)) shelf shelf'
swept Ended words s status shelf shelf' sink sink' own says follows e =
    let all = settled_own tt (sweep_plan words) s status shelf shelf' sink sink' tt own follows e in
    swept_to Ended words (Some (Sweeps words)) shelf shelf' s refl (sweep_ran words shelf shelf' all.outcome s all.reached all.due_status own) says

-- ---- a trace that was made

is_over : (t : TraceWords) (c : Option Chaining) (image : ImageView) (events : EventList) → (plain_due t c image events).status ≡ Done → IsOver t c image events
is_over t None image events e = is_halted (run_made image events t.bound_is).end e
is_over t (Some c) image events e = is_done (chain_made (chain_words t c) image events) e

is_at_bound : (t : TraceWords) (c : Option Chaining) (image : ImageView) (events : EventList) → (plain_due t c image events).status ≡ BudgetSpent → IsAtBound t c image events
is_at_bound t None image events e = run_is_spent (run_made image events t.bound_is).end e
is_at_bound t (Some c) image events e = chain_is_spent (chain_made (chain_words t c) image events) e

is_broken_off : (t : TraceWords) (c : Option Chaining) (image : ImageView) (events : EventList) → (plain_due t c image events).status ≡ Broken → IsBrokenOff t c image events
is_broken_off t None image events e = run_no_broken (run_made image events t.bound_is).end e
is_broken_off t (Some c) image events e = is_broken (chain_made (chain_words t c) image events) e

has_no_vector : (t : TraceWords) (c : Option Chaining) (image : ImageView) (events : EventList) → (plain_due t c image events).status ≡ VectorFault → HasNoVector t c image events
has_no_vector t None image events e = is_vector_fault (run_made image events t.bound_is).end e
has_no_vector t (Some c) image events e = no_vector (chain_made (chain_words t c) image events) e

traced_to : (Ended : TraceWords → Option Chaining → ImageView → EventList → Type 0) (t : TraceWords) (shelf shelf' : ShelfView) (s : Status) → TracedSo t shelf shelf' s → ((image : ImageView) (events : EventList) → (plain_due t t.chains_by image events).status ≡ s → Ended t t.chains_by image events) → TracedTo Ended (Some (Traces t)) shelf shelf'
traced_to Ended t shelf shelf' s ran says =
    record { trace = t; is_trace = refl; image = ran.image; events = ran.events; names = ran.names; between = ran.between; files = ran.files; named = ran.named; free = ran.free; end = says ran.image ran.events ran.status }

traced : (Ended : TraceWords → Option Chaining → ImageView → EventList → Type 0) (t : TraceWords) (s status : Status) (shelf shelf' : ShelfView) (sink sink' : SinkView) → origin_of s ≡ OfCommand → ((image : ImageView) (events : EventList) → (plain_due t t.chains_by image events).status ≡ s → Ended t t.chains_by image events)
    → Follows tt status (trace_plan t) shelf shelf' sink sink' → status ≡ s → TracedTo Ended (Some (Traces t)) shelf shelf'
traced Ended t s status shelf shelf' sink sink' own says follows e =
    let all = settled_own tt (trace_plan t) s status shelf shelf' sink sink' tt own follows e in
    traced_to Ended t shelf shelf' s (trace_ran t shelf shelf' all.outcome s all.reached all.due_status own) says

-- ---- statuses that only sweeps and traces have

-- a sweep's outcomes say so, or the end of a trace's run or chain
record Says (Swept : Made → Type 0) (Traced : TraceWords → Option Chaining → ImageView → EventList → Type 0) (s : Status) : Type 0 where
  own : origin_of s ≡ OfCommand
  no_done : Done ≡ s → ⊥
  no_usage : Usage ≡ s → ⊥
  swept : (made : Made) → status_of made ≡ s → Swept made
  traced : (t : TraceWords) (image : ImageView) (events : EventList) → (plain_due t t.chains_by image events).status ≡ s → Traced t t.chains_by image events

order_made : (Swept : Made → Type 0) (Traced : TraceWords → Option Chaining → ImageView → EventList → Type 0) (order : Option Order) (s status : Status) (shelf shelf' : ShelfView) (sink sink' : SinkView) → Says Swept Traced s → Follows tt status (plan_of order) shelf shelf' sink sink' → status ≡ s → SweptTo Swept order shelf shelf' ⊎ TracedTo Traced order shelf shelf'
order_made Swept Traced None s status shelf shelf' sink sink' says follows e =
    absurd (never tt (λ due. due.status ≡ Usage) (plan_of None) s status shelf shelf' sink sink' tt refl says.own (λ due is d. says.no_usage (sym is ∙ d)) follows e)
order_made Swept Traced (Some (Elfs words)) s status shelf shelf' sink sink' says follows e =
    absurd (never tt (IsAtOnce (λ t. t ≡ Done)) (elf_plan words) s status shelf shelf' sink sink' tt (elf_fits words) says.own (λ due is d. says.no_done (sym is.status ∙ d)) follows e)
order_made Swept Traced (Some (Namings words)) s status shelf shelf' sink sink' says follows e =
    absurd (never tt (IsAtOnce (λ t. t ≡ Done)) (names_plan words) s status shelf shelf' sink sink' tt (names_fits words) says.own (λ due is d. says.no_done (sym is.status ∙ d)) follows e)
order_made Swept Traced (Some (Traces words)) s status shelf shelf' sink sink' says follows e = inr (traced Traced words s status shelf shelf' sink sink' says.own (says.traced words) follows e)
order_made Swept Traced (Some (Sweeps words)) s status shelf shelf' sink sink' says follows e = inl (swept Swept words s status shelf shelf' sink sink' says.own says.swept follows e)

pub broken_cause : (order : Option Order) (status : Status) (shelf shelf' : ShelfView) (sink sink' : SinkView) → Follows tt status (plan_of order) shelf shelf' sink sink' → status ≡ Broken → SweptTo IsBroken order shelf shelf' ⊎ TracedTo IsBrokenOff order shelf shelf'
broken_cause order status shelf shelf' sink sink' follows e =
    order_made IsBroken IsBrokenOff order Broken status shelf shelf' sink sink' (record { own = refl; no_done = λ c. cc; no_usage = λ c. cc; swept = are_broken; traced = λ t. is_broken_off t t.chains_by }) follows e

pub budget_cause : (order : Option Order) (status : Status) (shelf shelf' : ShelfView) (sink sink' : SinkView) → Follows tt status (plan_of order) shelf shelf' sink sink' → status ≡ BudgetSpent → SweptTo IsSpent order shelf shelf' ⊎ TracedTo IsAtBound order shelf shelf'
budget_cause order status shelf shelf' sink sink' follows e =
    order_made IsSpent IsAtBound order BudgetSpent status shelf shelf' sink sink' (record { own = refl; no_done = λ c. cc; no_usage = λ c. cc; swept = are_spent; traced = λ t. is_at_bound t t.chains_by }) follows e

-- no sweep has it
vector_by : (order : Option Order) (status : Status) (shelf shelf' : ShelfView) (sink sink' : SinkView) → Follows tt status (plan_of order) shelf shelf' sink sink' → status ≡ VectorFault → SweptTo (λ made. ⊥) order shelf shelf' ⊎ TracedTo HasNoVector order shelf shelf'
vector_by order status shelf shelf' sink sink' follows e =
    order_made (λ made. ⊥) HasNoVector order VectorFault status shelf shelf' sink sink' (record { own = refl; no_done = λ c. cc; no_usage = λ c. cc; swept = λ made. (made_is_sweep made).no_vector; traced = λ t. has_no_vector t t.chains_by }) follows e

pub vector_cause : (order : Option Order) (status : Status) (shelf shelf' : ShelfView) (sink sink' : SinkView) → Follows tt status (plan_of order) shelf shelf' sink sink' → status ≡ VectorFault → TracedTo HasNoVector order shelf shelf'
vector_cause order status shelf shelf' sink sink' follows e = ⊎_elim (λ h. absurd h.made) (λ h. h) (vector_by order status shelf shelf' sink sink' follows e)

-- a trace that is done
pub traced_cause : (order : Option Order) (status : Status) (shelf shelf' : ShelfView) (sink sink' : SinkView) → Follows tt status (plan_of order) shelf shelf' sink sink' → (t : TraceWords) → order ≡ Some (Traces t) → status ≡ Done → TracedTo IsOver order shelf shelf'
traced_cause order status shelf shelf' sink sink' follows t is e =
    let made = subst (λ (o : Option Order). Follows tt status (plan_of o) shelf shelf' sink sink') is follows in
    subst (λ (o : Option Order). TracedTo IsOver o shelf shelf') (sym is) (traced IsOver t Done status shelf shelf' sink sink' refl (is_over t t.chains_by) made e)

-- a sweep that is done
pub swept_cause : (order : Option Order) (status : Status) (shelf shelf' : ShelfView) (sink sink' : SinkView) → Follows tt status (plan_of order) shelf shelf' sink sink' → (sweep : SweepWords) → order ≡ Some (Sweeps sweep) → status ≡ Done → SweptTo AreWhole order shelf shelf'
swept_cause order status shelf shelf' sink sink' follows sweep is e =
    let made = subst (λ (o : Option Order). Follows tt status (plan_of o) shelf shelf' sink sink') is follows in
    subst (λ (o : Option Order). SweptTo AreWhole o shelf shelf') (sym is) (swept AreWhole sweep Done status shelf shelf' sink sink' refl are_whole made e)

-- ---- a status of no command

pub rejected_cause : (order : Option Order) (status : Status) (shelf shelf' : ShelfView) (sink sink' : SinkView) → Follows tt status (plan_of order) shelf shelf' sink sink' → status ≡ Rejected → ⊥
rejected_cause None status shelf shelf' sink sink' follows e =
    never tt (λ due. due.status ≡ Usage) (plan_of None) Rejected status shelf shelf' sink sink' tt refl refl (λ due is d. (let bad : Usage ≡ Rejected = sym is ∙ d in cc)) follows e
rejected_cause (Some order) status shelf shelf' sink sink' follows e =
    never tt (IsAtOnce IsLabStatus) (plan_of (Some order)) Rejected status shelf shelf' sink sink' tt (order_fits order) refl (λ due work. work.status.no_rejected) follows e

-- ---- words that are no command

pub usage_cause : (order : Option Order) (status : Status) (shelf shelf' : ShelfView) (sink sink' : SinkView) → Follows tt status (plan_of order) shelf shelf' sink sink' → status ≡ Usage → order ≡ None
usage_cause None status shelf shelf' sink sink' follows e = refl
usage_cause (Some order) status shelf shelf' sink sink' follows e =
    absurd (never tt (IsAtOnce IsLabStatus) (plan_of (Some order)) Usage status shelf shelf' sink sink' tt (order_fits order) refl (λ due work. work.status.no_usage) follows e)

pub of_misuse : (order : Option Order) (status : Status) (shelf shelf' : ShelfView) (sink sink' : SinkView) → order ≡ None → Follows tt status (plan_of order) shelf shelf' sink sink' → Misuses status shelf shelf' sink sink'
of_misuse order status shelf shelf' sink sink' none follows =
    misuses usage_line tt tt status shelf shelf' sink sink' tt (subst (λ (o : Option Order). Follows tt status (plan_of o) shelf shelf' sink sink') none follows)
