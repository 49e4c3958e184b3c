-- What comes of a trace with names.
use Rattle.std.proofs.Common.{◌≡◌, ◌∙◌, ℕ, List, [], Bool, true, false, Option, Some, None, codes, refl, sym, ap, subst, inl, inr}
use Rattle.std.specs.Prelude.{if◌then◌else◌}
use Rattle.clap.specs.Words.{Text}
use Rattle.board_outside.specs.Shelf.{ShelfView}
use Rattle.board_outside.specs.Sink.{SinkView, Writes}
use Rattle.hart_memory.specs.Image.{ImageView}
use Rattle.hart_board.specs.Event.{EventList}
use Rattle.hart_board.specs.Run.{every_step}
use Rattle.hart_board.specs.declared.run_end.RunEnd.{RunEnd}
use Rattle.hart_board.specs.declared.run_end.RunEnd.TheVariants.{Halted, BudgetSpent as run_spent, VectorFault as vector_fault, SinkFailed as run_sink}
use Rattle.hart_board.proofs.Ending.{never_sink_failed}
use Rattle.chain_core.specs.declared.chain_end.ChainEnd.{ChainEnd}
use Rattle.chain_core.specs.declared.chain_end.ChainEnd.TheVariants.{Done as done, BudgetSpent as chain_spent, SinkFailed as chain_sink, Broken as broken}
use Rattle.lab_names.specs.Name.{NameView}
use Rattle.lab_sweep.specs.Sink.{TextState, sink_view}
use Rattle.lab_trace.specs.Named.{named_text}
use Rattle.lab_trace.proofs.Back.{text_back}
use Rattle.lab_words.specs.Trace.{TraceWords}
use Rattle.lab_words.specs.declared.chaining.Chaining.{Chaining}
use Rattle.tool_frame.specs.Answers.{Ends, Passes, Reaches, Follows, FollowsWith}
use Rattle.tool_frame.specs.Code.{OfCommand, origin_of}
use Rattle.tool_frame.specs.Due.{Due, Outcome, refused_due}
use Rattle.tool_frame.specs.Plan.{Plan, Makes}
use Rattle.tool_frame.specs.declared.status.Status.{Status}
use Rattle.tool_frame.specs.declared.status.Status.TheVariants.{Usage, Rejected, Memory, SinkFailed}
use Rattle.tool_frame.proofs.Causes.{passed_on}
use Rattle.tool_frame.proofs.Ends.{refuses, ends_by}
use Rattle.tool_frame.proofs.Fits.{Fits, IsAtOnce, fits_reads}
use Rattle.tool_work.specs.Chain.{chain_made, chain_board, slot_line, unless_taken, status_of as chain_status}
use Rattle.tool_work.specs.Files.{PassesFiles}
use Rattle.tool_work.specs.Run.{run_made, status_of as run_status}
use Rattle.tool_work.specs.Shipped.{shipped_meanings}
use Rattle.tool_work.proofs.ChainEnds.{end_is_work as chain_is_work, never_by, taken_fits, is_free}
use Rattle.tool_work.proofs.RunEnds.{IsWorkStatus, end_is_work}
use Rattle.tool_work.proofs.TwoFiles.{files_fit, both_passed}
use Rattle.lab_work.specs.Files.{names_limit, names_read, names_stage, names_plan, PassesNames}
use Rattle.lab_work.specs.Trace.{run_words, chain_words, plain_due, named_due, trace_due, IsPlain, taken_for, named_plan, slot_plan, trace_plan}
use Rattle.lab_work.proofs.SweepEnds.{IsSweepStatus}

-- ---- the text

pub is_plain : (t : TraceWords) → IsPlain t
is_plain t = λ image events names. text_back names (plain_due t t.chains_by image events).text

-- ---- the names

-- a file of names was told, or none
pub names_told : {B : Type 0} (nothing : B) {status : Status} (name told : Option Text) (next : List NameView → Plan B) {shelf shelf' : ShelfView} {sink sink' : SinkView} → name ≡ told
    → Follows nothing status (names_plan told next) shelf shelf' sink sink' → Follows nothing status (names_plan name next) shelf shelf' sink sink'
names_told nothing {status} name told next {shelf} {shelf'} {sink} {sink'} is follows =
    subst (λ (n : Option Text). Follows nothing status (names_plan n next) shelf shelf' sink sink') (sym is) follows

-- ---- the slot

pub slot_taken : {B : Type 0} (nothing : B) (taken : Option ℕ) (at : ℕ) (next : Plan B) {status : Status} (shelf : ShelfView) {sink sink' : SinkView} {line : List ℕ} → taken ≡ Some at → line ≡ slot_line at → Ends status sink sink' (refused_due line)
    → FollowsWith nothing status (unless_taken taken next) shelf shelf sink sink' nothing
slot_taken nothing taken at next {status} shelf {sink} {sink'} {line} there is ends =
    subst (λ (t : Option ℕ). FollowsWith nothing status (unless_taken t next) shelf shelf sink sink' nothing) (sym there)
    (refuses nothing status (slot_line at) shelf sink sink' (subst (λ (l : List ℕ). Ends status sink sink' (refused_due l)) is ends))

pub slot_free : {B : Type 0} (nothing : B) (taken : Option ℕ) (next : Plan B) {status : Status} {shelf shelf' : ShelfView} {sink sink' : SinkView} {bench : B} → taken ≡ None → FollowsWith nothing status next shelf shelf' sink sink' bench
    → FollowsWith nothing status (unless_taken taken next) shelf shelf' sink sink' bench
slot_free nothing taken next {status} {shelf} {shelf'} {sink} {sink'} {bench} none follows =
    subst (λ (t : Option ℕ). FollowsWith nothing status (unless_taken t next) shelf shelf' sink sink' bench) (sym none) follows

-- ---- statuses

-- the status of work that was made, by any command
pub record IsLabStatus (s : Status) : Type 0 where
  pub own : origin_of s ≡ OfCommand
  pub no_usage : s ≡ Usage → ⊥
  pub no_rejected : s ≡ Rejected → ⊥

pub sweep_is_lab : (s : Status) → IsSweepStatus s → IsLabStatus s
sweep_is_lab s is = record { own = is.own; no_usage = is.no_usage; no_rejected = is.no_rejected }

run_is_lab : (end : RunEnd) → (end ≡ run_sink → ⊥) → IsLabStatus (run_status end)
run_is_lab (Halted code steps) never = record { own = refl; no_usage = λ c. cc; no_rejected = λ c. cc }
run_is_lab run_spent never = record { own = refl; no_usage = λ c. cc; no_rejected = λ c. cc }
run_is_lab (vector_fault id steps) never = record { own = refl; no_usage = λ c. cc; no_rejected = λ c. cc }
run_is_lab run_sink never = absurd (never refl)

chain_is_lab : (end : ChainEnd) → (end ≡ chain_sink → ⊥) → IsLabStatus (chain_status end)
chain_is_lab (done steps bodies services) never = record { own = refl; no_usage = λ c. cc; no_rejected = λ c. cc }
chain_is_lab chain_spent never = record { own = refl; no_usage = λ c. cc; no_rejected = λ c. cc }
chain_is_lab (broken kind bodies) never = record { own = refl; no_usage = λ c. cc; no_rejected = λ c. cc }
chain_is_lab chain_sink never = absurd (never refl)

pub plain_is_lab : (t : TraceWords) (c : Option Chaining) (image : ImageView) (events : EventList) → IsLabStatus (plain_due t c image events).status
plain_is_lab t None image events = run_is_lab (run_made image events t.bound_is).end (never_sink_failed shipped_meanings every_step events.list t.bound_is _)
plain_is_lab t (Some c) image events = chain_is_lab (chain_made (chain_words t c) image events) (never_by c.direct c.dispatcher t.bound_is events _)

names_fit : {B : Type 0} (P : Due → Type 0) (name : Option Text) (next : List NameView → Plan B) → ((names : List NameView) → Fits P (next names)) → Fits P (names_plan name next)
names_fit P None next all = all []
names_fit P (Some name) next all = fits_reads P (codes "names") names_limit names_read name next all

pub trace_fits : (t : TraceWords) → Fits (IsAtOnce IsLabStatus) (trace_plan t)
trace_fits t = files_fit (IsAtOnce IsLabStatus) t.image_name t.scenario_name (λ image events. slot_plan t image events) (λ image events.
    taken_fits (IsAtOnce IsLabStatus) (taken_for t.chains_by image) (named_plan t image events)
    (names_fit (IsAtOnce IsLabStatus) t.names_name (λ names. Makes (trace_due t image events names) tt) (λ names. record { status = plain_is_lab t t.chains_by image events; at_once = refl })))

-- ---- a trace that was made

-- the names were read, where the work was done
record NamesPassed (name : Option Text) (t : TraceWords) (image : ImageView) (events : EventList) (shelf shelf' : ShelfView) (outcome : Outcome (Unit {0})) : Type 0 where
  names : List NameView
  passed : PassesNames name shelf shelf' names
  status : outcome.due.status ≡ (plain_due t t.chains_by image events).status

names_passed : (name : Option Text) (t : TraceWords) (image : ImageView) (events : EventList) (shelf shelf' : ShelfView) (outcome : Outcome (Unit {0})) → Reaches (names_plan name (λ names. Makes (trace_due t image events names) tt)) shelf shelf' outcome → origin_of outcome.due.status ≡ OfCommand
    → NamesPassed name t image events shelf shelf' outcome
names_passed None t image events shelf shelf' outcome reached own =
    record { names = []; passed = (reached.0, refl); status = ap (λ (o : Outcome (Unit {0})). o.due.status) reached.1 }
names_passed (Some name) t image events shelf shelf' outcome reached own =
    let read = passed_on name names_limit names_stage (λ names. Makes (trace_due t image events names) tt) shelf shelf' outcome reached own in
    record {
      names = read.value;
      passed = subst (λ (last : ShelfView). Passes name names_limit names_stage shelf last read.value) (sym read.rest.0) read.passes;
      status = ap (λ (o : Outcome (Unit {0})). o.due.status) read.rest.1;
    }

-- the trace was made, and the status is that of its run or its chain
pub record TracedSo (t : TraceWords) (shelf shelf' : ShelfView) (s : Status) : Type 0 where
  pub image : ImageView
  pub events : EventList
  pub names : List NameView
  pub between : ShelfView
  pub files : PassesFiles t.image_name t.scenario_name shelf between image events
  pub named : PassesNames t.names_name between shelf' names
  pub free : taken_for t.chains_by image ≡ None
  pub status : (plain_due t t.chains_by image events).status ≡ s

pub trace_ran : (t : TraceWords) (shelf shelf' : ShelfView) (outcome : Outcome (Unit {0})) (s : Status) → Reaches (trace_plan t) shelf shelf' outcome → outcome.due.status ≡ s → origin_of s ≡ OfCommand → TracedSo t shelf shelf' s
trace_ran t shelf shelf' outcome s reached e own =
    let passed = both_passed t.image_name t.scenario_name (λ image events. slot_plan t image events) shelf shelf' outcome reached (ap origin_of e ∙ own) in
    let free = is_free (taken_for t.chains_by passed.image) (named_plan t passed.image passed.events) passed.last shelf' outcome passed.rest (ap origin_of e ∙ own) in
    let named = names_passed t.names_name t passed.image passed.events passed.last shelf' outcome free.rest (ap origin_of e ∙ own) in
    record {
      image = passed.image;
      events = passed.events;
      names = named.names;
      between = passed.last;
      files = passed.files;
      named = named.passed;
      free = free.free;
      status = sym named.status ∙ e;
    }
