-- How a chain ends, and what its status says.
use Rattle.std.proofs.Common.{◌≡◌, ◌∙◌, ℕ, zero, suc, ◌+◌, ◌<◌, ◌≤◌, List, true, false, Bool, Option, Some, None, IsTrue, refl, sym, ap, subst, inl, inr, arith, ⊎_elim, if◌then◌else◌}
use Rattle.std.proofs.lemmas.Bool.{cases_eq, and_parts, leb-true, ltb-true}
use Rattle.board_outside.specs.Sink.{SinkView, Writes}
use Rattle.hart_memory.specs.Image.{SegmentView, ImageView}
use Rattle.hart_board.specs.State.{State}
use Rattle.hart_board.specs.Event.{EventList}
use Rattle.chain_moves.specs.Slot.{base, slot_end, is_covered, IsLeastTaken}
use Rattle.chain_core.specs.Chain.{chain_end, is_whole}
use Rattle.chain_core.specs.End.{EndsAs}
use Rattle.chain_moves.specs.Moves.{servicing_machine}
use Rattle.chain_moves.specs.Start.{begun}
use Rattle.chain_moves.specs.declared.dispatcher.Dispatcher.{Dispatcher}
use Rattle.chain_moves.specs.declared.broken.Broken.{Broken as BrokenBy}
use Rattle.chain_core.specs.declared.chain_end.ChainEnd.{ChainEnd}
use Rattle.chain_core.specs.declared.chain_end.ChainEnd.TheVariants.{Done as done, BudgetSpent as budget_spent, SinkFailed as sink_failed, Broken as broken}
use Rattle.chain_core.proofs.Ends.{ends_so}
use Rattle.chain_moves.specs.Machine.{Machine}
use Rattle.chain_direct.specs.DirectMoves.{direct_machine, direct_start}
use Rattle.chain_direct.specs.DirectText.{direct_end}
use Rattle.device_model.specs.Meanings.{Meanings}
use Rattle.hart_board.specs.declared.event.Event.{Event}
use Rattle.board_outside.specs.Shelf.{ShelfView}
use Rattle.tool_frame.specs.Due.{Due, Outcome, at_once, worked, refused_due}
use Rattle.tool_frame.specs.Plan.{Plan}
use Rattle.tool_frame.specs.Answers.{Ends, Leaves, Reaches, FollowsWith}
use Rattle.tool_frame.specs.Code.{OfCommand, OfFile, origin_of}
use Rattle.tool_frame.proofs.Ends.{refuses}
use Rattle.tool_frame.proofs.Fits.{Fits}
use Rattle.tool_frame.specs.declared.status.Status.{Status}
use Rattle.tool_frame.specs.declared.status.Status.TheVariants.{Done, BudgetSpent, SinkFailed, Broken, VectorFault}
use Rattle.tool_work.specs.Shipped.{shipped_meanings}
use Rattle.tool_work.specs.Bench.{Bench, empty_bench}
use Rattle.tool_words.specs.Chain.{ChainWords}
use Rattle.tool_work.specs.Chain.{least_from, taken_at, unless_taken, slot_line, status_of, chain_board, chain_made, chain_told, chain_left, chain_due, ends_by, text_by, board_by}
use Rattle.tool_work.proofs.RunEnds.{IsWorkStatus}

-- ---- the slot
none_least : (segments : List SegmentView) (at n : ℕ) → ((k : ℕ) → at ≤ k → k < at + n → is_covered segments k ≡ false) → least_from segments at n ≡ None
unfolding least_from
none_least segments at zero h = refl
none_least segments at (suc n) h = rw (h at (omega arith) (omega arith)) (none_least segments (at + 1) n (λ k low high. h k (omega arith) (omega arith)))

some_least : (segments : List SegmentView) (at n k : ℕ) → at ≤ k → k < at + n → is_covered segments k ≡ true → ((j : ℕ) → at ≤ j → j < k → is_covered segments j ≡ false) → least_from segments at n ≡ Some k
unfolding least_from
some_least segments at zero k low high there before = absurd (omega arith)
some_least segments at (suc n) k low high there before =
    ⊎_elim
    (λ (same : k ≡ at). (let here : is_covered segments at ≡ true = sym (ap (is_covered segments) same) ∙ there in ap (λ b. if b then Some at else least_from segments (at + 1) n) here ∙ ap Some (sym same)))
    (λ (other : k ≡ at → ⊥). ap (λ b. if b then Some at else least_from segments (at + 1) n) (before at (omega arith) (omega (arith, other))) ∙ some_least segments (at + 1) n k (omega (arith, other)) (omega arith) there (λ j l h. before j (omega arith) h))
    (cases_eq k at)

pub least_is : (image : ImageView) (found : Option ℕ) → IsLeastTaken image.segments found → taken_at image ≡ found
least_is image None h = none_least image.segments base 128 h
least_is image (Some at) h =
    let inside = and_parts _ _ h.0 in
    some_least image.segments base 128 at (leb-true base at inside.0) (omega (arith, ltb-true at slot_end inside.1)) h.1 h.2

-- ---- ends

-- no run of a machine is due to end by its sink
no_sink : {K S L : Type 0} (machine : Machine K S L) (d : Dispatcher) (bound : ℕ) (start : S) (end : ChainEnd) → end ≡ sink_failed → EndsAs machine d bound start end → ⊥
no_sink machine d bound start end e h = subst (EndsAs machine d bound start) e h

pub never_sink_failed : (m : Meanings) (es : List Event) (d : Dispatcher) (bound : ℕ) (b : State) → (chain_end m es d bound b).end ≡ sink_failed → ⊥
never_sink_failed m es d bound b e = no_sink (servicing_machine m es) d bound (begun m es b) (chain_end m es d bound b).end e (ends_so (servicing_machine m es) d bound (begun m es b))

never_direct : (m : Meanings) (es : List Event) (d : Dispatcher) (bound : ℕ) (b : State) → (direct_end m es d bound b).end ≡ sink_failed → ⊥
never_direct m es d bound b e = no_sink (direct_machine m es) d bound (direct_start m es b) (direct_end m es d bound b).end e (ends_so (direct_machine m es) d bound (direct_start m es b))

-- and so no chain of either kind
pub never_by : (directs : Bool) (d : Dispatcher) (bound : ℕ) (events : EventList) (b : State) → (ends_by directs d bound events b).end ≡ sink_failed → ⊥
never_by false d bound events b e = never_sink_failed shipped_meanings events.list d bound b e
never_by true d bound events b e = never_direct shipped_meanings events.list d bound b e

pub end_is_work : (end : ChainEnd) → (end ≡ sink_failed → ⊥) → IsWorkStatus (status_of end)
end_is_work (done steps bodies services) never = record { own = refl; no_usage = λ c. cc }
end_is_work budget_spent never = record { own = refl; no_usage = λ c. cc }
end_is_work (broken kind bodies) never = record { own = refl; no_usage = λ c. cc }
end_is_work sink_failed never = absurd (never refl)

pub is_done : (end : ChainEnd) → status_of end ≡ Done → (steps : ℕ) × (bodies : ℕ) × (services : ℕ) × (end ≡ done steps bodies services)
is_done (done steps bodies services) e = (steps, bodies, services, refl)
is_done budget_spent e = cc
is_done (broken kind bodies) e = cc
is_done sink_failed e = cc

pub is_budget_spent : (end : ChainEnd) → status_of end ≡ BudgetSpent → end ≡ budget_spent
is_budget_spent (done steps bodies services) e = cc
is_budget_spent budget_spent e = refl
is_budget_spent (broken kind bodies) e = cc
is_budget_spent sink_failed e = cc

pub is_broken : (end : ChainEnd) → status_of end ≡ Broken → (kind : BrokenBy) × (bodies : ℕ) × (end ≡ broken kind bodies)
is_broken (done steps bodies services) e = cc
is_broken budget_spent e = cc
is_broken (broken kind bodies) e = (kind, bodies, refl)
is_broken sink_failed e = cc

pub no_vector : (end : ChainEnd) → status_of end ≡ VectorFault → ⊥
no_vector (done steps bodies services) e = cc
no_vector budget_spent e = cc
no_vector (broken kind bodies) e = cc
no_vector sink_failed e = cc

-- a chain, and the status that it ends with
ends_with : (end due : ChainEnd) (text : List ℕ) {status : Status} {o n : SinkView} → status ≡ status_of end → (IsTrue (is_whole end) → end ≡ due) → Writes (is_whole end) o n text → Ends status o n (at_once text (status_of due))
ends_with (done steps bodies services) due text e same w = inl (e ∙ ap status_of (same refl), w)
ends_with budget_spent due text e same w = inl (e ∙ ap status_of (same refl), w)
ends_with (broken kind bodies) due text e same w = inl (e ∙ ap status_of (same refl), w)
ends_with sink_failed due text e same w = inr (e, w)

-- what is known of a chain once it was made: its board before and after, its end, and its text
pub record IsMade (chain : ChainWords) (image : ImageView) (events : EventList) (b b' : State) (end : ChainEnd) (o n : SinkView) : Type 0 where
  pub start : b ≡ chain_board chain.dispatcher_is image events
  pub end_is : IsTrue (is_whole end) → (end ≡ (ends_by chain.directs chain.dispatcher_is chain.bound_is events b).end) × (b' ≡ board_by chain.directs chain.dispatcher_is chain.bound_is events b)
  pub text : Writes (is_whole end) o n (text_by chain.directs chain.dispatcher_is chain.traces chain.bound_is events b)

pub made_ends : (chain : ChainWords) (image : ImageView) (events : EventList) (b b' : State) (end : ChainEnd) {status : Status} {o n : SinkView} → IsMade chain image events b b' end o n → status ≡ status_of end → Ends status o n (chain_due chain image events)
unfolding chain_told
made_ends chain image events b b' end {status} {o} {n} made e =
    subst (λ (x : State). Ends status o n (at_once (text_by chain.directs chain.dispatcher_is chain.traces chain.bound_is events x) (status_of (ends_by chain.directs chain.dispatcher_is chain.bound_is events x).end))) made.start
    (ends_with end (ends_by chain.directs chain.dispatcher_is chain.bound_is events b).end (text_by chain.directs chain.dispatcher_is chain.traces chain.bound_is events b) e (λ w. (made.end_is w).0) made.text)

-- all was written, and its board is left
pub made_leaves : (chain : ChainWords) (image : ImageView) (events : EventList) (b b' : State) (end : ChainEnd) {status : Status} {o n : SinkView} → IsMade chain image events b b' end o n → status ≡ status_of end → is_whole end ≡ true
    → Leaves empty_bench status (worked (chain_due chain image events) (chain_left chain image events)) (record { first = Some b'; second = None })
unfolding chain_left
made_leaves chain image events b b' end {status} made e whole =
    let there = made.end_is whole in
    let due : status ≡ status_of (chain_made chain image events) =
    e ∙ (ap status_of there.0 ∙ ap (λ (x : State). status_of (ends_by chain.directs chain.dispatcher_is chain.bound_is events x).end) made.start) in
    let board : b' ≡ board_by chain.directs chain.dispatcher_is chain.bound_is events (chain_board chain.dispatcher_is image events) =
    there.1 ∙ ap (λ (x : State). board_by chain.directs chain.dispatcher_is chain.bound_is events x) made.start in
    record {
      where_due = λ same. ap (λ (x : State). record { first = Some x; second = None }) board;
      elsewhere = λ other. absurd (other due);
    }

sink_is : (end : ChainEnd) → is_whole end ≡ false → status_of end ≡ SinkFailed
sink_is (done steps bodies services) e = cc
sink_is budget_spent e = cc
sink_is (broken kind bodies) e = cc
sink_is sink_failed e = refl

pub due_no_sink : (end : ChainEnd) → (end ≡ sink_failed → ⊥) → SinkFailed ≡ status_of end → ⊥
due_no_sink (done steps bodies services) never e = cc
due_no_sink budget_spent never e = cc
due_no_sink (broken kind bodies) never e = cc
due_no_sink sink_failed never e = never refl

-- the sink failed, and none is left
pub sink_leaves : (chain : ChainWords) (image : ImageView) (events : EventList) (end : ChainEnd) {status : Status} → status ≡ status_of end → is_whole end ≡ false → Leaves empty_bench status (worked (chain_due chain image events) (chain_left chain image events)) empty_bench
sink_leaves chain image events end e part =
    let never = never_by chain.directs chain.dispatcher_is chain.bound_is events (chain_board chain.dispatcher_is image events) in
    record {
      where_due = λ same. absurd (due_no_sink (chain_made chain image events) never (sym (e ∙ sink_is end part) ∙ same));
      elsewhere = λ other. refl;
    }

pub made_left : (chain : ChainWords) (image : ImageView) (events : EventList) (b b' : State) (end : ChainEnd) {status : Status} {o n : SinkView} {bench : Bench} → IsMade chain image events b b' end o n → status ≡ status_of end
    → bench ≡ (if is_whole end then record { first = Some b'; second = None } else empty_bench) → Leaves empty_bench status (worked (chain_due chain image events) (chain_left chain image events)) bench
made_left chain image events b b' end {status} {o} {n} {bench} made e there = by_whole (is_whole end) refl
  where
    by_whole : (w : Bool) → is_whole end ≡ w → Leaves empty_bench status (worked (chain_due chain image events) (chain_left chain image events)) bench
    by_whole true q = let is : bench ≡ record { first = Some b'; second = None } = rw q at there in rw is (made_leaves chain image events b b' end made e q)
    by_whole false q = let is : bench ≡ empty_bench = rw q at there in rw is (sink_leaves chain image events end e q)

-- ---- a slot that is taken, and one that is free

pub taken_ends : {B : Type 0} (nothing : B) (image : ImageView) (at : ℕ) (next : Plan B) {status : Status} (shelf : ShelfView) {sink sink' : SinkView} {line : List ℕ} → IsLeastTaken image.segments (Some at) → line ≡ slot_line at → Ends status sink sink' (refused_due line)
    → FollowsWith nothing status (unless_taken (taken_at image) next) shelf shelf sink sink' nothing
taken_ends nothing image at next {status} shelf {sink} {sink'} {line} taken is ends =
    subst (λ (t : Option ℕ). FollowsWith nothing status (unless_taken t next) shelf shelf sink sink' nothing) (sym (least_is image (Some at) taken))
    (refuses nothing status (slot_line at) shelf sink sink' (subst (λ (l : List ℕ). Ends status sink sink' (refused_due l)) is ends))

pub free_ends : {B : Type 0} (nothing : B) (image : ImageView) (next : Plan B) {status : Status} {shelf shelf' : ShelfView} {sink sink' : SinkView} {bench : B} → IsLeastTaken image.segments None → FollowsWith nothing status next shelf shelf' sink sink' bench
    → FollowsWith nothing status (unless_taken (taken_at image) next) shelf shelf' sink sink' bench
free_ends nothing image next {status} {shelf} {shelf'} {sink} {sink'} {bench} free follows =
    subst (λ (t : Option ℕ). FollowsWith nothing status (unless_taken t next) shelf shelf' sink sink' bench) (sym (least_is image None free)) follows

-- what the frame asks of what follows a slot that is free
pub taken_fits : {B : Type 0} (P : Due → Type 0) (taken : Option ℕ) (next : Plan B) → Fits P next → Fits P (unless_taken taken next)
taken_fits P None next fits = fits
taken_fits P (Some at) next fits = tt

-- the slot was free, where the work was done
pub record IsFree {B : Type 0} (taken : Option ℕ) (next : Plan B) (shelf shelf' : ShelfView) (outcome : Outcome B) : Type 0 where
  pub free : taken ≡ None
  pub rest : Reaches next shelf shelf' outcome

pub is_free : {B : Type 0} (taken : Option ℕ) (next : Plan B) (shelf shelf' : ShelfView) (outcome : Outcome B) → Reaches (unless_taken taken next) shelf shelf' outcome → origin_of outcome.due.status ≡ OfCommand → IsFree taken next shelf shelf' outcome
is_free None next shelf shelf' outcome reached own = record { free = refl; rest = reached }
is_free {B} (Some at) next shelf shelf' outcome reached own =
    let bad : OfFile ≡ OfCommand = sym (ap (λ (o : Outcome B). origin_of o.due.status) reached.1) ∙ own in cc
