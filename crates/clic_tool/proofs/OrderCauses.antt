-- What a status says of the work that was done.
use Rattle.std.proofs.Common.{◌≡◌, ◌∙◌, ◌⊎◌, ℕ, Bool, true, false, Option, Some, None, refl, sym, ap, subst, inl, inr}
use Rattle.std.proofs.lemmas.Bool.{false≢true}
use Rattle.board_outside.specs.Shelf.{ShelfView}
use Rattle.board_outside.specs.Sink.{SinkView}
use Rattle.hart_board.specs.declared.run_end.RunEnd.{RunEnd}
use Rattle.hart_board.specs.declared.run_end.RunEnd.TheVariants.{Halted, BudgetSpent as run_spent, VectorFault as vector_fault}
use Rattle.chain_moves.specs.declared.broken.Broken.{Broken as BrokenBy}
use Rattle.chain_core.specs.declared.chain_end.ChainEnd.{ChainEnd}
use Rattle.chain_core.specs.declared.chain_end.ChainEnd.TheVariants.{Done as done, BudgetSpent as chain_spent, Broken as broken}
use Rattle.tool_frame.specs.Due.{Due}
use Rattle.tool_frame.specs.Answers.{FollowsWith}
use Rattle.tool_frame.specs.Code.{OfCommand, origin_of}
use Rattle.tool_frame.specs.declared.status.Status.{Status}
use Rattle.tool_frame.specs.declared.status.Status.TheVariants.{Done, BudgetSpent, Usage, Broken, VectorFault, Rejected}
use Rattle.tool_frame.proofs.Ends.{misuses}
use Rattle.tool_frame.proofs.Fits.{IsAtOnce}
use Rattle.tool_frame.proofs.Causes.{settled_own, never}
use Rattle.tool_work.specs.declared.bench.Bench.{Bench}
use Rattle.tool_work.specs.Bench.{empty_bench}
use Rattle.tool_words.specs.Run.{RunWords}
use Rattle.tool_work.specs.Run.{run_made, run_plan}
use Rattle.tool_words.specs.Chain.{ChainWords}
use Rattle.tool_work.specs.Chain.{chain_made, chain_plan}
use Rattle.tool_work.specs.Monitor.{monitor_plan}
use Rattle.tool_work.specs.Gen.{gen_decides, gen_plan}
use Rattle.tool_work.specs.Assemble.{assemble_plan}
use Rattle.tool_work.specs.Disassemble.{disassemble_plan}
use Rattle.tool_work.specs.Mem.{mem_plan}
use Rattle.tool_work.specs.Unmem.{unmem_plan}
use Rattle.tool_work.specs.Lint.{lint_plan}
use Rattle.tool_work.specs.Bound.{bound_plan}
use Rattle.tool_words.specs.Order.{Order, Runs, Chains, Monitors, Gens, Assembles, Disassembles, Mems, Unmems, Lints, Bounds}
use Rattle.clic_tool.specs.Usage.{usage_line, Misuses}
use Rattle.clic_tool.specs.Plan.{plan_of}
use Rattle.clic_tool.specs.RunCauses.{RanTo}
use Rattle.clic_tool.specs.ChainCauses.{ChainedTo}
use Rattle.clic_tool.specs.GenCauses.{GeneratedTo}
use Rattle.tool_work.proofs.RunEnds.{is_halted, is_budget_spent, is_vector_fault, run_no_broken}
use Rattle.clic_tool.proofs.RunCauses.{RanSo, run_ran}
use Rattle.tool_work.proofs.ChainEnds.{is_done, is_broken, no_vector, is_budget_spent as is_chain_spent}
use Rattle.clic_tool.proofs.ChainCauses.{ChainedSo, chain_ran}
use Rattle.clic_tool.proofs.Plans.{IsWork, order_works, monitor_fits, assemble_fits, disassemble_fits, mem_fits, unmem_fits, lint_fits, bound_fits}
use Rattle.clic_tool.proofs.Verdicts.{IsAnswerStatus}
use Rattle.clic_tool.proofs.GenCauses.{GeneratedSo, gen_ran, generated_to}

-- work that answers yes or no
abbrev is_answer : Status → Bool
is_answer Done = true
is_answer Rejected = true
is_answer _ = false

other_status : (s t : Status) → is_answer s ≡ false → is_answer t ≡ true → t ≡ s → ⊥
other_status s t other answer e = false≢true (sym other ∙ (sym (ap is_answer e) ∙ answer))

answers : (t : Status) → IsAnswerStatus t → is_answer t ≡ true
answers t (inl e) = ap is_answer e
answers t (inr e) = ap is_answer e

-- it has no other status, and work that is always done has none either
only_answer : (s : Status) (due : Due) → is_answer s ≡ false → IsAtOnce IsAnswerStatus due → due.status ≡ s → ⊥
only_answer s due no_answer made e = other_status s due.status no_answer (answers due.status made.status) e

only_done : (s : Status) (due : Due) → is_answer s ≡ false → IsAtOnce (λ t. t ≡ Done) due → due.status ≡ s → ⊥
only_done s due no_done made e = other_status s due.status no_done (ap is_answer made.status) e

only_usage : (s : Status) (due : Due) → (s ≡ Usage → ⊥) → due.status ≡ Usage → due.status ≡ s → ⊥
only_usage s due no_usage is e = no_usage (sym e ∙ is)

abbrev MadeSo : Option Order → ShelfView → ShelfView → Status → Type 0
MadeSo order shelf shelf' s = RanSo order shelf shelf' s ⊎ (ChainedSo order shelf shelf' s ⊎ GeneratedSo order s)

-- a status that a run or a chain has, or the chains of `gen`
order_worked : (order : Option Order) (s status : Status) (shelf shelf' : ShelfView) (sink sink' : SinkView) (bench : Bench) → origin_of s ≡ OfCommand → is_answer s ≡ false → (s ≡ Usage → ⊥) → FollowsWith empty_bench status (plan_of order) shelf shelf' sink sink' bench → status ≡ s → MadeSo order shelf shelf' s
order_worked None s status shelf shelf' sink sink' bench own no_done no_usage follows e =
    absurd (never empty_bench (λ due. due.status ≡ Usage) (plan_of None) s status shelf shelf' sink sink' bench refl own (λ due. only_usage s due no_usage) follows e)
order_worked (Some (Runs run)) s status shelf shelf' sink sink' bench own no_done no_usage follows e =
    let all = settled_own empty_bench (run_plan run) s status shelf shelf' sink sink' bench own follows e in
    inl (run_ran run shelf shelf' all.outcome s all.reached all.due_status own)
order_worked (Some (Chains chain)) s status shelf shelf' sink sink' bench own no_done no_usage follows e =
    let all = settled_own empty_bench (chain_plan chain) s status shelf shelf' sink sink' bench own follows e in
    inr (inl (chain_ran chain shelf shelf' all.outcome s all.reached all.due_status own))
order_worked (Some (Monitors words)) s status shelf shelf' sink sink' bench own no_done no_usage follows e =
    absurd (never empty_bench (λ due. due.status ≡ Done) (monitor_plan words) s status shelf shelf' sink sink' bench (monitor_fits words) own (λ due done d. other_status s due.status no_done (ap is_answer done) d) follows e)
order_worked (Some (Gens words)) s status shelf shelf' sink sink' bench own no_done no_usage follows e =
    let all = settled_own empty_bench (gen_plan words) s status shelf shelf' sink sink' bench own follows e in
    inr (inr (gen_ran words shelf shelf' all.outcome s all.reached all.due_status))
order_worked (Some (Assembles words)) s status shelf shelf' sink sink' bench own no_done no_usage follows e =
    absurd (never empty_bench (IsAtOnce (λ t. t ≡ Done)) (assemble_plan words) s status shelf shelf' sink sink' bench (assemble_fits words) own (λ due. only_done s due no_done) follows e)
order_worked (Some (Disassembles words)) s status shelf shelf' sink sink' bench own no_done no_usage follows e =
    absurd (never empty_bench (IsAtOnce (λ t. t ≡ Done)) (disassemble_plan words) s status shelf shelf' sink sink' bench (disassemble_fits words) own (λ due. only_done s due no_done) follows e)
order_worked (Some (Mems words)) s status shelf shelf' sink sink' bench own no_done no_usage follows e =
    absurd (never empty_bench (IsAtOnce (λ t. t ≡ Done)) (mem_plan words) s status shelf shelf' sink sink' bench (mem_fits words) own (λ due. only_done s due no_done) follows e)
order_worked (Some (Unmems words)) s status shelf shelf' sink sink' bench own no_done no_usage follows e =
    absurd (never empty_bench (IsAtOnce (λ t. t ≡ Done)) (unmem_plan words) s status shelf shelf' sink sink' bench (unmem_fits words) own (λ due. only_done s due no_done) follows e)
order_worked (Some (Lints words)) s status shelf shelf' sink sink' bench own no_done no_usage follows e =
    absurd (never empty_bench (IsAtOnce IsAnswerStatus) (lint_plan words) s status shelf shelf' sink sink' bench (lint_fits words) own (λ due. only_answer s due no_done) follows e)
order_worked (Some (Bounds words)) s status shelf shelf' sink sink' bench own no_done no_usage follows e =
    absurd (never empty_bench (IsAtOnce IsAnswerStatus) (bound_plan words) s status shelf shelf' sink sink' bench (bound_fits words) own (λ due. only_answer s due no_done) follows e)

-- what the end of a run was, and of a chain
ran_to : (ended : RunEnd → Type 0) (order : Option Order) (shelf shelf' : ShelfView) (s : Status) (ran : RanSo order shelf shelf' s) → ended (run_made ran.image ran.events ran.run.bound_is).end → RanTo ended order shelf shelf'
ran_to ended order shelf shelf' s ran e = record { run = ran.run; is_run = ran.is_run; image = ran.image; events = ran.events; files = ran.files; end = e }

chained_to : (ended : ChainEnd → Type 0) (order : Option Order) (shelf shelf' : ShelfView) (s : Status) (ran : ChainedSo order shelf shelf' s) → ended (chain_made ran.chain ran.image ran.events) → ChainedTo ended order shelf shelf'
chained_to ended order shelf shelf' s ran e = record { chain = ran.chain; is_chain = ran.is_chain; image = ran.image; events = ran.events; files = ran.files; free = ran.free; end = e }

-- a run that is done
pub halted_cause : (order : Option Order) (status : Status) (shelf shelf' : ShelfView) (sink sink' : SinkView) (bench : Bench) → FollowsWith empty_bench status (plan_of order) shelf shelf' sink sink' bench → (run : RunWords) → order ≡ Some (Runs run) → status ≡ Done → RanTo (λ end. (code : ℕ) × (steps : ℕ) × (end ≡ Halted code steps)) order shelf shelf'
halted_cause order status shelf shelf' sink sink' bench follows run is e =
    let made = subst (λ (o : Option Order). FollowsWith empty_bench status (plan_of o) shelf shelf' sink sink' bench) is follows in
    let all = settled_own empty_bench (run_plan run) Done status shelf shelf' sink sink' bench refl made e in
    let ran = run_ran run shelf shelf' all.outcome Done all.reached all.due_status refl in
    record { run = ran.run; is_run = is ∙ ran.is_run; image = ran.image; events = ran.events; files = ran.files; end = is_halted (run_made ran.image ran.events ran.run.bound_is).end ran.end }

-- a chain that is done
pub chained_cause : (order : Option Order) (status : Status) (shelf shelf' : ShelfView) (sink sink' : SinkView) (bench : Bench) → FollowsWith empty_bench status (plan_of order) shelf shelf' sink sink' bench → (chain : ChainWords) → order ≡ Some (Chains chain) → status ≡ Done → ChainedTo (λ end. (steps : ℕ) × (bodies : ℕ) × (services : ℕ) × (end ≡ done steps bodies services)) order shelf shelf'
chained_cause order status shelf shelf' sink sink' bench follows chain is e =
    let made = subst (λ (o : Option Order). FollowsWith empty_bench status (plan_of o) shelf shelf' sink sink' bench) is follows in
    let all = settled_own empty_bench (chain_plan chain) Done status shelf shelf' sink sink' bench refl made e in
    let ran = chain_ran chain shelf shelf' all.outcome Done all.reached all.due_status refl in
    record { chain = ran.chain; is_chain = is ∙ ran.is_chain; image = ran.image; events = ran.events; files = ran.files; free = ran.free; end = is_done (chain_made ran.chain ran.image ran.events) ran.end }

spent_as : (order : Option Order) (shelf shelf' : ShelfView) → MadeSo order shelf shelf' BudgetSpent → RanTo (λ end. end ≡ run_spent) order shelf shelf' ⊎ (ChainedTo (λ end. end ≡ chain_spent) order shelf shelf' ⊎ GeneratedTo (λ end. end ≡ chain_spent) order)
spent_as order shelf shelf' (inl ran) = inl (ran_to (λ end. end ≡ run_spent) order shelf shelf' BudgetSpent ran (is_budget_spent (run_made ran.image ran.events ran.run.bound_is).end ran.end))
spent_as order shelf shelf' (inr (inl ran)) = inr (inl (chained_to (λ end. end ≡ chain_spent) order shelf shelf' BudgetSpent ran (is_chain_spent (chain_made ran.chain ran.image ran.events) ran.end)))
spent_as order shelf shelf' (inr (inr ran)) = inr (inr (generated_to (λ end. end ≡ chain_spent) order BudgetSpent ran (is_chain_spent (gen_decides ran.words.number_is) ran.end)))

pub budget_cause : (order : Option Order) (status : Status) (shelf shelf' : ShelfView) (sink sink' : SinkView) (bench : Bench) → FollowsWith empty_bench status (plan_of order) shelf shelf' sink sink' bench → status ≡ BudgetSpent → RanTo (λ end. end ≡ run_spent) order shelf shelf' ⊎ (ChainedTo (λ end. end ≡ chain_spent) order shelf shelf' ⊎ GeneratedTo (λ end. end ≡ chain_spent) order)
budget_cause order status shelf shelf' sink sink' bench follows e = spent_as order shelf shelf' (order_worked order BudgetSpent status shelf shelf' sink sink' bench refl refl (λ c. cc) follows e)

broken_as : (order : Option Order) (shelf shelf' : ShelfView) → MadeSo order shelf shelf' Broken → ChainedTo (λ end. (kind : BrokenBy) × (bodies : ℕ) × (end ≡ broken kind bodies)) order shelf shelf' ⊎ GeneratedTo (λ end. (kind : BrokenBy) × (bodies : ℕ) × (end ≡ broken kind bodies)) order
broken_as order shelf shelf' (inl ran) = absurd (run_no_broken (run_made ran.image ran.events ran.run.bound_is).end ran.end)
broken_as order shelf shelf' (inr (inl ran)) = inl (chained_to (λ end. (kind : BrokenBy) × (bodies : ℕ) × (end ≡ broken kind bodies)) order shelf shelf' Broken ran (is_broken (chain_made ran.chain ran.image ran.events) ran.end))
broken_as order shelf shelf' (inr (inr ran)) = inr (generated_to (λ end. (kind : BrokenBy) × (bodies : ℕ) × (end ≡ broken kind bodies)) order Broken ran (is_broken (gen_decides ran.words.number_is) ran.end))

pub broken_cause : (order : Option Order) (status : Status) (shelf shelf' : ShelfView) (sink sink' : SinkView) (bench : Bench) → FollowsWith empty_bench status (plan_of order) shelf shelf' sink sink' bench → status ≡ Broken → ChainedTo (λ end. (kind : BrokenBy) × (bodies : ℕ) × (end ≡ broken kind bodies)) order shelf shelf' ⊎ GeneratedTo (λ end. (kind : BrokenBy) × (bodies : ℕ) × (end ≡ broken kind bodies)) order
broken_cause order status shelf shelf' sink sink' bench follows e = broken_as order shelf shelf' (order_worked order Broken status shelf shelf' sink sink' bench refl refl (λ c. cc) follows e)

vector_as : (order : Option Order) (shelf shelf' : ShelfView) → MadeSo order shelf shelf' VectorFault → RanTo (λ end. (id : ℕ) × (steps : ℕ) × (end ≡ vector_fault id steps)) order shelf shelf'
vector_as order shelf shelf' (inl ran) = ran_to (λ end. (id : ℕ) × (steps : ℕ) × (end ≡ vector_fault id steps)) order shelf shelf' VectorFault ran (is_vector_fault (run_made ran.image ran.events ran.run.bound_is).end ran.end)
vector_as order shelf shelf' (inr (inl ran)) = absurd (no_vector (chain_made ran.chain ran.image ran.events) ran.end)
vector_as order shelf shelf' (inr (inr ran)) = absurd (no_vector (gen_decides ran.words.number_is) ran.end)

pub vector_cause : (order : Option Order) (status : Status) (shelf shelf' : ShelfView) (sink sink' : SinkView) (bench : Bench) → FollowsWith empty_bench status (plan_of order) shelf shelf' sink sink' bench → status ≡ VectorFault → RanTo (λ end. (id : ℕ) × (steps : ℕ) × (end ≡ vector_fault id steps)) order shelf shelf'
vector_cause order status shelf shelf' sink sink' bench follows e = vector_as order shelf shelf' (order_worked order VectorFault status shelf shelf' sink sink' bench refl refl (λ c. cc) follows e)

-- ---- words that are no command

pub usage_cause : (order : Option Order) (status : Status) (shelf shelf' : ShelfView) (sink sink' : SinkView) (bench : Bench) → FollowsWith empty_bench status (plan_of order) shelf shelf' sink sink' bench → status ≡ Usage → order ≡ None
usage_cause None status shelf shelf' sink sink' bench follows e = refl
usage_cause (Some order) status shelf shelf' sink sink' bench follows e =
    absurd (never empty_bench IsWork (plan_of (Some order)) Usage status shelf shelf' sink sink' bench (order_works order) refl (λ due work. work.no_usage) follows e)

pub of_misuse : (order : Option Order) (status : Status) (shelf shelf' : ShelfView) (sink sink' : SinkView) (bench : Bench) → order ≡ None → FollowsWith empty_bench status (plan_of order) shelf shelf' sink sink' bench → Misuses status shelf shelf' sink sink'
of_misuse order status shelf shelf' sink sink' bench none follows =
    misuses usage_line empty_bench empty_bench status shelf shelf' sink sink' bench (subst (λ (o : Option Order). FollowsWith empty_bench status (plan_of o) shelf shelf' sink sink' bench) none follows)
