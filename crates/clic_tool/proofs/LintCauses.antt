-- What a status says of the static checker's answer.
use Rattle.std.proofs.Common.{◌≡◌, ◌∙◌, ◌⊎◌, Option, Some, None, codes, refl, sym, ap, subst, inl, inr}
use Rattle.clap.specs.Words.{Text}
use Rattle.board_outside.specs.Shelf.{ShelfView}
use Rattle.board_outside.specs.Sink.{SinkView}
use Rattle.hart_memory.specs.Image.{ImageView}
use Rattle.hart_board.specs.declared.run_end.RunEnd.{RunEnd}
use Rattle.hart_board.specs.declared.run_end.RunEnd.TheVariants.{Halted, BudgetSpent as run_spent, VectorFault as vector_fault, SinkFailed as run_sink}
use Rattle.chain_core.specs.declared.chain_end.ChainEnd.{ChainEnd}
use Rattle.chain_core.specs.declared.chain_end.ChainEnd.TheVariants.{Done as done, BudgetSpent as chain_spent, Broken as broken, SinkFailed as chain_sink}
use Rattle.chain_flow.specs.declared.verdict.Verdict.{Verdict}
use Rattle.chain_lint.specs.declared.table_bound.TableBound.{TableBound}
use Rattle.tool_frame.specs.Due.{Due, Outcome}
use Rattle.tool_frame.specs.Plan.{Makes, reads}
use Rattle.tool_frame.specs.Answers.{Passes, FollowsWith}
use Rattle.tool_frame.specs.Code.{OfCommand, origin_of}
use Rattle.tool_frame.specs.declared.status.Status.{Status}
use Rattle.tool_frame.specs.declared.status.Status.TheVariants.{Done, Usage, Rejected}
use Rattle.tool_frame.proofs.Fits.{IsAtOnce}
use Rattle.tool_frame.proofs.Causes.{settled_own, never, passed_on}
use Rattle.tool_work.specs.declared.bench.Bench.{Bench}
use Rattle.tool_work.specs.Bench.{empty_bench}
use Rattle.tool_work.specs.Files.{image_limit, image_read, image_stage}
use Rattle.tool_work.specs.Run.{run_made, run_plan, status_of as run_status}
use Rattle.tool_work.specs.Chain.{chain_made, chain_plan, status_of as chain_status}
use Rattle.tool_work.specs.Monitor.{monitor_plan}
use Rattle.tool_work.specs.Assemble.{assemble_plan}
use Rattle.tool_work.specs.Disassemble.{disassemble_plan}
use Rattle.tool_work.specs.Mem.{mem_plan}
use Rattle.tool_work.specs.Unmem.{unmem_plan}
use Rattle.tool_words.specs.Lint.{LintWords}
use Rattle.tool_work.specs.Lint.{lint_made, lint_due, lint_plan, status_of as verdict_status}
use Rattle.tool_words.specs.Bound.{BoundWords}
use Rattle.tool_work.specs.Bound.{bound_made, bound_due, bound_plan, status_of as bound_status}
use Rattle.tool_work.specs.Gen.{gen_decides, gen_plan}
use Rattle.tool_words.specs.Order.{Order, Runs, Chains, Monitors, Gens, Assembles, Disassembles, Mems, Unmems, Lints, Bounds}
use Rattle.clic_tool.specs.Plan.{plan_of}
use Rattle.clic_tool.specs.LintCauses.{LintedTo, BoundTo, IsYes, IsNo, IsBounded, IsRefused}
use Rattle.clic_tool.proofs.RunCauses.{run_ran}
use Rattle.clic_tool.proofs.GenCauses.{gen_ran}
use Rattle.clic_tool.proofs.ChainCauses.{chain_ran}
use Rattle.clic_tool.proofs.Plans.{monitor_fits, assemble_fits, disassemble_fits, mem_fits, unmem_fits}
use Rattle.clic_tool.proofs.Verdicts.{is_yes, is_no, is_bounded, is_refused}

-- ---- an image that is read, and what is due of it

-- the image was given and passed, and what is due of it has that status
record ImagePassed (name : Text) (due : ImageView → Due) (s : Status) (shelf shelf' : ShelfView) : Type 0 where
  image : ImageView
  passed : Passes name image_limit image_stage shelf shelf' image
  status_is : (due image).status ≡ s

image_passed : (name : Text) (due : ImageView → Due) (s status : Status) (shelf shelf' : ShelfView) (sink sink' : SinkView) (bench : Bench) → origin_of s ≡ OfCommand
    → FollowsWith empty_bench status (reads (codes "image") image_limit image_read name (λ image. Makes (due image) empty_bench)) shelf shelf' sink sink' bench → status ≡ s → ImagePassed name due s shelf shelf'
image_passed name due s status shelf shelf' sink sink' bench own follows e =
    let next = λ (image : ImageView). Makes (due image) empty_bench in
    let all = settled_own empty_bench (reads (codes "image") image_limit image_read name next) s status shelf shelf' sink sink' bench own follows e in
    let on = passed_on name image_limit image_stage next shelf shelf' all.outcome all.reached (ap origin_of all.due_status ∙ own) in
    record {
      image = on.value;
      passed = subst (λ (t : ShelfView). Passes name image_limit image_stage shelf t on.value) (sym on.rest.0) on.passes;
      status_is = sym (ap (λ (o : Outcome Bench). o.due.status) on.rest.1) ∙ all.due_status;
    }

-- ---- a verdict, and a bound

linted : (Answered : Verdict → Type 0) (words : LintWords) (s status : Status) (shelf shelf' : ShelfView) (sink sink' : SinkView) (bench : Bench) → origin_of s ≡ OfCommand → ((v : Verdict) → verdict_status v ≡ s → Answered v)
    → FollowsWith empty_bench status (lint_plan words) shelf shelf' sink sink' bench → status ≡ s → LintedTo Answered (Some (Lints words)) shelf shelf'
linted Answered words s status shelf shelf' sink sink' bench own so follows e =
    let p = image_passed words.image_name (lint_due words) s status shelf shelf' sink sink' bench own follows e in
    record { words = words; is_lint = refl; image = p.image; passed = p.passed; answer = so (lint_made words p.image) p.status_is }

bounded : (Answered : TableBound → Type 0) (words : BoundWords) (s status : Status) (shelf shelf' : ShelfView) (sink sink' : SinkView) (bench : Bench) → origin_of s ≡ OfCommand → ((b : TableBound) → bound_status b ≡ s → Answered b)
    → FollowsWith empty_bench status (bound_plan words) shelf shelf' sink sink' bench → status ≡ s → BoundTo Answered (Some (Bounds words)) shelf shelf'
bounded Answered words s status shelf shelf' sink sink' bench own so follows e =
    let p = image_passed words.image_name (bound_due words) s status shelf shelf' sink sink' bench own follows e in
    record { words = words; is_bound = refl; image = p.image; passed = p.passed; answer = so (bound_made words p.image) p.status_is }

-- a handler that is accepted
pub linted_cause : (order : Option Order) (status : Status) (shelf shelf' : ShelfView) (sink sink' : SinkView) (bench : Bench) → FollowsWith empty_bench status (plan_of order) shelf shelf' sink sink' bench → (words : LintWords) → order ≡ Some (Lints words) → status ≡ Done → LintedTo IsYes order shelf shelf'
linted_cause order status shelf shelf' sink sink' bench follows words is e =
    let made = subst (λ (o : Option Order). FollowsWith empty_bench status (plan_of o) shelf shelf' sink sink' bench) is follows in
    subst (λ (o : Option Order). LintedTo IsYes o shelf shelf') (sym is) (linted IsYes words Done status shelf shelf' sink sink' bench refl is_yes made e)

-- handlers that have a bound
pub bounded_cause : (order : Option Order) (status : Status) (shelf shelf' : ShelfView) (sink sink' : SinkView) (bench : Bench) → FollowsWith empty_bench status (plan_of order) shelf shelf' sink sink' bench → (words : BoundWords) → order ≡ Some (Bounds words) → status ≡ Done → BoundTo IsBounded order shelf shelf'
bounded_cause order status shelf shelf' sink sink' bench follows words is e =
    let made = subst (λ (o : Option Order). FollowsWith empty_bench status (plan_of o) shelf shelf' sink sink' bench) is follows in
    subst (λ (o : Option Order). BoundTo IsBounded o shelf shelf') (sym is) (bounded IsBounded words Done status shelf shelf' sink sink' bench refl is_bounded made e)

-- ---- what is rejected

run_no_rejected : (end : RunEnd) → run_status end ≡ Rejected → ⊥
run_no_rejected (Halted code steps) e = cc
run_no_rejected run_spent e = cc
run_no_rejected (vector_fault id steps) e = cc
run_no_rejected run_sink e = cc

chain_no_rejected : (end : ChainEnd) → chain_status end ≡ Rejected → ⊥
chain_no_rejected (done steps bodies services) e = cc
chain_no_rejected chain_spent e = cc
chain_no_rejected (broken kind bodies) e = cc
chain_no_rejected chain_sink e = cc

done_no_rejected : (due : Due) → due.status ≡ Done → due.status ≡ Rejected → ⊥
done_no_rejected due is e = let bad : Done ≡ Rejected = sym is ∙ e in cc

usage_no_rejected : (due : Due) → due.status ≡ Usage → due.status ≡ Rejected → ⊥
usage_no_rejected due is e = let bad : Usage ≡ Rejected = sym is ∙ e in cc

made_no_rejected : (due : Due) → IsAtOnce (λ s. s ≡ Done) due → due.status ≡ Rejected → ⊥
made_no_rejected due made e = done_no_rejected due made.status e

abbrev IsRejection : Option Order → ShelfView → ShelfView → Type 0
IsRejection order shelf shelf' = LintedTo IsNo order shelf shelf' ⊎ BoundTo IsRefused order shelf shelf'

pub rejected_cause : (order : Option Order) (status : Status) (shelf shelf' : ShelfView) (sink sink' : SinkView) (bench : Bench) → FollowsWith empty_bench status (plan_of order) shelf shelf' sink sink' bench → status ≡ Rejected → IsRejection order shelf shelf'
rejected_cause None status shelf shelf' sink sink' bench follows e =
    absurd (never empty_bench (λ due. due.status ≡ Usage) (plan_of None) Rejected status shelf shelf' sink sink' bench refl refl usage_no_rejected follows e)
rejected_cause (Some (Runs run)) status shelf shelf' sink sink' bench follows e =
    let all = settled_own empty_bench (run_plan run) Rejected status shelf shelf' sink sink' bench refl follows e in
    let ran = run_ran run shelf shelf' all.outcome Rejected all.reached all.due_status refl in
    absurd (run_no_rejected (run_made ran.image ran.events ran.run.bound_is).end ran.end)
rejected_cause (Some (Chains chain)) status shelf shelf' sink sink' bench follows e =
    let all = settled_own empty_bench (chain_plan chain) Rejected status shelf shelf' sink sink' bench refl follows e in
    let ran = chain_ran chain shelf shelf' all.outcome Rejected all.reached all.due_status refl in
    absurd (chain_no_rejected (chain_made ran.chain ran.image ran.events) ran.end)
rejected_cause (Some (Monitors words)) status shelf shelf' sink sink' bench follows e =
    absurd (never empty_bench (λ due. due.status ≡ Done) (monitor_plan words) Rejected status shelf shelf' sink sink' bench (monitor_fits words) refl done_no_rejected follows e)
rejected_cause (Some (Gens words)) status shelf shelf' sink sink' bench follows e =
    let all = settled_own empty_bench (gen_plan words) Rejected status shelf shelf' sink sink' bench refl follows e in
    let ran = gen_ran words shelf shelf' all.outcome Rejected all.reached all.due_status in
    absurd (chain_no_rejected (gen_decides ran.words.number_is) ran.end)
rejected_cause (Some (Assembles words)) status shelf shelf' sink sink' bench follows e =
    absurd (never empty_bench (IsAtOnce (λ s. s ≡ Done)) (assemble_plan words) Rejected status shelf shelf' sink sink' bench (assemble_fits words) refl made_no_rejected follows e)
rejected_cause (Some (Disassembles words)) status shelf shelf' sink sink' bench follows e =
    absurd (never empty_bench (IsAtOnce (λ s. s ≡ Done)) (disassemble_plan words) Rejected status shelf shelf' sink sink' bench (disassemble_fits words) refl made_no_rejected follows e)
rejected_cause (Some (Mems words)) status shelf shelf' sink sink' bench follows e =
    absurd (never empty_bench (IsAtOnce (λ s. s ≡ Done)) (mem_plan words) Rejected status shelf shelf' sink sink' bench (mem_fits words) refl made_no_rejected follows e)
rejected_cause (Some (Unmems words)) status shelf shelf' sink sink' bench follows e =
    absurd (never empty_bench (IsAtOnce (λ s. s ≡ Done)) (unmem_plan words) Rejected status shelf shelf' sink sink' bench (unmem_fits words) refl made_no_rejected follows e)
rejected_cause (Some (Lints words)) status shelf shelf' sink sink' bench follows e = inl (linted IsNo words Rejected status shelf shelf' sink sink' bench refl is_no follows e)
rejected_cause (Some (Bounds words)) status shelf shelf' sink sink' bench follows e = inr (bounded IsRefused words Rejected status shelf shelf' sink sink' bench refl is_refused follows e)
