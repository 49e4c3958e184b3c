-- Chains of `gen` that were made.
use Rattle.std.proofs.Common.{◌≡◌, ◌∙◌, ℕ, Option, Some, refl, sym, ap, subst}
use Rattle.board_outside.specs.Shelf.{ShelfView}
use Rattle.board_outside.specs.Sink.{SinkView}
use Rattle.chain_moves.specs.declared.dispatcher.Dispatcher.TheVariants.{Looping, Returning}
use Rattle.chain_core.specs.declared.chain_end.ChainEnd.{ChainEnd}
use Rattle.chain_core.specs.declared.chain_end.ChainEnd.TheVariants.{Done as done, BudgetSpent as budget_spent, SinkFailed as sink_failed, Broken as broken}
use Rattle.tool_frame.specs.Due.{Outcome}
use Rattle.tool_frame.specs.Answers.{Reaches, FollowsWith}
use Rattle.tool_frame.specs.declared.status.Status.{Status}
use Rattle.tool_frame.specs.declared.status.Status.TheVariants.{Done}
use Rattle.tool_frame.proofs.Causes.{settled_own}
use Rattle.tool_work.specs.declared.bench.Bench.{Bench}
use Rattle.tool_work.specs.Bench.{empty_bench}
use Rattle.tool_work.specs.Chain.{status_of}
use Rattle.tool_words.specs.Gen.{GenWords}
use Rattle.tool_work.specs.Gen.{gen_end, deciding, gen_decides, gen_plan}
use Rattle.tool_words.specs.Order.{Order, Gens}
use Rattle.clic_tool.specs.Plan.{plan_of}
use Rattle.clic_tool.specs.GenCauses.{GeneratedTo, AreDone}
use Rattle.tool_work.proofs.ChainEnds.{is_done}

-- the chains were made, and the status is that of the first that isn't done
pub record GeneratedSo (order : Option Order) (s : Status) : Type 0 where
  pub words : GenWords
  pub is_gen : order ≡ Some (Gens words)
  pub end : status_of (gen_decides words.number_is) ≡ s

pub gen_ran : (words : GenWords) (shelf shelf' : ShelfView) (outcome : Outcome Bench) (s : Status) → Reaches (gen_plan words) shelf shelf' outcome → outcome.due.status ≡ s → GeneratedSo (Some (Gens words)) s
gen_ran words shelf shelf' outcome s reached e = record { words = words; is_gen = refl; end = sym (ap (λ (o : Outcome Bench). o.due.status) reached.1) ∙ e }

pub generated_to : (ended : ChainEnd → Type 0) (order : Option Order) (s : Status) (ran : GeneratedSo order s) → ended (gen_decides ran.words.number_is) → GeneratedTo ended order
generated_to ended order s ran e = record { words = ran.words; is_gen = ran.is_gen; end = e }

-- where the status says so, both are done
both_done : (n : ℕ) (first second : ChainEnd) → gen_end Looping n ≡ first → gen_end Returning n ≡ second → status_of (deciding first second) ≡ Done → AreDone n
both_done n (done steps bodies services) second one other e =
    let d = is_done second e in
    record { looping = (steps, bodies, services, one); returning = (d.0, d.1, d.2, other ∙ d.3) }
both_done n budget_spent second one other e = cc
both_done n (broken kind bodies) second one other e = cc
both_done n sink_failed second one other e = cc

are_done : (n : ℕ) → status_of (gen_decides n) ≡ Done → AreDone n
are_done n e = both_done n (gen_end Looping n) (gen_end Returning n) refl refl e

-- chains that are both done
pub generated_cause : (order : Option Order) (status : Status) (shelf shelf' : ShelfView) (sink sink' : SinkView) (bench : Bench) → FollowsWith empty_bench status (plan_of order) shelf shelf' sink sink' bench → (words : GenWords) → order ≡ Some (Gens words) → status ≡ Done → AreDone words.number_is
generated_cause order status shelf shelf' sink sink' bench follows words is e =
    let made = subst (λ (o : Option Order). FollowsWith empty_bench status (plan_of o) shelf shelf' sink sink' bench) is follows in
    let all = settled_own empty_bench (gen_plan words) Done status shelf shelf' sink sink' bench refl made e in
    are_done words.number_is (sym (ap (λ (o : Outcome Bench). o.due.status) all.reached.1) ∙ all.due_status)
