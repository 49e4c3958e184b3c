-- What was written of a script where memory was wanting.
use Rattle.std.proofs.Common.{◌≡◌, ◌∙◌, ◌⊎◌, ℕ, List, [], true, Option, Some, None, IsSome, Result, Ok, Err, refl, sym, subst, inl, inr}
use Rattle.board_outside.specs.Shelf.{ShelfView}
use Rattle.board_outside.specs.Sink.{SinkView, Writes}
use Rattle.board_outside.specs.declared.shelf.ShelfFault.{ShelfFault}
use Rattle.board_outside.specs.declared.shelf.ShelfFault.TheVariants.{Absent as absent, Failed as failed, Memory as memory}
use Rattle.hart_memory.specs.Image.{ImageView}
use Rattle.hart_monitor.specs.declared.command.Command.{Command}
use Rattle.tool_frame.specs.Due.{Outcome, worked, stopped, refused_due, fault_due}
use Rattle.tool_frame.specs.Plan.{Plan, Makes, Asks, go_on}
use Rattle.tool_frame.specs.Answers.{EndsAs, Passes, Reaches, FollowsWith}
use Rattle.tool_frame.specs.declared.status.Status.{Status}
use Rattle.tool_frame.specs.declared.status.Status.TheVariants.{Done, SinkFailed, Memory}
use Rattle.tool_frame.proofs.Causes.{Passed}
use Rattle.tool_work.specs.declared.bench.Bench.{Bench}
use Rattle.tool_work.specs.Bench.{empty_bench}
use Rattle.tool_work.specs.Files.{image_limit, image_stage, script_limit, script_stage}
use Rattle.tool_words.specs.Monitor.{MonitorWords}
use Rattle.tool_work.specs.Monitor.{monitor_due, script_plan, monitor_plan}
use Rattle.tool_words.specs.Order.{Order, Monitors}
use Rattle.clic_tool.specs.Plan.{plan_of}
use Rattle.clic_tool.specs.MonitorCauses.{WritesSome, WantsInScript}

-- the command stopped before its work
record IsEarly (outcome : Outcome Bench) : Type 0 where
  none_left : outcome.left ≡ None
  silent : outcome.due.status ≡ Memory → outcome.due.text ≡ []

early_by : (o outcome : Outcome Bench) → outcome ≡ o → IsEarly o → IsEarly outcome
early_by o outcome e early = subst IsEarly (sym e) early

fault_early : (name : List ℕ) (fault : ShelfFault) → IsEarly (stopped (fault_due name fault))
fault_early name absent = record { none_left = refl; silent = λ c. cc }
fault_early name failed = record { none_left = refl; silent = λ c. cc }
fault_early name memory = record { none_left = refl; silent = λ c. refl }

goes_on : {A : Type 0} (read : Result A (List ℕ)) (next : A → Plan Bench) (shelf shelf' : ShelfView) (outcome : Outcome Bench) → Reaches (go_on read next) shelf shelf' outcome
    → IsEarly outcome ⊎ ((x : A) × (read ≡ Ok x) × Reaches (next x) shelf shelf' outcome)
goes_on (Ok x) next shelf shelf' outcome reached = inr (x, refl, reached)
goes_on (Err line) next shelf shelf' outcome reached = inl (early_by (stopped (refused_due line)) outcome reached.1 (record { none_left = refl; silent = λ c. cc }))

-- a file stopped the command, or passed
passed_or_early : {A : Type 0} (name : List ℕ) (limit : ℕ) (stage : List ℕ → Result A (List ℕ)) (next : A → Plan Bench) (shelf shelf' : ShelfView) (outcome : Outcome Bench)
    → Reaches (Asks name limit (λ bytes. go_on (stage bytes) next)) shelf shelf' outcome → IsEarly outcome ⊎ Passed name limit stage next shelf shelf' outcome
passed_or_early name limit stage next shelf shelf' outcome (inl u) = inl (early_by _ outcome u.outcome_is (fault_early name u.fault))
passed_or_early name limit stage next shelf shelf' outcome (inr on) = elim (goes_on (stage on.bytes) next on.between shelf' outcome on.after) [
  | inl early ↦ inl early
  | inr rest ↦ inr (record { value = rest.0; between = on.between; passes = record { bytes = on.bytes; fetch = on.fetch; passed = rest.1 }; rest = rest.2 })
]

early_silent : (status : Status) (sink sink' : SinkView) (outcome : Outcome Bench) → IsEarly outcome → EndsAs status sink sink' outcome → status ≡ Memory → Writes true sink sink' []
early_silent status sink sink' outcome early (inl (inl h)) e = subst (λ (t : List ℕ). Writes true sink sink' t) (early.silent (sym h.0 ∙ e)) h.1
early_silent status sink sink' outcome early (inl (inr h)) e = let c = sym e ∙ h.0 in cc
early_silent status sink sink' outcome early (inr h) e = let none : IsSome {T = Bench} None = subst (λ (o : Option Bench). IsSome o) early.none_left h.0 in cc

work_front : (words : MonitorWords) (image : ImageView) (commands : List Command) (status : Status) (shelf between shelf' : ShelfView) (sink sink' : SinkView) → Passes words.image_name image_limit image_stage shelf between image
    → Passes words.script_name script_limit script_stage between shelf' commands → EndsAs status sink sink' (worked (monitor_due image commands) empty_bench) → status ≡ Memory → WritesSome words shelf shelf' sink sink'
work_front words image commands status shelf between shelf' sink sink' image_passed script_passed (inl (inl h)) e = let c : Memory ≡ Done = sym e ∙ h.0 in cc
work_front words image commands status shelf between shelf' sink sink' image_passed script_passed (inl (inr h)) e = let c : Memory ≡ SinkFailed = sym e ∙ h.0 in cc
work_front words image commands status shelf between shelf' sink sink' image_passed script_passed (inr h) e =
    record { between = between; image = image; commands = commands; image_passed = image_passed; script_passed = script_passed; count = h.1.1.0; front = h.1.1.1 }

script_memory : (words : MonitorWords) (image : ImageView) (status : Status) (shelf between shelf' : ShelfView) (sink sink' : SinkView) (outcome : Outcome Bench) → Passes words.image_name image_limit image_stage shelf between image
    → Reaches (script_plan words.script_name image) between shelf' outcome → EndsAs status sink sink' outcome → status ≡ Memory → WantsInScript words shelf shelf' sink sink'
script_memory words image status shelf between shelf' sink sink' outcome image_passed reached ends e =
    elim (passed_or_early words.script_name script_limit script_stage (λ commands. Makes (monitor_due image commands) empty_bench) between shelf' outcome reached) [
      | inl early ↦ inl (early_silent status sink sink' outcome early ends e)
      | inr p ↦ inr (work_front words image p.value status shelf between shelf' sink sink' image_passed
          (subst (λ (t : ShelfView). Passes words.script_name script_limit script_stage between t p.value) (sym p.rest.0) p.passes)
          (subst (λ (o : Outcome Bench). EndsAs status sink sink' o) p.rest.1 ends) e)
    ]

plan_memory : (words : MonitorWords) (status : Status) (shelf shelf' : ShelfView) (sink sink' : SinkView) (bench : Bench) → FollowsWith empty_bench status (monitor_plan words) shelf shelf' sink sink' bench → status ≡ Memory → WantsInScript words shelf shelf' sink sink'
plan_memory words status shelf shelf' sink sink' bench (inl does) e =
    elim (passed_or_early words.image_name image_limit image_stage (script_plan words.script_name) shelf shelf' does.outcome does.reached) [
      | inl early ↦ inl (early_silent status sink sink' does.outcome early does.ends e)
      | inr p ↦ script_memory words p.value status shelf p.between shelf' sink sink' does.outcome p.passes p.rest does.ends e
    ]
plan_memory words status shelf shelf' sink sink' bench (inr stops) e = inl stops.lacks.silent

pub monitor_memory : (order : Option Order) (status : Status) (shelf shelf' : ShelfView) (sink sink' : SinkView) (bench : Bench) → FollowsWith empty_bench status (plan_of order) shelf shelf' sink sink' bench
    → (words : MonitorWords) → order ≡ Some (Monitors words) → status ≡ Memory → WantsInScript words shelf shelf' sink sink'
monitor_memory order status shelf shelf' sink sink' bench follows words is e =
    plan_memory words status shelf shelf' sink sink' bench (subst (λ (o : Option Order). FollowsWith empty_bench status (plan_of o) shelf shelf' sink sink' bench) is follows) e
