-- A run that was made.
use Rattle.std.proofs.Common.{◌≡◌, ◌∙◌, Option, Some, refl, sym, ap, subst}
use Rattle.board_outside.specs.Shelf.{ShelfView}
use Rattle.hart_memory.specs.Image.{ImageView}
use Rattle.hart_board.specs.Event.{EventList}
use Rattle.tool_frame.specs.Due.{Outcome}
use Rattle.tool_frame.specs.Plan.{Makes}
use Rattle.tool_frame.specs.Answers.{Reaches}
use Rattle.tool_frame.specs.Code.{OfCommand, origin_of}
use Rattle.tool_frame.specs.declared.status.Status.{Status}
use Rattle.tool_work.specs.declared.bench.Bench.{Bench}
use Rattle.tool_work.specs.Bench.{empty_bench}
use Rattle.tool_words.specs.Run.{RunWords}
use Rattle.tool_work.specs.Run.{run_due, run_made, status_of, run_plan}
use Rattle.tool_words.specs.Order.{Order, Runs}
use Rattle.tool_work.specs.Files.{PassesFiles}
use Rattle.tool_work.proofs.TwoFiles.{both_passed}

-- the run was made, and ended with that status
pub record RanSo (order : Option Order) (shelf shelf' : ShelfView) (s : Status) : Type 0 where
  pub run : RunWords
  pub is_run : order ≡ Some (Runs run)
  pub image : ImageView
  pub events : EventList
  pub files : PassesFiles run.image_name run.scenario_name shelf shelf' image events
  pub end : status_of (run_made image events run.bound_is).end ≡ s

pub run_ran : (run : RunWords) (shelf shelf' : ShelfView) (outcome : Outcome Bench) (s : Status) → Reaches (run_plan run) shelf shelf' outcome → outcome.due.status ≡ s → origin_of s ≡ OfCommand → RanSo (Some (Runs run)) shelf shelf' s
run_ran run shelf shelf' outcome s reached e own =
    let passed = both_passed run.image_name run.scenario_name (λ image events. Makes (run_due run image events) empty_bench) shelf shelf' outcome reached (ap origin_of e ∙ own) in
    record {
      run = run;
      is_run = refl;
      image = passed.image;
      events = passed.events;
      files = subst (λ (t : ShelfView). PassesFiles run.image_name run.scenario_name shelf t passed.image passed.events) (sym passed.rest.0) passed.files;
      end = sym (ap (λ (o : Outcome Bench). o.due.status) passed.rest.1) ∙ e;
    }
