-- An image that is read, and then a scenario.
use Rattle.std.proofs.Common.{◌≡◌, codes}
use Rattle.clap.specs.Words.{Text}
use Rattle.board_outside.specs.Shelf.{ShelfView}
use Rattle.hart_memory.specs.Image.{ImageView}
use Rattle.hart_board.specs.Event.{EventList}
use Rattle.tool_frame.specs.Due.{Due, Outcome}
use Rattle.tool_frame.specs.Plan.{Plan}
use Rattle.tool_frame.specs.Code.{OfCommand, origin_of}
use Rattle.tool_frame.specs.Answers.{Reaches}
use Rattle.tool_frame.proofs.Fits.{Fits, fits_reads}
use Rattle.tool_frame.proofs.Causes.{passed_on}
use Rattle.tool_work.specs.Files.{image_limit, image_read, image_stage, scenario_limit, scenario_read, scenario_stage, scenario_plan, files_plan, PassesFiles}

pub files_fit : {B : Type 0} (P : Due → Type 0) (image_name scenario_name : Text) (next : ImageView → EventList → Plan B) → ((image : ImageView) (events : EventList) → Fits P (next image events)) → Fits P (files_plan image_name scenario_name next)
files_fit P image_name scenario_name next all =
    fits_reads P (codes "image") image_limit image_read image_name (λ image. scenario_plan scenario_name (next image)) (λ image.
    fits_reads P (codes "scenario") scenario_limit scenario_read scenario_name (next image) (all image))

-- both passed, where the work was done
pub record BothPassed {B : Type 0} (image_name scenario_name : Text) (next : ImageView → EventList → Plan B) (shelf shelf' : ShelfView) (outcome : Outcome B) : Type 0 where
  pub image : ImageView
  pub events : EventList
  pub last : ShelfView
  pub files : PassesFiles image_name scenario_name shelf last image events
  pub rest : Reaches (next image events) last shelf' outcome

pub both_passed : {B : Type 0} (image_name scenario_name : Text) (next : ImageView → EventList → Plan B) (shelf shelf' : ShelfView) (outcome : Outcome B) → Reaches (files_plan image_name scenario_name next) shelf shelf' outcome
    → origin_of outcome.due.status ≡ OfCommand → BothPassed image_name scenario_name next shelf shelf' outcome
both_passed image_name scenario_name next shelf shelf' outcome reached own =
    let first = passed_on image_name image_limit image_stage (λ image. scenario_plan scenario_name (next image)) shelf shelf' outcome reached own in
    let second = passed_on scenario_name scenario_limit scenario_stage (next first.value) first.between shelf' outcome first.rest own in
    record {
      image = first.value;
      events = second.value;
      last = second.between;
      files = record { between = first.between; image_passed = first.passes; scenario_passed = second.passes };
      rest = second.rest;
    }
