-- A chain that was made.
use Rattle.std.proofs.Common.{◌≡◌, ◌∙◌, Option, Some, None, refl, sym, ap, subst}
use Rattle.board_outside.specs.Shelf.{ShelfView}
use Rattle.hart_memory.specs.Image.{ImageView}
use Rattle.hart_board.specs.Event.{EventList}
use Rattle.tool_frame.specs.Due.{Outcome}
use Rattle.tool_frame.specs.Plan.{Makes}
use Rattle.tool_frame.specs.Answers.{Reaches}
use Rattle.tool_frame.specs.Code.{OfCommand, origin_of}
use Rattle.tool_frame.specs.declared.status.Status.{Status}
use Rattle.tool_work.specs.declared.bench.Bench.{Bench}
use Rattle.tool_words.specs.Chain.{ChainWords}
use Rattle.tool_work.specs.Chain.{taken_at, slot_plan, chain_due, chain_left, chain_made, status_of, chain_plan}
use Rattle.tool_words.specs.Order.{Order, Chains}
use Rattle.tool_work.specs.Files.{PassesFiles}
use Rattle.tool_work.proofs.TwoFiles.{both_passed}
use Rattle.tool_work.proofs.ChainEnds.{is_free}

-- the chain was made, and ended with that status
pub record ChainedSo (order : Option Order) (shelf shelf' : ShelfView) (s : Status) : Type 0 where
  pub chain : ChainWords
  pub is_chain : order ≡ Some (Chains chain)
  pub image : ImageView
  pub events : EventList
  pub files : PassesFiles chain.image_name chain.scenario_name shelf shelf' image events
  pub free : taken_at image ≡ None
  pub end : status_of (chain_made chain image events) ≡ s

pub chain_ran : (chain : ChainWords) (shelf shelf' : ShelfView) (outcome : Outcome Bench) (s : Status) → Reaches (chain_plan chain) shelf shelf' outcome → outcome.due.status ≡ s → origin_of s ≡ OfCommand → ChainedSo (Some (Chains chain)) shelf shelf' s
chain_ran chain shelf shelf' outcome s reached e own =
    let passed = both_passed chain.image_name chain.scenario_name (λ image events. slot_plan chain image events) shelf shelf' outcome reached (ap origin_of e ∙ own) in
    let there = is_free (taken_at passed.image) (Makes (chain_due chain passed.image passed.events) (chain_left chain passed.image passed.events)) passed.last shelf' outcome passed.rest (ap origin_of e ∙ own) in
    record {
      chain = chain;
      is_chain = refl;
      image = passed.image;
      events = passed.events;
      files = subst (λ (t : ShelfView). PassesFiles chain.image_name chain.scenario_name shelf t passed.image passed.events) (sym there.rest.0) passed.files;
      free = there.free;
      end = sym (ap (λ (o : Outcome Bench). o.due.status) there.rest.1) ∙ e;
    }
