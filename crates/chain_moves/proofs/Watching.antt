-- What is kept beside the board follows the moves of the servicing machine.
use Rattle.std.proofs.Common.{◌≡◌, ◌-◌, List, ◌∷◌, refl, sym, ap, ap₂, ◌∙◌}
use Rattle.hart_memory.specs.declared.address_map.TheConstants.{RAM_BASE}
use Rattle.clic_select.specs.declared.choice.Choice.{Choice}
use Rattle.chain_moves.specs.Servicing.{Live, Servicing, marks}
use Rattle.chain_moves.specs.Enter.{new_frame, entered}
use Rattle.chain_moves.specs.Leave.{left}
use Rattle.chain_moves.specs.Watched.{Watched, watched_of, with_service, without_service, outside_of, nothing_watched}
use Rattle.chain_moves.specs.Start.{begun}
use Rattle.chain_moves.specs.declared.mark.Mark.{Mark}
use Rattle.device_model.specs.Meanings.{Meanings}
use Rattle.hart_board.specs.State.{State}
use Rattle.hart_board.specs.declared.event.Event.{Event}
use Rattle.chain_moves.proofs.Leaves.{left_live, left_unmoved}

-- the mark of a service that begins, by the state as its handler begins
abbrev pub new_mark : Servicing → Choice → Mark
new_mark s t = record { level = t.level; frame = new_frame s; kept = (entered s t).registers }

pub begun_watched : (m : Meanings) (es : List Event) (b : State) → watched_of (begun m es b) ≡ nothing_watched
unfolding begun marks
begun_watched m es b = refl

pub entered_watched : (s : Servicing) (t : Choice) → watched_of (entered s t) ≡ with_service (watched_of s) (new_mark s t) (new_frame s - RAM_BASE)
unfolding entered marks
entered_watched s t = refl

outside_marks : (v : Live) (vs : List Live) → outside_of (marks (v ∷ vs)) ≡ marks vs
unfolding marks
outside_marks v vs = refl

pub left_watched : (s : Servicing) (v : Live) (vs : List Live) → s.live ≡ v ∷ vs → watched_of (left s v vs) ≡ without_service (watched_of s)
left_watched s v vs e =
    let live = ap marks (left_live s v vs) ∙ (sym (outside_marks v vs) ∙ ap (λ l. outside_of (marks l)) (sym e)) in
    let made : Watched = record { live = marks (left s v vs).live; dead = (left s v vs).dead } in
    ap₂ (λ l d. record made { live = l; dead = d }) live (left_unmoved s v vs).dead

-- of a Leave and the Enter straight after it
pub fused_watched : (s : Servicing) (v : Live) (vs : List Live) (t : Choice) → s.live ≡ v ∷ vs → watched_of (entered (left s v vs) t) ≡ with_service (without_service (watched_of s)) (new_mark (left s v vs) t) (new_frame (left s v vs) - RAM_BASE)
fused_watched s v vs t e = entered_watched (left s v vs) t ∙ ap (λ w. with_service w (new_mark (left s v vs) t) (new_frame (left s v vs) - RAM_BASE)) (left_watched s v vs e)
