-- A body in the board's own run: its count rises, and no service is read off it.
use Rattle.std.proofs.Common.{◌≡◌, Bool, List, ap₂}
use Rattle.device_model.specs.Meanings.{Meanings}
use Rattle.hart_board.specs.declared.event.Event.{Event}
use Rattle.chain_moves.specs.Servicing.{Servicing, marks}
use Rattle.chain_moves.specs.Beside.{Rest}
use Rattle.chain_moves.specs.Watched.{watched_of}
use Rattle.chain_moves.specs.declared.dispatcher.Dispatcher.{Dispatcher}
use Rattle.chain_moves.proofs.Bodies.{Done}

module _ (m : Meanings) (es : List Event) (s : Servicing) (d : Dispatcher) (x : Rest) where
  -- what is kept beside the board after a body
  pub body_watched : (dead : List Bool) (k : Done m es s d x dead) → watched_of k.after ≡ record { live = marks s.live; dead = dead }
  body_watched dead k = ap₂ (λ l b. record { live = marks l; dead = b }) k.goes.live k.dead_is
