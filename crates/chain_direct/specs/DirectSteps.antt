-- What each step of the board is beside the machine with direct services.
use Rattle.std.specs.Prelude.{◌≡◌, suc, ◌+◌, ◌⊎◌, Bool, true, false, List, [], ◌∷◌, ◌++◌, length, Some, None, Err}
use Rattle.device_model.specs.Meanings.{Meanings}
use Rattle.hart_memory.specs.Place.{place}
use Rattle.clic_select.specs.declared.choice.Choice.{Choice}
use Rattle.hart_report.specs.declared.stepped.Stepped.TheVariants.{Interrupted, Retired, Raised}
use Rattle.hart_board.specs.State.{State}
use Rattle.hart_board.specs.Attempt.{attempt}
use Rattle.hart_board.specs.Step.{Turn, step, tried}
use Rattle.hart_board.specs.Event.{with_events}
use Rattle.hart_board.specs.declared.event.Event.{Event}
use Rattle.hart_board.specs.declared.trap.Trap.{Trap}
use Rattle.rvc_encoding.specs.declared.encoding.Encoding.{Encoding}
use Rattle.chain_moves.specs.Slot.{in_slot}
use Rattle.chain_moves.specs.Bytes.{revived_at}
use Rattle.chain_moves.specs.Machine.{Before, Within, After, Makes, Breaks}
use Rattle.chain_moves.specs.Beside.{Rest, board_of}
use Rattle.chain_moves.specs.Related.{Related}
use Rattle.chain_moves.specs.declared.broken.Broken.TheVariants.{RegisterLost, Exception}
use Rattle.chain_moves.specs.declared.dispatcher.Dispatcher.{Dispatcher}
use Rattle.chain_moves.specs.declared.moves.Move.TheVariants.{Body}
use Rattle.chain_moves.specs.declared.verdict.Verdict.TheVariants.{Refused, Plain as Quiet, Reviving}
use Rattle.chain_direct.specs.Kind.{Begin, Plain}
use Rattle.chain_direct.specs.Directed.{Direct, Directed}
use Rattle.chain_direct.specs.DirectBody.{are_same, direct_body}
use Rattle.chain_direct.specs.DirectMoves.{vectored, direct_move}
use Rattle.chain_direct.specs.DirectBeside.{direct_board_of}
use Rattle.chain_direct.specs.DirectRelated.{DirectRelated}
use Rattle.chain_direct.specs.declared.direct_verdict.DirectVerdict.{DirectVerdict}
use Rattle.chain_direct.specs.declared.direct_verdict.DirectVerdict.TheVariants.{Ends, Goes}

-- ---- a direct service begins

abbrev pub new_direct : Directed → Choice → Direct
new_direct s t = record { number = t.id; level = t.level; pc = s.chained.pc; kept = s.chained.registers }

-- the input is taken in one step, and the board stands beside the machine in which the service is live
pub record BeginsSo (m : Meanings) (es : List Event) (d : Dispatcher) (s : Directed) (x : Rest) (t : Choice) : Type 0 where
  pub steps : step m (board_of s.chained x) ≡ record { told = Interrupted s.chained.pc t.id; state = direct_board_of (vectored s t).chained (new_direct s t) x }
  pub makes : direct_move m es s ≡ Makes Begin (vectored s t)
  pub live : (vectored s t).direct ≡ Some (new_direct s t)
  pub services : (vectored s t).services ≡ s.services ++ record { direct = true; service = record { number = t.id; level = t.level; depth = suc (length s.chained.live) } } ∷ []
  pub bodies : (vectored s t).chained.bodies ≡ s.chained.bodies
  pub frames : (vectored s t).chained.live ≡ s.chained.live
  pub dead : (vectored s t).chained.dead ≡ s.chained.dead
  pub inputs : (vectored s t).chained.outside.clic.shape.inputs ≡ s.chained.outside.clic.shape.inputs
  pub related : DirectRelated m d (vectored s t).chained (new_direct s t) x

-- ---- one of its instructions

module _ (m : Meanings) (es : List Event) (d : Dispatcher) (s : Directed) (v : Direct) (x : Rest) where
  abbrev b : State
  b = direct_board_of s.chained v x

  abbrev retires : Encoding → State → Turn
  retires encoding new = record { told = Retired s.chained.pc encoding.bits encoding.length; state = new }

  -- the instruction raises, and a step that is tried leaves the board
  pub record DirectRaises : Type 0 where
    pub trap : Trap
    pub attempts : attempt m b ≡ Err trap
    pub tries : tried m b ≡ record { told = Raised s.chained.pc trap.code; state = b }
    pub breaks : direct_body m es s v ≡ Breaks Within (Exception trap.code) s.chained.bodies

  -- it retires and is made, so many bytes are dead then, and board and machine stand beside each other again
  pub record DirectGoes (dead : List Bool) : Type 0 where
    pub after : Directed
    pub encoding : Encoding
    pub new : State
    pub rest : Rest
    pub steps : step m b ≡ retires encoding new
    pub tries : tried m b ≡ retires encoding new
    pub outside : in_slot s.chained.pc ≡ false
    pub makes : direct_body m es s v ≡ Makes (Plain Body) after
    pub events : with_events m (s.chained.bodies + 1) es new ≡ direct_board_of after.chained v rest
    pub rom : rest.rom ≡ x.rom
    pub moments : rest.kept ≡ x.kept
    pub direct : after.direct ≡ s.direct
    pub services : after.services ≡ s.services
    pub live : after.chained.live ≡ s.chained.live
    pub dead_is : after.chained.dead ≡ dead
    pub bodies : after.chained.bodies ≡ s.chained.bodies + 1
    pub inputs : after.chained.outside.clic.shape.inputs ≡ s.chained.outside.clic.shape.inputs
    pub related : DirectRelated m d after.chained v rest

  abbrev pub DirectTried : List Bool → Type 0
  DirectTried dead = DirectRaises ⊎ DirectGoes dead

  -- MRET retires, and a register is lost
  pub record ReturnLoses : Type 0 where
    pub encoding : Encoding
    pub new : State
    pub steps : step m b ≡ retires encoding new
    pub tries : tried m b ≡ retires encoding new
    pub outside : in_slot s.chained.pc ≡ false
    pub lost : are_same v.kept new.registers 32 ≡ false
    pub breaks : direct_body m es s v ≡ Breaks After RegisterLost (s.chained.bodies + 1)

  -- MRET retires and is made, and the board stands beside the servicing machine again, with no direct service
  pub record ReturnGoes : Type 0 where
    pub after : Directed
    pub encoding : Encoding
    pub new : State
    pub rest : Rest
    pub steps : step m b ≡ retires encoding new
    pub tries : tried m b ≡ retires encoding new
    pub outside : in_slot s.chained.pc ≡ false
    pub same : are_same v.kept new.registers 32 ≡ true
    pub makes : direct_body m es s v ≡ Makes (Plain Body) after
    pub events : with_events m (s.chained.bodies + 1) es new ≡ board_of after.chained rest
    pub rom : rest.rom ≡ x.rom
    pub moments : rest.kept ≡ x.kept
    pub direct : after.direct ≡ None
    pub services : after.services ≡ s.services
    pub live : after.chained.live ≡ s.chained.live
    pub dead_is : after.chained.dead ≡ s.chained.dead
    pub bodies : after.chained.bodies ≡ s.chained.bodies + 1
    pub inputs : after.chained.outside.clic.shape.inputs ≡ s.chained.outside.clic.shape.inputs
    pub related : Related m d after.chained rest

  -- what a verdict says of the instruction
  abbrev pub DirectBodyMeans : DirectVerdict → Type 0
  DirectBodyMeans Ends = ReturnLoses ⊎ ReturnGoes
  DirectBodyMeans (Goes (Refused kind)) = direct_body m es s v ≡ Breaks Before kind s.chained.bodies
  DirectBodyMeans (Goes Quiet) = DirectTried s.chained.dead
  DirectBodyMeans (Goes (Reviving at width)) = DirectTried (revived_at (place at width) width s.chained.dead)
