-- The chains of one image and its events agree under both dispatchers.
use Rattle.std.proofs.Common.{◌≡◌, ℕ, ◌+◌, ◌-◌, ◌≤◌, Bool, true, false, List, ◌++◌, length, take, drop, sym, ap, subst, arith, length-take, length-drop, length-append}
use Rattle.device_model.specs.Meanings.{Meanings}
use Rattle.hart_memory.specs.declared.address_map.TheConstants.{BANK_LEN}
use Rattle.hart_memory.specs.Image.{ImageView}
use Rattle.hart_board.specs.State.{State}
use Rattle.hart_board.specs.Event.{EventList}
use Rattle.hart_board.specs.declared.event.Event.{Event}
use Rattle.board_inputs.specs.ImageLoading.{loaded}
use Rattle.chain_moves.specs.Slot.{base, slot_end}
use Rattle.chain_moves.specs.Start.{with_slot, slot_bytes, first_scratch}
use Rattle.chain_moves.specs.declared.dispatcher.Dispatcher.{Dispatcher}
use Rattle.chain_moves.specs.declared.dispatcher.Dispatcher.TheVariants.{Looping, Returning}
use Rattle.chain_moves.proofs.Starts.{slot_twice}
use Rattle.chain_moves.proofs.SlotBytes.{length-slot_bytes}
use Rattle.chain_core.specs.Both.{with_slot_bytes, Starts, BothAgree}
use Rattle.chain_core.specs.Chain.{chain_end}
use Rattle.chain_core.specs.declared.ended.Ended.{Ended}
use Rattle.chain_core.specs.declared.chain_end.ChainEnd.{ChainEnd}
use Rattle.chain_core.specs.declared.chain_end.ChainEnd.TheVariants.{Done}
use Rattle.chain_core.proofs.OtherSlot.{starts_other}
use Rattle.chain_direct.specs.DirectBoth.{BothDirectAgree}
use Rattle.chain_direct.specs.DirectText.{direct_end}
use Rattle.tool_work.specs.Shipped.{shipped_board}
use Rattle.tool_work.specs.Chain.{chain_board, DoAgree}

-- memory reaches beyond the slot, since it is whole with the slot's bytes
pub beyond : (rom bytes : List ℕ) → length bytes ≡ slot_end - base → length (with_slot bytes rom) ≡ BANK_LEN → slot_end ≤ length rom
unfolding with_slot
beyond rom bytes n whole =
    let one : length (take base rom ++ (bytes ++ drop slot_end rom)) ≡ length (take base rom) + length (bytes ++ drop slot_end rom) = length-append (take base rom) (bytes ++ drop slot_end rom) in
    let two : length (bytes ++ drop slot_end rom) ≡ length bytes + length (drop slot_end rom) = length-append bytes (drop slot_end rom) in
    omega (arith, one, two, n, whole, length-take base rom, length-drop slot_end rom)

-- the boards of two dispatchers differ in the slot alone
other_board : (d e : Dispatcher) (image : ImageView) (events : EventList) → slot_end ≤ length (loaded image (shipped_board events.shape)).memory.rom → chain_board e image events ≡ with_slot_bytes (slot_bytes e) (chain_board d image events)
other_board d e image events room =
    let s = loaded image (shipped_board events.shape) in
    ap (λ (rom : List ℕ). record s { csrs = record s.csrs { mscratch = first_scratch }; memory = record s.memory { rom = rom } })
    (sym (slot_twice s.memory.rom (slot_bytes d) (slot_bytes e) room (length-slot_bytes d)))

module _ (m : Meanings) (d : Dispatcher) (image : ImageView) (events : EventList) (start : Starts m events.list d (chain_board d image events)) where
  room : slot_end ≤ length (loaded image (shipped_board events.shape)).memory.rom
  room = beyond (loaded image (shipped_board events.shape)).memory.rom (slot_bytes d) (length-slot_bytes d) start.valid.memory.rom_len

  -- a chain can start under each dispatcher
  starts : (e : Dispatcher) → Starts m events.list e (chain_board e image events)
  starts e = subst (Starts m events.list e) (sym (other_board d e image events room)) (starts_other m events.list d e (chain_board d image events) start)

  differ : chain_board Returning image events ≡ with_slot_bytes (slot_bytes Returning) (chain_board Looping image events)
  differ = other_board Looping Returning image events room

  -- chained services alone
  pub chained_agree : ((es : List Event) (one other : ℕ) (b : State) (bytes : List ℕ) (steps bodies services at more also listed then : ℕ) → length bytes ≡ slot_end - base → Starts m es Looping b → Starts m es Returning (with_slot_bytes bytes b)
      → chain_end m es Looping one b ≡ record { end = Done steps bodies services; steps = at } → chain_end m es Returning other (with_slot_bytes bytes b) ≡ record { end = Done more also listed; steps = then }
      → BothAgree m es b (with_slot_bytes bytes b) one other steps more bodies also services listed)
      → (one other steps bodies services more also listed : ℕ) → (chain_end m events.list Looping one (chain_board Looping image events)).end ≡ Done steps bodies services → (chain_end m events.list Returning other (chain_board Returning image events)).end ≡ Done more also listed
      → BothAgree m events.list (chain_board Looping image events) (chain_board Returning image events) one other steps more bodies also services listed
  chained_agree law one other steps bodies services more also listed first second =
      let es = events.list in
      let ends : (end : ChainEnd) (x : Ended) → x.end ≡ end → x ≡ record { end = end; steps = x.steps } = λ end x e. ap (λ (y : ChainEnd). record { end = y; steps = x.steps }) e in
      let at = (chain_end m es Looping one (chain_board Looping image events)).steps in
      let then = (chain_end m es Returning other (chain_board Returning image events)).steps in
      subst (λ (c : State). BothAgree m es (chain_board Looping image events) c one other steps more bodies also services listed) (sym differ)
      (law es one other (chain_board Looping image events) (slot_bytes Returning) steps bodies services at more also listed then (length-slot_bytes Returning) (starts Looping)
      (subst (Starts m es Returning) differ (starts Returning))
      (ends (Done steps bodies services) (chain_end m es Looping one (chain_board Looping image events)) first)
      (subst (λ (c : State). chain_end m es Returning other c ≡ record { end = Done more also listed; steps = then }) differ (ends (Done more also listed) (chain_end m es Returning other (chain_board Returning image events)) second)))

  -- and with direct services
  pub direct_agree : ((es : List Event) (one other : ℕ) (b : State) (bytes : List ℕ) (steps bodies services more also listed : ℕ) → length bytes ≡ slot_end - base → Starts m es Looping b → Starts m es Returning (with_slot_bytes bytes b)
      → (direct_end m es Looping one b).end ≡ Done steps bodies services → (direct_end m es Returning other (with_slot_bytes bytes b)).end ≡ Done more also listed
      → BothDirectAgree m es b (with_slot_bytes bytes b) one other steps more bodies also services listed)
      → (one other steps bodies services more also listed : ℕ) → (direct_end m events.list Looping one (chain_board Looping image events)).end ≡ Done steps bodies services → (direct_end m events.list Returning other (chain_board Returning image events)).end ≡ Done more also listed
      → BothDirectAgree m events.list (chain_board Looping image events) (chain_board Returning image events) one other steps more bodies also services listed
  direct_agree law one other steps bodies services more also listed first second =
      let es = events.list in
      subst (λ (c : State). BothDirectAgree m es (chain_board Looping image events) c one other steps more bodies also services listed) (sym differ)
      (law es one other (chain_board Looping image events) (slot_bytes Returning) steps bodies services more also listed (length-slot_bytes Returning) (starts Looping) (subst (Starts m es Returning) differ (starts Returning)) first
      (subst (λ (c : State). (direct_end m es Returning other c).end ≡ Done more also listed) differ second))

-- by whether they are asked for
pub by_directs : (image : ImageView) (events : EventList) → DoAgree false image events → DoAgree true image events → (directs : Bool) → DoAgree directs image events
by_directs image events chained direct false = chained
by_directs image events chained direct true = direct
