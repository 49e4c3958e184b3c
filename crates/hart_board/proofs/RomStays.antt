-- No step changes ROM.
use Rattle.std.proofs.Common.{◌≡◌, ℕ, List, refl}
use Rattle.device_model.specs.Meanings.{Meanings}
use Rattle.hart_board.specs.State.{State}
use Rattle.hart_board.specs.Step.{step}
use Rattle.hart_board.proofs.Keeping.{step_holds}

abbrev HasRom : List ℕ → State → Type 0
HasRom rom t = t.memory.rom ≡ rom

pub rom_stays : (m : Meanings) (s : State) → (step m s).state.memory.rom ≡ s.memory.rom
rom_stays m s = step_holds (HasRom s.memory.rom) m s (record {
  now = refl;
  does = λ ins bits length f d. record {
    goes = λ rd value target e. refl;
    loads = λ rd at width signed value e l. refl;
    loads_outside = λ rd at width signed found e l. refl;
    stores = λ at width value k e p. refl;
    stores_outside = λ at width value outside e l. refl;
    goes_on = λ e a. refl;
    jumps = λ target e a. refl;
  };
  raises = λ trap e. refl;
  enters = λ choice target t d e. refl;
})
