-- What is known at the start, and what is in range along a run.
use Rattle.std.proofs.Common.{◌≡◌, ℕ, zero, suc, ◌-◌, false, List, refl, sym, ◌∙◌, arith}
use Rattle.std.specs.Prelude.{nat_le, slice_index_or}
use Rattle.std.proofs.lemmas.Bool.{true≢false, and_right}
use Rattle.device_model.specs.Meanings.{Meanings, IsSound}
use Rattle.hart_memory.specs.Memory.{zeros}
use Rattle.hart_memory.specs.declared.address_map.TheConstants.{RAM_BASE, BANK_LEN}
use Rattle.hart_board.specs.State.{State}
use Rattle.hart_board.specs.Event.{with_events}
use Rattle.hart_board.specs.declared.event.Event.{Event}
use Rattle.chain_moves.specs.Slot.{base, slot_end}
use Rattle.chain_moves.specs.Start.{begun, none_dead}
use Rattle.chain_moves.proofs.Begun.{slot_same}
use Rattle.chain_moves.proofs.Depth.{start_range, length-zeros}
use Rattle.chain_certify.specs.Soundness.{Certificates, Premises}
use Rattle.chain_flow.specs.declared.region.Region.{Region}
use Rattle.chain_certify.proofs.Invariant.{Inv}

none_marked : (n k : ℕ) → slice_index_or (none_dead n) k false ≡ false
unfolding none_dead
none_marked zero k = refl
none_marked (suc n) zero = refl
none_marked (suc n) (suc k) = none_marked n k

module _ (m : Meanings) (sound : IsSound m) (es : List Event) (code : List ℕ) (region : Region) (certs : Certificates) (b : State) (p : Premises m es code region b) where
  pub start_known : Inv m code region certs (begun m es b)
  unfolding begun with_events
  start_known =
      let rom = p.is_board.memory.rom_len in
      let same = slot_same b.memory.rom (zeros (slot_end - base)) (omega (arith, rom)) (length-zeros (slot_end - base)) in
      record {
        range = start_range m es sound b p.scenario.0 p.scenario.1 p.is_board;
        has_code = λ k n. sym (same.at k n) ∙ p.has_code k n;
        dead_in = λ j d. absurd (true≢false (sym d ∙ and_right (nat_le RAM_BASE j) (slice_index_or (none_dead BANK_LEN) (j - RAM_BASE) false) (none_marked BANK_LEN (j - RAM_BASE))));
        services = tt;
      }
