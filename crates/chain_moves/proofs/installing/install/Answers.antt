use Rattle.std.proofs.Common.{◌≡◌, ◌+◌, ℕ, List, ap, ap₂, sym, subst, ◌∙◌, arith}
use Rattle.chain_moves.specs.Words.{HasDispatcher}
use Rattle.hart_memory.specs.Access.{with_byte}
use Rattle.hart_board.specs.State.{State}
use Rattle.hart_memory.specs.Memory.{Memory}
use Rattle.chain_moves.specs.Slot.{base, slot_end}
use Rattle.chain_moves.specs.Start.{first_scratch}
use Rattle.std.specs.Prelude.{◌-◌}
use Rattle.std.proofs.Math.Seq.{paste}
use Rattle.chain_moves.specs.Start.{slot_bytes}
use Rattle.chain_moves.proofs.SlotBytes.{slot_has, held, memory_before, memory_more, memory_all}
use Rattle.chain_moves.proofs.installing.install.Goals as goal

pub loop-i-init : goal.loop-i-init
loop-i-init g c = let s = c.args.board.now in ap (λ (memory : Memory). record s { memory = memory }) (memory_before c.args.d s.memory)

pub place-requires : goal.place-requires
place-requires g c = held (base + c.loop-i.i) (omega arith)

pub loop-i-preserved : goal.loop-i-preserved
loop-i-preserved g c =
    let s = c.args.board.now in
    let bytes = slot_bytes c.args.d in
    c.place.ensures
    ∙ ap₂ (λ (t : State) v. record t { memory = with_byte t.memory (base + c.loop-i.i) v }) c.loop-i.invariant c.slot_byte.ensures
    ∙ ap (λ (memory : Memory). record s { memory = memory }) (memory_more c.args.d s.memory c.loop-i.i c.in_range.ensures.memory.rom_len c.loop-i-test.true)

pub returns-clause-board : goal.returns-clause-board
returns-clause-board g c =
    let s = c.args.board.now in
    let last : c.loop-i.i ≡ slot_end - base = omega arith in
    c.set_scratch.ensures
    ∙ ap (λ (t : State). record t { csrs = record t.csrs { mscratch = first_scratch } }) (c.loop-i.invariant ∙ ap (λ n. record s { memory = record s.memory { rom = paste s.memory.rom base (slot_bytes c.args.d) n } }) last)
    ∙ ap (λ (memory : Memory). record s { csrs = record s.csrs { mscratch = first_scratch }; memory = memory }) (memory_all c.args.d s.memory)

pub returns-clause-has : goal.returns-clause-has
returns-clause-has g c =
    let s = c.args.board.now in
    let last : c.loop-i.i ≡ slot_end - base = omega arith in
    let rom = ap (λ (t : State). t.memory.rom) (c.set_scratch.ensures ∙ ap (λ (t : State). record t { csrs = record t.csrs { mscratch = first_scratch } }) (c.loop-i.invariant ∙ ap (λ n. record s { memory = record s.memory { rom = paste s.memory.rom base (slot_bytes c.args.d) n } }) last)) in
    subst (λ (rom : List ℕ). HasDispatcher c.args.d rom) (sym (rom ∙ ap (λ (memory : Memory). memory.rom) (memory_all c.args.d s.memory))) (slot_has c.args.d s.memory.rom c.in_range.ensures.memory.rom_len)
