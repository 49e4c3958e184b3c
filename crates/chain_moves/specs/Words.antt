-- The two dispatchers, word by word.
use Rattle.std.specs.Prelude.{◌≡◌, ℕ, ◌+◌, ◌*◌, ◌<◌, List, [], ◌∷◌, ◌++◌, slice_index}
use Rattle.hart_memory.specs.Bytes.{number_at}
use Rattle.chain_moves.specs.Slot.{base}
use Rattle.chain_moves.specs.declared.dispatcher.Dispatcher.{Dispatcher}
use Rattle.chain_moves.specs.declared.dispatcher.Dispatcher.TheVariants.{Looping, Returning}

-- the two words that differ: the looping one claims the next input before it goes back
abbrev pub claim_word : Dispatcher → ℕ
claim_word Looping = 0x34546573
claim_word Returning = 0x00000013

abbrev pub branch_word : Dispatcher → ℕ
branch_word Looping = 0xFE0514E3
branch_word Returning = 0x00000013

-- the words from the slot's first address on. After each handler mcause is reloaded before the claim, because a nested trap has overwritten mpil
abbrev pub dispatch_words : Dispatcher → List ℕ
dispatch_words d =
    0x34911173  -- 40: csrrw sp, mscratchcswl, sp
    ∷ 0xFE010113  -- 44: addi sp, sp, -32
    ∷ 0x00112023  -- 48: sw ra, 0(sp)
    ∷ 0x00A12223  -- 4C: sw a0, 4(sp)
    ∷ 0x00B12423  -- 50: sw a1, 8(sp)
    ∷ 0x34202573  -- 54: csrrs a0, mcause, zero
    ∷ 0x00A12623  -- 58: sw a0, 12(sp)
    ∷ 0x34102573  -- 5C: csrrs a0, mepc, zero
    ∷ 0x00A12823  -- 60: sw a0, 16(sp)
    ∷ 0x34546573  -- 64: csrrsi a0, mnxti, 8
    ∷ 0x02050063  -- 68: beq a0, zero, 0x88
    ∷ 0x00052583  -- 6C: lw a1, 0(a0)
    ∷ 0x000580E7  -- 70: jalr ra, 0(a1)
    ∷ 0x30047073  -- 74: csrrci zero, mstatus, 8
    ∷ 0x00C12503  -- 78: lw a0, 12(sp)
    ∷ 0x34251073  -- 7C: csrrw zero, mcause, a0
    ∷ claim_word d  -- 80: csrrsi a0, mnxti, 8, or nop
    ∷ branch_word d  -- 84: bne a0, zero, 0x6C, or nop
    ∷ 0x30047073  -- 88: csrrci zero, mstatus, 8
    ∷ 0x01012503  -- 8C: lw a0, 16(sp)
    ∷ 0x34151073  -- 90: csrrw zero, mepc, a0
    ∷ 0x00C12503  -- 94: lw a0, 12(sp)
    ∷ 0x34251073  -- 98: csrrw zero, mcause, a0
    ∷ 0x00012083  -- 9C: lw ra, 0(sp)
    ∷ 0x00412503  -- A0: lw a0, 4(sp)
    ∷ 0x00812583  -- A4: lw a1, 8(sp)
    ∷ 0x02010113  -- A8: addi sp, sp, 32
    ∷ 0x34911173  -- AC: csrrw sp, mscratchcswl, sp
    ∷ 0x30200073  -- B0: mret
    ∷ []

-- the words of the whole slot: 0 behind the dispatcher's
abbrev pub slot_words : Dispatcher → List ℕ
slot_words d = dispatch_words d ++ 0 ∷ 0 ∷ 0 ∷ []

abbrev pub word_count : ℕ
word_count = 29

abbrev pub dispatch_word : Dispatcher → ℕ → ℕ
dispatch_word d i = slice_index (dispatch_words d) i

-- ROM has the words of a dispatcher in the slot
abbrev pub HasDispatcher : Dispatcher → List ℕ → Type 0
HasDispatcher d rom = (i : ℕ) → i < word_count → number_at rom (base + 4 * i) 4 ≡ dispatch_word d i
