-- The image that `gen` makes of a number.
use Rattle.std.specs.Prelude.{ℕ, ◌+◌, ◌*◌, List, [], ◌∷◌, ◌++◌}
use Rattle.hart_memory.specs.Image.{SegmentView, ImageView}
use Rattle.chain_moves.specs.Start.{words_bytes}

-- words from an address on
abbrev pub segment_of : ℕ → List ℕ → SegmentView
segment_of at words = record { address = at; content = words_bytes words }

-- the code, from 200 on: it makes five inputs edges with levels of their own, and counts down to 0 with interrupts on; then the board halts. Every handler is the last word
unfoldable pub gen_code : List ℕ
gen_code =
    0x20010137  -- 200: lui sp, 0x20010
    ∷ 0x04000293  -- 204: addi t0, zero, 0x40
    ∷ 0x30529073  -- 208: csrrw zero, mtvec, t0
    ∷ 0x10000293  -- 20C: addi t0, zero, 0x100
    ∷ 0x30729073  -- 210: csrrw zero, mtvt, t0
    ∷ 0x02000337  -- 214: lui t1, 0x2000
    ∷ 0x00400293  -- 218: addi t0, zero, 4
    ∷ 0x00530023  -- 21C: sb t0, 0(t1): nlbits is 2
    ∷ 0x02001337  -- 220: lui t1, 0x2001
    ∷ 0x400202B7  -- 224: lui t0, 0x40020
    ∷ 0x10028293  -- 228: addi t0, t0, 0x100
    ∷ 0x00532623  -- 22C: sw t0, 12(t1): input 3, level 127
    ∷ 0x00532A23  -- 230: sw t0, 20(t1): input 5, level 127
    ∷ 0xC00202B7  -- 234: lui t0, 0xC0020
    ∷ 0x10028293  -- 238: addi t0, t0, 0x100
    ∷ 0x00532E23  -- 23C: sw t0, 28(t1): input 7, level 255
    ∷ 0x000202B7  -- 240: lui t0, 0x20
    ∷ 0x10028293  -- 244: addi t0, t0, 0x100
    ∷ 0x02532223  -- 248: sw t0, 36(t1): input 9, level 63
    ∷ 0x800202B7  -- 24C: lui t0, 0x80020
    ∷ 0x10028293  -- 250: addi t0, t0, 0x100
    ∷ 0x02532623  -- 254: sw t0, 44(t1): input 11, level 191
    ∷ 0x1F002983  -- 258: lw s3, 0x1F0(zero)
    ∷ 0x30046073  -- 25C: csrrsi zero, mstatus, 8
    ∷ 0xFFF98993  -- 260: addi s3, s3, -1
    ∷ 0xFE099EE3  -- 264: bne s3, zero, 0x260
    ∷ 0x100032B7  -- 268: lui t0, 0x10003
    ∷ 0x0002A023  -- 26C: sw zero, 0(t0)
    ∷ 0x00008067  -- 270: jalr zero, 0(ra)
    ∷ []

-- the handlers' address in the table at 100, of the inputs 3, 5, 7, 9 and 11
abbrev pub gen_table : List SegmentView
gen_table =
    segment_of 0x10C (0x270 ∷ [])
    ∷ segment_of 0x114 (0x270 ∷ [])
    ∷ segment_of 0x11C (0x270 ∷ [])
    ∷ segment_of 0x124 (0x270 ∷ [])
    ∷ segment_of 0x12C (0x270 ∷ [])
    ∷ []

-- the image: the table, how often the loop goes round, and the code, which is the entry
unfoldable pub gen_image : ℕ → ImageView
gen_image n = record { start = 0x200; segments = gen_table ++ segment_of 0x1F0 ((8 * n + 100) ∷ []) ∷ segment_of 0x200 gen_code ∷ [] }
