-- Where the bytes of a source come to lie.
use Rattle.std.specs.Prelude.{◌≡◌, ℕ, ◌+◌, Bool, true, false, ◌||◌, not, nat_le, cond, List, [], ◌∷◌, ◌++◌, length, Option, Some, None}
use Rattle.std.specs.List.{list_any}
use Rattle.std.specs.declared.result.Result.{Result}
use Rattle.std.specs.declared.result.Result.TheVariants.{Ok, Err}
use Rattle.hart_memory.specs.Place.{holds}
use Rattle.hart_memory.specs.declared.image.TheConstants.{MAX_SEGMENTS}
use Rattle.rv_assembler.specs.declared.stretch.Stretch.{Stretch}
use Rattle.asm_forms.specs.declared.extent.Extent.{Extent}
use Rattle.asm_forms.specs.declared.extent.Extent.TheVariants.{Org as OrgExtent, Entry as EntryExtent, Takes}
use Rattle.asm_forms.specs.declared.asm_why.AsmWhy.{AsmWhy}
use Rattle.asm_forms.specs.declared.asm_why.AsmWhy.TheVariants.{BadOperands, OutsideMemory, Overlap, TooLarge}

-- the place of the next line, the segment that grows, those that are done, and whether the entry was named
pub record Laid : Type 0 where
  pub place : ℕ
  pub growing : Option Stretch
  pub closed : List Stretch
  pub entered : Bool

abbrev pub nothing_laid : Laid
nothing_laid = record { place = 0; growing = None; closed = []; entered = false }

-- Two stretches have no byte in common. That is `is_apart` of hart_memory, which asks for a segment with its bytes: a
-- stretch has none yet. `stretches_are_apart_as_segments` says that both are the same.
abbrev pub are_apart : Stretch → Stretch → Bool
are_apart t s = nat_le (t.base + t.size) s.base || nat_le (s.base + s.size) t.base

abbrev pub overlaps : Stretch → List Stretch → Bool
overlaps t ss = list_any (λ s. not (are_apart t s)) ss

abbrev pub shut : Option Stretch → List Stretch → List Stretch
shut None ss = ss
shut (Some s) ss = ss ++ s ∷ []

-- a segment would begin beside the greatest number of segments
abbrev pub is_full : Option Stretch → List Stretch → Bool
is_full None ss = nat_le MAX_SEGMENTS (length ss)
is_full (Some s) ss = false

-- the segment with so many bytes more
abbrev pub grown : Option Stretch → ℕ → ℕ → Stretch
grown None p n = record { base = p; size = n }
grown (Some s) p n = record { base = s.base; size = s.size + n }

-- the segment lies in one memory, and apart from those that are done
abbrev pub grow : Stretch → ℕ → Laid → Result Laid AsmWhy
grow t p l =
    cond (not (holds t.base t.size)) (Err OutsideMemory)
    (cond (overlaps t l.closed) (Err Overlap)
    (Ok (record { place = p; growing = Some t; closed = l.closed; entered = l.entered })))

-- a jump ends the segment that grows; the entry is named once
unfoldable pub laid : Extent → Laid → Result Laid AsmWhy
laid (OrgExtent p) l = Ok (record { place = p; growing = None; closed = shut l.growing l.closed; entered = l.entered })
laid EntryExtent l = cond l.entered (Err BadOperands) (Ok (record { place = l.place; growing = l.growing; closed = l.closed; entered = true }))
laid (Takes n) l = cond (is_full l.growing l.closed) (Err TooLarge) (grow (grown l.growing l.place n) (l.place + n) l)

-- the segment that grows ends at the place
abbrev pub Ends : Option Stretch → ℕ → Type 0
Ends None p = Unit {0}
Ends (Some s) p = s.base + s.size ≡ p
