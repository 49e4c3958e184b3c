use Rattle.std.proofs.Common.{length, ◌-◌, ◌≡◌, ◌++◌, ◌+◌, ◌≤◌, drop}
use Rattle.rv_disasm.specs.Listing.{text_from, listed}
use Rattle.rv_disasm.proofs.listing.push_listing.Given as goal

-- the text so far, and the listing of what is left
abbrev pub invariant-loop-at : goal.invariant-loop-at
invariant-loop-at l = record { inside : l.at ≤ length l.bytes; same : l.text ++ text_from (l.base + l.at) (listed 0 (drop l.at l.bytes)) ≡ l.fn.text ++ text_from l.base (listed 0 l.bytes) }

abbrev pub decreases-loop-at : goal.decreases-loop-at
decreases-loop-at l = length l.bytes - l.at
