use Rattle.std.proofs.Common.{◌≡◌, ◌-◌, ◌++◌, map, string_bytes}
use Rattle.std.specs.Vec.Iter.{into_iter_items, into_iter_len}
use Rattle.tool_frame.specs.Programs.{words_in}
use Rattle.tool_frame.proofs.program.words_of.Given as goal

-- the words so far and the arguments that are left make all words
abbrev pub invariant-loop : goal.invariant-loop
invariant-loop l =
    (l.words ++ map string_bytes (into_iter_items l.rest) ≡ words_in (into_iter_items l.fn.args))
    × (into_iter_len l.rest ≡ l.end - l.counter)
