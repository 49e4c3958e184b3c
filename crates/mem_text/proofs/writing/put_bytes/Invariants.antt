use Rattle.mem_text.proofs.Rows.{WritesOn}
use Rattle.mem_text.proofs.writing.put_bytes.Given as goal

-- what is written so far and the bytes that are left make the whole text
abbrev pub invariant-loop-k : goal.invariant-loop-k
invariant-loop-k l = WritesOn l.fn.text l.text l.bytes l.k
