-- Where no rule holds, the instruction goes on at higher addresses.
use Rattle.std.proofs.Common.{◌≡◌, ℕ, suc, ◌+◌, ◌≤◌, false, List, [], sym, subst, arith}
use Rattle.std.specs.Prelude.{nat_le}
use Rattle.std.proofs.lemmas.Bool.{or_parts, cond_both, leb-false}
use Rattle.hart_words.specs.TwosComplement.{word}
use Rattle.rv_encoding.specs.declared.instruction.Ins.{Ins}
use Rattle.rv_encoding.specs.declared.instruction.Ins.TheVariants.{Jal, Jalr, Branch}
use Rattle.hart_memory.specs.Fetch.{HasLength, is_long}
use Rattle.hart_memory.specs.declared.address_map.TheConstants.{BANK_LEN}
use Rattle.hart_memory.specs.declared.fetched.Fetched.TheVariants.{Bits}
use Rattle.hart_memory.proofs.FetchLemmas.{fetched-HasLength}
use Rattle.chain_flow.specs.Flow.{Flow}
use Rattle.chain_flow.specs.Transfer.{flow_after, targets}
use Rattle.chain_flow.specs.Rules.{goes_back, is_bad_half, looked, Passed}
use Rattle.chain_flow.specs.declared.region.Region.{Region}
use Rattle.chain_flow.proofs.Looks.{looks, keeps, half_in}
use Rattle.chain_flow.proofs.Rising.{AllFrom}

not_le : (a b : ℕ) → nat_le a b ≡ false → suc b ≤ a
not_le a b e = let l = leb-false a b e in omega arith

next_above : (at length : ℕ) → at + 2 ≤ BANK_LEN → 2 ≤ length → length ≤ 4 → suc at ≤ word (at + length)
next_above at length l a b = omega arith

above_by : (at length : ℕ) (ins : Ins) → goes_back at ins ≡ false → suc at ≤ word (at + length) → AllFrom (suc at) (targets at length ins)
above_by at length (Jal rd offset) b n = (not_le (word (at + offset)) at b, tt)
above_by at length (Jalr rd rs1 imm) b n = tt
above_by at length (Branch op rs1 rs2 offset) b n = (not_le (word (at + offset)) at b, (n, tt))
above_by at length _ b n = (n, tt)

two_or_four : (bits length : ℕ) → HasLength (Bits bits length) → (2 ≤ length) × (length ≤ 4)
two_or_four bits length h = subst (λ n. (2 ≤ n) × (n ≤ 4)) (sym h) (cond_both (is_long bits) 4 2 (λ n. (2 ≤ n) × (n ≤ 4)) (λ e. (omega arith, omega arith)) (λ e. (omega arith, omega arith)))

pub targets_above : (code : List ℕ) (region : Region) (at : ℕ) (f after : Flow) (ts : List ℕ) → looked code region at f ≡ Passed after ts → AllFrom (suc at) ts
targets_above code region at f after ts e =
    let l = looks code region at f after ts e in
    let rules = keeps region at f (flow_after at l.length f l.ins) l.ins l.passes in
    let within = (half_in at (or_parts (is_bad_half at) _ l.inside).0).0 in
    let size = two_or_four l.bits l.length (subst HasLength l.fetches (fetched-HasLength (record { rom = code; ram = [] }) at)) in
    subst (AllFrom (suc at)) (sym l.is_next) (above_by at l.length l.ins rules.back (next_above at l.length within size.0 size.1))
