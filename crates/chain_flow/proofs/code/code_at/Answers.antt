use Rattle.std.proofs.Common.{◌≡◌, ◌%◌, ◌+◌, rules, true, false}
use Rattle.hart_memory.specs.Fetch.{is_long}
use Rattle.chain_flow.specs.Rules.{is_bad_half}
use Rattle.chain_flow.proofs.Codes.{half_held, short, bad_second, long}
use Rattle.chain_flow.proofs.code.code_at.Goals as goal

pub load-low-requires-clause-held : goal.load-low-requires-clause-held
load-low-requires-clause-held c = half_held c.args.at (search rules)

pub returns-then-low-ne3 : goal.returns-then-low-ne3
returns-then-low-ne3 c =
    let first : is_bad_half c.args.at ≡ false = search rules in
    let small : is_long c.load-low.result ≡ false = search rules in
    short c.args.code.now.present c.args.at c.load-low.result first c.load-low.ensures.value small

pub returns-then-is_bad-2 : goal.returns-then-is_bad-2
returns-then-is_bad-2 c =
    let first : is_bad_half c.args.at ≡ false = search rules in
    let large : is_long c.load-low.result ≡ true = search rules in
    let second : is_bad_half ((c.args.at + 2) % 4294967296) ≡ true = search rules in
    bad_second c.args.code.now.present c.args.at c.load-low.result first c.load-low.ensures.value large second

pub load-requires-clause-held : goal.load-requires-clause-held
load-requires-clause-held c = half_held ((c.args.at + 2) % 4294967296) (search rules)

pub returns : goal.returns
returns c =
    let first : is_bad_half c.args.at ≡ false = search rules in
    let large : is_long c.load-low.result ≡ true = search rules in
    let second : is_bad_half ((c.args.at + 2) % 4294967296) ≡ false = search rules in
    long c.args.code.now.present c.args.at c.load-low.result first c.load-low.ensures.value c.load.result large second c.load.ensures.value
