use Rattle.std.proofs.Common.{arith}
use Rattle.chain_time.proofs.Sums.{product_small}
use Rattle.chain_time.proofs.bound.all_of.Goals as goal

pub overflow_mul-result : goal.overflow_mul-result
overflow_mul-result c = let s = product_small c.from.result c.from-2.result (omega arith) (omega (arith, c.requires.path)) in omega arith

pub returns-clause-small : goal.returns-clause-small
returns-clause-small c = let s = product_small c.from.result c.from-2.result (omega arith) (omega (arith, c.requires.path)) in omega arith
