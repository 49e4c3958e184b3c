use Rattle.rv_encoding.proofs.Apart.{rows_apart}
use Rattle.rv_encoding.proofs.laws.rows_are_apart.Goals as goal

pub returns : goal.returns
returns c = rows_apart
