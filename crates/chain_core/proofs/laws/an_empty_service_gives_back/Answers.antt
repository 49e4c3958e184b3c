use Rattle.chain_moves.proofs.Alone.{gives_back}
use Rattle.chain_core.proofs.laws.an_empty_service_gives_back.Goals as goal

pub returns : goal.returns
returns c = gives_back
