use Rattle.chain_search.proofs.Sound.{table_is_sound}
use Rattle.chain_search.proofs.laws.an_accepted_table_is_sound.Goals as goal

pub returns : goal.returns
returns g c = table_is_sound g.D.Device.means c.the_bound_is_sound.ensures c.what_is_listed_is_safe.ensures
