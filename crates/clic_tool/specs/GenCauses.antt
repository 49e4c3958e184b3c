-- How the chains of `gen` ended.
use Rattle.std.specs.Prelude.{◌≡◌, ℕ, Option, Some}
use Rattle.chain_moves.specs.declared.dispatcher.Dispatcher.{Dispatcher}
use Rattle.chain_moves.specs.declared.dispatcher.Dispatcher.TheVariants.{Looping, Returning}
use Rattle.chain_core.specs.declared.chain_end.ChainEnd.{ChainEnd}
use Rattle.chain_core.specs.declared.chain_end.ChainEnd.TheVariants.{Done}
use Rattle.tool_words.specs.Gen.{GenWords}
use Rattle.tool_work.specs.Gen.{gen_end, gen_decides}
use Rattle.tool_words.specs.Order.{Order, Gens}

-- the words are those of `gen`, and the first of its chains that isn't done ended so
pub record GeneratedTo (ended : ChainEnd → Type 0) (order : Option Order) : Type 0 where
  pub words : GenWords
  pub is_gen : order ≡ Some (Gens words)
  pub end : ended (gen_decides words.number_is)

-- a chain is done
abbrev pub IsDone : Dispatcher → ℕ → Type 0
IsDone d n = (steps : ℕ) × (bodies : ℕ) × (services : ℕ) × (gen_end d n ≡ Done steps bodies services)

-- both are
pub record AreDone (n : ℕ) : Type 0 where
  pub looping : IsDone Looping n
  pub returning : IsDone Returning n
