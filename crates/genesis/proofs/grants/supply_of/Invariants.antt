-- What was added and what is still to add are the sum, and what was added is below the limit.
use Rattle.std.proofs.Common.{◌<◌}
use Rattle.model.specs.Limits.{number_limit}
use Rattle.genesis.specs.View.{grant_view}
use Rattle.genesis.proofs.CoinSums.{IsPartAdded}
use Rattle.genesis.proofs.grants.supply_of.Given as goal

abbrev pub invariant-loop-grant : goal.invariant-loop-grant
invariant-loop-grant l = IsPartAdded grant_view (λ g. g.coin) l.supply l.grants l.grant-index × (l.supply < number_limit)
