-- What was granted and what is still to look at are the whole.
use Rattle.genesis.specs.Judgement.{grant_of}
use Rattle.genesis.specs.View.{placed_view, grant_view}
use Rattle.genesis.proofs.Gathering.{IsPartFound}
use Rattle.genesis.proofs.grants.each_grant.Given as goal

abbrev pub invariant-loop-output : goal.invariant-loop-output
invariant-loop-output l = IsPartFound placed_view grant_view grant_of l.grants.items l.placed l.output-index
