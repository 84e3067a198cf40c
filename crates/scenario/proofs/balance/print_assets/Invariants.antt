-- What was printed and the lines that are still to come are the whole.
use Rattle.scenario.proofs.AssetLines.{IsPartPrinted}
use Rattle.scenario.proofs.balance.print_assets.Given as goal

abbrev pub invariant-loop-asset : goal.invariant-loop-asset
invariant-loop-asset l = IsPartPrinted l.initial.line.items l.line.items l.assets l.asset-index
