-- With those that are still to be appended it is the whole list.
use Rattle.conversing.specs.Found.{asset_text}
use Rattle.conversing.proofs.ListLaws.{IsPartListed}
use Rattle.conversing.proofs.found.put_assets.Given as goal

abbrev pub invariant-loop-asset : goal.invariant-loop-asset
invariant-loop-asset l = IsPartListed asset_text l.fn.line.items l.assets l.line.items l.separator l.asset-index
