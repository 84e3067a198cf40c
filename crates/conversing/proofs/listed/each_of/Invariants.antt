-- The values that were read and those that are still to read are the whole.
use Rattle.serde_json.specs.View.{view}
use Rattle.conversing.proofs.Gathering.{IsPartFound}
use Rattle.conversing.proofs.listed.each_of.Given as goal

abbrev pub invariant-loop-value : goal.invariant-loop-value
invariant-loop-value g l = IsPartFound view g.T.Listed.plain g.T.Listed.read_as l.list.items l.value-items l.value-index
