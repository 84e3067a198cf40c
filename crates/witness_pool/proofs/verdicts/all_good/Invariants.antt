-- Those that are left decide whether all are good.
use Rattle.std.proofs.Common.{◌≡◌, map, drop}
use Rattle.std.specs.List.{list_all}
use Rattle.tx.specs.View.{witness_of}
use Rattle.witness_pool.specs.Verdicts.{is_good}
use Rattle.witness_pool.proofs.verdicts.all_good.Given as goal

abbrev pub invariant-loop-witness : goal.invariant-loop-witness
invariant-loop-witness g l =
    list_all (is_good g.S.SigScheme.verifies l.message) (map witness_of (drop l.witness-index l.signatures)) ≡ list_all (is_good g.S.SigScheme.verifies l.message) (map witness_of l.signatures)
