-- Those that were seen are good.
use Rattle.tx.specs.View.{witness_of}
use Rattle.witness_pool.specs.Verdicts.{is_good}
use Rattle.utxo_rules.proofs.Finding.{PassBefore}
use Rattle.utxo_rules.proofs.first_witnesses.bad_signature.Given as goal

abbrev pub invariant-loop-witness : goal.invariant-loop-witness
invariant-loop-witness g l = PassBefore witness_of (is_good g.S.SigScheme.verifies l.id.bytes) l.signatures l.witness-index
