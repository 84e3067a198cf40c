-- Those that were seen are needed.
use Rattle.model.specs.Script.{script_hash_of}
use Rattle.model.specs.Rules.{is_among}
use Rattle.utxo_rules.proofs.Finding.{PassBefore}
use Rattle.utxo_rules.proofs.first_witnesses.first_unneeded.Given as goal

abbrev pub invariant-loop-script : goal.invariant-loop-script
invariant-loop-script l = PassBefore script_hash_of (is_among l.sought.sorted.items) l.scripts l.script-index
