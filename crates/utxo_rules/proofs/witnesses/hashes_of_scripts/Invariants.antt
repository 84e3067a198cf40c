-- What is gathered and what is still to be gathered are the whole.
use Rattle.std.specs.Prelude.{[]}
use Rattle.model.specs.Script.{script_hash_of}
use Rattle.utxo_rules.proofs.Gathered.{IsGathered}
use Rattle.utxo_rules.proofs.witnesses.hashes_of_scripts.Given as goal

abbrev pub invariant-loop-script : goal.invariant-loop-script
invariant-loop-script l = IsGathered script_hash_of [] l.hashes.items l.scripts l.script-index
