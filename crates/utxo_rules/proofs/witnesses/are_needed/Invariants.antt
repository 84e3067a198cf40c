-- Those that are left decide for all.
use Rattle.model.specs.Script.{script_hash_of}
use Rattle.model.specs.Rules.{is_among}
use Rattle.utxo_rules.proofs.Asks.{DecideForAll}
use Rattle.utxo_rules.proofs.witnesses.are_needed.Given as goal

abbrev pub invariant-loop-script : goal.invariant-loop-script
invariant-loop-script l = DecideForAll script_hash_of (is_among l.sought.sorted.items) l.scripts l.script-index
