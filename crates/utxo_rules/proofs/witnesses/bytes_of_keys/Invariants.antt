-- What is gathered and what is still to be gathered are the whole.
use Rattle.std.specs.Prelude.{[]}
use Rattle.timelock.specs.View.{key_bytes}
use Rattle.utxo_rules.proofs.Gathered.{IsGathered}
use Rattle.utxo_rules.proofs.witnesses.bytes_of_keys.Given as goal

abbrev pub invariant-loop-key : goal.invariant-loop-key
invariant-loop-key l = IsGathered key_bytes [] l.hashes.items l.keys l.key-index
