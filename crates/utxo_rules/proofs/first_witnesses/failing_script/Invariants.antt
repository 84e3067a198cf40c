-- Those that were seen hold.
use Rattle.std.specs.Prelude.{map}
use Rattle.model.specs.Script.{Script, holds}
use Rattle.timelock.specs.View.{key_bytes, interval_of}
use Rattle.utxo_rules.proofs.Finding.{PassBefore}
use Rattle.utxo_rules.proofs.first_witnesses.failing_script.Given as goal

abbrev pub invariant-loop-script : goal.invariant-loop-script
invariant-loop-script g l = PassBefore (λ (script : Script). script) (holds (map key_bytes l.keys) (interval_of l.interval)) l.scripts l.script-index
