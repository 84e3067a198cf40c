-- What was appended, and the scripts that are still to come, are the whole.
use Rattle.std.proofs.Common.{◌≡◌, ◌++◌, drop, map}
use Rattle.serde_json.specs.View.{view}
use Rattle.describing.specs.Scripts.{json_of_script}
use Rattle.describing.proofs.transactions.scripts_json.Given as goal

abbrev pub invariant-loop-script : goal.invariant-loop-script
invariant-loop-script l = map view l.list.items ++ map json_of_script (drop l.script-index l.scripts) ≡ map json_of_script l.scripts
