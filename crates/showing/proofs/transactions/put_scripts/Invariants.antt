-- What was appended, and the lines of the scripts that are still to come, are the whole.
use Rattle.std.proofs.Common.{◌≡◌, ◌++◌, drop}
use Rattle.std.specs.Prelude.{flat_map, string_bytes}
use Rattle.showing.specs.Scripts.{lines_of_script}
use Rattle.showing.proofs.transactions.put_scripts.Given as goal

abbrev pub invariant-loop-script : goal.invariant-loop-script
invariant-loop-script l =
    string_bytes l.out ++ flat_map (lines_of_script l.margin) (drop l.script-index l.scripts)
    ≡ string_bytes l.initial.out ++ flat_map (lines_of_script l.margin) l.scripts
