-- Those that are left decide whether all hold.
use Rattle.std.proofs.Common.{◌≡◌, map, drop}
use Rattle.std.specs.List.{list_all}
use Rattle.model.specs.Script.{holds}
use Rattle.timelock.specs.View.{key_bytes, interval_of}
use Rattle.witness_pool.proofs.verdicts.all_hold.Given as goal

abbrev pub invariant-loop-script : goal.invariant-loop-script
invariant-loop-script l =
    list_all (holds (map key_bytes l.keys) (interval_of l.interval)) (drop l.script-index l.scripts) ≡ list_all (holds (map key_bytes l.keys) (interval_of l.interval)) l.scripts
