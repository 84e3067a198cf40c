-- The first of what was seen and of what is left is that of all.
use Rattle.std.proofs.Common.{◌≡◌, length}
use Rattle.utxo_rules.proofs.Unbalanced.{named, first_of}
use Rattle.utxo_rules.proofs.imbalance.first_name.Given as goal

abbrev pub invariant-loop-name : goal.invariant-loop-name
invariant-loop-name l =
    first_of l.first (named l.names) ≡ first_of l.initial.first (named l.initial.names)

abbrev pub decreases-loop-name : goal.decreases-loop-name
decreases-loop-name l = length l.names
