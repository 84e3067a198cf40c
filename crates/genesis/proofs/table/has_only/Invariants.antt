-- The keys that are still to look at are known just where all are.
use Rattle.std.proofs.Common.{◌≡◌}
use Rattle.std.specs.Map.{keys_of}
use Rattle.genesis.specs.View.{texts_of}
use Rattle.genesis.proofs.KnownKeys.{are_known}
use Rattle.genesis.proofs.table.has_only.Given as goal

abbrev pub invariant-loop-key : goal.invariant-loop-key
invariant-loop-key l =
    (goal.iterator-loop-key).can_next l.key-iterator ×
    (goal.iterator-loop-key).is_finite l.key-iterator ×
    (are_known (texts_of l.known) l.key-iterator ≡ are_known (texts_of l.known) (keys_of l.table.entries))
