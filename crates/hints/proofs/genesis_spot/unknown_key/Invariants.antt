-- The first key that isn't known is the first of those that are still to look at.
use Rattle.std.proofs.Common.{◌≡◌}
use Rattle.std.specs.Map.{keys_of}
use Rattle.genesis.specs.View.{texts_of}
use Rattle.hints.proofs.UnknownKeys.{first_unknown}
use Rattle.hints.proofs.genesis_spot.unknown_key.Given as goal

abbrev pub invariant-loop-key : goal.invariant-loop-key
invariant-loop-key l =
    (goal.iterator-loop-key).can_next l.key-iterator ×
    (goal.iterator-loop-key).is_finite l.key-iterator ×
    (first_unknown (texts_of l.known) l.key-iterator ≡ first_unknown (texts_of l.known) (keys_of l.table.entries))
