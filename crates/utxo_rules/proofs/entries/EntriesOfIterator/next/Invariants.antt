-- What is still to come of the address is what was to come.
use Rattle.std.proofs.Common.{◌≡◌, length}
use Rattle.utxo_rules.specs.Entries.{pairs_with}
use Rattle.utxo_rules.proofs.entries.EntriesOfIterator.next.Given as goal

abbrev pub invariant-loop-input : goal.invariant-loop-input
invariant-loop-input l = pairs_with l.self-inside.bytes l.self-inside.entries ≡ l.fn.self

abbrev pub decreases-loop-input : goal.decreases-loop-input
decreases-loop-input l = length l.self-inside.entries
