-- What was added and what is still to be added are the whole; no more values were added than inputs were met.
use Rattle.std.specs.Prelude.{◌≤◌}
use Rattle.utxo_rules.proofs.Gathered.{IsPartSpent}
use Rattle.utxo_rules.proofs.spent.Spent.by.Given as goal

abbrev pub invariant-loop-input : goal.invariant-loop-input
invariant-loop-input l = IsPartSpent l.utxo l.spent l.inputs l.input-index × (l.spent.totals.values ≤ l.input-index)
