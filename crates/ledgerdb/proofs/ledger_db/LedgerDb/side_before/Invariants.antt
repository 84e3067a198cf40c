use Rattle.std.proofs.Common.{◌≡◌, List, ◌++◌, length}
use Rattle.std.specs.List.{AllByRecursion}
use Rattle.model.specs.Chain.{Follows}
use Rattle.model.specs.Applying.{LedgerState}
use Rattle.ledgerdb.proofs.ledger_db.LedgerDb.side_before.Given as goal

-- the block comes next after none of those so far
abbrev pub invariant-loop-side : goal.invariant-loop-side
invariant-loop-side l =
    (passed : List LedgerState) × (passed ++ l.rest ≡ l.self.sides)
    × AllByRecursion (λ (s : LedgerState). Follows s.tip l.block → ⊥) passed

abbrev pub decreases-loop-side : goal.decreases-loop-side
decreases-loop-side l = length l.rest
