-- What the fields of a ledger database stand for, and what they keep.
use Rattle.std.specs.Prelude.{◌^◌, ◌<◌, ◌≤◌, List, [], ◌∷◌, length}
use Rattle.model.specs.Applying.{LedgerState}
use Rattle.ledger.specs.BlockDiffs.{BlockDiff, undone_block}
use Rattle.ledgerdb.specs.Values.{Database}
use Rattle.ledgerdb.specs.declared.ledger_db.LedgerDb.TheInside.{Inside}

-- the state before blocks, by what each changed and the state after them: the last one is undone first
abbrev pub undone_blocks : List BlockDiff → LedgerState → LedgerState
undone_blocks [] s = s
undone_blocks (d ∷ ds) s = undone_block d (undone_blocks ds s)

-- the state after each of them
abbrev pub states_along : List BlockDiff → LedgerState → List LedgerState
states_along [] s = []
states_along (d ∷ ds) s = undone_blocks ds s ∷ states_along ds s

abbrev pub database_of : Inside → Database
database_of a =
    record {
      k = a.k;
      anchor = undone_blocks a.diffs a.state;
      states = states_along a.diffs a.state;
      sides = a.sides;
    }

-- there are at most k differences, as many as a list can hold
abbrev pub IsBounded : Inside → Type 0
IsBounded a = (length a.diffs ≤ a.k) × (a.k < 2 ^ 63)
