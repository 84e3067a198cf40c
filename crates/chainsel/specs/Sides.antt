-- States beside the selected chain, on which a block may be judged.
use Rattle.std.specs.Prelude.{List, ◌++◌, Contains}
use Rattle.std.specs.List.{AllByRecursion}
use Rattle.model.specs.Block.{Block}
use Rattle.model.specs.Signature.{Verifies}
use Rattle.model.specs.Genesis.{Genesis}
use Rattle.model.specs.Ledger.{Network, network_on}
use Rattle.model.specs.Applying.{LedgerState, IsStateOf}
use Rattle.ledgerdb.specs.Values.{Database}
use Rattle.ledgerdb.specs.Chains.{IsDatabaseOf}

-- it is the state of a chain of these blocks
pub record IsSide (network : Network) (blocks : List Block) (s : LedgerState) : Type 0 where
  pub path : List Block
  pub state : IsStateOf network path s
  pub members : AllByRecursion (Contains blocks) path

-- In every network it is the state of a chain of these blocks and of those of the chain whose database this is.
abbrev pub IsSideOf : Verifies → Database → (way : List Block) → LedgerState → Type 0
IsSideOf verifies db way s =
    (genesis : Genesis) (opened chain : List Block) → IsDatabaseOf (network_on genesis verifies opened) chain db
    → IsSide (network_on genesis verifies opened) (way ++ chain) s
