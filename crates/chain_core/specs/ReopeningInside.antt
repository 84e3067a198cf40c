-- What the fields of a chain on which a core will be opened stand for.
use Rattle.std.specs.Prelude.{List}
use Rattle.model.specs.Signature.{Verifies}
use Rattle.model.specs.Block.{Block}
use Rattle.model.specs.Ledger.{network_on}
use Rattle.model.specs.Applying.{IsStateOf}
use Rattle.chain_core.specs.Immutable.{texts_of}
use Rattle.chain_core.specs.Reopening.{AreRead}
use Rattle.chain_core.specs.ChainSoFar.{ChainSoFar}
use Rattle.chain_core.specs.declared.reopening.Reopening.TheInside.{Inside}

abbrev pub so_far : {S : Type 0} → Inside S → ChainSoFar
so_far a = record { genesis = a.genesis; chain = a.chain.items }

-- each block is read of its text, and the state is that of the chain, whichever of its blocks a core is opened on
pub record IsReadInside {S : Type 0} (verifies : Verifies) (a : Inside S) : Type 0 where
  pub read : AreRead a.chain.items (texts_of a.chain.items)
  pub state : (opened : List Block) → IsStateOf (network_on a.genesis verifies opened) a.chain.items a.state
