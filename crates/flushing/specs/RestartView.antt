-- What a node that restarts keeps of the blocks that it was given: a chain of them, or the fault that they have.
use Rattle.std.specs.Prelude.{◌≡◌, Result, Ok, Err}
use Rattle.model.specs.Signature.{Verifies}
use Rattle.model.specs.Genesis.{Genesis}
use Rattle.model.specs.Ledger.{network_of}
use Rattle.immlog.specs.Views.{blocks_of}
use Rattle.chain_core.specs.ChainSoFar.{ChainSoFar}
use Rattle.chain_core.specs.Immutable.{texts_of}
use Rattle.chain_core.specs.Reopening.{IsReopenFault, IsChainOf}
use Rattle.chain_core.specs.declared.reopening.ReopenFault.{ReopenFault}
use Rattle.flushing.specs.Restarting.{Restarting}
use Rattle.flushing.specs.declared.restart.Restart.TheInside.{Inside}

abbrev pub restart_of : {S : Type 0} → Inside S → Restarting
restart_of a = record { genesis = a.genesis.value; blocks = blocks_of a.given }

abbrev pub IsMadeOf : Verifies → Restarting → Result ChainSoFar ReopenFault → Type 0
IsMadeOf verifies r (Ok so_far) = (so_far.genesis ≡ r.genesis) × (texts_of so_far.chain ≡ r.blocks)
    × IsChainOf (network_of r.genesis verifies) r.blocks so_far.chain
IsMadeOf verifies r (Err fault) = IsReopenFault (network_of r.genesis verifies) r.blocks fault

abbrev pub IsMade : {S : Type 0} → Verifies → Inside S → Type 0
IsMade verifies a = IsMadeOf verifies (restart_of a) a.made
