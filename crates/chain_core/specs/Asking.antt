-- What the answers of the code stand for.
use Rattle.model.specs.Asked as asked
use Rattle.chain_core.specs.declared.finding.Place.{Place}
use Rattle.chain_core.specs.declared.finding.Place.TheVariants as place
use Rattle.chain_core.specs.declared.standing.TxPlace.{TxPlace}
use Rattle.chain_core.specs.declared.standing.TxPlace.TheVariants as standing

abbrev pub place_of : Place → asked.BlockPlace
place_of (place.Chain number) = asked.OnChain number
place_of (place.Beside number) = asked.Beside number
place_of place.Unknown = asked.Nowhere

abbrev pub tx_place_of : TxPlace → asked.TxPlace
tx_place_of (standing.Waits position) = asked.Waiting position
tx_place_of (standing.Block number index) = asked.InBlock number index
tx_place_of standing.Unknown = asked.NotFound
