-- What the grants of a genesis leave to be spent, and how much lovelace that is.
use Rattle.std.proofs.Common.{◌≡◌, ◌<◌, List, map, sym, ap, ◌∙◌, arith}
use Rattle.std.specs.FinMap as finite
use Rattle.std.proofs.lemmas.Simd.{map-map}
use Rattle.model.specs.Limits.{number_limit}
use Rattle.model.specs.Transaction.{Output}
use Rattle.model.specs.Utxo.{Utxo, with_pairs, pairs_from, outputs_of, coin_of}
use Rattle.model.specs.Genesis.{Genesis, Grant, IsGenesis, output_of_grant, opening_id, opening_utxo, supply_of}
use Rattle.model.proofs.OpeningOutputs.{opening_holds}
use Rattle.genesis.specs.View.{grant_view}
use Rattle.genesis.specs.declared.grants.Grant.{Grant as CodeGrant}
use Rattle.ledger.specs.View.{granted_output}

abbrev pub granted_utxo : List CodeGrant → Utxo
granted_utxo grants = with_pairs (pairs_from opening_id 0 (map granted_output grants)) finite.empty

pub granted : (grants : List CodeGrant) (genesis : Genesis) → map grant_view grants ≡ genesis.grants → granted_utxo grants ≡ opening_utxo genesis
unfolding opening_utxo
granted grants genesis are =
    let outputs : map granted_output grants ≡ map output_of_grant genesis.grants = sym (map-map output_of_grant grant_view grants) ∙ ap (λ (gs : List Grant). map output_of_grant gs) are in
    ap (λ (os : List Output). with_pairs (pairs_from opening_id 0 os) finite.empty) outputs

pub small_supply : (genesis : Genesis) (utxo : Utxo) → utxo ≡ opening_utxo genesis → IsGenesis genesis → coin_of (outputs_of utxo) < number_limit
small_supply genesis utxo is ranges =
    let holds : coin_of (outputs_of utxo) ≡ supply_of genesis = ap (λ (u : Utxo). coin_of (outputs_of u)) is ∙ opening_holds genesis in
    let below = ranges.supply in omega (arith, holds, below)
