-- What a reader stands for, and what it keeps.
use Rattle.std.specs.Prelude.{◌≡◌, ℕ, ◌+◌, ◌≤◌, List, [], length, Option, Some, None, option_map}
use Rattle.std.specs.FinMap as finite
use Rattle.model.specs.Utxo.{Utxo}
use Rattle.snapshot.specs.Snapshot.{Front}
use Rattle.snapshot.specs.Begun.{Begun, coin_in}
use Rattle.snapshot.specs.View.{front_view}
use Rattle.snapshot.specs.declared.reader.SnapshotReader.TheInside.{Inside}

abbrev pub begun_of : Inside → Begun
begun_of r = record {
  supply = r.supply;
  digest = r.digest.bytes;
  front = option_map front_view r.front;
  utxo = r.outputs;
  size = r.size;
}

-- the first part has the digest of the network; the outputs behind it are no more than it announced, and with the fees
-- hold no more lovelace than there is
pub record FitBehind (supply : ℕ) (digest : List ℕ) (front : Front) (utxo : Utxo) : Type 0 where
  pub digest_is : front.digest ≡ digest
  pub counted : length (finite.entries utxo) ≤ front.count
  pub within : coin_in (finite.entries utxo) + front.fees ≤ supply

-- before it there are none
abbrev pub Fit : (supply : ℕ) → (digest : List ℕ) → Option Front → Utxo → Type 0
Fit supply digest None utxo = finite.entries utxo ≡ []
Fit supply digest (Some front) utxo = FitBehind supply digest front utxo

abbrev pub KeepsFit : Inside → Type 0
KeepsFit r = Fit r.supply r.digest.bytes (option_map front_view r.front) r.outputs
