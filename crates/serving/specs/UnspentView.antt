-- What an unspent output that is to be told stands for.
use Rattle.std.specs.Prelude.{map}
use Rattle.serving.specs.declared.unspent.Unspent.{Unspent as CodeUnspent}
use Rattle.serving.specs.UtxoTelling.{Unspent, asset_told}

abbrev pub unspent_view : CodeUnspent → Unspent
unspent_view u = record {
  transaction = u.input.transaction.bytes;
  index = u.input.index;
  address = u.address;
  coin = u.coin;
  assets = map asset_told u.assets.items;
}
