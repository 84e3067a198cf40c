-- What the values of the code stand for.
use Rattle.std.specs.Prelude.{ℕ, List, map, Vec, option_map}
use Rattle.std.specs.declared.alloc.Global.{Global}
use Rattle.std.specs.Borrow.{Bor}
use Rattle.model.specs.Genesis.{Grant}
use Rattle.tx.specs.View.{address_of}
pub use Rattle.utxo_rules.specs.View.{params_of, second_era_of}
use Rattle.genesis.specs.Document.{EraNumbers, Numbers, Lock, ByAddress, ByKey, Entry, Written}
use Rattle.genesis.specs.Judgement.{Settings, Placed}
use Rattle.genesis.specs.declared.document.EraNumbers.{EraNumbers as CodeEraNumbers}
use Rattle.genesis.specs.declared.document.Numbers.{Numbers as CodeNumbers}
use Rattle.genesis.specs.declared.document.Lock.{Lock as CodeLock}
use Rattle.genesis.specs.declared.document.Lock.TheVariants.{Address, Key}
use Rattle.genesis.specs.declared.document.Entry.{Entry as CodeEntry}
use Rattle.genesis.specs.declared.document.Written.{Written as CodeWritten}
use Rattle.genesis.specs.declared.settings.Settings.{Settings as CodeSettings}
use Rattle.genesis.specs.declared.placing.Placed.{Placed as CodePlaced}
use Rattle.genesis.specs.declared.grants.Grant.{Grant as CodeGrant}

-- some texts
abbrev pub texts_of : List (Bor (List ℕ)) → List (List ℕ)
texts_of texts = map (λ text. text.now) texts

-- ---- what is written

abbrev pub era_numbers_view : CodeEraNumbers → EraNumbers
era_numbers_view e = record { first_slot = e.first_slot; per_asset = e.per_asset }

abbrev pub numbers_view : CodeNumbers → Numbers
numbers_view n =
    record {
      network = n.network;
      k = n.k;
      min_fee_a = n.min_fee_a;
      min_fee_b = n.min_fee_b;
      min_utxo = n.min_utxo;
      max_tx_size = n.max_tx_size;
      max_body_size = n.max_body_size;
      max_volatile = n.max_volatile;
      max_volatile_bytes = n.max_volatile_bytes;
      max_mempool = n.max_mempool;
      second_era = option_map era_numbers_view n.second_era;
    }

abbrev pub lock_view : CodeLock → Lock
lock_view (Address text) = ByAddress text.now
lock_view (Key text) = ByKey text.now

abbrev pub entry_view : CodeEntry → Entry
entry_view e = record { lock = lock_view e.lock; coin = e.coin }

abbrev pub entries_view : Vec CodeEntry Global → List Entry
entries_view entries = map entry_view entries.items

abbrev pub written_view : CodeWritten → Written
written_view w = record { numbers = numbers_view w.numbers; scheme = w.scheme; outputs = entries_view w.outputs }

-- ---- what is judged

abbrev pub settings_view : CodeSettings → Settings
settings_view s =
    record {
      params = params_of s.params;
      k = s.k;
      max_volatile = s.max_volatile;
      max_volatile_bytes = s.max_volatile_bytes;
      max_mempool = s.max_mempool;
    }

abbrev pub placed_view : CodePlaced → Placed
placed_view p = record { address = address_of p.address; coin = p.coin }

abbrev pub grant_view : CodeGrant → Grant
grant_view g = record { address = address_of g.address; coin = g.coin }
