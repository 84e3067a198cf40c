-- What an index stands for.
use Rattle.std.specs.Prelude.{ℕ, ◌≤◌, List, [], ◌∷◌, length}
use Rattle.ident.specs.Kinds.{TxId}
use Rattle.block.specs.View.{tip_of}
use Rattle.model.specs.Transaction.{address_bytes}
use Rattle.tx.specs.View.{address_of}
use Rattle.watching.specs.Which.{Which, AreWatched}
use Rattle.watching.specs.Chains as chains
use Rattle.watching.specs.Chains.{Watched}
use Rattle.watching.specs.Histories as values
use Rattle.watching.specs.Changes.{Difference, all_put_back, versions_before}
use Rattle.watching.specs.declared.holders.Holder.{Holder}
use Rattle.watching.specs.declared.inclusion.Inclusion.{Inclusion}
use Rattle.watching.specs.declared.tables.Tables.{Tables}
use Rattle.watching.specs.declared.watch.Watch.TheInside as watch

abbrev pub inclusion_of : Inclusion → values.Inclusion
inclusion_of i = record { number = i.number; slot = i.slot; index = i.index }

-- a transaction of a history
abbrev pub entry_of : Inclusion × TxId → values.Inclusion × List ℕ
entry_of entry = (inclusion_of entry.0, entry.1.bytes)

-- a holder of an asset: the bytes of its address, and how much it holds
abbrev pub holder_of : Holder → List ℕ × ℕ
holder_of h = (address_bytes (address_of h.address), h.amount)

-- what the three stand for
abbrev pub tables_of : Tables → chains.Tables
tables_of k = record { outputs = k.index; histories = k.histories; inclusions = k.inclusions }

abbrev pub watched_of : watch.Inside → Watched
watched_of w = record {
  k = w.k;
  which = w.which;
  last = record { tip = tip_of w.tip; tables = tables_of w.tables };
  older = versions_before (tables_of w.tables) w.differences;
}

-- in these tables, and in those before each of these blocks, all outputs are watched
abbrev pub AreAllWatched : Which → chains.Tables → List Difference → Type 0
AreAllWatched which tables [] = AreWatched which tables.outputs
AreAllWatched which tables (d ∷ ds) =
    AreWatched which tables.outputs × AreAllWatched which (all_put_back d.changes tables) ds

-- no more blocks can be rolled back than k, and no version has an output that isn't watched
pub record IsWatching (w : watch.Inside) : Type 0 where
  pub bounded : length w.differences ≤ w.k
  pub watched : AreAllWatched w.which (tables_of w.tables) w.differences
