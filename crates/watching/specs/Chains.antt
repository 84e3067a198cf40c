-- What a chain leaves to be spent and to be told, and which index is that of a chain.
use Rattle.std.specs.Prelude.{◌≡◌, ◌≢◌, ℕ, zero, suc, ◌-◌, ◌≤◌, List, [], ◌∷◌, ◌++◌, length, take}
use Rattle.std.specs.Prelude.{replicate, unwrap_or, refl, if◌then◌else◌}
use Rattle.std.specs.Coded.{Coded, code_by, coded×, coded_ℕ, coded_list}
use Rattle.std.specs.FinMap as finite
use Rattle.model.specs.Limits.{hash_size}
use Rattle.model.specs.Transaction.{Transaction, transaction_id_of}
use Rattle.model.specs.Utxo.{Utxo, utxo_after}
use Rattle.model.specs.Mempool.{utxo_after_all}
use Rattle.model.specs.Block.{Block, Header}
use Rattle.model.specs.Chain.{Tip, Point, genesis_tip, tip_at, tip_after, IsLinked}
use Rattle.model.specs.Codes.{coded_bytes, coded_input, coded_output, coded_tip}
use Rattle.watching.specs.Which.{Which, watched_among, coded_which}
use Rattle.watching.specs.Histories.{Inclusion, inclusion_in, Histories, Inclusions, with_entries, owners_in, is_told}
use Rattle.watching.specs.Histories.{coded_inclusion}

-- what the blocks of a chain leave, where these outputs stood before its first block (Shelley, UTxO transitions). They
-- aren't judged.
abbrev pub unspent_of : (granted : Utxo) → List Block → Utxo
unspent_of granted [] = granted
unspent_of granted (b ∷ bs) = unspent_of (utxo_after_all granted b.transactions) bs

-- What is kept of a chain, where some outputs are watched: those of them that it leaves, the history of each owner, and
-- where each transaction was put on.
pub record Tables : Type 0 where
  pub outputs : Utxo
  pub histories : Histories
  pub inclusions : Inclusions

-- these outputs, before any transaction
abbrev pub only_outputs : Utxo → Tables
only_outputs outputs = record { outputs = outputs; histories = finite.empty; inclusions = finite.empty }

-- The tables with one more transaction: the watched ones of what it leaves; the transaction for whoever has a watched
-- output that it spends or makes; and where it was put on, if there is such an output.
abbrev pub tables_after : Which → Inclusion → Tables → Transaction → Tables
tables_after which inclusion tables t = record {
  outputs = watched_among which (utxo_after tables.outputs t);
  histories = with_entries inclusion (transaction_id_of t) (owners_in which tables.outputs t) tables.histories;
  inclusions =
      if is_told which tables.outputs t then finite.insert tables.inclusions (transaction_id_of t) inclusion
      else tables.inclusions;
}

-- with the transactions of a block from this index on
abbrev pub tables_after_all : Which → Header → (index : ℕ) → Tables → List Transaction → Tables
tables_after_all which header index tables [] = tables
tables_after_all which header index tables (t ∷ ts) =
    tables_after_all which header (suc index) (tables_after which (inclusion_in header index) tables t) ts

-- where a chain ends, and what is kept of it
pub record Version : Type 0 where
  pub tip : Tip
  pub tables : Tables

-- the version with one more block
abbrev pub version_after : Which → Version → Block → Version
version_after which v b =
    record { tip = tip_at b; tables = tables_after_all which b.header 0 v.tables b.transactions }

-- the version with these blocks
abbrev pub version_after_all : Which → Version → List Block → Version
version_after_all which v [] = v
version_after_all which v (b ∷ bs) = version_after_all which (version_after which v b) bs

-- What an index keeps of the outputs that it watches: the version of its chain, and those before each of the last
-- blocks, the newest first. Not more than k of these are ever kept.
pub record Watched : Type 0 where
  pub k : ℕ
  pub which : Which
  pub last : Version
  pub older : List Version

-- the index with one more block
abbrev pub with_block : Watched → Block → Watched
with_block w b = record {
  k = w.k;
  which = w.which;
  last = version_after w.which w.last b;
  older = take w.k (w.last ∷ w.older);
}

-- the index without the last `back` blocks, as far as these can be rolled back
abbrev pub rolled_back : (back : ℕ) → (k : ℕ) → Which → Version → List Version → Watched
rolled_back zero k which last older = record { k = k; which = which; last = last; older = older }
rolled_back (suc back) k which last [] = record { k = k; which = which; last = last; older = [] }
rolled_back (suc back) k which last (v ∷ vs) = rolled_back back k which v vs

abbrev pub back_by : ℕ → Watched → Watched
back_by back w = rolled_back back w.k w.which w.last w.older

-- the point at a tip; that of genesis has a hash of zero bytes
abbrev pub point_at : Tip → Point
point_at tip = record { number = tip.number; hash = unwrap_or tip.hash (replicate hash_size 0) }

-- the index can be rolled back to the point
pub record CanRollBack (w : Watched) (point : Point) : Type 0 where
  pub back : ℕ
  pub within : back ≤ length w.older
  pub ends : point_at (back_by back w).last.tip ≡ point

-- the index is rolled back to the point
pub record IsRolledBack (old : Watched) (point : Point) (new : Watched) : Type 0 where
  pub back : ℕ
  pub within : back ≤ length old.older
  pub is : new ≡ back_by back old
  pub ends : point_at new.last.tip ≡ point

-- ---- the index of a chain

-- the version with which an index begins, behind these blocks
abbrev pub first_version : Which → (granted : Utxo) → (past : List Block) → Version
first_version which granted past = record {
  tip = tip_after genesis_tip past;
  tables = only_outputs (watched_among which (unspent_of granted past));
}

-- a chain without its last block
abbrev pub without_last : List Block → List Block
without_last chain = take (length chain - 1) chain

-- the versions of the blocks without the last one, without the last two, and so on
abbrev pub AreOlder : Which → Version → (since : List Block) → List Version → Type 0
AreOlder which first since [] = Unit {0}
AreOlder which first since (v ∷ vs) = (since ≢ []) × (v ≡ version_after_all which first (without_last since))
    × AreOlder which first (without_last since) vs

-- INDEX OF A CHAIN
-- The index of a chain that began behind the blocks `past` and went on by the blocks `since`: what is kept after these,
-- and, for as many of the last blocks as can be rolled back, what was kept before each.
pub record IsIndexOf (granted : Utxo) (past since : List Block) (w : Watched) : Type 0 where
  pub linked : IsLinked genesis_tip (past ++ since)
  pub last : w.last ≡ version_after_all w.which (first_version w.which granted past) since
  pub versions : AreOlder w.which (first_version w.which granted past) since w.older

-- ---- codes

abbrev pub coded_utxo : Coded Utxo
coded_utxo = finite.code coded_input coded_output

abbrev pub coded_histories : Coded Histories
coded_histories = finite.code coded_bytes (finite.code coded_inclusion coded_bytes)

abbrev pub coded_inclusions : Coded Inclusions
coded_inclusions = finite.code coded_bytes coded_inclusion

abbrev pub coded_tables : Coded Tables
coded_tables =
    code_by (Utxo × (Histories × Inclusions)) (coded× coded_utxo (coded× coded_histories coded_inclusions))
    (λ k. (k.outputs, (k.histories, k.inclusions)))
    (λ p. record { outputs = p.0; histories = p.1.0; inclusions = p.1.1 })
    (λ _. refl)

abbrev pub coded_version : Coded Version
coded_version =
    code_by (Tip × Tables) (coded× coded_tip coded_tables) (λ v. (v.tip, v.tables))
    (λ p. record { tip = p.0; tables = p.1 })
    (λ _. refl)

abbrev pub coded_watched : Coded Watched
coded_watched =
    code_by (ℕ × (Which × (Version × List Version)))
    (coded× coded_ℕ (coded× coded_which (coded× coded_version (coded_list coded_version))))
    (λ w. (w.k, (w.which, (w.last, w.older))))
    (λ p. record { k = p.0; which = p.1.0; last = p.1.1.0; older = p.1.1.1 })
    (λ _. refl)
