-- What a block changes in a state, and how it is undone.
use Rattle.std.specs.Prelude.{ℕ, List, [], ◌∷◌, Option, Some, None, refl}
use Rattle.std.specs.Coded.{Coded, code_by, coded×, coded_ℕ, coded_list}
use Rattle.model.specs.Utxo.{Utxo}
use Rattle.model.specs.Chain.{Tip}
use Rattle.model.specs.Applying.{LedgerState}
use Rattle.model.specs.Codes.{coded_tip}
use Rattle.utxo_rules.specs.Diffs.{Diff, coded_diff, undone}

-- the differences of a block's transactions in their order, and the tip and the fees before it
pub record BlockDiff : Type 0 where
  pub diffs : List Diff
  pub tip : Tip
  pub fees : ℕ

abbrev pub coded_block_diff : Coded BlockDiff
coded_block_diff =
    code_by (List Diff × (Tip × ℕ)) (coded× (coded_list coded_diff) (coded× coded_tip coded_ℕ))
    (λ d. (d.diffs, (d.tip, d.fees)))
    (λ p. record { diffs = p.0; tip = p.1.0; fees = p.1.1 })
    (λ _. refl)

-- the unspent outputs before transactions: the last one is undone first
abbrev pub all_undone : List Diff → Utxo → Utxo
all_undone [] utxo = utxo
all_undone (d ∷ ds) utxo = undone d (all_undone ds utxo)

-- STATE BEFORE A BLOCK
-- Its transactions are undone, and the fees and the tip are those before it.
abbrev pub undone_block : BlockDiff → LedgerState → LedgerState
undone_block d s = record {
  params = s.params;
  ledger = record { utxo = all_undone d.diffs s.ledger.utxo; fees = d.fees };
  tip = d.tip;
}

-- where a chain ends before the block whose difference this is; with none, where it ends now
abbrev pub tip_before : LedgerState → Option BlockDiff → Tip
tip_before s None = s.tip
tip_before s (Some d) = d.tip
