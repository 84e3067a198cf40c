-- Laws of ledger databases, for callers.
use Rattle.std.proofs.Common.{◌≡◌, ◌≤◌, List, ◌++◌, length, Option, IsSome, refl, sym, subst}
use Rattle.model.specs.Block.{Block}
use Rattle.model.specs.Chain.{IsValidChain}
use Rattle.model.specs.Ledger.{Network, Ledger}
use Rattle.model.specs.Applying.{LedgerState, IsStateOf}
use Rattle.ledgerdb.specs.Values.{Database, Prepared, depth, count, state_back}
use Rattle.ledgerdb.specs.Chains.{without_last, IsDatabaseOf, IsPreparedOf}
use Rattle.ledgerdb.proofs.Beside.{beside_length, beside_last}
use Rattle.ledgerdb.proofs.Databases as own

module _ (network : Network) where
  -- no more blocks may be rolled back than the chain has
  pub depth_within : (chain : List Block) (db : Database) → IsDatabaseOf network chain db → depth db ≤ length chain
  depth_within = own.depth_within network

  -- what is kept beside the chain doesn't matter to it
  pub beside_any : (chain : List Block) (db : Database) (sides : List LedgerState) → IsDatabaseOf network chain db → IsDatabaseOf network chain (record db { sides = sides })
  beside_any = own.beside_any network

  -- a chain that has a state is valid
  pub valid_chain : (chain : List Block) (s : LedgerState) → IsStateOf network chain s → IsValidChain network chain
  valid_chain chain s is = record { linked = is.linked; sizes = is.sizes; ledger = subst (λ (o : Option Ledger). IsSome o) (sym is.ledger) refl }

  -- so the chain of a database is valid
  pub database_valid : (chain : List Block) (db : Database) → IsDatabaseOf network chain db → IsValidChain network chain
  database_valid chain db is = valid_chain chain (state_back db 0) (own.newest_state network chain db is)

  -- and the one that a fork prepares
  pub prepared_valid : (chain blocks : List Block) (db : Database) (prepared : Prepared) → IsDatabaseOf network chain db → prepared.back ≤ depth db
      → IsPreparedOf network (without_last prepared.back chain) blocks prepared → IsValidChain network (without_last prepared.back chain ++ blocks)
  prepared_valid chain blocks db prepared is within are =
      let root = without_last prepared.back chain in
      let from = own.back_state network chain db prepared.back is within in
      valid_chain (root ++ blocks) _ (beside_last network root (state_back db prepared.back) blocks prepared.states from are.states)

  -- a fork prepares one state for each block
  pub prepared_count : (root blocks : List Block) (prepared : Prepared) → IsPreparedOf network root blocks prepared → count prepared ≡ length blocks
  prepared_count root blocks prepared are = beside_length network root blocks prepared.states are.states
