-- The outputs that the ledger of a chain has are those that its blocks leave.
use Rattle.std.proofs.Common.{◌≡◌, ℕ, List, [], ◌∷◌, Option, Some, None, refl, sym, ap, ◌∙◌}
use Rattle.std.specs.Prelude.{option_and_then}
use Rattle.std.proofs.lemmas.Option.{same_Some}
use Rattle.model.specs.Transaction.{Transaction}
use Rattle.model.specs.Signature.{Verifies}
use Rattle.model.specs.Utxo.{Utxo, utxo_after}
use Rattle.model.specs.Rules.{Params}
use Rattle.model.specs.Block.{Block}
use Rattle.model.specs.Ledger.{Network, Ledger, opening_ledger, ledger_with, reason_in, ledger_after, ledger_after_block, ledger_from}
use Rattle.model.proofs.LedgerSteps.{None_not_Some, through_after, none_after}
use Rattle.model.specs.Mempool.{utxo_after_all}
use Rattle.watching.specs.Chains.{unspent_of}
use Rattle.watching.specs.Ledgers.{OutputsAreTheLedgers}

transactions_leave : (verifies : Verifies) (params : Params) (slot : ℕ) (l : Ledger) (ts : List Transaction) (m : Ledger) → ledger_after verifies params slot l ts ≡ Some m → m.utxo ≡ utxo_after_all l.utxo ts
transactions_leave verifies params slot l [] m is = ap (λ (x : Ledger). x.utxo) (sym (same_Some l m is))
transactions_leave verifies params slot l (t ∷ ts) m is =
    elim (reason_in verifies params slot l t) as (λ r. reason_in verifies params slot l t ≡ r → m.utxo ≡ utxo_after_all (utxo_after l.utxo t) ts) [
      | None ↦ λ none. transactions_leave verifies params slot (ledger_with l t) ts m (sym (through_after verifies params slot l t ts none) ∙ is)
      | Some r ↦ λ some. absurd (None_not_Some m (sym (none_after verifies params slot l t ts r some) ∙ is))
    ] refl

blocks_leave : (network : Network) (l : Ledger) (bs : List Block) (m : Ledger) → ledger_from network l bs ≡ Some m → m.utxo ≡ unspent_of l.utxo bs
blocks_leave network l [] m is = ap (λ (x : Ledger). x.utxo) (sym (same_Some l m is))
blocks_leave network l (b ∷ bs) m is =
    elim (ledger_after_block network l b) as (λ o. ledger_after_block network l b ≡ o → m.utxo ≡ unspent_of (utxo_after_all l.utxo b.transactions) bs) [
      | None ↦ λ none. absurd (None_not_Some m (sym (ap (λ (o : Option Ledger). option_and_then (λ after. ledger_from network after bs) o) none) ∙ is))
      | Some a ↦ λ some.
          blocks_leave network a bs m (sym (ap (λ (o : Option Ledger). option_and_then (λ after. ledger_from network after bs) o) some) ∙ is)
          ∙ ap (λ (u : Utxo). unspent_of u bs) (transactions_leave network.verifies network.genesis.params b.header.slot l b.transactions a some)
    ] refl

pub outputs_are : OutputsAreTheLedgers
outputs_are network chain ledger is = blocks_leave network (opening_ledger network.genesis) chain ledger is
