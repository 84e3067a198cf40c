-- The mempool beside a chain: brought up to date twice it is as after once, and a submission leaves it valid.
use Rattle.std.proofs.Common.{◌≡◌, ℕ, List, [], ◌∷◌, ◌++◌, Option, Some, None, refl, sym, ap, subst, ◌∙◌, is_some}
use Rattle.std.specs.Prelude.{if◌then◌else◌}
use Rattle.std.specs.Option.{option_map_or}
use Rattle.model.specs.Block.{Block}
use Rattle.model.specs.Transaction.{Transaction}
use Rattle.model.specs.Utxo.{Utxo}
use Rattle.model.specs.Rules.{Reason, reason_against}
use Rattle.model.specs.Ledger.{Network}
use Rattle.model.specs.Mempool.{utxo_after_all, passed, utxo_of, next_slot, revalidated, IsValidMempool, SubmitReply, Malformed, Known, Refused, Full, Added, IsMempoolAfter, Submits}
use Rattle.model.proofs.MempoolPasses.{twice, put_last}
use Rattle.model.proofs.TransactionTexts.{one_transaction}

module _ (network : Network) (chain : List Block) where
  -- what stays on these outputs, and nothing where there are none
  abbrev left_on : Option Utxo → List Transaction → List Transaction
  left_on outputs txs = option_map_or (λ (utxo : Utxo). passed network.verifies network.genesis.params (next_slot chain) utxo txs) outputs []

  left_twice : (outputs : Option Utxo) (txs : List Transaction) → left_on outputs (left_on outputs txs) ≡ left_on outputs txs
  left_twice None txs = refl
  left_twice (Some utxo) txs = twice network.verifies network.genesis.params (next_slot chain) utxo txs

  left_of_nothing : (outputs : Option Utxo) → left_on outputs [] ≡ []
  left_of_nothing None = refl
  left_of_nothing (Some utxo) = refl

  -- what is brought up to date is valid, and so is an empty mempool
  pub up_to_date : (txs : List Transaction) → IsValidMempool network chain (revalidated network chain txs)
  up_to_date txs = left_twice (utxo_of network chain) txs

  pub nothing_valid : IsValidMempool network chain []
  nothing_valid = left_of_nothing (utxo_of network chain)

  -- with a transaction at its end against which there is no reason it is valid still
  pub valid_with : (utxo : Utxo) (txs : List Transaction) (t : Transaction) → utxo_of network chain ≡ Some utxo
      → reason_against network.verifies network.genesis.params (utxo_after_all utxo txs) (next_slot chain) t ≡ None
      → IsValidMempool network chain txs → IsValidMempool network chain (txs ++ t ∷ [])
  valid_with utxo txs t of_chain none valid =
      let on : left_on (Some utxo) txs ≡ txs = ap (λ (o : Option Utxo). left_on o txs) (sym of_chain) ∙ valid in
      ap (λ (o : Option Utxo). left_on o (txs ++ t ∷ [])) of_chain
      ∙ (put_last network.verifies network.genesis.params (next_slot chain) utxo txs t on
      ∙ ap (λ (r : Option Reason). txs ++ (if is_some r then [] else t ∷ [])) none)

  -- a submission leaves it valid
  pub submitted_valid : (txs : List Transaction) (bytes : List ℕ) (reply : SubmitReply) (after : List Transaction) → Submits network chain txs bytes reply after
      → IsValidMempool network chain txs → IsValidMempool network chain after
  submitted_valid txs bytes Added after submits valid =
      let judged = submits.answers in
      let put = submits.mempool in
      let same : judged.0 ≡ put.0 = one_transaction judged.0 put.0 bytes judged.1 put.1 in
      let none = subst (λ (t : Transaction). reason_against network.verifies network.genesis.params (utxo_after_all submits.utxo txs) (next_slot chain) t ≡ None) same judged.2.0.1 in
      subst (IsValidMempool network chain) (sym put.2) (valid_with submits.utxo txs put.0 submits.of_chain none valid)
  submitted_valid txs bytes Malformed after submits valid = subst (IsValidMempool network chain) (sym submits.mempool) valid
  submitted_valid txs bytes Known after submits valid = subst (IsValidMempool network chain) (sym submits.mempool) valid
  submitted_valid txs bytes (Refused reason) after submits valid = subst (IsValidMempool network chain) (sym submits.mempool) valid
  submitted_valid txs bytes Full after submits valid = subst (IsValidMempool network chain) (sym submits.mempool) valid

-- a submission that is answered so leaves one mempool
pub submitted_one : (txs : List Transaction) (bytes : List ℕ) (reply : SubmitReply) (a b : List Transaction) → IsMempoolAfter txs bytes reply a → IsMempoolAfter txs bytes reply b → a ≡ b
submitted_one txs bytes Added a b first second = first.2 ∙ (ap (λ (t : Transaction). txs ++ t ∷ []) (one_transaction first.0 second.0 bytes first.1 second.1) ∙ sym second.2)
submitted_one txs bytes Malformed a b first second = first ∙ sym second
submitted_one txs bytes Known a b first second = first ∙ sym second
submitted_one txs bytes (Refused reason) a b first second = first ∙ sym second
submitted_one txs bytes Full a b first second = first ∙ sym second
