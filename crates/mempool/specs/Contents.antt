-- What the mempool holds.
use Rattle.std.specs.Prelude.{ℕ, List, refl}
use Rattle.std.specs.Coded.{Coded, code_by, coded×, coded_list, coded_ℕ}
use Rattle.std.specs.FinMap as finite
use Rattle.model.specs.Transaction.{Transaction}
use Rattle.model.specs.Utxo.{Utxo}
use Rattle.model.specs.Codes.{coded_transaction, coded_input, coded_output}

-- transactions in order, and the outputs on which the next one is judged
pub record Waiting : Type 0 where
  pub txs : List Transaction
  pub unspent : Utxo

-- how many there may be, and those that there are
pub record Mempool : Type 0 where
  pub capacity : ℕ
  pub waiting : Waiting

abbrev pub coded_waiting : Coded Waiting
coded_waiting =
    code_by (List Transaction × Utxo) (coded× (coded_list coded_transaction) (finite.code coded_input coded_output))
    (λ w. (w.txs, w.unspent)) (λ p. record { txs = p.0; unspent = p.1 }) (λ _. refl)

abbrev pub coded_mempool : Coded Mempool
coded_mempool =
    code_by (ℕ × Waiting) (coded× coded_ℕ coded_waiting) (λ p. (p.capacity, p.waiting))
    (λ p. record { capacity = p.0; waiting = p.1 }) (λ _. refl)
