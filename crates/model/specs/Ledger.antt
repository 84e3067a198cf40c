-- The ledger of a chain: the unspent outputs and the fees that its transactions leave. Each is judged by the rules of a
-- transaction at its block's slot, on what those before it leave (Shelley, LEDGERS; the Consensus and Storage Layer
-- report, ledger state).
use Rattle.std.specs.Prelude.{ℕ, suc, ◌+◌, List, [], ◌∷◌, Option, Some, option_and_then, Result, Ok, Err}
use Rattle.std.specs.Option.{option_map_or}
use Rattle.std.specs.Result.{result_ok, result_err}
use Rattle.model.specs.Transaction.{Transaction}
use Rattle.model.specs.Signature.{Verifies}
use Rattle.model.specs.Utxo.{Utxo, utxo_after}
use Rattle.model.specs.Rules.{Params, Reason, reason_against, in_one_era}
use Rattle.model.specs.Genesis.{Genesis, opening_utxo}
use Rattle.model.specs.Block.{Block}

-- What a node begins from: what its network agrees on, which is the genesis and which signatures are good, and the
-- chain that it is opened on. A new node has no block of that.
pub record Network : Type 0 where
  pub genesis : Genesis
  pub verifies : Verifies
  pub opened : List Block

-- a node of this genesis under a scheme of signatures that is opened on a chain
abbrev pub network_on : Genesis → Verifies → List Block → Network
network_on genesis verifies opened = record { genesis = genesis; verifies = verifies; opened = opened }

-- a new one
abbrev pub network_of : Genesis → Verifies → Network
network_of genesis verifies = network_on genesis verifies []

-- the same network if it had one era for ever
abbrev pub network_in_one_era : Network → Network
network_in_one_era network =
    let genesis = record network.genesis { params = in_one_era network.genesis.params } in
    record network { genesis = genesis }

-- the unspent outputs, and the fees so far
pub record Ledger : Type 0 where
  pub utxo : Utxo
  pub fees : ℕ

-- before the first block
abbrev pub opening_ledger : Genesis → Ledger
opening_ledger genesis = record { utxo = opening_utxo genesis; fees = 0 }

-- after a transaction
abbrev pub ledger_with : Ledger → Transaction → Ledger
ledger_with ledger t = record { utxo = utxo_after ledger.utxo t; fees = ledger.fees + t.fee }

-- ---- the transactions of a body

module _ (verifies : Verifies) (params : Params) (slot : ℕ) where
  -- the reason against a transaction
  abbrev pub reason_in : Ledger → Transaction → Option Reason
  reason_in ledger t = reason_against verifies params ledger.utxo slot t

  -- TRANSACTIONS JUDGED IN ORDER (Shelley, LEDGERS)
  -- Each is judged on what those before it leave. Ok is the ledger after all of them, where there is no reason against
  -- any; Err is the place of the first against which there is one, and the reason. Places are counted from `index` on.
  abbrev pub judged_in_order : Ledger → (index : ℕ) → List Transaction → Result Ledger (ℕ × Reason)
  judged_in_order ledger index [] = Ok ledger
  judged_in_order ledger index (t ∷ ts) =
      option_map_or (λ reason. Err (index, reason)) (reason_in ledger t)
      (judged_in_order (ledger_with ledger t) (suc index) ts)

  -- the ledger after transactions, where there is no reason against any of them
  abbrev pub ledger_after : Ledger → List Transaction → Option Ledger
  ledger_after ledger ts = result_ok (judged_in_order ledger 0 ts)

  -- the first transaction against which there is a reason, and the reason; they are counted from `index` on
  abbrev pub first_refused : Ledger → (index : ℕ) → List Transaction → Option (ℕ × Reason)
  first_refused ledger index ts = result_err (judged_in_order ledger index ts)

-- ---- the blocks of a chain

module _ (network : Network) where
  -- after a block's transactions, each judged at the block's slot
  abbrev pub ledger_after_block : Ledger → Block → Option Ledger
  ledger_after_block ledger b =
      ledger_after network.verifies network.genesis.params b.header.slot ledger b.transactions

  -- after all blocks
  abbrev pub ledger_from : Ledger → List Block → Option Ledger
  ledger_from ledger [] = Some ledger
  ledger_from ledger (b ∷ bs) = option_and_then (λ after. ledger_from after bs) (ledger_after_block ledger b)

  -- LEDGER OF A CHAIN (Shelley, LEDGERS)
  -- The fold over all transactions of its blocks from the genesis outputs, and none where there is a reason against one
  -- of them.
  abbrev pub ledger_of : List Block → Option Ledger
  ledger_of chain = ledger_from (opening_ledger network.genesis) chain
