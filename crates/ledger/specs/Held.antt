-- What a state of the code stands for, and what it keeps.
use Rattle.std.specs.Prelude.{◌+◌, ◌<◌}
use Rattle.model.specs.Limits.{number_limit}
use Rattle.model.specs.Utxo.{outputs_of, coin_of}
use Rattle.model.specs.Applying.{LedgerState}
use Rattle.utxo_rules.specs.View.{params_of}
use Rattle.ledger.specs.declared.ledger_state.LedgerState.TheInside.{Inside}
use Rattle.ledger.specs.View.{tip_of}

abbrev pub ledger_state_of : Inside → LedgerState
ledger_state_of s =
    record { params = params_of s.params; ledger = record { utxo = s.utxo; fees = s.fees }; tip = tip_of s.tip }

-- the unspent outputs and the fees are less than 2 ^ 63 lovelace together, and the tip's slot is below 2 ^ 63
abbrev pub IsHeldState : Inside → Type 0
IsHeldState s = (coin_of (outputs_of s.utxo) + s.fees < number_limit) × (s.tip.slot < number_limit)
