-- What a ledger database holds, and what a fork makes ready (the Consensus and Storage Layer report, ledger database).
use Rattle.std.specs.Prelude.{ℕ, ◌-◌, List, length, take, drop, refl}
use Rattle.std.specs.Coded.{Coded, code_by, coded×, coded_ℕ, coded_list}
use Rattle.model.specs.Applying.{LedgerState, last_state}
use Rattle.model.specs.Codes.{coded_ledger_state}

-- the anchor and the states of the blocks after it, the oldest first, of which at most k are kept; and states beside
-- these, of whatever chains, the oldest first
pub record Database : Type 0 where
  pub k : ℕ
  pub anchor : LedgerState
  pub states : List LedgerState
  pub sides : List LedgerState

-- how many blocks are rolled back, the state that is left then, and the states of the blocks that stand in their place,
-- the oldest first
pub record Prepared : Type 0 where
  pub back : ℕ
  pub root : LedgerState
  pub states : List LedgerState

abbrev pub coded_database : Coded Database
coded_database =
    code_by (ℕ × (LedgerState × (List LedgerState × List LedgerState)))
    (coded× coded_ℕ
    (coded× coded_ledger_state (coded× (coded_list coded_ledger_state) (coded_list coded_ledger_state))))
    (λ db. (db.k, (db.anchor, (db.states, db.sides))))
    (λ p. record { k = p.0; anchor = p.1.0; states = p.1.1.0; sides = p.1.1.1 })
    (λ _. refl)

abbrev pub coded_prepared : Coded Prepared
coded_prepared =
    code_by (ℕ × (LedgerState × List LedgerState))
    (coded× coded_ℕ (coded× coded_ledger_state (coded_list coded_ledger_state)))
    (λ prepared. (prepared.back, (prepared.root, prepared.states)))
    (λ p. record { back = p.0; root = p.1.0; states = p.1.1 })
    (λ _. refl)

-- how many blocks may be rolled back
abbrev pub depth : Database → ℕ
depth db = length db.states

-- how many blocks a fork puts on
abbrev pub count : Prepared → ℕ
count prepared = length prepared.states

-- the state `back` blocks ago
abbrev pub state_back : Database → ℕ → LedgerState
state_back db back = last_state db.anchor (take (depth db - back) db.states)

-- how many states beside the chain are kept at most
abbrev pub most_sides : ℕ
most_sides = 8

-- the last ones, as many as are kept
abbrev pub latest : List LedgerState → List LedgerState
latest states = drop (length states - most_sides) states
