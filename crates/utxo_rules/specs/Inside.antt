-- What a set of unspent outputs keeps.
use Rattle.std.specs.Prelude.{◌≡◌, ℕ, List, map, Option, Some, None}
use Rattle.model.specs.Transaction.{Input, Output, input_cmp}
use Rattle.model.specs.Utxo.{coin_of}
use Rattle.persistent_map.specs.Order.{Rise}
use Rattle.utxo_rules.specs.declared.utxo.Utxo.TheInside.{Inside}

-- what these pairs hold together, in lovelace
abbrev pub coin_in : List (Input × Output) → ℕ
coin_in es = coin_of (map (λ e. e.1) es)

-- what an output holds that may be there
abbrev pub coin_at : Option Output → ℕ
coin_at None = 0
coin_at (Some o) = o.value.coin

-- the inputs rise, and the coin is what the outputs hold
abbrev pub IsCounted : Inside → Type 0
IsCounted u = Rise input_cmp u.map × (u.coin ≡ coin_in u.map)
