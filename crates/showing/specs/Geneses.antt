-- The lines of a genesis, by the names of its file's keys.
use Rattle.std.specs.Prelude.{ℕ, ◌+◌, List, [], ◌∷◌, ◌++◌, Option, Some, None, codes}
use Rattle.model.specs.Rules.{Params, SecondEra}
use Rattle.model.specs.Genesis.{Grant, Genesis, supply_of}
use Rattle.genesis.specs.Meaning.{scheme_name}
use Rattle.genesis.specs.declared.scheme.Scheme.{Scheme}
use Rattle.showing.specs.Lines.{name_line, number_line}
use Rattle.showing.specs.Transactions.{address_line}

-- a number, where one is given
abbrev pub given_line : (word : List ℕ) → Option ℕ → List ℕ
given_line word None = []
given_line word (Some number) = number_line [] word number

-- when outputs have to hold more for their assets, and how much
abbrev pub lines_of_era : Option SecondEra → List ℕ
lines_of_era None = []
lines_of_era (Some era) =
    number_line [] (codes "era2_slot") era.first_slot ++ number_line [] (codes "per_asset") era.per_asset

-- what it asks of transactions and of bodies
abbrev pub lines_of_params : Params → List ℕ
lines_of_params params =
    number_line [] (codes "min_fee_a") params.min_fee_a
    ++ (number_line [] (codes "min_fee_b") params.min_fee_b
    ++ (number_line [] (codes "min_utxo") params.min_utxo
    ++ (number_line [] (codes "max_tx_size") params.max_tx_size
    ++ (number_line [] (codes "max_body_size") params.max_body_size ++ lines_of_era params.second_era))))

-- how much a node keeps
abbrev pub lines_of_limits : Genesis → List ℕ
lines_of_limits genesis =
    number_line [] (codes "k") genesis.k
    ++ (number_line [] (codes "max_volatile") genesis.max_volatile
    ++ (given_line (codes "max_volatile_bytes") genesis.max_volatile_bytes
    ++ number_line [] (codes "max_mempool") genesis.max_mempool))

-- an output that stands there from the start: its place, and indented under it its address and its coin
abbrev pub lines_of_grant : (place : ℕ) → Grant → List ℕ
lines_of_grant place grant =
    number_line [] (codes "output") place
    ++ (address_line (codes "  ") grant.address ++ number_line (codes "  ") (codes "coin") grant.coin)

-- outputs, whose places are counted from this one on
abbrev pub lines_of_grants : (place : ℕ) → List Grant → List ℕ
lines_of_grants place [] = []
lines_of_grants place (g ∷ gs) = lines_of_grant place g ++ lines_of_grants (place + 1) gs

-- THE LINES OF A GENESIS: its network, by what scheme signatures are judged, what it asks, how much a node keeps, the
-- lovelace that there is, and its outputs
abbrev pub lines_of_genesis : Scheme → Genesis → List ℕ
lines_of_genesis scheme genesis =
    number_line [] (codes "network") genesis.params.network
    ++ (name_line [] (codes "scheme") (scheme_name scheme)
    ++ (lines_of_params genesis.params
    ++ (lines_of_limits genesis
    ++ (number_line [] (codes "supply") (supply_of genesis) ++ lines_of_grants 0 genesis.grants))))
