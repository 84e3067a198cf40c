-- Objects as they are put together, for private clauses: members go in one after another, each to its place.
use Rattle.std.specs.Prelude.{ℕ, List, [], ◌∷◌, Option, codes, option_map}
use Rattle.serde_json.specs.Data.{Data, boolean, Members, put}
use Rattle.model.specs.Signature.{Verifies}
use Rattle.model.specs.Transaction.{Transaction, transaction_id_of}
use Rattle.model.specs.Rules.{Params, scripts_hold}
use Rattle.model.specs.Genesis.{Genesis}
use Rattle.model.specs.Block.{Block, block_hash_of}
use Rattle.describing.specs.Parts.{json_of_number, json_of_given, json_of_given_bytes, json_list}
use Rattle.describing.specs.Values.{json_of_assets}
use Rattle.describing.specs.Scripts.{json_of_script}
use Rattle.describing.specs.Transactions.{json_of_input, json_of_output, json_of_signature}
use Rattle.describing.specs.Geneses.{era_slot, era_price}
use Rattle.describing.specs.Records.{number_of, slot_of}

-- an object's members, once these are put in too
abbrev pub put_all : List (List ℕ × Data) → Members → Members
put_all [] members = members
put_all (m ∷ ms) members = put_all ms (put m.0 m.1 members)

-- a transaction's body
abbrev pub body_members : Transaction → List (List ℕ × Data)
body_members t =
    (codes "inputs", json_list json_of_input t.inputs)
    ∷ (codes "outputs", json_list json_of_output t.outputs)
    ∷ (codes "fee", json_of_number t.fee)
    ∷ (codes "start", json_of_given t.start)
    ∷ (codes "end", json_of_given t.end)
    ∷ (codes "mint", json_of_assets (λ quantity. quantity) t.mint) ∷ []

-- a transaction's witness set, with the verdicts on it
abbrev pub witness_members : Verifies → Transaction → List (List ℕ × Data)
witness_members verifies t =
    (codes "signatures", json_list (json_of_signature verifies (transaction_id_of t)) t.signatures)
    ∷ (codes "scripts", json_list json_of_script t.scripts)
    ∷ (codes "scripts_hold", boolean (scripts_hold t)) ∷ []

-- what a genesis asks of transactions and of bodies
abbrev pub params_members : Params → List (List ℕ × Data)
params_members params =
    (codes "min_fee_a", json_of_number params.min_fee_a)
    ∷ (codes "min_fee_b", json_of_number params.min_fee_b)
    ∷ (codes "min_utxo", json_of_number params.min_utxo)
    ∷ (codes "max_tx_size", json_of_number params.max_tx_size)
    ∷ (codes "max_body_size", json_of_number params.max_body_size)
    ∷ (codes "era2_slot", json_of_given (option_map era_slot params.second_era))
    ∷ (codes "per_asset", json_of_given (option_map era_price params.second_era)) ∷ []

-- how much a node keeps
abbrev pub limits_members : Genesis → List (List ℕ × Data)
limits_members genesis =
    (codes "k", json_of_number genesis.k)
    ∷ (codes "max_volatile", json_of_number genesis.max_volatile)
    ∷ (codes "max_volatile_bytes", json_of_given genesis.max_volatile_bytes)
    ∷ (codes "max_mempool", json_of_number genesis.max_mempool) ∷ []

-- what is told of the block in a record
abbrev pub facts_members : Option Block → List (List ℕ × Data)
facts_members found =
    (codes "hash", json_of_given_bytes (option_map block_hash_of found))
    ∷ (codes "number", json_of_given (option_map number_of found))
    ∷ (codes "slot", json_of_given (option_map slot_of found)) ∷ []
