-- Reading values and what is minted from left to right: a reading gives what stands first and the bytes
-- after it, or None where no such part stands there.
use Rattle.std.specs.Prelude.{ℕ, List, []}
use Rattle.cbor.specs.Reading.{head_at, fixed_at}
use Rattle.cbor.specs.Shapes.{Reading, as_at, short_at, either_at, both_at, array_at, nonempty_at, EntryReading}
use Rattle.cbor.specs.Shapes.{entry_at, map_at}
use Rattle.model.specs.Limits.{hash_size, name_size_limit}
use Rattle.model.specs.Value.{Token, Policy, Value, Mint}
use Rattle.value.specs.Quantities.{held_at, minted_at}

-- a token of these parts
abbrev pub token_with : {Q : Type 0} → List ℕ → Q → Token Q
token_with name quantity = record { name = name; quantity = quantity }

-- a name of at most 32 bytes with its quantity
unfoldable pub token_at : {Q : Type 0} → Reading Q → EntryReading (Token Q)
token_at quantity before bytes = entry_at token_with (short_at name_size_limit) quantity before bytes

-- a policy of these parts
abbrev pub policy_with : {Q : Type 0} → List ℕ → List (Token Q) → Policy Q
policy_with id tokens = record { id = id; tokens = tokens }

-- a policy of 32 bytes with its tokens, one at least
unfoldable pub policy_at : {Q : Type 0} → Reading Q → EntryReading (Policy Q)
policy_at quantity before bytes =
    entry_at policy_with (fixed_at hash_size) (nonempty_at (map_at (token_at quantity))) before bytes

-- policies with their tokens, one policy at least
abbrev pub assets_at : {Q : Type 0} → Reading Q → Reading (List (Policy Q))
assets_at quantity = nonempty_at (map_at (policy_at quantity))

-- a value of coin alone
abbrev pub coin_alone : ℕ → Value
coin_alone coin = record { coin = coin; assets = [] }

-- a value of these parts
abbrev pub coin_and : ℕ × List (Policy ℕ) → Value
coin_and parts = record { coin = parts.0; assets = parts.1 }

-- coin and assets
unfoldable pub coin_and_at : Reading Value
coin_and_at bytes = as_at coin_and (array_at 2 (both_at (head_at 0) (assets_at held_at))) bytes

-- a value: coin alone, or with assets
unfoldable pub value_at : Reading Value
value_at bytes = either_at (as_at coin_alone (head_at 0)) coin_and_at bytes

-- what is minted, which is not nothing
abbrev pub mint_at : Reading Mint
mint_at = assets_at minted_at
