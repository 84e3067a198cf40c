-- The parameters of a request, by name (JSON-RPC 2.0, section 4.2).
use Rattle.std.specs.Prelude.{ℕ, nat_le, if◌then◌else◌, List, [], ◌∷◌, length, Option, Some, None, codes}
use Rattle.std.specs.Result.{result_ok}
use Rattle.hex.specs.Hex.{decode_of, decode_sized}
use Rattle.serde_json.specs.Data.{Data, Items, no_items, item}
use Rattle.serde_json.specs.Find.{get, as_str, as_array}
use Rattle.conversing.specs.Steps.{◌>>=◌, each}
use Rattle.conversing.specs.Numbers.{number_of}

-- how many bytes a hash has
abbrev pub hash_size : ℕ
hash_size = 32

-- how many values a list has at most
abbrev pub list_limit : ℕ
list_limit = 1000

-- what stands at a name in the parameters of a request
unfoldable pub param : List ℕ → Data → Option Data
param name request = get (codes "params") request >>= get name

-- the number at a name
unfoldable pub number_at : List ℕ → Data → Option ℕ
number_at name request = param name request >>= number_of

-- the bytes of a hash, spelled by hexadecimal digits in either case
unfoldable pub hash_of : Data → Option (List ℕ)
hash_of value = as_str value >>= λ digits. result_ok (decode_sized digits hash_size)

-- those at a name
unfoldable pub hash_at : List ℕ → Data → Option (List ℕ)
hash_at name request = param name request >>= hash_of

-- the bytes that hexadecimal digits spell, in either case
unfoldable pub bytes_of : Data → Option (List ℕ)
bytes_of value = as_str value >>= λ digits. result_ok (decode_of digits)

-- those at a name
unfoldable pub bytes_at : List ℕ → Data → Option (List ℕ)
bytes_at name request = param name request >>= bytes_of

-- the values of an array
abbrev pub values_of : Items → List Data
values_of no_items = []
values_of (item value rest) = value ∷ values_of rest

-- values that are not too many
abbrev pub if_few : List Data → Option (List Data)
if_few values = if nat_le (length values) list_limit then Some values else None

-- the values of the array at a name
unfoldable pub listed : List ℕ → Data → Option (List Data)
listed name request = param name request >>= as_array >>= λ items. if_few (values_of items)

-- what each of them is read to
unfoldable pub list_at : {A : Type 0} → (Data → Option A) → List ℕ → Data → Option (List A)
list_at read name request = listed name request >>= each read
