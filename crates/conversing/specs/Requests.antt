-- Which JSON value asks what: JSON-RPC 2.0 (https://www.jsonrpc.org/specification), with parameters by name. The names
-- of methods are those of Ogmios, where it has the method.
use Rattle.std.specs.Prelude.{ℕ, Bool, true, false, ◌||◌, if◌then◌else◌, List, Option, Some, None, is_some, option_map}
use Rattle.std.specs.Prelude.{option_and_then, Result, Ok, Err, ok_or, codes, bytes_eq}
use Rattle.serde_json.specs.Data.{Data}
use Rattle.serde_json.specs.Find.{get, as_null, as_str, as_number, as_u64, as_array, as_object}
use Rattle.serde_json.specs.Written.{compact_text}
use Rattle.conversing.specs.declared.call_fault.CallFault.{CallFault}
use Rattle.conversing.specs.declared.call_fault.CallFault.TheVariants.{InvalidRequest, MethodNotFound, InvalidParams}
use Rattle.conversing.specs.declared.method.Method.{Method}
use Rattle.conversing.specs.declared.method.Method.TheVariants as methods
use Rattle.conversing.specs.Steps.{◌>>=◌, or_fault}
use Rattle.conversing.specs.Numbers.{number_of}
use Rattle.conversing.specs.Params.{param, number_at, hash_of, hash_at, bytes_of, bytes_at, list_at}

-- ---- what is asked

-- a block's number and its hash
pub record Point : Type 0 where
  pub number : ℕ
  pub hash : List ℕ

-- the transaction that made an output, and which of its outputs it is
pub record Place : Type 0 where
  pub transaction : List ℕ
  pub index : ℕ

pub data Asked : Type 0 where
  -- the first of these points that is on the selected chain
  FindsIntersection : List Point → Asked
  -- what comes next for the one who asks
  AsksNextBlock : Asked
  -- a transaction, as its bytes, is to wait in the mempool
  Submits : List ℕ → Asked
  -- what would be said of one
  Evaluates : List ℕ → Asked
  AsksTip : Asked
  AsksHeight : Asked
  -- the unspent outputs at places, or of addresses, each as its bytes
  AsksOutputsAt : List Place → Asked
  AsksOutputsOf : List (List ℕ) → Asked
  -- the block of a number, or of a hash
  AsksBlockAt : ℕ → Asked
  AsksBlockOf : List ℕ → Asked
  AsksTransaction : List ℕ → Asked
  AsksMempool : Asked
  -- why the block of a hash isn't selected
  AsksWhy : List ℕ → Asked
  -- a block is to be forged in a slot
  Forges : ℕ → Asked
  -- what is immutable is to be durable
  Flushes : Asked
  -- the node is to end
  Stops : Asked

-- ---- methods

-- the method of a name that asks for what the node has
abbrev pub question_of : List ℕ → Option Method
question_of name =
    if bytes_eq name (codes "queryTip") then Some methods.QueryTip
    else (if bytes_eq name (codes "queryHeight") then Some methods.QueryHeight
    else (if bytes_eq name (codes "queryUtxo") then Some methods.QueryUtxo
    else (if bytes_eq name (codes "queryBlock") then Some methods.QueryBlock
    else (if bytes_eq name (codes "queryTransaction") then Some methods.QueryTransaction
    else (if bytes_eq name (codes "queryMempool") then Some methods.QueryMempool
    else (if bytes_eq name (codes "why") then Some methods.Why
    else None))))))

-- the method of a name that has the node do something
abbrev pub deed_of : List ℕ → Option Method
deed_of name =
    if bytes_eq name (codes "findIntersection") then Some methods.FindIntersection
    else (if bytes_eq name (codes "nextBlock") then Some methods.NextBlock
    else (if bytes_eq name (codes "submitTransaction") then Some methods.SubmitTransaction
    else (if bytes_eq name (codes "evaluate") then Some methods.Evaluate
    else (if bytes_eq name (codes "forge") then Some methods.Forge
    else (if bytes_eq name (codes "flush") then Some methods.Flush
    else (if bytes_eq name (codes "stop") then Some methods.Stop
    else None))))))

-- the first, or else the other
abbrev pub or_else : {A : Type 0} → Option A → Option A → Option A
or_else (Some x) other = Some x
or_else None other = other

unfoldable pub method_of : List ℕ → Option Method
method_of name = or_else (question_of name) (deed_of name)

-- ---- parameters

-- the point that an object is
unfoldable pub point_of : Data → Option Point
point_of value = do
  named ← get (codes "number") value
  number ← number_of named
  digits ← get (codes "hash") value
  hash ← hash_of digits
  Some (record { number = number; hash = hash })

-- the place of an output that an object is
unfoldable pub place_of : Data → Option Place
place_of value = do
  digits ← get (codes "transaction") value
  transaction ← hash_of digits
  named ← get (codes "index") value
  index ← number_of named
  Some (record { transaction = transaction; index = index })

-- the outputs at places or of addresses, of which just one is given
abbrev pub outputs_by : (inputs addresses : Option Data) → Data → Option Asked
outputs_by (Some inputs) None request = option_map AsksOutputsAt (list_at place_of (codes "inputs") request)
outputs_by None (Some addresses) request = option_map AsksOutputsOf (list_at bytes_of (codes "addresses") request)
outputs_by (Some inputs) (Some addresses) request = None
outputs_by None None request = None

unfoldable pub outputs_asked : Data → Option Asked
outputs_asked request = outputs_by (param (codes "inputs") request) (param (codes "addresses") request) request

-- the block of a number or of a hash, of which just one is given
abbrev pub block_by : (number hash : Option Data) → Option Asked
block_by (Some numbered) None = option_map AsksBlockAt (number_of numbered)
block_by None (Some hashed) = option_map AsksBlockOf (hash_of hashed)
block_by (Some numbered) (Some hashed) = None
block_by None None = None

unfoldable pub block_asked : Data → Option Asked
block_asked request = block_by (param (codes "number") request) (param (codes "hash") request)

-- what a method asks, if its parameters are there
abbrev pub asked_by : Method → Data → Option Asked
asked_by methods.QueryTip request = Some AsksTip
asked_by methods.QueryHeight request = Some AsksHeight
asked_by methods.QueryUtxo request = outputs_asked request
asked_by methods.QueryBlock request = block_asked request
asked_by methods.QueryTransaction request = option_map AsksTransaction (hash_at (codes "id") request)
asked_by methods.QueryMempool request = Some AsksMempool
asked_by methods.Why request = option_map AsksWhy (hash_at (codes "hash") request)
asked_by methods.FindIntersection request = option_map FindsIntersection (list_at point_of (codes "points") request)
asked_by methods.NextBlock request = Some AsksNextBlock
asked_by methods.SubmitTransaction request = option_map Submits (bytes_at (codes "transaction") request)
asked_by methods.Evaluate request = option_map Evaluates (bytes_at (codes "transaction") request)
asked_by methods.Forge request = option_map Forges (number_at (codes "slot") request)
asked_by methods.Flush request = Some Flushes
asked_by methods.Stop request = Some Stops

-- ---- requests (section 4)

-- the version is "2.0"
abbrev pub is_version : Option (List ℕ) → Bool
is_version None = false
is_version (Some version) = bytes_eq version (codes "2.0")

-- parameters are an object, an array, or left out
abbrev pub is_structured : Option Data → Bool
is_structured None = true
is_structured (Some params) = is_some (as_object params) || is_some (as_array params)

-- those of a request are so
abbrev pub has_version : Data → Bool
has_version request = is_version (get (codes "jsonrpc") request >>= as_str)

abbrev pub has_structure : Data → Bool
has_structure request = is_structured (get (codes "params") request)

-- the name of the method that a request calls, if it is one
unfoldable pub name_in : Data → Option (List ℕ)
name_in request =
    if has_version request
    then (if has_structure request then get (codes "method") request >>= as_str else None)
    else None

-- what a request asks, or else its first fault
unfoldable pub call_in : Data → Result Asked CallFault
call_in request =
    or_fault InvalidRequest (name_in request) (λ name.
    or_fault MethodNotFound (method_of name) (λ method.
    ok_or (asked_by method request) InvalidParams))

-- an id is null, a whole number below 2 ^ 64, or a string
abbrev pub is_id : Data → Bool
is_id value = is_some (as_null value) || is_some (option_and_then as_u64 (as_number value)) || is_some (as_str value)

-- the id that a value is, as JSON without a space
abbrev pub id_of : Data → Option (List ℕ)
id_of value = if is_id value then Some (compact_text value) else None

-- an id, or none where none is given
abbrev pub id_at : Option Data → Option (Option (List ℕ))
id_at None = Some None
id_at (Some value) = option_map (λ id. Some id) (id_of value)

-- the id of a request, which a notification lacks (section 4.1)
abbrev pub id_in : Data → Option (Option (List ℕ))
id_in request = id_at (get (codes "id") request)

pub record AskedRequest : Type 0 where
  pub id : Option (List ℕ)
  pub asked : Asked

-- a fault, with the id of the request, where there is one
pub record Refused : Type 0 where
  pub fault : CallFault
  pub id : Option (List ℕ)

abbrev pub refused : CallFault → Option (List ℕ) → Refused
refused fault id = record { fault = fault; id = id }

abbrev pub judged : Option (Option (List ℕ)) → Result Asked CallFault → Result AskedRequest Refused
judged None call = Err (refused InvalidRequest None)
judged (Some id) (Ok asked) = Ok (record { id = id; asked = asked })
judged (Some id) (Err fault) = Err (refused fault id)

-- WHAT A JSON VALUE ASKS
unfoldable pub asked_in : Data → Result AskedRequest Refused
asked_in request = judged (id_in request) (call_in request)
