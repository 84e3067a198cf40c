-- What the code's requests and faults stand for, and of which line they are read.
use Rattle.std.specs.Prelude.{◌≡◌, ℕ, ⊤, List, map, Option, Some, option_map, Result, Ok, Err, IsUtf8}
use Rattle.serde_json.specs.Data.{Data}
use Rattle.serde_json.specs.Read.{read as read_text}
use Rattle.conversing.specs.declared.block_point.BlockPoint.{BlockPoint}
use Rattle.conversing.specs.declared.output_place.OutputPlace.{OutputPlace}
use Rattle.conversing.specs.declared.call.Call.{Call}
use Rattle.conversing.specs.declared.call.Call.TheVariants as calls
use Rattle.conversing.specs.declared.call.OutputsOf.{OutputsOf}
use Rattle.conversing.specs.declared.call.OutputsOf.TheVariants.{Places, Addresses}
use Rattle.conversing.specs.declared.call.BlockName.{BlockName}
use Rattle.conversing.specs.declared.call.BlockName.TheVariants.{Number, Hash}
use Rattle.conversing.specs.declared.call_fault.CallFault.{CallFault}
use Rattle.conversing.specs.declared.call_fault.CallFault.TheVariants as faults
use Rattle.conversing.specs.declared.request.Request.{Request}
use Rattle.conversing.specs.declared.request_fault.RequestFault.{RequestFault}
use Rattle.conversing.specs.declared.request_fault.RequestFault.TheVariants as told
use Rattle.conversing.specs.declared.request_id.RequestId.{RequestId}
use Rattle.conversing.specs.Requests.{Point, Place, Asked, FindsIntersection, AsksNextBlock, Submits, Evaluates}
use Rattle.conversing.specs.Requests.{AsksTip, AsksHeight, AsksOutputsAt, AsksOutputsOf, AsksBlockAt, AsksBlockOf}
use Rattle.conversing.specs.Requests.{AsksTransaction, AsksMempool, AsksWhy, Forges, Flushes, Stops}
use Rattle.conversing.specs.Requests.{AskedRequest, Refused, refused, asked_in}

abbrev pub point_view : BlockPoint → Point
point_view point = record { number = point.number; hash = point.hash }

abbrev pub place_view : OutputPlace → Place
place_view place = record { transaction = place.transaction; index = place.index }

abbrev pub outputs_view : OutputsOf → Asked
outputs_view (Places places) = AsksOutputsAt (map place_view places.items)
outputs_view (Addresses addresses) = AsksOutputsOf (map (λ address. address.items) addresses.items)

abbrev pub block_view : BlockName → Asked
block_view (Number number) = AsksBlockAt number
block_view (Hash hash) = AsksBlockOf hash

abbrev pub call_view : Call → Asked
call_view (calls.FindIntersection points) = FindsIntersection (map point_view points.items)
call_view calls.NextBlock = AsksNextBlock
call_view (calls.SubmitTransaction bytes) = Submits bytes.items
call_view (calls.Evaluate bytes) = Evaluates bytes.items
call_view calls.QueryTip = AsksTip
call_view calls.QueryHeight = AsksHeight
call_view (calls.QueryUtxo outputs) = outputs_view outputs
call_view (calls.QueryBlock name) = block_view name
call_view (calls.QueryTransaction id) = AsksTransaction id
call_view calls.QueryMempool = AsksMempool
call_view (calls.Why hash) = AsksWhy hash
call_view (calls.Forge slot) = Forges slot
call_view calls.Flush = Flushes
call_view calls.Stop = Stops

-- an id as JSON
abbrev pub id_text : RequestId → List ℕ
id_text id = id.text.items

abbrev pub id_view : Option RequestId → Option (List ℕ)
id_view = option_map id_text

abbrev pub request_view : Request → AskedRequest
request_view request = record { id = id_view request.id; asked = call_view request.call }

-- a fault, told with the id of the request
abbrev pub fault_with : CallFault → Option RequestId → RequestFault
fault_with faults.InvalidRequest id = told.InvalidRequest id
fault_with faults.MethodNotFound id = told.MethodNotFound id
fault_with faults.InvalidParams id = told.InvalidParams id
fault_with faults.OutOfMemory id = told.OutOfMemory

-- this is what a value asks, or its fault, unless memory ran out
abbrev pub GivesRequest : Result Request RequestFault → Result AskedRequest Refused → Type 0
GivesRequest (Ok request) answer = answer ≡ Ok (request_view request)
GivesRequest (Err told.ParseError) answer = ⊥
GivesRequest (Err (told.InvalidRequest id)) answer = answer ≡ Err (refused faults.InvalidRequest (id_view id))
GivesRequest (Err (told.MethodNotFound id)) answer = answer ≡ Err (refused faults.MethodNotFound (id_view id))
GivesRequest (Err (told.InvalidParams id)) answer = answer ≡ Err (refused faults.InvalidParams (id_view id))
GivesRequest (Err told.OutOfMemory) answer = ⊤

-- ---- lines

-- a line is the JSON text (RFC 8259) of a value
abbrev pub IsJson : List ℕ → Data → Type 0
IsJson line value = IsUtf8 line × (read_text line ≡ Some value)

-- THE LINE ASKS THIS
abbrev pub Asks : List ℕ → AskedRequest → Type 0
Asks line asked = (value : Data) × IsJson line value × (asked_in value ≡ Ok asked)

-- the line is JSON, and asks nothing for this fault
abbrev pub Refuses : List ℕ → CallFault → Option RequestId → Type 0
Refuses line fault id =
    (value : Data) × IsJson line value × (asked_in value ≡ Err (refused fault (id_view id)))

-- THIS IS THE FAULT OF THE LINE
abbrev pub IsFaultOf : List ℕ → RequestFault → Type 0
IsFaultOf line told.ParseError = (value : Data) → IsJson line value → ⊥
IsFaultOf line (told.InvalidRequest id) = Refuses line faults.InvalidRequest id
IsFaultOf line (told.MethodNotFound id) = Refuses line faults.MethodNotFound id
IsFaultOf line (told.InvalidParams id) = Refuses line faults.InvalidParams id
IsFaultOf line told.OutOfMemory = ⊤
