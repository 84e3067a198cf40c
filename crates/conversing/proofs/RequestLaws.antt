-- From what a value asks to what a line asks.
use Rattle.std.proofs.Common.{◌≡◌, ℕ, List, Option, Some, None, refl}
use Rattle.std.specs.Prelude.{Result, Ok, Err, IfOk, IfErr, ok_or, IsUtf8}
use Rattle.std.proofs.lemmas.Option.{none-some}
use Rattle.std.proofs.Common.{sym, ◌∙◌}
use Rattle.serde_json.specs.Data.{Data}
use Rattle.serde_json.specs.Read.{read as read_text}
use Rattle.conversing.specs.declared.call_fault.CallFault.{CallFault}
use Rattle.conversing.specs.declared.call_fault.CallFault.TheVariants as faults
use Rattle.conversing.specs.declared.request.Request.{Request}
use Rattle.conversing.specs.declared.request_fault.RequestFault.{RequestFault}
use Rattle.conversing.specs.declared.request_fault.RequestFault.TheVariants as told
use Rattle.conversing.specs.declared.request_id.RequestId.{RequestId}
use Rattle.conversing.specs.Steps.{Gives}
use Rattle.conversing.specs.Requests.{Asked, judged, asked_in}
use Rattle.conversing.specs.RequestView.{call_view, id_view, request_view, fault_with, GivesRequest, IsJson, Asks, IsFaultOf}
use Rattle.conversing.proofs.Gathering.{no_fault}

-- a fault of the call is that of the request, with its id
pub fault_of_call : (fault : CallFault) (id : Option RequestId) (call : Result Asked CallFault) → Gives call_view (Err fault) call → GivesRequest (Err (fault_with fault id)) (judged (Some (id_view id)) call)
fault_of_call faults.InvalidRequest id call gives = rw gives refl
fault_of_call faults.MethodNotFound id call gives = rw gives refl
fault_of_call faults.InvalidParams id call gives = rw gives refl
fault_of_call faults.OutOfMemory id call gives = tt

-- a fault of the id is that of the request, without one
pub fault_of_id : (fault : CallFault) (ids : Option (Option (List ℕ))) (call : Result Asked CallFault) → Gives id_view (Err fault) (ok_or ids faults.InvalidRequest) → GivesRequest (Err (fault_with fault None)) (judged ids call)
fault_of_id faults.OutOfMemory ids call gives = tt
fault_of_id faults.InvalidRequest None call gives = refl
fault_of_id faults.MethodNotFound None call gives = absurd (let e : ◌≡◌ {A = Result (Option (List ℕ)) CallFault} (Err faults.InvalidRequest) (Err faults.MethodNotFound) = gives in cc)
fault_of_id faults.InvalidParams None call gives = absurd (let e : ◌≡◌ {A = Result (Option (List ℕ)) CallFault} (Err faults.InvalidRequest) (Err faults.InvalidParams) = gives in cc)
fault_of_id faults.InvalidRequest (Some id) call gives = absurd (let e : ◌≡◌ {A = Result (Option (List ℕ)) CallFault} (Ok id) (Err faults.InvalidRequest) = gives in cc)
fault_of_id faults.MethodNotFound (Some id) call gives = absurd (let e : ◌≡◌ {A = Result (Option (List ℕ)) CallFault} (Ok id) (Err faults.MethodNotFound) = gives in cc)
fault_of_id faults.InvalidParams (Some id) call gives = absurd (let e : ◌≡◌ {A = Result (Option (List ℕ)) CallFault} (Ok id) (Err faults.InvalidParams) = gives in cc)

-- what the value of a line asks, the line asks
pub line_asks : (line : List ℕ) (value : Data) (r : Result Request RequestFault) → IsJson line value → GivesRequest r (asked_in value) → IfOk r (λ request. Asks line (request_view request))
line_asks line value (Ok request) json gives = (value, json, gives)
line_asks line value (Err fault) json gives = tt

-- and what is its fault is the line's
pub line_faults : (line : List ℕ) (value : Data) (r : Result Request RequestFault) → IsJson line value → GivesRequest r (asked_in value) → IfErr r (IsFaultOf line)
line_faults line value (Ok request) json gives = tt
line_faults line value (Err told.ParseError) json gives = absurd gives
line_faults line value (Err (told.InvalidRequest id)) json gives = (value, json, gives)
line_faults line value (Err (told.MethodNotFound id)) json gives = (value, json, gives)
line_faults line value (Err (told.InvalidParams id)) json gives = (value, json, gives)
line_faults line value (Err told.OutOfMemory) json gives = tt

-- what is refused as JSON has no value
pub no_json : (line : List ℕ) → (IsUtf8 line → read_text line ≡ None) → (value : Data) → IsJson line value → ⊥
no_json line none value json = none-some value (sym (none json.0) ∙ json.1)

-- the id and the call make the request
pub asked_so : (ids : Option (Option (List ℕ))) (call : Result Asked CallFault) (id : Option (List ℕ)) (asked : Asked) → ok_or ids faults.InvalidRequest ≡ Ok id → call ≡ Ok asked → judged ids call ≡ Ok (record { id = id; asked = asked })
asked_so ids call id asked given found = rw (no_fault ids faults.InvalidRequest id given, found) refl

pub fault_so : (fault : CallFault) (id : Option RequestId) (ids : Option (Option (List ℕ))) (call : Result Asked CallFault) → ok_or ids faults.InvalidRequest ≡ Ok (id_view id) → Gives call_view (Err fault) call → GivesRequest (Err (fault_with fault id)) (judged ids call)
fault_so fault id ids call given gives = rw (no_fault ids faults.InvalidRequest (id_view id) given) (fault_of_call fault id call gives)
