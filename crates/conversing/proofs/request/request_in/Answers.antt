use Rattle.serde_json.specs.View.{view}
use Rattle.conversing.specs.Requests.{asked_in, id_in, call_in}
use Rattle.conversing.specs.RequestView.{call_view, id_view}
use Rattle.conversing.proofs.RequestLaws.{fault_of_id, asked_so, fault_so}
use Rattle.conversing.proofs.request.request_in.Goals as goal

pub returns-in-Err : goal.returns-in-Err
unfolding asked_in
returns-in-Err c =
    let value = view c.args.value.now in
    rw c.of_call.ensures (fault_of_id c.in-Err.fault (id_in value) (call_in value) c.in-Err.ensures)

pub returns-in-Ok-call_in : goal.returns-in-Ok-call_in
unfolding asked_in
returns-in-Ok-call_in c =
    let value = view c.args.value.now in
    asked_so (id_in value) (call_in value) (id_view c.in-Ok.id) (call_view c.in-Ok-call_in.call) c.in-Ok.ensures c.in-Ok-call_in.ensures

pub returns-in-Err-call_in : goal.returns-in-Err-call_in
unfolding asked_in
returns-in-Err-call_in c =
    let value = view c.args.value.now in
    rw c.of_call-in-Err-call_in.ensures (fault_so c.in-Err-call_in.fault c.in-Ok.id (id_in value) (call_in value) c.in-Ok.ensures c.in-Err-call_in.ensures)
