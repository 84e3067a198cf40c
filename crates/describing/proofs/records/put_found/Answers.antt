use Rattle.std.specs.Prelude.{Some}
use Rattle.serde_json.specs.View.{members_view}
use Rattle.describing.proofs.Told.{facts_put}
use Rattle.describing.proofs.records.put_found.Goals as goal

pub returns-in-Ok : goal.returns-in-Ok
returns-in-Ok c =
    facts_put c.put_facts.result c.args.bytes.now (members_view c.args.object.now.entries) (members_view c.put_facts.new.object.entries)
    (Some c.in-Ok.block) (rw c.in-Ok.is at c.in_ok-block.ensures.block) c.put_facts.ensures
