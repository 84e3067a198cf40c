use Rattle.describing.specs.Transactions.{json_of_transaction}
use Rattle.describing.proofs.Listed.{one_listed, all_listed}
use Rattle.describing.proofs.blocks.transactions_json.Goals as goal

pub loop-tx-preserved : goal.loop-tx-preserved
loop-tx-preserved g c =
    one_listed (json_of_transaction g.S.SigScheme.verifies) c.args.transactions.now c.loop-tx.list.items c.push.new.self.items c.loop-tx.tx-index c.tx-item.result c.in_ok-transaction_object.field-0
    c.loop-tx-test.true c.tx-item.is c.in_ok-push.ensures.items c.in_ok-transaction_object.ensures.is c.loop-tx.invariant

pub returns : goal.returns
returns g c = all_listed (json_of_transaction g.S.SigScheme.verifies) c.args.transactions.now c.loop-tx.list c.loop-tx.tx-index c.loop-tx-test.false c.loop-tx.invariant
