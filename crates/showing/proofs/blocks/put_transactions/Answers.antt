use Rattle.std.proofs.Common.{◌++◌, refl}
use Rattle.std.specs.Prelude.{flat_map, string_bytes}
use Rattle.showing.specs.Transactions.{lines_of_transaction}
use Rattle.showing.proofs.Appended.{one_put}
use Rattle.showing.proofs.blocks.put_transactions.Goals as goal

pub loop-tx-preserved : goal.loop-tx-preserved
loop-tx-preserved g c =
    let lines = lines_of_transaction g.S.SigScheme.verifies c.args.margin.now in
    one_put (flat_map lines) lines (λ t ts. refl) c.args.transactions.now (string_bytes c.args.out.now ++ flat_map lines c.args.transactions.now) (string_bytes c.loop-tx.out) (string_bytes c.put_transaction.new.out) c.loop-tx.tx-index c.tx-item.result
    c.loop-tx-test.true c.tx-item.is c.in_ok-put_transaction.ensures c.loop-tx.invariant
