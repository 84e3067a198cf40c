use Rattle.cbor.proofs.ForCallers.{kept, kept_on, kept_same}
use Rattle.tx.proofs.tx.Tx.write_parts.Goals as goal

pub returns-in_err-write-2-clause-keeps : goal.returns-in_err-write-2-clause-keeps
returns-in_err-write-2-clause-keeps c =
    let old = c.args.out.now.items in
    let headed = c.write_array.new.out.items in
    let bodied = c.write.new.out.items in
    kept_on old bodied c.write-2.new.out.items (kept_on old headed bodied (kept old _ headed c.in_ok-write_array.ensures.ok) (kept headed _ bodied c.in_ok-write.ensures.ok)) (kept_same bodied c.write-2.new.out.items c.in_err-write-2.ensures.err)
