use Rattle.std.proofs.Common.{arith}
use Rattle.describing.specs.Transactions.{json_of_transaction}
use Rattle.describing.proofs.PlainWholes.{transaction_plain}
use Rattle.describing.proofs.Told.{text_told, read_back}
use Rattle.describing.proofs.transactions.transaction_json.Goals as goal

pub returns-clause-text : goal.returns-clause-text
returns-clause-text g c =
    let t = c.args.tx.now in
    let verifies = g.S.SigScheme.verifies in
    text_told c.document.result _ (json_of_transaction verifies t) c.in_ok-json.ensures.is 64 (transaction_plain verifies t c.in_ok-json.ensures.nests) c.document.ensures.text

pub returns-clause-reads_back : goal.returns-clause-reads_back
returns-clause-reads_back g c =
    let t = c.args.tx.now in
    let verifies = g.S.SigScheme.verifies in
    read_back c.document.result _ (json_of_transaction verifies t) c.in_ok-json.ensures.is 64 (transaction_plain verifies t c.in_ok-json.ensures.nests) (omega arith) c.document.ensures.reads_back
