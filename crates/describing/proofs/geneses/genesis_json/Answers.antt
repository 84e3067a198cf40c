use Rattle.std.proofs.Common.{arith}
use Rattle.describing.specs.Geneses.{json_of_genesis}
use Rattle.describing.proofs.PlainWholes.{genesis_plain}
use Rattle.describing.proofs.Told.{text_told, read_back}
use Rattle.describing.proofs.geneses.genesis_json.Goals as goal

pub returns-clause-text : goal.returns-clause-text
returns-clause-text c =
    let given = c.args.given.now in
    text_told c.document.result _ (json_of_genesis given.scheme given.genesis) c.in_ok-json.ensures 4 (genesis_plain given.scheme given.genesis) c.document.ensures.text

pub returns-clause-reads_back : goal.returns-clause-reads_back
returns-clause-reads_back c =
    let given = c.args.given.now in
    read_back c.document.result _ (json_of_genesis given.scheme given.genesis) c.in_ok-json.ensures 4 (genesis_plain given.scheme given.genesis) (omega arith) c.document.ensures.reads_back
