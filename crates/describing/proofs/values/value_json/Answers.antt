use Rattle.std.proofs.Common.{arith}
use Rattle.describing.specs.Values.{json_of_value}
use Rattle.describing.proofs.PlainParts.{value_plain}
use Rattle.describing.proofs.Told.{text_told, read_back}
use Rattle.describing.proofs.values.value_json.Goals as goal

pub returns-clause-text : goal.returns-clause-text
returns-clause-text c =
    let v = c.args.value.now in
    text_told c.document.result _ (json_of_value v) c.in_ok-json.ensures 3 (value_plain v) c.document.ensures.text

pub returns-clause-reads_back : goal.returns-clause-reads_back
returns-clause-reads_back c =
    let v = c.args.value.now in
    read_back c.document.result _ (json_of_value v) c.in_ok-json.ensures 3 (value_plain v) (omega arith) c.document.ensures.reads_back
