use Rattle.std.proofs.Common.{length, arith}
use Rattle.describing.specs.Records.{json_of_record}
use Rattle.describing.proofs.PlainWholes.{record_plain}
use Rattle.describing.proofs.Told.{record_told}
use Rattle.describing.proofs.records.record_json.Goals as goal

pub returns : goal.returns
returns c =
    let bytes = c.args.block.now in
    let is = c.in_ok-json.ensures in
    record_told c.to_string.result c.args.number c.args.place bytes _ is
    (record_plain c.args.number c.args.place (length bytes) is.found) c.to_string.ensures.text c.to_string.ensures.reads_back
