use Rattle.std.proofs.Common.{◌≤◌, string_bytes, arith}
use Rattle.model.specs.Cbor.{nesting}
use Rattle.model.specs.Limits.{nesting_limit}
use Rattle.model.specs.Script.{item_of_script}
use Rattle.describing.specs.Documents.{IsReadAs}
use Rattle.describing.specs.Scripts.{json_of_script}
use Rattle.describing.proofs.PlainParts.{script_plain}
use Rattle.describing.proofs.Told.{text_told, read_back, where_held}
use Rattle.describing.proofs.scripts.script_json.Goals as goal

pub returns-clause-text : goal.returns-clause-text
returns-clause-text c =
    let s = c.args.script.now in
    text_told c.document.result _ (json_of_script s) c.in_ok-json.ensures _ (script_plain (nesting (item_of_script s)) s (omega arith)) c.document.ensures.text

pub returns-clause-reads_back : goal.returns-clause-reads_back
returns-clause-reads_back c =
    let s = c.args.script.now in
    where_held (nesting (item_of_script s) ≤ nesting_limit) (λ text. IsReadAs (string_bytes text) (json_of_script s)) c.document.result
    (λ le. read_back c.document.result _ (json_of_script s) c.in_ok-json.ensures 65 (script_plain 64 s le) (omega arith) c.document.ensures.reads_back)
