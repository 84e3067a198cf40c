use Rattle.std.proofs.Common.{◌≡◌, arith}
use Rattle.hex.specs.Hex.{encode_lower}
use Rattle.std.proofs.lemmas.Grind.{common_steps}
use Rattle.ident.proofs.HexTexts.{read_as_text}
use Rattle.ident.proofs.digest.hex_text.Goals as goal

pub unwrap-requires-2 : goal.unwrap-requires-2
unwrap-requires-2 c =
    let written : c.encode_to_slice.new.output ≡ encode_lower c.args.bytes.now = grind (arith, common_steps) in
    read_as_text _ c.args.bytes.now c.encode_to_slice.new.output c.from_utf8.result written c.from_utf8.ensures.cases
