-- Parts of replies: texts, bytes, blocks and points, byte by byte.
use Rattle.std.specs.Prelude.{List, ◌++◌, ℕ, codes}
use Rattle.hex.specs.Hex.{encode_lower}
use Rattle.serde_json.specs.Data.{string}
use Rattle.serde_json.specs.Written.{compact_text}
use Rattle.conversing.specs.declared.block_point.BlockPoint.{BlockPoint}
use Rattle.conversing.specs.declared.told.ChainTip.{ChainTip}
use Rattle.conversing.specs.declared.told.ToldBlock.{ToldBlock}
use Rattle.conversing.specs.Numbers.{number_text}

-- a text as a JSON string (RFC 8259, section 7)
unfoldable pub quoted : List ℕ → List ℕ
quoted text = compact_text (string text)

-- a string of hexadecimal digits
abbrev pub hex_text : List ℕ → List ℕ
hex_text bytes = codes "\"" ++ encode_lower bytes ++ codes "\""

abbrev pub point_text : BlockPoint → List ℕ
point_text point =
    codes "{\"number\":" ++ number_text point.number ++ codes ",\"hash\":" ++ hex_text point.hash ++ codes "}"

abbrev pub tip_text : ChainTip → List ℕ
tip_text tip =
    codes "{\"number\":" ++ number_text tip.number ++ codes ",\"hash\":" ++ hex_text tip.hash
    ++ codes ",\"slot\":" ++ number_text tip.slot ++ codes "}"

abbrev pub block_text : ToldBlock → List ℕ
block_text block =
    codes "{\"number\":" ++ number_text block.number ++ codes ",\"hash\":" ++ hex_text block.hash
    ++ codes ",\"slot\":" ++ number_text block.slot ++ codes ",\"cbor\":" ++ hex_text block.bytes.now ++ codes "}"
