-- The texts of the blocks that are never rolled back.
use Rattle.std.specs.Prelude.{ℕ, List, map}
use Rattle.model.specs.Signature.{Verifies}
use Rattle.model.specs.Block.{Block, block_text}
use Rattle.model.specs.Chain.{immutable_part}
use Rattle.chain_core.specs.Held.{Held, network_held}

-- the texts of blocks
abbrev pub texts_of : List Block → List (List ℕ)
texts_of blocks = map block_text blocks

-- those of a core's blocks that are never rolled back
abbrev pub immutable_texts : Verifies → Held → List (List ℕ)
immutable_texts verifies held = texts_of (immutable_part (network_held held verifies) held.chain)
