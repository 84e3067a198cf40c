-- What headers and tips of the code stand for.
use Rattle.std.specs.Prelude.{ℕ, List, option_map}
use Rattle.ident.specs.Kinds.{BlockHash}
use Rattle.block.specs.declared.header.Header as code
use Rattle.block.specs.declared.tip.Tip.{Tip}
use Rattle.model.specs.Block.{Header}
use Rattle.model.specs.Chain as chain

-- the bytes of a hash
abbrev pub bytes_of : BlockHash → List ℕ
bytes_of hash = hash.bytes

-- what a header says
abbrev pub header_of : code.Header → Header
header_of h =
    record {
      number = h.number;
      slot = h.slot;
      previous = option_map bytes_of h.previous;
      body_hash = h.body_hash.bytes;
    }

-- where a chain ends
abbrev pub tip_of : Tip → chain.Tip
tip_of tip = record { number = tip.number; slot = tip.slot; hash = option_map bytes_of tip.hash }
