use Rattle.model.specs.Cbor.{head}
use Rattle.model.specs.Block.{body_hash_of}
use Rattle.block.proofs.writing.empty_body_hash.Goals as goal

pub returns : goal.returns
unfolding body_hash_of head
returns c = c.of_body.ensures
