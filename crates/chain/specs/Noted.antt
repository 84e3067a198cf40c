-- What proofs know of blocks that left memory.
use Rattle.std.specs.Prelude.{List, map}
use Rattle.model.specs.Block.{Block}

-- the blocks that were noted
abbrev pub noted : List (Block × Unit {0}) → List Block
noted items = map (λ p. p.0) items
