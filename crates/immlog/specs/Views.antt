-- What lists of bytes of the code stand for.
use Rattle.std.specs.Prelude.{ℕ, List, map, Vec}
use Rattle.std.specs.declared.alloc.Global.{Global}
use Rattle.immlog.specs.declared.blocks.Blocks.{Blocks}

-- the blocks, each as its bytes
abbrev pub lists_of : List (Vec ℕ Global) → List (List ℕ)
lists_of blocks = map (λ v. v.items) blocks

-- what was noted in a list that only proofs read
abbrev pub noted : {A U : Type 0} → List (A × U) → List A
noted items = map (λ item. item.0) items

-- the blocks that were noted, each as its bytes
abbrev pub blocks_of : Blocks → List (List ℕ)
blocks_of blocks = map (λ block. noted block.items) (noted blocks.noted.items)
