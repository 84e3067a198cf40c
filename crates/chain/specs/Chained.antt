-- A chain of which the first blocks may have left memory.
use Rattle.std.specs.Prelude.{ℕ, zero, suc, List, ◌++◌, Option, None, slice_get, refl}
use Rattle.std.specs.Coded.{Coded, code_by, coded×, coded_list, coded_ℕ}
use Rattle.model.specs.Block.{Block}
use Rattle.model.specs.Codes.{coded_block}

-- the blocks that left memory, those behind them, and how many of the latter there is memory for
pub record Chained : Type 0 where
  pub gone : List Block
  pub resident : List Block
  pub room : ℕ

-- the code of a chain: its fields
abbrev pub coded_chained : Coded Chained
coded_chained =
    code_by (List Block × (List Block × ℕ)) (coded× (coded_list coded_block) (coded× (coded_list coded_block) coded_ℕ))
    (λ c. (c.gone, (c.resident, c.room))) (λ p. record { gone = p.0; resident = p.1.0; room = p.1.1 }) (λ _. refl)

-- the whole chain
abbrev pub chain_of : Chained → List Block
chain_of c = c.gone ++ c.resident

-- the block of this number; the first one has number 1
abbrev pub block_numbered : List Block → ℕ → Option Block
block_numbered chain zero = None
block_numbered chain (suc n) = slice_get chain n
