-- What a checked block of the code keeps.
use Rattle.std.specs.Prelude.{◌≡◌}
use Rattle.model.specs.Block.{block_text}
use Rattle.block.specs.declared.checked_block.CheckedBlock.TheInside.{Inside}
use Rattle.block.specs.Read.{IsRead}

-- it was read from its text, and its transactions are those of the block
pub record IsHeldChecked {S : Type 0} (b : Inside S) : Type 0 where
  pub read : IsRead b.block (block_text b.block)
  pub transactions : b.transactions.value.items ≡ b.block.transactions
