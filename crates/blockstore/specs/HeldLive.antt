-- What a live block of the code stands for.
use Rattle.model.specs.Block as model
use Rattle.blockstore.specs.declared.live_block.Form.{Form}
use Rattle.blockstore.specs.declared.live_block.Form.TheVariants.{Checked, Unread}
use Rattle.blockstore.specs.declared.live_block.LiveBlock.TheInside.{Inside}

-- the block, in either form
abbrev pub block_in_form : {S : Type 0} → Form S → model.Block
block_in_form (Checked block) = block
block_in_form (Unread block) = block

abbrev pub live_of : {S : Type 0} → Inside S → model.Block
live_of b = block_in_form b.form
